-- Which fault is present in the bytes of an application's text.
--
-- | word                  | meaning                                                                              |
-- |-----------------------|--------------------------------------------------------------------------------------|
-- | StandsTwice           | a name is given a second time                                                        |
-- | InNames               | a text in a name's place is none, or a name is given twice                           |
-- | IsNoOwner, InOwner(s) | an owner is no actor's name, in a variable, in some variable                         |
-- | InLine, InLines       | a line of an actor's code has a fault, and some line of it                           |
-- | InCode                | some line of some actor's code has a fault                                           |
-- | InBuild               | what the texts say has a build fault                                                 |
-- | InSaid, InTexts       | the fault is present in what the texts say, or in the texts                          |
-- | InNamed               | the fault is present in the table of the bytes, in its keys or in its names          |
-- | InText, InBytes       | the fault is present in the table of the bytes, or in the bytes themselves           |
-- | Stands                | the fault is present in the bytes                                                    |
use Rattle.std.specs.Prelude.{◌≡◌, ◌⊎◌, ◌<◌, ◌++◌, ℕ, List, ◌∷◌, Option, Some, None, Contains, IsUtf8, length, slice_get, string_bytes}
use Rattle.std.specs.List.{AllZip}
use Rattle.toml.specs.Data.{Members}
use Rattle.toml.specs.Parse.{parse_document}
use Rattle.fr_program.specs.Program.{Program, VariableOf}
use Rattle.fr_program.specs.Limits.{IsName}
use Rattle.fr_program.specs.Fault.{IsFreeOf}
use Rattle.fr_instr.specs.Names.{NamesOf}
use Rattle.fr_instr.specs.Faults.{Stands as StandsInLine}
use Rattle.fr_reader.specs.Texts.{Texts, VariableText, ActorText, AreTexts}
use Rattle.fr_reader.specs.Faults.{InApplication}
use Rattle.fr_reader.specs.Meaning.{names_in, actors_in, lists_in, AreNames, IsOwned, Says, IsTableText, most_bytes}
use Rattle.fr_reader.specs.declared.key.Key.TheVariants as key
use Rattle.fr_reader.specs.declared.key.TableName.{TableName}
use Rattle.fr_reader.specs.declared.key.TableName.TheVariants as table
use Rattle.fr_reader.specs.declared.fault.ReadFault.{ReadFault}
use Rattle.fr_reader.specs.declared.fault.ReadFault.TheVariants as fault

-- the name is given a second time
abbrev pub StandsTwice : List (List ℕ) → List ℕ → Type 0
StandsTwice names name = (before : List (List ℕ)) × (after : List (List ℕ)) × (names ≡ before ++ name ∷ after) × Contains before name

-- a text in a name's place is none, or a name is given twice
abbrev pub InNames : List (List ℕ) → ReadFault → Type 0
InNames names (fault.BadName name) = Contains names (string_bytes name) × (IsName (string_bytes name) → ⊥)
InNames names (fault.Twice name) = StandsTwice names (string_bytes name)
InNames names f = ⊥

-- an owner is there, and is no actor's name
abbrev pub IsNoOwner : List (List ℕ) → TableName → Option (List ℕ) → ReadFault → Type 0
IsNoOwner actors t None f = ⊥
IsNoOwner actors t (Some name) f = (f ≡ fault.WrongType t key.Owner) × (Contains actors name → ⊥)

-- the owner of this variable is no actor's name
abbrev pub InOwner : List (List ℕ) → TableName → VariableText → ReadFault → Type 0
InOwner actors t v f = IsNoOwner actors t v.owner f

-- so is the owner of some variable
abbrev pub InOwners : List (List ℕ) → List VariableText → ReadFault → Type 0
InOwners actors variables f = (i : ℕ) × (v : VariableText) × (slice_get variables i ≡ Some v) × InOwner actors (table.Variable i) v f

-- this line, with its number in the code of this actor, has the fault
abbrev pub InLine : NamesOf → List ℕ → ℕ → List ℕ → ReadFault → Type 0
InLine names actor index line (fault.Line a i f) = (string_bytes a ≡ actor) × (i ≡ index) × StandsInLine names line f
InLine names actor index line f = ⊥

-- some line in the code of this actor has the fault
abbrev pub InLines : NamesOf → List ℕ → List (List ℕ) → ReadFault → Type 0
InLines names actor lines f = (index : ℕ) × (line : List ℕ) × (slice_get lines index ≡ Some line) × InLine names actor index line f

-- some line in the code of some actor has the fault
abbrev pub InCode : NamesOf → List ActorText → ReadFault → Type 0
InCode names actors f = (i : ℕ) × (a : ActorText) × (slice_get actors i ≡ Some a) × InLines names a.name a.lines f

-- the texts say what has this build fault
abbrev pub InBuild : Texts → ReadFault → Type 0
InBuild texts (fault.Build f) = (P : Program) × Says texts P × (IsFreeOf P f → ⊥)
InBuild texts f = ⊥

-- the fault is present in texts with names, an owner first: lines are asked for where all owners are actors
abbrev pub InSaid : Texts → ReadFault → Type 0
InSaid texts f = InOwners (actors_in texts) texts.variables f
    ⊎ (((vs : List VariableOf) × AllZip (IsOwned (actors_in texts)) texts.variables vs × InCode (lists_in texts) texts.actors f) ⊎ InBuild texts f)

-- the fault is present in the texts: in their names, or where these are good in what the texts say
abbrev pub InTexts : Texts → ReadFault → Type 0
InTexts texts f = InNames (names_in texts) f ⊎ (AreNames (names_in texts) × InSaid texts f)

-- the fault is present in the table of a text
abbrev pub InText : Members → ReadFault → Type 0
InText root f = InApplication root f ⊎ ((texts : Texts) × AreTexts root texts × InTexts texts f)

-- the fault is present in the table of a text, in what is at its keys or in its names
abbrev pub InNamed : Members → ReadFault → Type 0
InNamed root f = InApplication root f ⊎ ((texts : Texts) × AreTexts root texts × InNames (names_in texts) f)

-- the fault is present in the bytes themselves: they are too many, or no TOML text
abbrev pub InBytes : List ℕ → ReadFault → Type 0
InBytes bytes fault.TooLong = most_bytes < length bytes
InBytes bytes fault.Toml = IsUtf8 bytes → parse_document bytes ≡ None
InBytes bytes f = ⊥

-- the fault is present in the bytes, or in the table that they are the text of
abbrev pub Stands : List ℕ → ReadFault → Type 0
Stands bytes f = InBytes bytes f ⊎ ((root : Members) × IsTableText bytes root × InText root f)
