-- What the texts of an application say: names that are names, owners by number, and lines as instructions.
--
-- | word                    | meaning                                                                   |
-- |-------------------------|---------------------------------------------------------------------------|
-- | names_in                | the names of variables, objects and actors together                       |
-- | lists_in                | the same as three lists, with which lines are read                        |
-- | AreNamed                | each of them is a name and is given once                                  |
-- | IsOwner                 | the number is that of the actor of this name                              |
-- | IsOwned, IsCoded        | a variable with its owner by number, an actor with its code               |
-- | Says                    | the texts say this application                                            |
-- | IsTableText             | the bytes are the text of this table                                      |
-- | Means                   | the bytes mean this application                                           |
use Rattle.std.specs.Prelude.{◌≡◌, ◌≢◌, ◌≤◌, ◌++◌, ℕ, List, Option, Some, None, All, AllPairs, IsUtf8, length, map, slice_get}
use Rattle.std.specs.List.{AllZip}
use Rattle.toml.specs.Data.{Members}
use Rattle.toml.specs.Parse.{parse_document}
use Rattle.fr_program.specs.declared.ids.ActorId.{ActorId}
use Rattle.fr_program.specs.Program.{Program, VariableOf, ActorOf}
use Rattle.fr_program.specs.Limits.{IsName}
use Rattle.fr_program.specs.Fault.{IsFaultless}
use Rattle.fr_instr.specs.Names.{NamesOf}
use Rattle.fr_instr.specs.Lines.{IsLine}
use Rattle.fr_reader.specs.Texts.{Texts, VariableText, ActorText, AreTexts}

-- the names of the actors, by number
abbrev pub actors_in : Texts → List (List ℕ)
actors_in texts = map (λ a. a.name) texts.actors

-- the names of variables, objects and actors together
abbrev pub names_in : Texts → List (List ℕ)
names_in texts = map (λ v. v.name) texts.variables ++ (map (λ o. o.name) texts.objects ++ actors_in texts)

-- the names with which lines are read
abbrev pub lists_in : Texts → NamesOf
lists_in texts = record { variables = map (λ v. v.name) texts.variables; objects = map (λ o. o.name) texts.objects; actors = actors_in texts }

-- each of these is a name, and is given once
pub record AreNames (names : List (List ℕ)) : Type 0 where
  pub each : All IsName names
  pub once : AllPairs (λ x y. x ≢ y) names

-- the number is that of the actor of this name
abbrev pub IsOwner : List (List ℕ) → Option (List ℕ) → Option ActorId → Type 0
IsOwner actors None None = Unit {0}
IsOwner actors None (Some a) = ⊥
IsOwner actors (Some name) None = ⊥
IsOwner actors (Some name) (Some a) = slice_get actors a.0 ≡ Some name

-- the variable of a table, with its owner by number
pub record IsOwned (actors : List (List ℕ)) (text : VariableText) (v : VariableOf) : Type 0 where
  pub name : v.name ≡ text.name
  pub lo : v.lo ≡ text.lo
  pub hi : v.hi ≡ text.hi
  pub init : v.init ≡ text.init
  pub owner : IsOwner actors text.owner v.owner

-- the actor of a table, with its lines read
pub record IsCoded (names : NamesOf) (text : ActorText) (a : ActorOf) : Type 0 where
  pub name : a.name ≡ text.name
  pub kind : a.kind ≡ text.kind
  pub code : AllZip (IsLine names) text.lines a.code

-- the texts say this application, or parts that are none
pub record Says (texts : Texts) (P : Program) : Type 0 where
  pub variables : AllZip (IsOwned (actors_in texts)) texts.variables P.variables
  pub objects : P.objects ≡ texts.objects
  pub actors : AllZip (IsCoded (lists_in texts)) texts.actors P.actors

-- how many bytes the text of an application has at the most
abbrev pub most_bytes : ℕ
most_bytes = 1048576

-- the bytes are the text of this table
pub record IsTableText (bytes : List ℕ) (root : Members) : Type 0 where
  pub size : length bytes ≤ most_bytes
  pub utf8 : IsUtf8 bytes
  pub parsed : parse_document bytes ≡ Some root

-- the bytes mean this application: key by key and line by line, and no build fault is present
pub record Means (bytes : List ℕ) (P : Program) : Type 0 where
  pub root : Members
  pub texts : Texts
  pub text : IsTableText bytes root
  pub tables : AreTexts root texts
  pub names : AreNames (names_in texts)
  pub says : Says texts P
  pub faultless : IsFaultless P
