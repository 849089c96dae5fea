-- What the tables of an application's text mean, before names are asked for and lines are read.
--
-- | word                                   | meaning                                                              |
-- |----------------------------------------|----------------------------------------------------------------------|
-- | VariableText, ActorText, Texts         | a variable whose owner is a text, an actor whose code is texts, all  |
-- | AreKnown                               | each key of the table is one that tables of its kind may have        |
-- | IsVariable, IsObject, IsActor, HasKind | a table means one of these, key by key                               |
-- | IsTableOf                              | a value is a table that means something                              |
-- | Each, EachAt                           | the entries of an array mean these things, one for each              |
-- | AreTexts                               | the whole table means these texts                                    |
use Rattle.std.specs.Prelude.{◌≡◌, ℕ, ℤ, List, [], ◌∷◌, IsTrue, Option, Some, None, option_map}
use Rattle.toml.specs.Data.{Data, string, integer, boolean, array, table, Items, no_items, item, Members, get_member}
use Rattle.fr_program.specs.declared.parts.Kind.{Kind}
use Rattle.fr_program.specs.declared.parts.Kind.TheVariants as kind
use Rattle.fr_program.specs.declared.parts.ActorKind.{ActorKind}
use Rattle.fr_program.specs.Program.{ObjectOf}
use Rattle.fr_reader.specs.Keys.{field, is_key_of, kind_word, kind_named, actor_word}
use Rattle.fr_reader.specs.declared.key.Key.TheVariants as key
use Rattle.fr_reader.specs.declared.key.TableKind.{TableKind}
use Rattle.fr_reader.specs.declared.key.TableKind.TheVariants as table_kind

-- a variable as its table has it
pub record VariableText : Type 0 where
  pub name : List ℕ
  pub lo : ℤ
  pub hi : ℤ
  pub init : ℤ
  pub owner : Option (List ℕ)

-- an actor as its table has it
pub record ActorText : Type 0 where
  pub name : List ℕ
  pub kind : ActorKind
  pub lines : List (List ℕ)

-- what the tables of an application say; an object is whole
pub record Texts : Type 0 where
  pub variables : List VariableText
  pub objects : List ObjectOf
  pub actors : List ActorText

-- each key of the table is known there
abbrev pub AreKnown : TableKind → Members → Type 0
AreKnown table_kind ms = (k : List ℕ) (d : Data) → get_member k ms ≡ Some d → IsTrue (is_key_of table_kind k)

-- the table means the variable, key by key
pub record IsVariable (ms : Members) (v : VariableText) : Type 0 where
  pub name : field key.Name ms ≡ Some (string v.name)
  pub lo : field key.Lo ms ≡ Some (integer v.lo)
  pub hi : field key.Hi ms ≡ Some (integer v.hi)
  pub init : field key.Init ms ≡ Some (integer v.init)
  pub owner : field key.Owner ms ≡ option_map string v.owner
  pub only : AreKnown table_kind.Variable ms

-- the table has the keys that only this kind has
abbrev pub HasKind : Members → Kind → Type 0
HasKind ms (kind.Queue size lo hi) = (field key.Size ms ≡ Some (integer size)) × (field key.Lo ms ≡ Some (integer lo)) × (field key.Hi ms ≡ Some (integer hi))
HasKind ms (kind.Counting size first) = (field key.Size ms ≡ Some (integer size)) × (field key.First ms ≡ Some (integer first))
HasKind ms (kind.Stream size) = field key.Size ms ≡ Some (integer size)
HasKind ms (kind.Message size) = field key.Size ms ≡ Some (integer size)
HasKind ms k = Unit {0}

-- the table means the object, key by key
pub record IsObject (ms : Members) (o : ObjectOf) : Type 0 where
  pub name : field key.Name ms ≡ Some (string o.name)
  pub kind : field key.Kind ms ≡ Some (string (kind_word (kind_named o.kind)))
  pub own : HasKind ms o.kind
  pub live : field key.Live ms ≡ Some (boolean o.live)
  pub only : AreKnown (table_kind.Object (kind_named o.kind)) ms

-- the entries mean these things, one for each, in order
abbrev pub Each : {A : Type 0} → (Data → A → Type 0) → Items → List A → Type 0
Each R no_items [] = Unit {0}
Each R no_items (x ∷ xs) = ⊥
Each R (item d ds) [] = ⊥
Each R (item d ds) (x ∷ xs) = R d x × Each R ds xs

-- the value is a text
abbrev pub IsText : Data → List ℕ → Type 0
IsText d text = d ≡ string text

-- the table means the actor, key by key
pub record IsActor (ms : Members) (a : ActorText) : Type 0 where
  pub name : field key.Name ms ≡ Some (string a.name)
  pub kind : field key.Kind ms ≡ Some (string (actor_word a.kind))
  pub code : (ds : Items) × (field key.Code ms ≡ Some (array ds)) × Each IsText ds a.lines
  pub only : AreKnown table_kind.Actor ms

-- the value is a table that means this
abbrev pub IsTableOf : {A : Type 0} → (Members → A → Type 0) → Data → A → Type 0
IsTableOf R d x = (ms : Members) × (d ≡ table ms) × R ms x

-- what is at the key of a list means these things; with no such key there are none
abbrev pub EachAt : {A : Type 0} → (Data → A → Type 0) → Option Data → List A → Type 0
EachAt R None xs = xs ≡ []
EachAt R (Some (array ds)) xs = Each R ds xs
EachAt R (Some d) xs = ⊥

-- the table of the whole text means these texts
pub record AreTexts (root : Members) (texts : Texts) : Type 0 where
  pub variables : EachAt (IsTableOf IsVariable) (field key.Variable root) texts.variables
  pub objects : EachAt (IsTableOf IsObject) (field key.Object root) texts.objects
  pub actors : EachAt (IsTableOf IsActor) (field key.Actor root) texts.actors
  pub only : AreKnown table_kind.Application root
