-- What the bytes of a list mean: the applications that they name, in order. The form is this project's own.
--
-- | word           | meaning                                                                                    |
-- |----------------|--------------------------------------------------------------------------------------------|
-- | Entry          | an application, and its certificate where one is named                                     |
-- | shown          | the entry that a value of the program is                                                   |
-- | has_byte       | a part that isn't empty                                                                    |
-- | words          | the words of a line: its parts between white space, without the empty ones                 |
-- | begins_comment | the word begins with `#`                                                                   |
-- | told           | the words of a line before its comment                                                     |
-- | IsFaulty       | a line with more than two words before its comment                                         |
-- | AreFaultless   | lines of which none is faulty                                                              |
-- | entries_of     | what a line with these words names: one entry, or none where it has no word                |
-- | entries_in     | what lines name, in order                                                                  |
-- | IsText         | bytes that can be a list: not too many, and UTF-8                                          |
-- | ListMeans      | the bytes name these entries: at least one, and in this order                              |
-- | IsFirstFaulty  | the line with this number, from 1, is faulty, and none before it is                        |
-- | IsLineFault    | the fault is in these lines (for private clauses)                                          |
-- | IsPresent      | the fault is in these bytes                                                                |
use Rattle.std.specs.Prelude.{◌≡◌, ◌+◌, ◌<◌, ◌≤◌, ◌==◌, ⊤, ℕ, Bool, false, not, List, [], ◌∷◌, ◌++◌, length, All, Option, Some, None, filter, flat_map, IsUtf8}
use Rattle.std.specs.Char.{is_ascii_whitespace}
use Rattle.std.specs.List.{before_first, slice_split}
use Rattle.std.specs.Option.{option_copied}
use Rattle.std.specs.Str.Lines.{lines}
use Rattle.fr_list.specs.declared.listed.ListFault.{ListFault}
use Rattle.fr_list.specs.declared.listed.ListFault.TheVariants.{Memory, TooLong, NotText, Words, Empty}
use Rattle.fr_list.specs.declared.listed.Listed.{Listed}

-- an application, and its certificate where one is named
pub record Entry : Type 0 where
  pub application : List ℕ
  pub certificate : Option (List ℕ)

-- the entry that a value of the program is
abbrev pub shown : Listed → Entry
shown listed = record { application = listed.application.now; certificate = option_copied listed.certificate }

-- a part that isn't empty
abbrev pub has_byte : List ℕ → Bool
has_byte part = not (length part == 0)

-- the words of a line: its parts between white space (tabs, line feeds, form feeds, carriage returns and blanks), without the empty ones
abbrev pub words : List ℕ → List (List ℕ)
words line = filter has_byte (slice_split is_ascii_whitespace line)

-- the word begins with `#`
abbrev pub begins_comment : List ℕ → Bool
begins_comment [] = false
begins_comment (byte ∷ more) = byte == 35

-- the words of a line before its comment: all before the first that begins one
abbrev pub told : List ℕ → List (List ℕ)
told line = before_first begins_comment (words line)

-- a line with more than two words before its comment
abbrev pub IsFaulty : List ℕ → Type 0
IsFaulty line = 2 < length (told line)

-- lines of which none is faulty
abbrev pub AreFaultless : List (List ℕ) → Type 0
AreFaultless text = All (λ line. ¬ (IsFaulty line)) text

-- what a line with these words names: one entry, or none where it has no word (a third word is a fault)
abbrev pub entries_of : List (List ℕ) → List Entry
entries_of [] = []
entries_of (application ∷ []) = record { application = application; certificate = None } ∷ []
entries_of (application ∷ certificate ∷ more) = record { application = application; certificate = Some certificate } ∷ []

-- what lines name, in order
abbrev pub entries_in : List (List ℕ) → List Entry
entries_in text = flat_map (λ line. entries_of (told line)) text

-- bytes that can be a list: not too many, and UTF-8
abbrev pub IsText : List ℕ → Type 0
IsText bytes = (length bytes ≤ 1_048_576) × IsUtf8 bytes

-- the bytes name these entries: at least one, and in this order. `lines` are the parts before line feeds, as Rust has them
pub record ListMeans (bytes : List ℕ) (entries : List Entry) : Type 0 where
  pub text : IsText bytes
  pub faultless : AreFaultless (lines bytes)
  pub named : entries ≡ entries_in (lines bytes)
  pub some : 0 < length entries

-- the line with this number, from 1, is faulty, and none before it is
pub record IsFirstFaulty (text : List (List ℕ)) (number : ℕ) : Type 0 where
  pub before : List (List ℕ)
  pub line : List ℕ
  pub after : List (List ℕ)
  pub parts : text ≡ before ++ line ∷ after
  pub numbered : number ≡ length before + 1
  pub first : AreFaultless before
  pub faulty : IsFaulty line

-- For private clauses: the fault is in these lines; a refused allocation isn't theirs
abbrev pub IsLineFault : List (List ℕ) → ListFault → Type 0
IsLineFault text Memory = ⊤
IsLineFault text (Words number) = IsFirstFaulty text number
IsLineFault text TooLong = ⊥
IsLineFault text NotText = ⊥
IsLineFault text Empty = ⊥

-- the fault is in these bytes; a refused allocation isn't theirs
abbrev pub IsPresent : List ℕ → ListFault → Type 0
IsPresent bytes Memory = ⊤
IsPresent bytes TooLong = 1_048_576 < length bytes
IsPresent bytes NotText = (length bytes ≤ 1_048_576) × (¬ (IsUtf8 bytes))
IsPresent bytes (Words number) = IsText bytes × IsFirstFaulty (lines bytes) number
IsPresent bytes Empty = IsText bytes × All (λ line. told line ≡ []) (lines bytes)
