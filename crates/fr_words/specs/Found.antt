-- What was matched of a command's words.
--
-- | word                    | meaning                                                                  |
-- |-------------------------|--------------------------------------------------------------------------|
-- | Rows, rows              | what was found for each word; that of all matches                        |
-- | subcommand              | the name of the command that was met, and what was found for its words   |
-- | text_at                 | the text after a word, where it is there                                 |
-- | texts_at                | the texts after a word that can be there several times                   |
-- | is_given                | a word without a text after it is there                                  |
-- | number_in, number_at    | the number of so many bits that a text, a word's text, writes            |
-- | detail_at, format_at    | how much is printed; the form of the answer, None for a person's text    |
-- | proof_detail_at, warns_at | how much `prove` prints, and whether it warns                          |
use Rattle.std.specs.Prelude.{ℕ, ◌^◌, List, Bool, false, not, ◌&&◌, ◌||◌, is_some, Option, Some, None, option_and_then, if◌then◌else◌, length, nat_lt, codes}
use Rattle.std.specs.List.{list_all}
use Rattle.std.specs.Option.{option_map_or}
use Rattle.std.specs.Str.{bytes_eq}
use Rattle.std.specs.Char.{digit_value}
use Rattle.std.specs.Str.Parse.{digits_value, without_leading_plus}
use Rattle.clap.specs.Matches.{found_of}
use Rattle.clap.specs.Walk.{Row, Text, all_of, first_of, one_of, rows_of}
use Rattle.clap.specs.Simple.{subcommand_rows_of}
use Rattle.clap.specs.declared.parser.matches.ArgMatches.{ArgMatches}
use Rattle.fr_request.specs.declared.detail.Detail.{Detail}
use Rattle.fr_request.specs.declared.detail.Detail.TheVariants.{Relevant, Whole}
use Rattle.fr_request.specs.declared.format.Format.{Format}
use Rattle.fr_request.specs.declared.format.Format.TheVariants.{Json, Sarif, Junit}

-- what was found for each word
abbrev pub Rows : Type 0
Rows = List Row

-- what was found for the words of a command
abbrev pub rows : ArgMatches → Rows
rows m = rows_of (found_of m)

-- the name of the command that was met, and what was found for its words
abbrev pub subcommand : ArgMatches → Option (Text × Rows)
subcommand m = subcommand_rows_of m

-- the text after the word, where it is there
unfoldable pub text_at : Rows → Text → Option Text
text_at rs id = first_of id rs

-- the texts after the word, of all its uses, where it is there
unfoldable pub texts_at : Rows → Text → Option (List Text)
texts_at rs id = all_of id rs

-- the word is there, for which clap has the value `true`
unfoldable pub is_given : Rows → Text → Bool
is_given rs id = option_map_or (λ text. bytes_eq text (codes "true")) (one_of id rs) false

-- the text is decimal digits, with or without a plus in front, of a number of so many bits
abbrev pub is_number : ℕ → Text → Bool
is_number bits text =
    let digits = without_leading_plus text in
    nat_lt 0 (length digits) && list_all (λ d. nat_lt (digit_value d) 10) digits && nat_lt (digits_value 10 digits) (2 ^ bits)

-- the number that it writes then
abbrev pub number_in : ℕ → Text → Option ℕ
number_in bits text = if is_number bits text then Some (digits_value 10 (without_leading_plus text)) else None

-- the number after the word, where it is there
unfoldable pub number_at : ℕ → Rows → Text → Option ℕ
number_at bits rs id = option_and_then (number_in bits) (one_of id rs)

-- how much is printed: everything by `--all`, what matters by `--explain`
abbrev pub detail_at : Rows → Option Detail
detail_at rs =
    if is_given rs (codes "all") then Some Whole
    else if is_given rs (codes "explain") then Some Relevant else None

-- the form with this name
abbrev pub format_named : Text → Option Format
format_named name =
    if bytes_eq name (codes "json") then Some Json
    else if bytes_eq name (codes "sarif") then Some Sarif
    else if bytes_eq name (codes "junit") then Some Junit else None

-- the form of the answer; None where it is a text for a person
abbrev pub format_at : Rows → Option Format
format_at rs = option_and_then format_named (text_at rs (codes "format"))

-- how much `prove` explains: the same, but what matters where neither is there, unless `--brief` is
abbrev pub proof_detail_at : Rows → Option Detail
proof_detail_at rs =
    if is_given rs (codes "all") then Some Whole
    else if is_given rs (codes "explain") then Some Relevant
    else if is_given rs (codes "brief") then None else Some Relevant

-- whether `prove` warns: by `--warn`, and where the answer is a text for a person without `--brief`
abbrev pub warns_at : Rows → Bool
warns_at rs = is_given rs (codes "warn") || not (is_given rs (codes "brief")) && not (is_some (format_at rs))
