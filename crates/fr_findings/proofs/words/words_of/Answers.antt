-- The text has the words so far and those of what is left, whose first word ends at the first comma.
use Rattle.std.proofs.Common.{arith, subst, sym, rules}
use Rattle.std.proofs.lemmas.Str.Pattern.{split_parts}
use Rattle.fr_findings.proofs.WordsLaws.{IsReadTo, read-more, bad-first, bad-last}
use Rattle.fr_findings.proofs.words.words_of.Goals as goal

pub returns-in_default-word_of-clause-bad : goal.returns-in_default-word_of-clause-bad
returns-in_default-word_of-clause-bad c e =
    let l = c.words in
    let cut = rw c.in-Some.is at (split_parts 44 l.rest.now c.split_once.result c.split_once.ensures.cases (omega arith)) in
    bad-first c.args.text.now l.words.items l.rest.now c.in-Some.first.now c.in-Some.others.now l.invariant.0 cut.0 cut.1 c.in_default-word_of.ensures.none

pub words-preserved : goal.words-preserved
words-preserved c =
    let l = c.words in
    let cut = rw c.in-Some.is at (split_parts 44 l.rest.now c.split_once.result c.split_once.ensures.cases (omega arith)) in
    let more = read-more c.args.text.now l.words.items l.rest.now c.in-Some.first.now c.in-Some.others.now c.in-Some-word_of.word l.invariant.0 cut.0 cut.1 c.in-Some-word_of.ensures.some in
    (subst (λ ws. IsReadTo c.args.text.now ws c.in-Some.others.now) (sym c.in_ok-push.ensures.items) more, search rules)

pub returns-in_default-word_of-2-clause-bad : goal.returns-in_default-word_of-2-clause-bad
returns-in_default-word_of-2-clause-bad c e =
    let l = c.words in
    let none = rw c.in_default.is at (split_parts 44 l.rest.now c.split_once.result c.split_once.ensures.cases (omega arith)) in
    bad-last c.args.text.now l.words.items l.rest.now l.invariant.0 none c.in_default-word_of-2.ensures.none
