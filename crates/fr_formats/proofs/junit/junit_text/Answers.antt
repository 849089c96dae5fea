use Rattle.std.proofs.Common.{◌≡◌, ◌++◌, codes, flat_map, string_bytes}
use Rattle.fr_formats.specs.Junit.{case_of, head_of}
use Rattle.fr_formats.proofs.Chains.{next}
use Rattle.fr_formats.proofs.junit.junit_text.Goals as goal

pub returns : goal.returns
returns c =
    let answers = c.args.answers.now in
    let head : string_bytes c.begin_suite.new.text ≡ head_of answers = rw c.new-text.ensures.bytes at c.in_ok-begin_suite.ensures in
    let cases : string_bytes c.put_cases.new.text ≡ head_of answers ++ flat_map case_of answers = rw head at c.in_ok-put_cases.ensures in
    next (head_of answers) _ _ (flat_map case_of answers) (codes "  </testsuite>\n</testsuites>\n") cases c.in_ok-put_part.ensures
