-- fr_traces/proofs/answered/answered/Answers.antt
use Rattle.std.proofs.Common.{ap, inl, inr, subst}
use Rattle.std.specs.Prelude.{option_map, string_bytes}
use Rattle.fr_instr.specs.AppNames.{names_in}
use Rattle.fr_trace.specs.Means.{IsPresent}
use Rattle.fr_traces.proofs.answered.answered.Goals as goal

pub returns-in_ok-answer_as_asked-in-Ok-clause-answer : goal.returns-in_ok-answer_as_asked-in-Ok-clause-answer
returns-in_ok-answer_as_asked-in-Ok-clause-answer c =
    let h = c.in_ok-answer_as_asked-in-Ok.ensures.answer in
    inl (c.in-Ok.trace, c.in-Ok.ensures.means, h.0, h.1, h.2, h.3, h.4, h.5, h.6, h.7)

pub returns-in_ok-unlisted_answer-in-Err-NotListed-clause-answer : goal.returns-in_ok-unlisted_answer-in-Err-NotListed-clause-answer
returns-in_ok-unlisted_answer-in-Err-NotListed-clause-answer c =
    let h = c.in_ok-unlisted_answer-in-Err-NotListed.ensures in
    inr (
      c.in-Err-NotListed.unlisted,
      subst (λ w. IsPresent (names_in c.args.app.now) c.args.asked.from_anywhere c.args.bytes.now w) c.in-Err-NotListed.field-0-is c.in-Err-NotListed.ensures.fault,
      h.kind,
      h.line.0,
      h.line.1,
      ap (λ r. option_map string_bytes r) h.run,
    )
