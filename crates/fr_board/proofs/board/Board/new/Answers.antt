use Rattle.std.proofs.Common.{◌≡◌, ◌+◌, ◌-◌, [], ℕ, length, ap, sym, ◌∙◌, subst, arith, refl, length-append}
use Rattle.std.specs.Prelude.{All}
use Rattle.std.proofs.lemmas.List.Elements.{All-push}
use Rattle.atomic_table.specs.Table.{Me}
use Rattle.fr_board.specs.declared.progress.Progress.{Progress}
use Rattle.fr_board.proofs.Steps.{split_allowed}
use Rattle.fr_board.proofs.board.Board.new.Goals as goal
use Rattle.fr_board.specs.Progress.{new_progress}
use Rattle.fr_board.specs.Values.{PassValue}

pub split_seat-other-requires : goal.split_seat-other-requires
split_seat-other-requires c =
    let is = c.loop.invariant.seat in
    let heavy = ap (λ m. m.0.weight) is in
    let wet = ap (λ m. m.0.dry_marks) is in
    let lt = c.loop-test.true in
    (c.loop.invariant.seated, omega (arith, c.in-Ok.ensures.0), split_allowed _ _ _ _ (omega arith) wet)

pub loop-preserved : goal.loop-preserved
loop-preserved c =
    let is = c.loop.invariant.seat in
    let cut : Me (Unit {0}) Progress → Me (Unit {0}) Progress = λ m. (record m.0 { weight = m.0.weight - 1 }, m.1) in
    let less : c.args.seats + 1 - c.loop.counter - 1 ≡ c.args.seats + 1 - (c.loop.counter + 1) = omega arith in
    let to : ℕ → Me (Unit {0}) Progress = λ k. (new_progress c.args.jobs k, []) in
    let e = c.in_ok-push_pass.ensures.ok in
    let P : PassValue → Type 0 = λ p. (p.table ≡ c.in-Ok.words.shared.table_id) × (p.progress ≡ new_progress c.args.jobs 1) in record {
      seated = c.split_seat-other.ensures.0 ∙ c.loop.invariant.seated;
      seat = c.split_seat-other.ensures.2 ∙ ap cut is ∙ ap to less;
      count = omega (arith, ap length e, length-append {A = PassValue}, c.loop.invariant.count);
      each = subst (All P) (sym e) (All-push P _ _ c.loop.invariant.each (c.split_seat-other.ensures.3 ∙ c.loop.invariant.seated, refl));
    }

pub returns-clause-new : goal.returns-clause-new
returns-clause-new c =
    let e = c.in_ok-push_pass-2.ensures.ok in
    let P : PassValue → Type 0 = λ p. (p.table ≡ c.in-Ok.words.shared.table_id) × (p.progress ≡ new_progress c.args.jobs 1) in record {
      jobs_are = ap (λ k. k.jobs) c.in-Ok.ensures.5;
      seats_are = ap (λ k. k.seats) c.in-Ok.ensures.5;
      count = omega (arith, ap length e, length-append {A = PassValue}, c.loop.invariant.count);
      each = subst (All P) (sym e) (All-push P _ _ c.loop.invariant.each (c.loop.invariant.seated, refl));
    }
