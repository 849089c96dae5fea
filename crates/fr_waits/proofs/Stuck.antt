-- An actor that waits has no step: the take doesn't work, and under portMAX_DELAY it doesn't fail either.
use Rattle.std.proofs.Common.{◌≡◌, ℕ, Option, None, true, false, subst}
use Rattle.std.specs.Prelude.{ℤ}
use Rattle.fr_program.specs.declared.instr.Instr.TheVariants.{Call as Calls}
use Rattle.fr_program.specs.declared.instr.Call.TheVariants.{On}
use Rattle.fr_program.specs.declared.instr.Act.{Act}
use Rattle.fr_program.specs.declared.instr.Act.TheVariants.{Try}
use Rattle.fr_program.specs.declared.instr.Attempt.TheVariants.{Take}
use Rattle.fr_program.specs.declared.instr.SemaphoreForm.{SemaphoreForm}
use Rattle.fr_program.specs.declared.instr.Timing.{Timing}
use Rattle.fr_program.specs.declared.instr.Timing.TheVariants.{Waits}
use Rattle.fr_program.specs.declared.instr.BlockTime.TheVariants.{MaxDelay}
use Rattle.fr_program.specs.declared.ids.Side.TheVariants.{Inside}
use Rattle.fr_program.specs.Program.{Program}
use Rattle.fr_rules.specs.State.{State, content_of, kind_of}
use Rattle.fr_rules.specs.Step.{Step, Completes, taken, transition}
use Rattle.fr_rules.specs.declared.way.Way.{Way}
use Rattle.fr_rules.specs.declared.way.Way.TheVariants.{Then, Else}
use Rattle.fr_rules.proofs.Rows.{row-of-step}
use Rattle.fr_waits.specs.Waits.{WaitsFor, NobodyMoves}
use Rattle.fr_waits.proofs.Cycles.{awaits-one}

no-end : (P : Program) (S T : State) (a m : ℕ) (c : ℤ) (form : SemaphoreForm) (e : Option ℕ) (way : Way) → taken (kind_of P m) a (content_of S m) ≡ None → Completes P (transition S a c T) m (Waits MaxDelay) (Try (Take form) e) way → false ≡ true
no-end P S T a m c form e Then none h = let works = h.1.1 in cc
no-end P S T a m c form e Else none h = h.1

pub stuck : (P : Program) (S : State) (a h m : ℕ) → WaitsFor P S a h m → (c : ℤ) (T : State) → Step P S a c T → ⊥
stuck P S a h m w c T (way, t) =
    let tr = transition S a c t.mid in
    let row = row-of-step P S a w.pc Inside (Calls (On w.call)) way c T w.at w.is t in
    let by_act = subst (λ (act : Act). Completes P tr w.call.object.0 w.call.timing act way) w.takes.act row in
    let by_timing = subst (λ (timing : Timing). Completes P tr w.call.object.0 timing (Try (Take w.takes.form) w.takes.or_else) way) w.takes.timing by_act in
    let ends = subst (λ (o : ℕ). Completes P tr o (Waits MaxDelay) (Try (Take w.takes.form) w.takes.or_else) way) w.takes.object by_timing in
    let no = no-end P S t.mid a m c w.takes.form w.takes.or_else way w.refused ends in
    cc

pub nobody-moves : NobodyMoves
nobody-moves = λ P S cycle is w in' c T t.
    let r = awaits-one P S cycle is w in' in
    stuck P S w.actor.0 r.0.actor.0 w.mutex.0 r.2 c T t
