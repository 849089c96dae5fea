use Rattle.std.proofs.Common.{◌≡◌, ◌≢◌, ◌++◌, ◌∷◌, [], true, false, get_or, Some, None, List, ℕ, sym, ap, ◌∙◌, ◌+◌, cond, subst, take, append-nil, append_assoc}
use Rattle.std.specs.Prelude.{All, is_ok}
use Rattle.std.proofs.lemmas.List.{map-append}
use Rattle.fr_files.specs.Apart.{AreApart, names, paths}
use Rattle.fr_files.proofs.ApartLemmas.{apart_push, paths_some, paths_none}
use Rattle.fr_files.proofs.outputs.check_outputs.Goals as goal
use Rattle.fr_files.proofs.outputs.check_outputs.Goals.{in-Some+in_ok-is_among+else-branch+in_ok-is_writable+else-not-branch+in_ok-map_err-2, in_default}

pub loop-output-preserved : goal.loop-output-preserved
loop-output-preserved c = elim c.match-output.branch [
  | in-Some+in_ok-is_among+else-branch+in_ok-is_writable+else-not-branch+in_ok-map_err-2 w ↦
      let inv = c.loop-output.invariant in
      let before = paths (take c.loop-output.output-index c.args.outputs.now) in
      let more = paths_some c.args.outputs.now c.loop-output.output-index _ w.in-Some.output c.loop-output-test.true w.in-Some.is in
      let is_now : names w.push.new.self.items ≡ names c.loop-output.taken.items ++ w.in-Some.output.path.now ∷ [] =
      ap names (w.push.ensures.items ∙ ap (λ b. cond b (c.loop-output.taken.items ++ w.in-Some.output.path ∷ []) c.loop-output.taken.items) (sym w.in_ok-map_err-2.ensures.variant))
      ∙ map-append (λ s. s.now) c.loop-output.taken.items (w.in-Some.output.path ∷ []) in
      let new : All (λ other. other ≢ w.in-Some.output.path.now) (names w.deref.result.now) = w.in_ok-is_among.ensures w.if-branch.false in
      let from : All (λ other. other ≢ w.in-Some.output.path.now) (names c.args.inputs.now ++ before) =
      subst (All (λ other. other ≢ w.in-Some.output.path.now)) (ap names w.deref.ensures.value ∙ inv.taken) new in
      let apart : AreApart (names c.args.inputs.now) (paths (take (c.loop-output.output-index + 1) c.args.outputs.now)) =
      subst (AreApart (names c.args.inputs.now)) (sym more) (apart_push (names c.args.inputs.now) before w.in-Some.output.path.now inv.apart from) in
      let taken : names c.match-output.taken.items ≡ names c.args.inputs.now ++ paths (take (c.loop-output.output-index + 1) c.args.outputs.now) =
      ap (λ v. names v.items) w.taken-is ∙ is_now ∙ ap (λ ns. ns ++ w.in-Some.output.path.now ∷ []) inv.taken
      ∙ append_assoc (names c.args.inputs.now) before (w.in-Some.output.path.now ∷ []) ∙ ap (λ ns. names c.args.inputs.now ++ ns) (sym more) in
      record { taken = taken; apart = apart }
  | in_default w ↦
      let before = paths (take c.loop-output.output-index c.args.outputs.now) in
      let same = paths_none c.args.outputs.now c.loop-output.output-index _ c.loop-output-test.true w.in_default.is ∙ append-nil before in
      record {
        taken = ap (λ v. names v.items) w.taken-is ∙ c.loop-output.invariant.taken ∙ ap (λ ns. names c.args.inputs.now ++ ns) (sym same);
        apart = subst (AreApart (names c.args.inputs.now)) (sym same) c.loop-output.invariant.apart;
      }
]
