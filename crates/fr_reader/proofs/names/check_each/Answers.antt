use Rattle.std.proofs.Common.{map, sym, ◌∙◌, subst, Contains}
use Rattle.std.proofs.lemmas.Bool.{false≢true}
use Rattle.fr_program.specs.Limits.{IsName}
use Rattle.fr_reader.specs.Views.{line_text}
use Rattle.fr_reader.specs.Stands.{StandsTwice}
use Rattle.fr_reader.proofs.NameLemmas.{name_there, names_twice, keys_more, names_more}
use Rattle.fr_reader.proofs.names.check_each.Goals as goal

pub returns-then-not-is_name-clause-err : goal.returns-then-not-is_name-clause-err
returns-then-not-is_name-clause-err c _ =
    subst (λ t. Contains (map line_text c.args.names.now) t × (IsName t → ⊥)) (sym c.in_ok-from_str.ensures.ok)
    (name_there c.args.names.now c.loop-name.name-index _ c.loop-name-test.true, λ holds. false≢true (sym c.if-not-is_name.true ∙ c.is_name.ensures.1 holds))

pub returns-then-not-is_new-clause-err : goal.returns-then-not-is_new-clause-err
returns-then-not-is_new-clause-err c _ =
    subst (StandsTwice (map line_text c.args.names.now)) (sym c.in_ok-from_str-2.ensures.ok)
    (names_twice c.args.names.now c.loop-name.seen.keys c.loop-name.name-index _ c.loop-name-test.true c.loop-name.invariant.seen (sym c.if-not-is_new.true ∙ c.in_ok-is_new.ensures.added))

pub loop-name-preserved : goal.loop-name-preserved
loop-name-preserved c = record {
  seen = keys_more c.args.names.now c.loop-name.seen.keys c.insert_full.new.self.keys c.loop-name.name-index _ c.loop-name-test.true c.loop-name.invariant.seen
      (sym c.if-not-is_new.false ∙ c.in_ok-is_new.ensures.added) c.in_ok-is_new.ensures.keys;
  names = names_more c.args.names.now c.loop-name.seen.keys c.loop-name.name-index _ c.loop-name-test.true c.loop-name.invariant.seen
      (sym c.if-not-is_new.false ∙ c.in_ok-is_new.ensures.added) (c.is_name.ensures.0 c.if-not-is_name.false) c.loop-name.invariant.names;
}
