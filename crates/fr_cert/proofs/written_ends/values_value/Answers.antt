use Rattle.std.proofs.Common.{◌<◌, ◌∙◌, ℕ, ℤ, All, length, map, ap, subst, to_z-of_z}
use Rattle.fr_cert.proofs.Terms.{deref_pair, All-head, All-tail, rest_more, rest_all, put, number, of_integer, members_view, IsNumber, actor_at, value_of}
use Rattle.fr_cert.proofs.WrittenLemmas.{values_more, values_end}
use Rattle.fr_cert.proofs.written_ends.values_value.Goals as goal

pub add_value-requires : goal.add_value-requires
add_value-requires c =
    let next = rest_more deref_pair c.loop-actor.actor-iterator c.next.new.self c.next.result (c.in-Some.actor, c.in-Some.value) c.in-Some.is c.next.ensures.steps in
    let Fits : ℕ × ℤ → Type 0 = λ v. (v.0 < length c.args.app.now.actors) × IsNumber v.1 in
    (All-head Fits (value_of (c.in-Some.actor.now, c.in-Some.value.now)) (map value_of c.next.new.self) (subst (λ es. All Fits (map value_of es)) next c.loop-actor.invariant.fit)).0

pub loop-actor-preserved : goal.loop-actor-preserved
loop-actor-preserved c =
    let next = rest_more deref_pair c.loop-actor.actor-iterator c.next.new.self c.next.result (c.in-Some.actor, c.in-Some.value) c.in-Some.is c.next.ensures.steps in
    let Fits : ℕ × ℤ → Type 0 = λ v. (v.0 < length c.args.app.now.actors) × IsNumber v.1 in
    let all = subst (λ es. All Fits (map value_of es)) next c.loop-actor.invariant.fit in
    let here = All-head Fits (value_of (c.in-Some.actor.now, c.in-Some.value.now)) (map value_of c.next.new.self) all in
    let put_here = λ (z : ℤ). put (actor_at c.args.app.now c.in-Some.actor.now.0).name (number (of_integer z)) (members_view c.loop-actor.named.entries) in
    record {
      fit = All-tail Fits (value_of (c.in-Some.actor.now, c.in-Some.value.now)) (map value_of c.next.new.self) all;
      rest = values_more c.args.app.now c.loop-actor.actor-iterator c.next.new.self c.in-Some.actor.now c.in-Some.value.now (members_view c.loop-actor.named.entries) (members_view c.add_value.new.named.entries) _
          next (c.in_ok-add_value.ensures ∙ ap put_here (to_z-of_z here.1)) c.loop-actor.invariant.rest;
    }

pub returns : goal.returns
returns c =
    let end = rest_all deref_pair c.loop-actor.actor-iterator c.next.new.self c.next.result c.in-None.is c.next.ensures.steps in
    values_end c.args.app.now c.loop-actor.actor-iterator (members_view c.loop-actor.named.entries) _ end c.loop-actor.invariant.rest
