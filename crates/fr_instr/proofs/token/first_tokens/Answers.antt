use Rattle.std.proofs.Common.{◌≡◌, List, ◌∷◌, [], ◌++◌, ap, sym, ◌∙◌, subst}
use Rattle.std.proofs.lemmas.List.{map-append}
use Rattle.fr_instr.specs.Tokens.{Tok}
use Rattle.fr_instr.specs.Views.{tok, toks}
use Rattle.fr_instr.proofs.TokenLaws.{SoFar, so_far_more, so_far_end, so_far_stuck}
use Rattle.fr_instr.proofs.token.first_tokens.Goals as goal

pub loop-token-preserved : goal.loop-token-preserved
loop-token-preserved c =
    let grown : toks c.push.new.self.items ≡ toks c.loop-token.found.items ++ tok c.in-Some.token ∷ [] =
    ap toks c.in_ok-push.ensures.items ∙ map-append tok c.loop-token.found.items (c.in-Some.token ∷ []) in
    let P : List Tok → Type 0 = λ ts. SoFar c.args.text.now ts c.in-Some.more.now in
    subst P (sym grown) (so_far_more c.args.text.now (toks c.loop-token.found.items) c.loop-token.rest.now (tok c.in-Some.token) c.in-Some.more.now c.in-Some.ensures.found c.loop-token.invariant)

pub returns-clause-whole : goal.returns-clause-whole
returns-clause-whole c = λ blank. so_far_end c.args.text.now (toks c.loop-token.found.items) c.loop-token.rest.now blank c.loop-token.invariant

pub returns-clause-broken : goal.returns-clause-broken
returns-clause-broken c = λ broken. so_far_stuck c.args.text.now (toks c.loop-token.found.items) c.loop-token.rest.now broken c.in_default.ensures.none c.loop-token.invariant
