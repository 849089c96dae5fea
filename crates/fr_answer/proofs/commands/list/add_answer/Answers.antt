-- What is added shows the answer.
use Rattle.std.proofs.Common.{◌≡◌, ◌++◌, [], ◌∷◌, rules}
use Rattle.fr_answer.proofs.commands.list.add_answer.Goals as goal

pub returns-clause-added : goal.returns-clause-added
returns-clause-added c =
    let s = c.in_ok-shown_of.field-0 in
    let pushed : c.push.new.self.items ≡ c.args.answers.now.items ++ s ∷ [] = search rules in
    (s, c.in_ok-shown_of.ensures.shows, pushed)
