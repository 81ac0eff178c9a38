use Rattle.broker_model.specs.Words.{ℕ, List, length, ap, arith, length-drop, nat_tests}
use Rattle.hub.proofs.link.Link.is_sending.Goals as goal

pub returns-clause-some : goal.returns-clause-some
returns-clause-some c = λ nothing.
    let s = c.args.self.now in
    let none = ap (λ (l : List ℕ). length l) nothing in
    let long = length-drop s.sent s.reply.items in
    grind (arith, nat_tests, c.len.ensures)
