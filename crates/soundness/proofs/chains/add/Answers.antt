use Rattle.std.proofs.Common.{◌++◌, ◌∷◌, [], refl, sym, ◌∙◌, ap, subst, inr, All}
use Rattle.broker_model.specs.Words.{All-push, MatchOption-at_none, id}
use Rattle.soundness.specs.Words.{Ends, IsAbove}
use Rattle.soundness.proofs.ChainLemmas.{each_ends_more}
use Rattle.soundness.proofs.RootedLemmas.{token_there, adds_token}
use Rattle.soundness.proofs.chains.add.Goals as goal

pub returns-in_ok-push-clause-words : goal.returns-in_ok-push-clause-words
returns-in_ok-push-clause-words c = λ rows ends each.
    each_ends_more rows _ _ c.in-Some.word c.args.token.now c.in_ok-insert.ensures.updates.0 c.in-Some.ensures.sound.1
    ends each

pub returns-in_ok-push-clause-queue : goal.returns-in_ok-push-clause-queue
returns-in_ok-push-clause-queue c = λ rows ends all.
    subst (All (IsAbove rows)) (sym c.in_ok-push.ensures.items)
    (All-push (IsAbove rows) c.args.queue.now.items c.in_ok-copied.field-0 all
    (inr (subst (Ends rows) (sym c.in_ok-copied.ensures) ends)))

pub returns-in_default-clause-added : goal.returns-in_default-clause-added
returns-in_default-clause-added c = λ word small is.
    absurd (MatchOption-at_none _ _ c.in_default.is c.word_of_token.ensures.whole
    (id word, (word, small, refl), is))

pub returns-in_ok-push-clause-added : goal.returns-in_ok-push-clause-added
returns-in_ok-push-clause-added c =
    token_there c.args.words.now c.insert.new.self c.in-Some.word c.in_ok-insert.ensures.updates.0 c.args.token.now
    c.in-Some.ensures.sound.0 c.in-Some.ensures.sound.1

pub returns-in_ok-push-clause-grows : goal.returns-in_ok-push-clause-grows
returns-in_ok-push-clause-grows c =
    adds_token c.args.words.now c.insert.new.self c.in-Some.word c.in_ok-insert.ensures.updates.0 c.args.token.now
    c.in-Some.ensures.sound.0 c.in-Some.ensures.sound.1 c.args.queue.now.items c.push.new.self.items
    (c.in_ok-push.ensures.items ∙ ap (λ t. c.args.queue.now.items ++ t ∷ []) c.in_ok-copied.ensures)

pub returns-else-branch-clause-added : goal.returns-else-branch-clause-added
returns-else-branch-clause-added c =
    token_there c.args.words.now c.insert.new.self c.in-Some.word c.in_ok-insert.ensures.updates.0 c.args.token.now
    c.in-Some.ensures.sound.0 c.in-Some.ensures.sound.1
