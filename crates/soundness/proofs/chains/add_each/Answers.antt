use Rattle.broker_model.specs.Words.{ℕ, sym, subst, ap, ◌∙◌, get_or, below_more, get_or_default, Row, RowKey}
use Rattle.soundness.specs.Words.{HasWordOf, Ends}
use Rattle.soundness.proofs.RootedLemmas.{adds_further}
use Rattle.soundness.proofs.chains.add_each.Goals as goal

pub loop-token-preserved : goal.loop-token-preserved
loop-token-preserved c =
    let key = c.as_str.ensures ∙ ap (λ (e : RowKey × Row). e.0.1) c.token.view_is
    ∙ ap (λ (e : RowKey × Row). e.0.1) c.token-item.is in
    record {
      words = λ rows all each.
          c.in_ok-add.ensures.words rows
          (subst (Ends rows) (sym key) (all c.loop-token.token-index c.token-item.result c.loop-token-test.true))
          (c.loop-token.invariant.words rows all each);
      queue = λ rows all above.
          c.in_ok-add.ensures.queue rows
          (subst (Ends rows) (sym key) (all c.loop-token.token-index c.token-item.result c.loop-token-test.true))
          (c.loop-token.invariant.queue rows all above);
      added = λ k d upto.
          below_more
          (λ (k : ℕ). (d : RowKey × Row) → HasWordOf c.add.new.words (get_or c.args.tokens.now k d).0.1)
          c.loop-token.token-index
          (λ k low d w small is. c.in_ok-add.ensures.grows.words w (c.loop-token.invariant.added k d low w small is))
          (λ d w small is.
          c.in_ok-add.ensures.added w small
          (key
          ∙ ap (λ (e : RowKey × Row). e.0.1)
          (get_or_default c.args.tokens.now c.loop-token.token-index c.token-item.result d c.loop-token-test.true)
          ∙ is)) k upto d;
      kept = adds_further c.args.words.now c.loop-token.words c.add.new.words c.args.queue.now.items
          c.loop-token.queue.items c.add.new.queue.items c.loop-token.invariant.kept c.in_ok-add.ensures.grows;
    }
