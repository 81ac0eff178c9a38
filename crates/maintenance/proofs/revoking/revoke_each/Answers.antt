use Rattle.std.proofs.Common.{◌≡◌, ◌+◌, ◌∷◌, refl, sym, ◌∙◌, ap, drop, false, rules}
use Rattle.broker_model.specs.Words.{goes_further, honest_before, revoke_orphan, Text}
use Rattle.std.proofs.lemmas.List.{drop_more}
use Rattle.maintenance.specs.Maintained.{revoked_each}
use Rattle.maintenance.proofs.revoking.revoke_each.Goals as goal

pub loop-token-init : goal.loop-token-init
loop-token-init g c = record { told = λ honest b st. (b, st, refl); goes_on = search rules }

pub loop-token-preserved : goal.loop-token-preserved
loop-token-preserved g c =
    let seen = g.T.RecordsTx.seen in
    let tokens = c.args.tokens.now in
    let i = c.loop-token.token-index in
    let t : Text = c.token-item.result in
    let rest = drop (i + 1) tokens in
    let more : drop i tokens ≡ t ∷ rest = drop_more tokens i t c.loop-token-test.true
    ∙ sym (ap (λ (x : Text). x ∷ rest) c.token-item.is) in
    let did = c.in_ok-revoke_alone.ensures in
    record {
      told = λ honest b st.
          let before =
          honest_before (seen c.loop-token.tx) (seen c.revoke_alone.new.tx) false did.call.goes_on honest in
          let mid = c.loop-token.invariant.told before b st in (
            revoke_orphan mid.0 c.as_str.result.now,
            did.told honest mid.0 mid.1,
            ap (λ q. revoked_each rest (revoke_orphan mid.0 q)) c.as_str.ensures
                ∙ sym (ap (λ ts. revoked_each ts mid.0) more) ∙ mid.2,
          );
      goes_on = goes_further (seen c.args.tx.now) (seen c.loop-token.tx) (seen c.revoke_alone.new.tx) false
          c.loop-token.invariant.goes_on did.call.goes_on;
    }
