use Rattle.std.proofs.Common.{◌≡◌, ◌+◌, ◌∷◌, refl, sym, ◌∙◌, ap, drop, map, false, rules}
use Rattle.broker_model.specs.Words.{goes_further, honest_before, drop_waiting, RowKey, Row}
use Rattle.std.proofs.lemmas.List.{drop_more}
use Rattle.broker_rows.specs.Words.{represents_dropped, represents_waiting}
use Rattle.maintenance.specs.Maintained.{dropped_each}
use Rattle.maintenance.proofs.Listed.{key_of}
use Rattle.maintenance.proofs.responses.drop_each.Goals as goal

pub loop-entry-init : goal.loop-entry-init
loop-entry-init g c = record { told = λ honest b st. (b, st, refl); goes_on = search rules }

pub loop-entry-preserved : goal.loop-entry-preserved
loop-entry-preserved g c =
    let seen = g.T.RecordsTx.seen in
    let entries = c.args.entries.now in
    let i = c.loop-entry.entry-index in
    let e : RowKey × Row = c.entry-item.result in
    let rest = drop (i + 1) entries in
    let more : drop i entries ≡ e ∷ rest = drop_more entries i e c.loop-entry-test.true
    ∙ sym (ap (λ (x : RowKey × Row). x ∷ rest) c.entry-item.is) in
    let key = c.as_str.result.now in
    let did = c.in_ok-drop_token.ensures in
    let old = (seen c.loop-entry.tx).rows in
    let new = (seen c.drop_token.new.tx).rows in
    record {
      told = λ honest b st.
          let before = honest_before (seen c.loop-entry.tx) (seen c.drop_token.new.tx) false did.call.goes_on honest in
          let mid = c.loop-entry.invariant.told before b st in (
            drop_waiting mid.0 key,
            represents_dropped mid.0 key old new mid.1
                (did.told honest mid.0 (represents_waiting mid.0 old mid.1)) (did.call.others honest),
            ap (λ q. dropped_each (map key_of rest) (drop_waiting mid.0 q))
                (c.as_str.ensures ∙ ap key_of c.entry.view_is)
                ∙ sym (ap (λ es. dropped_each (map key_of es) mid.0) more) ∙ mid.2,
          );
      goes_on = goes_further (seen c.args.tx.now) (seen c.loop-entry.tx) (seen c.drop_token.new.tx) false
          c.loop-entry.invariant.goes_on did.call.goes_on;
    }
