use Rattle.std.proofs.Common.{◌≡◌, ◌+◌, ◌∷◌, Greater, arith, false, true, suc, sym, ap, ◌∙◌, drop}
use Rattle.records.specs.Words.{match_ordering, drop_more, Row, RowKey, key_cmp, rank, is_met}
use Rattle.records.proofs.list.place.Goals as goal

pub loop-i-preserved : goal.loop-i-preserved
loop-i-preserved c =
    let entries = c.args.entries.now in
    let i = c.loop-i.i in
    let q : RowKey = (c.args.kind, c.args.key.now) in
    let rest = drop (i + 1) entries in
    let more : drop i entries ≡ c.index-entries-i.result ∷ rest =
    drop_more entries i c.index-entries-i.result c.loop-i-test.true
    ∙ sym (ap (λ (e : RowKey × Row). e ∷ rest) c.index-entries-i.is) in
    let above = sym c.order.ensures ∙ c.in-Greater.is in
    let ranked : rank key_cmp q (drop i entries) ≡ suc (rank key_cmp q rest) =
    ap (rank key_cmp q) more ∙ ap (λ o. match_ordering o 0 0 (suc (rank key_cmp q rest))) above in
    record {
      rank = omega (arith, c.loop-i.invariant.rank, ranked);
      met = c.loop-i.invariant.met ∙ ap (is_met key_cmp q) more
          ∙ ap (λ o. match_ordering o false true (is_met key_cmp q rest)) above;
    }
