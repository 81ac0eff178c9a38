use Rattle.std.proofs.Common.{◌≡◌, ◌≤◌, length, ap, ◌∙◌, subst, arith}
use Rattle.broker_model.specs.Words.{id-length, greatest_moment, id, token_text, with_root, honest_before}
use Rattle.broker_rows.proofs.FirstRows.{first_started}
use Rattle.broker_rows.proofs.start.write_first_rows.Goals as goal

pub put_root-requires-clause-short : goal.put_root-requires-clause-short
put_root-requires-clause-short g c = let e : length c.as_str-2.result.now ≡ 36 =
    ap length (c.as_str-2.ensures.value ∙ c.in_ok-accessor.ensures)
    ∙ id-length _ in omega (arith, e)

pub returns-clause-told : goal.returns-clause-told
returns-clause-told g c honest empty differ =
    let seen = g.T.RecordsTx.seen in
    let mid = honest_before (seen c.put_settings.new.tx)
    (seen c.put_root.new.tx) _ c.put_root.ensures.call.goes_on honest in
    let within = subst (λ n. n ≤ greatest_moment) c.seconds-issued.ensures.value c.seconds-issued.ensures.within in
    let token : c.as_str-3.result.now ≡ token_text (id c.args.token_word) = c.as_str-3.ensures
    ∙ c.in_ok-token.ensures in
    let identifier : c.as_str.result.now ≡ id c.args.token_word = c.as_str.ensures.value ∙ c.in_ok-identifier.ensures in
    let accessor : c.as_str-2.result.now ≡ id c.args.accessor_word = c.as_str-2.ensures.value
    ∙ c.in_ok-accessor.ensures in
    first_started (seen c.args.tx.now).rows (seen c.put_settings.new.tx).rows
    (seen c.put_root.new.tx).rows c.args.moment c.args.token_word c.args.accessor_word within
    c.ranges.token_word.fits c.ranges.accessor_word.fits differ empty (c.in_ok-put_settings.ensures.rows mid)
    (c.in_ok-put_root.ensures.rows honest
    ∙ (λ i. with_root (seen c.put_settings.new.tx).rows (c.seconds-issued.ensures.value i) (identifier i) (accessor i)
    (token i)))
