use Rattle.std.proofs.Common.{◌≡◌, ◌<◌, ◌^◌, ◌∷◌, [], None, ap, sym, subst, ◌∙◌, is_ok, arith}
use Rattle.records.specs.Words.{false≢true, on_ok_weaker, honest_before, IsVersionInRange, version_row, version_key}
use Rattle.records.specs.Words.{Table, table_of, with_row, table_of-insert, IsHonest, none_of, ok_inj}
use Rattle.records.specs.declared.kind.Kind.TheVariants as kind
use Rattle.kv2.specs.Words.{change_of, AreChanged}
use Rattle.kv2.proofs.ChangeLemmas.{stays_in_range}
use Rattle.kv2.proofs.Found.{some_is}
use Rattle.kv2.proofs.Changed.{missing_changed, row_changed}
use Rattle.kv2.proofs.changing.change_version.Goals as goal

pub returns-in_default-clause-rows : goal.returns-in_default-clause-rows
returns-in_default-clause-rows g c honest timely =
    let small : c.args.number < 2 ^ 64 = omega arith in
    let old = table_of (g.T.RecordsTx.seen c.args.tx.now).rows in
    let f = change_of c.args.change in
    let none : old kind.KvVersion (version_key c.args.name.now c.args.number) ≡ None =
    ap (old kind.KvVersion) (sym (c.as_str.ensures.value ∙ c.in_ok-key.ensures))
    ∙ sym (c.in_ok-kept.ensures.found honest) ∙ none_of _ c.in_default.not-Some in
    subst (λ (t : Table). AreChanged f (c.args.number ∷ []) c.args.name.now old t)
    (ap table_of (sym (c.in_ok-kept.ensures.call.same honest)))
    (missing_changed f c.args.name.now old c.args.number small none)

pub returns-clause-rows : goal.returns-clause-rows
returns-clause-rows g c honest timely =
    let seen = g.T.RecordsTx.seen in
    let first : IsHonest (seen c.get.new.self) = honest_before _ _ _ c.put.ensures.call.goes_on honest in
    let small : c.args.number < 2 ^ 64 = omega arith in
    let old = table_of (seen c.args.tx.now).rows in
    let f = change_of c.args.change in
    let at = ap (old kind.KvVersion) (sym (c.as_str.ensures.value ∙ c.in_ok-key.ensures))
    ∙ sym (c.in_ok-kept.ensures.found first) ∙ c.in-Some.is in
    let one = row_changed f c.args.name.now old c.args.number small c.in-Some.kept c.in_ok-read_version.field-0
    c.changed-version.result at
    c.in_ok-read_version.ensures.exact.0 c.in_ok-read_version.ensures.exact.1
    (λ v range row. c.changed-version.ensures ∙ ap f (ok_inj (c.in_ok-read_version.ensures.again v range row)))
    (λ v range. stays_in_range c.args.change v timely range) in
    on_ok_weaker c.put.result (λ put.
    subst (λ (t : Table). AreChanged f (c.args.number ∷ []) c.args.name.now old t) (sym (
    ap table_of put ∙ table_of-insert (seen c.get.new.self).rows kind.KvVersion c.as_str-2.result.now c.in_ok-row.row
    ∙ (λ i. with_row (table_of (c.in_ok-kept.ensures.call.same first i)) kind.KvVersion ((c.as_str-2.ensures.value
    ∙ c.in_ok-key.ensures) i) (c.in_ok-row.ensures i)))) one)
    (c.put.ensures.rows honest)

pub returns-in_err-read_version-clause-faults : goal.returns-in_err-read_version-clause-faults
returns-in_err-read_version-clause-faults g c honest v has =
    let old = table_of (g.T.RecordsTx.seen c.args.tx.now).rows in
    let at = ap (old kind.KvVersion) (sym (c.as_str.ensures.value ∙ c.in_ok-key.ensures))
    ∙ sym (c.in_ok-kept.ensures.found honest) ∙ c.in-Some.is in
    let x = some_is IsVersionInRange version_row (old kind.KvVersion (version_key c.args.name.now c.args.number))
    c.in-Some.kept at v has in
    absurd (false≢true (ap is_ok (c.in_err-read_version.ensures.again x.0 x.2 x.3)))
