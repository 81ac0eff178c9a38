use Rattle.records.specs.Words.{ap, sym, subst, ◌∙◌, Some, option_map, false, same_Some, err_from_is_err_and, get}
use Rattle.records.specs.Words.{honest_before, goes_further, key_entry, table_of, IsHonest, Rows, none_of}
use Rattle.kv2.specs.Words.{IsMetadataInRange, HasKey, AreVersions, IsMetadataOf, secret_name}
use Rattle.kv2.proofs.DescribeCalls.{key_told, describe_none, describe_some}
use Rattle.kv2.proofs.Digits.{KeyLaws}
use Rattle.kv2.proofs.describing.metadata.Goals as goal

pub returns-in_err-key-clause-wants : goal.returns-in_err-key-clause-wants
returns-in_err-key-clause-wants g c honest forms b sound told =
    let rows = (g.T.RecordsTx.seen c.args.tx.now).rows in
    let p = err_from_is_err_and c.from_residual-in_err-key.result c.from_residual-in_err-key.ensures.1 in
    rw (p.1, p.2) (c.in_err-key.ensures.faults honest
    (option_map key_entry (get b.secrets (secret_name c.args.mount.now c.args.path.now)))
    (key_told forms b sound rows told c.args.mount.now c.args.path.now c.as_str.result.now
    (c.as_str.ensures.value ∙ c.in_ok-name.ensures)))

pub returns-in_default-clause-told : goal.returns-in_default-clause-told
returns-in_default-clause-told g c honest forms b sound told =
    let rows = (g.T.RecordsTx.seen c.args.tx.now).rows in
    describe_none forms b sound rows told c.args.mount.now c.args.path.now c.as_str.result.now
    (c.as_str.ensures.value ∙ c.in_ok-name.ensures)
    c.in_ok-key.field-0 (λ k has. c.in_ok-key.ensures.found honest k has) (none_of _ c.in_default.not-Some)

pub returns-in_err-versions-clause-wants : goal.returns-in_err-versions-clause-wants
returns-in_err-versions-clause-wants g c honest forms b sound told =
    let seen = g.T.RecordsTx.seen in
    let rows = (seen c.args.tx.now).rows in
    let first : IsHonest (seen c.find_key.new.tx) = honest_before _ _ _ c.find_versions.ensures.call.goes_on honest in
    let laws : KeyLaws = record {
      told = c.versions_have_keys.ensures.told;
      exact = c.versions_have_keys.ensures.exact;
      order = c.versions_have_keys.ensures.order;
      split = c.versions_have_keys.ensures.split;
    } in
    let r = describe_some forms b sound rows told c.args.mount.now c.args.path.now c.as_str.result.now
    (c.as_str.ensures.value ∙ c.in_ok-name.ensures)
    laws c.in_ok-key.field-0 c.in-Some.key (λ k has. c.in_ok-key.ensures.found first k has) c.in-Some.is in
    let p = err_from_is_err_and c.from_residual-in_err-versions.result c.from_residual-in_err-versions.ensures.1 in
    rw (p.1, p.2) (c.in_err-versions.ensures.told honest r.0
    (subst (λ (z : Rows). AreVersions z c.as_str-2.result.now r.0) (sym (c.in_ok-key.ensures.call.same first))
    (subst (λ q. AreVersions rows q r.0) (c.as_str.ensures.value ∙ sym c.as_str-2.ensures.value) r.1)))

pub returns-clause-found : goal.returns-clause-found
returns-clause-found g c honest =
    let seen = g.T.RecordsTx.seen in
    let rows = (seen c.args.tx.now).rows in
    let first : IsHonest (seen c.find_key.new.tx) = honest_before _ _ _ c.find_versions.ensures.call.goes_on honest in
    let name = c.as_str.ensures.value ∙ c.in_ok-name.ensures in
    let r = c.in_ok-versions.ensures.exact honest in (
      Some c.in-Some.key,
      subst (λ q. HasKey (table_of rows) q (Some c.in-Some.key)) name
          (subst (HasKey (table_of rows) c.as_str.result.now) c.in-Some.is (c.in_ok-key.ensures.exact first)),
      (
        r.0,
        subst (λ (z : Rows). AreVersions z (secret_name c.args.mount.now c.args.path.now) r.0)
            (c.in_ok-key.ensures.call.same first)
            (subst (λ q. AreVersions (seen c.find_key.new.tx).rows q r.0)
            (c.as_str-2.ensures.value ∙ c.in_ok-name.ensures) r.1),
        ap Some (c.with_versions.ensures.told r.0 r.2),
      ),
    )

pub returns-clause-told : goal.returns-clause-told
returns-clause-told g c honest forms b sound told =
    let seen = g.T.RecordsTx.seen in
    let rows = (seen c.args.tx.now).rows in
    let first : IsHonest (seen c.find_key.new.tx) = honest_before _ _ _ c.find_versions.ensures.call.goes_on honest in
    let laws : KeyLaws = record {
      told = c.versions_have_keys.ensures.told;
      exact = c.versions_have_keys.ensures.exact;
      order = c.versions_have_keys.ensures.order;
      split = c.versions_have_keys.ensures.split;
    } in
    let r = describe_some forms b sound rows told c.args.mount.now c.args.path.now c.as_str.result.now
    (c.as_str.ensures.value ∙ c.in_ok-name.ensures)
    laws c.in_ok-key.field-0 c.in-Some.key (λ k has. c.in_ok-key.ensures.found first k has) c.in-Some.is in
    let versions = c.in_ok-versions.ensures.told honest r.0
    (subst (λ (z : Rows). AreVersions z c.as_str-2.result.now r.0) (sym (c.in_ok-key.ensures.call.same first))
    (subst (λ q. AreVersions rows q r.0) (c.as_str.ensures.value ∙ sym c.as_str-2.ensures.value) r.1)) in
    ap Some (c.with_versions.ensures.told r.0 versions) ∙ r.2

pub returns-clause-in_range : goal.returns-clause-in_range
returns-clause-in_range g c x is =
    subst IsMetadataInRange (same_Some _ _ is)
    (c.with_versions.ensures.in_range (c.in_ok-key.ensures.in_range c.in-Some.key c.in-Some.is)
    c.in_ok-versions.ensures.in_range)

pub returns-clause-call : goal.returns-clause-call
returns-clause-call g c =
    let seen = g.T.RecordsTx.seen in
    record {
      same = λ honest.
          let first : IsHonest (seen c.find_key.new.tx) =
          honest_before _ _ _ c.find_versions.ensures.call.goes_on honest in
          c.in_ok-versions.ensures.call.same honest ∙ c.in_ok-key.ensures.call.same first;
      faults = tt;
      goes_on =
          goes_further (seen c.args.tx.now) (seen c.find_key.new.tx)
          (seen c.find_versions.new.tx) false c.in_ok-key.ensures.call.goes_on
          c.in_ok-versions.ensures.call.goes_on;
    }

pub returns-in_err-versions-clause-call : goal.returns-in_err-versions-clause-call
returns-in_err-versions-clause-call g c =
    let p = err_from_is_err_and c.from_residual-in_err-versions.result c.from_residual-in_err-versions.ensures.1 in
    rw (p.1, p.2) (record {
      same = λ _. tt;
      faults = c.in_err-versions.ensures.call.faults;
      goes_on = goes_further _ _ _ _ c.in_ok-key.ensures.call.goes_on c.in_err-versions.ensures.call.goes_on;
    })

pub returns-in_err-key-clause-faults : goal.returns-in_err-key-clause-faults
returns-in_err-key-clause-faults g c honest o is =
    let rows = (g.T.RecordsTx.seen c.args.tx.now).rows in
    let p = err_from_is_err_and c.from_residual-in_err-key.result c.from_residual-in_err-key.ensures.1 in
    rw (p.1, p.2) (c.in_err-key.ensures.faults honest is.0
    (subst (λ q. HasKey (table_of rows) q is.0) (sym (c.as_str.ensures.value ∙ c.in_ok-name.ensures)) is.1))

pub returns-in_err-versions-clause-faults : goal.returns-in_err-versions-clause-faults
returns-in_err-versions-clause-faults g c honest o is =
    let seen = g.T.RecordsTx.seen in
    let rows = (seen c.args.tx.now).rows in
    let first : IsHonest (seen c.find_key.new.tx) = honest_before _ _ _ c.find_versions.ensures.call.goes_on honest in
    let p = err_from_is_err_and c.from_residual-in_err-versions.result c.from_residual-in_err-versions.ensures.1 in
    let found = c.in_ok-key.ensures.found first is.0
    (subst (λ q. HasKey (table_of rows) q is.0) (sym (c.as_str.ensures.value ∙ c.in_ok-name.ensures)) is.1) in
    let m = subst (λ k. IsMetadataOf rows (secret_name c.args.mount.now c.args.path.now) k o)
    (sym found ∙ c.in-Some.is) is.2 in
    rw (p.1, p.2) (c.in_err-versions.ensures.told honest m.0
    (subst (λ (z : Rows). AreVersions z c.as_str-2.result.now m.0) (sym (c.in_ok-key.ensures.call.same first))
    (subst (λ q. AreVersions rows q m.0) (sym (c.as_str-2.ensures.value ∙ c.in_ok-name.ensures)) m.1)))
