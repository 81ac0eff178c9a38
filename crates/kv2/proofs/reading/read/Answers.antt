use Rattle.std.proofs.Common.{◌<◌, ◌^◌, ap, sym, subst, ◌∙◌, arith, option_map}
use Rattle.records.specs.Words.{err_from_is_err_and, honest_before, goes_further, KeyEntry, table_of, IsHonest, none_of}
use Rattle.records.specs.Words.{get, key_entry}
use Rattle.kv2.specs.Words.{HasKey, HasVersion, IsReadOf, asked_number, numbered, secret_name}
use Rattle.kv2.proofs.Digits.{KeyLaws}
use Rattle.kv2.proofs.ReadCalls.{its_key, read_none, read_some}
use Rattle.kv2.proofs.reading.read.Goals as goal

pub returns-in_default-clause-told : goal.returns-in_default-clause-told
returns-in_default-clause-told g c honest forms b sound told =
    let old = table_of (g.T.RecordsTx.seen c.args.tx.now).rows in
    read_none forms b sound old told c.args.mount.now c.args.path.now c.as_str.result.now
    (c.as_str.ensures.value ∙ c.in_ok-name.ensures) c.args.number
    c.in_ok-key.field-0 (λ k has. c.in_ok-key.ensures.found honest k has) (none_of _ c.in_default.not-Some)

pub returns-clause-told : goal.returns-clause-told
returns-clause-told g c honest forms b sound told =
    let seen = g.T.RecordsTx.seen in
    let first : IsHonest (seen c.find_key.new.tx) = honest_before _ _ _ c.find_version.ensures.call.goes_on honest in
    let old = table_of (seen c.args.tx.now).rows in
    let laws : KeyLaws = record {
      told = c.versions_have_keys.ensures.told;
      exact = c.versions_have_keys.ensures.exact;
      order = c.versions_have_keys.ensures.order;
      split = c.versions_have_keys.ensures.split;
    } in
    let small : c.asked_number-asked.result < 2 ^ 64 = omega arith in
    let r = read_some forms b sound old told c.args.mount.now c.args.path.now c.as_str.result.now
    (c.as_str.ensures.value ∙ c.in_ok-name.ensures) c.args.number
    laws c.in_ok-key.field-0 c.in-Some.key (λ k has. c.in_ok-key.ensures.found first k has) c.in-Some.is
    c.asked_number-asked.result
    (c.asked_number-asked.ensures ∙ ap (λ (e : KeyEntry). asked_number e.current c.args.number) c.key.view_is) small in
    let version = c.in_ok-found.ensures.found honest r.0
    (subst (λ q. HasVersion q c.as_str-2.result.now c.asked_number-asked.result r.0)
    (ap table_of (sym (c.in_ok-key.ensures.call.same first)))
    (subst (λ q. HasVersion old q c.asked_number-asked.result r.0)
    (c.as_str.ensures.value ∙ sym c.as_str-2.ensures.value) r.1)) in
    c.numbered.ensures.value
    ∙ (λ i. option_map (numbered (c.key.view_is i).custom_metadata c.asked_number-asked.result) (version i))
    ∙ r.2

pub returns-in_err-key-clause-wants : goal.returns-in_err-key-clause-wants
returns-in_err-key-clause-wants g c honest forms b sound told =
    let old = table_of (g.T.RecordsTx.seen c.args.tx.now).rows in
    let p = err_from_is_err_and c.from_residual-in_err-key.result c.from_residual-in_err-key.ensures.1 in
    rw (p.1, p.2) (c.in_err-key.ensures.faults honest
    (option_map key_entry (get b.secrets (secret_name c.args.mount.now c.args.path.now)))
    (its_key forms b sound old told c.args.mount.now c.args.path.now c.as_str.result.now
    (c.as_str.ensures.value ∙ c.in_ok-name.ensures) c.args.number))

pub returns-in_err-found-clause-wants : goal.returns-in_err-found-clause-wants
returns-in_err-found-clause-wants g c honest forms b sound told =
    let seen = g.T.RecordsTx.seen in
    let first : IsHonest (seen c.find_key.new.tx) = honest_before _ _ _ c.find_version.ensures.call.goes_on honest in
    let old = table_of (seen c.args.tx.now).rows in
    let laws : KeyLaws = record {
      told = c.versions_have_keys.ensures.told;
      exact = c.versions_have_keys.ensures.exact;
      order = c.versions_have_keys.ensures.order;
      split = c.versions_have_keys.ensures.split;
    } in
    let small : c.asked_number-asked.result < 2 ^ 64 = omega arith in
    let r = read_some forms b sound old told c.args.mount.now c.args.path.now c.as_str.result.now
    (c.as_str.ensures.value ∙ c.in_ok-name.ensures) c.args.number
    laws c.in_ok-key.field-0 c.in-Some.key (λ k has. c.in_ok-key.ensures.found first k has) c.in-Some.is
    c.asked_number-asked.result
    (c.asked_number-asked.ensures ∙ ap (λ (e : KeyEntry). asked_number e.current c.args.number) c.key.view_is) small in
    let p = err_from_is_err_and c.from_residual-in_err-found.result c.from_residual-in_err-found.ensures.1 in
    rw (p.1, p.2) (c.in_err-found.ensures.faults honest r.0
    (subst (λ q. HasVersion q c.as_str-2.result.now c.asked_number-asked.result r.0)
    (ap table_of (sym (c.in_ok-key.ensures.call.same first)))
    (subst (λ q. HasVersion old q c.asked_number-asked.result r.0)
    (c.as_str.ensures.value ∙ sym c.as_str-2.ensures.value) r.1)))

pub returns-in_err-key-clause-faults : goal.returns-in_err-key-clause-faults
returns-in_err-key-clause-faults g c honest o is =
    let old = table_of (g.T.RecordsTx.seen c.args.tx.now).rows in
    let p = err_from_is_err_and c.from_residual-in_err-key.result c.from_residual-in_err-key.ensures.1 in
    rw (p.1, p.2) (c.in_err-key.ensures.faults honest is.0
    (subst (λ q. HasKey old q is.0) (sym (c.as_str.ensures.value ∙ c.in_ok-name.ensures)) is.1))

pub returns-in_err-found-clause-faults : goal.returns-in_err-found-clause-faults
returns-in_err-found-clause-faults g c honest o is =
    let seen = g.T.RecordsTx.seen in
    let old = table_of (seen c.args.tx.now).rows in
    let name = secret_name c.args.mount.now c.args.path.now in
    let first : IsHonest (seen c.find_key.new.tx) = honest_before _ _ _ c.find_version.ensures.call.goes_on honest in
    let p = err_from_is_err_and c.from_residual-in_err-found.result c.from_residual-in_err-found.ensures.1 in
    let key = c.in_ok-key.ensures.found first is.0
    (subst (λ q. HasKey old q is.0) (sym (c.as_str.ensures.value ∙ c.in_ok-name.ensures)) is.1) in
    let v = subst (λ k. IsReadOf old name c.args.number k o) (sym key ∙ c.in-Some.is) is.2 in
    let asked = c.asked_number-asked.ensures
    ∙ ap (λ (e : KeyEntry). asked_number e.current c.args.number) c.key.view_is in
    rw (p.1, p.2) (c.in_err-found.ensures.faults honest v.0
    (subst (λ q. HasVersion q c.as_str-2.result.now c.asked_number-asked.result v.0)
    (ap table_of (sym (c.in_ok-key.ensures.call.same first)))
    (subst (λ q. HasVersion old q c.asked_number-asked.result v.0)
    (sym (c.as_str-2.ensures.value ∙ c.in_ok-name.ensures)) (subst (λ n. HasVersion old name n v.0) (sym asked) v.1))))

pub returns-in_err-found-clause-call : goal.returns-in_err-found-clause-call
returns-in_err-found-clause-call g c =
    let p = err_from_is_err_and c.from_residual-in_err-found.result c.from_residual-in_err-found.ensures.1 in
    rw (p.1, p.2) (record {
      same = λ _. tt;
      faults = c.in_err-found.ensures.call.faults;
      goes_on = goes_further _ _ _ _ c.in_ok-key.ensures.call.goes_on c.in_err-found.ensures.call.goes_on;
    })
