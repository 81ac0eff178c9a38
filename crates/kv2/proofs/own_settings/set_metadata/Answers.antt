use Rattle.records.specs.Words.{ap, sym, subst, ◌∙◌, option_map, unwrap_or, rules, on_ok_weaker, err_from_is_err_and}
use Rattle.records.specs.Words.{get, Text, honest_before, goes_further, key_entry, of_secrets, Tells, key_entry_row}
use Rattle.records.specs.Words.{Table, table_of, with_row, table_of-insert, IsHonest}
use Rattle.records.specs.declared.kind.Kind.TheVariants as kind
use Rattle.kv2.specs.Words.{HasKey, KeepsOtherNames, new_entry, described_entry, with_description, secret_name}
use Rattle.kv2.specs.Words.{set_metadata}
use Rattle.kv2.proofs.Described.{described_told}
use Rattle.kv2.proofs.Others.{described_keeps}
use Rattle.kv2.proofs.SecretsTold.{has_key}
use Rattle.kv2.proofs.own_settings.set_metadata.Goals as goal

pub returns-clause-rows : goal.returns-clause-rows
returns-clause-rows g c honest k has =
    let seen = g.T.RecordsTx.seen in
    let first : IsHonest (seen c.find_key.new.tx) = honest_before _ _ _ c.put.ensures.call.goes_on honest in
    let old = table_of (seen c.args.tx.now).rows in
    let now = c.args.now in
    let given = c.args.given in
    let s = c.seconds-now.result in
    let found = c.in_ok-found.ensures.found first k
    (subst (λ (q : Text). HasKey old q k) (sym (c.as_str.ensures.value ∙ c.in_ok-name.ensures)) has) in
    let name = c.as_str-2.ensures.value ∙ c.in_ok-name.ensures in
    let row = c.in_ok-row.ensures
    ∙ ap key_entry_row (c.described-key.ensures.key
    ∙ ap (described_entry s given) (c.key_or_new.ensures.key ∙ ap (λ o. unwrap_or o (new_entry s)) found))
    ∙ ap (λ n. key_entry_row (described_entry n given (unwrap_or k (new_entry n)))) c.seconds-now.ensures.value in
    on_ok_weaker c.put.result (λ put.
    ap table_of put ∙ table_of-insert (seen c.find_key.new.tx).rows kind.KvKey c.as_str-2.result.now c.in_ok-row.row
    ∙ (λ i. with_row (table_of (c.in_ok-found.ensures.call.same first i)) kind.KvKey (name i) (row i)))
    (c.put.ensures.rows honest)

pub returns-clause-readable : goal.returns-clause-readable
returns-clause-readable g c honest =
    let seen = g.T.RecordsTx.seen in
    let first : IsHonest (seen c.find_key.new.tx) = honest_before _ _ _ c.put.ensures.call.goes_on honest in
    let old = table_of (seen c.args.tx.now).rows in
    let found = c.in_ok-found.found in
    let has = subst (λ (q : Text). HasKey old q found) (c.as_str.ensures.value ∙ c.in_ok-name.ensures)
    (c.in_ok-found.ensures.exact first) in
    on_ok_weaker c.put.result (λ put. (found, has)) (c.put.ensures.rows honest)

pub returns-clause-told : goal.returns-clause-told
returns-clause-told g c honest forms b sound told at =
    let old = table_of (g.T.RecordsTx.seen c.args.tx.now).rows in
    let mount = c.args.mount.now in
    let path = c.args.path.now in
    let given = c.args.given in
    let name = secret_name mount path in
    let k = option_map key_entry (get b.secrets name) in
    on_ok_weaker c.put.result (λ rows.
    subst (λ (t : Table). Tells of_secrets t (set_metadata b mount path given))
    (sym (rows ∙ ap (λ n. with_description old name n given k) at))
    (described_told old b told mount path given (λ es is. (c.requires es is).ascend)))
    (returns-clause-rows g c honest k (has_key forms b sound old told name))

pub returns-clause-call : goal.returns-clause-call
returns-clause-call g c =
    let seen = g.T.RecordsTx.seen in
    let old = table_of (seen c.args.tx.now).rows in
    let name = secret_name c.args.mount.now c.args.path.now in
    record {
      others = λ honest.
          let first : IsHonest (seen c.find_key.new.tx) = honest_before _ _ _ c.put.ensures.call.goes_on honest in
          let found = c.in_ok-found.found in
          let has = subst (λ (q : Text). HasKey old q found) (c.as_str.ensures.value ∙ c.in_ok-name.ensures)
          (c.in_ok-found.ensures.exact first) in
          on_ok_weaker c.put.result (λ rows.
          subst (λ (t : Table). KeepsOtherNames name old t) (sym rows)
          (described_keeps name old c.args.now c.args.given found))
          (returns-clause-rows g c honest found has);
      faults = search rules;
      goes_on = goes_further _ _ _ _ c.in_ok-found.ensures.call.goes_on c.put.ensures.call.goes_on;
    }

pub returns-in_err-found-clause-wants : goal.returns-in_err-found-clause-wants
returns-in_err-found-clause-wants g c honest forms b sound told =
    let old = table_of (g.T.RecordsTx.seen c.args.tx.now).rows in
    let name = secret_name c.args.mount.now c.args.path.now in
    let k = option_map key_entry (get b.secrets name) in
    let p = err_from_is_err_and c.from_residual-in_err-found.result c.from_residual-in_err-found.ensures.1 in
    rw (p.1, p.2) (c.in_err-found.ensures.faults honest k
    (subst (λ (q : Text). HasKey old q k) (sym (c.as_str.ensures.value ∙ c.in_ok-name.ensures))
    (has_key forms b sound old told name)))

pub returns-in_err-found-clause-faults : goal.returns-in_err-found-clause-faults
returns-in_err-found-clause-faults g c honest k has =
    let old = table_of (g.T.RecordsTx.seen c.args.tx.now).rows in
    let p = err_from_is_err_and c.from_residual-in_err-found.result c.from_residual-in_err-found.ensures.1 in
    rw (p.1, p.2) (c.in_err-found.ensures.faults honest k
    (subst (λ (q : Text). HasKey old q k) (sym (c.as_str.ensures.value ∙ c.in_ok-name.ensures)) has))
