use Rattle.records.specs.Words.{sym, subst, ◌∙◌, option_map, ⊤, get, Ends, key_entry, table_of}
use Rattle.kv2.specs.Words.{HasKey, secret_name}
use Rattle.kv2.specs.SecretRows as rows
use Rattle.kv2.proofs.Digits.{KeyLaws}
use Rattle.kv2.proofs.SecretsTold.{has_key, has_mount}
use Rattle.kv2.proofs.WriteCalls.{IsWritten, write_told}
use Rattle.kv2.proofs.writing.write.Goals as goal

pub returns-clause-rows : goal.returns-clause-rows
returns-clause-rows g c honest m k has_mount has_key =
    let seen = g.T.RecordsTx.seen in
    let old = table_of (seen c.args.tx.now).rows in
    let new = table_of (seen c.write_named.new.tx).rows in
    let object = c.args.version.object.now in
    let at = c.as_str.ensures.value ∙ c.in_ok-name.ensures in
    subst (λ q. Ends (IsWritten new) ⊤ c.write_named.result (rows.write old m k q c.args.now c.args.version.cas object))
    at
    (subst (λ n. Ends (IsWritten new) ⊤ c.write_named.result
    (rows.write old m k c.as_str.result.now n c.args.version.cas object)) c.seconds-now.ensures.value
    (c.write_named.ensures.rows honest m k has_mount (λ there. subst (λ q. HasKey old q k) (sym at) (has_key there))))

pub returns-clause-told : goal.returns-clause-told
returns-clause-told g c honest forms b sound mounts told tell_mounts at is_path =
    let seen = g.T.RecordsTx.seen in
    let old = table_of (seen c.args.tx.now).rows in
    let new = table_of (seen c.write_named.new.tx).rows in
    let mount = c.args.mount.now in
    let path = c.args.path.now in
    let object = c.args.version.object.now in
    let cas = c.args.version.cas in
    let name = secret_name mount path in
    let k = option_map key_entry (get b.secrets name) in
    let laws : KeyLaws = record {
      told = c.versions_have_keys.ensures.told;
      exact = c.versions_have_keys.ensures.exact;
      order = c.versions_have_keys.ensures.order;
      split = c.versions_have_keys.ensures.split;
    } in
    write_told forms b sound mounts old new told laws mount path object cas is_path c.write_named.result
    (subst (λ n. Ends (IsWritten new) ⊤ c.write_named.result (rows.write old (get b.mounts mount) k name n cas object))
    at
    (returns-clause-rows g c honest (get b.mounts mount) k (has_mount b mounts old tell_mounts mount)
    (λ _. has_key forms b sound old told name)))
