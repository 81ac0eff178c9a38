use Rattle.records.specs.Words.{[], ◌∙◌, folder, keys}
use Rattle.kv2.specs.Words.{secret_name}
use Rattle.kv2.proofs.KeysListed.{secrets_name}
use Rattle.kv2.proofs.listing.list.Goals as goal

pub returns-clause-told : goal.returns-clause-told
returns-clause-told g c honest b told =
    let rows = (g.T.RecordsTx.seen c.args.tx.now).rows in
    c.list_children.ensures.named honest [] (secret_name c.args.mount.now (folder c.args.path.now)) (keys b.secrets)
    (c.as_str.ensures.value ∙ c.in_ok-name.ensures) (secrets_name rows b told)
