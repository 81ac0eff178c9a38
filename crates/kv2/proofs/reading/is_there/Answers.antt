use Rattle.records.specs.Words.{◌∙◌, ap, is_some, table_of}
use Rattle.records.specs.declared.kind.Kind.TheVariants as kind
use Rattle.kv2.specs.Words.{secret_name}
use Rattle.kv2.proofs.SecretsTold.{key_there}
use Rattle.kv2.proofs.reading.is_there.Goals as goal

pub returns-clause-told : goal.returns-clause-told
returns-clause-told g c honest b told =
    let old = table_of (g.T.RecordsTx.seen c.args.tx.now).rows in
    c.is_some.ensures ∙ ap is_some (c.in_ok-get.ensures.found honest
    ∙ ap (old kind.KvKey) (c.as_str.ensures.value ∙ c.in_ok-name.ensures))
    ∙ key_there old b (secret_name c.args.mount.now c.args.path.now) told
