use Rattle.records.specs.Words.{◌∙◌, ap, is_some, table}
use Rattle.records.specs.declared.kind.Kind.TheVariants as kind
use Rattle.cubbyhole.proofs.ObjectsTold.{object_there}
use Rattle.cubbyhole.proofs.reading.is_there.Goals as goal

pub returns-clause-told : goal.returns-clause-told
returns-clause-told g c honest b told len =
    let old = table (g.T.RecordsTx.seen c.args.tx.now) in
    c.is_some.ensures ∙ ap is_some (c.in_ok-get.ensures.found honest
    ∙ ap (old kind.Cubby) (c.as_str.ensures.value ∙ c.in_ok-place.ensures))
    ∙ object_there old b c.args.token.now c.args.path.now told len
