use Rattle.records.specs.Words.{[], ap, ◌∙◌, IfOk-weaker, folder, children, keys_under}
use Rattle.records.specs.declared.kind.Kind.TheVariants as kind
use Rattle.cubbyhole.specs.Words.{paths, object_key}
use Rattle.cubbyhole.proofs.ObjectsListed.{key_joined, paths_name}
use Rattle.cubbyhole.proofs.reading.list.Goals as goal

pub returns-clause-found : goal.returns-clause-found
returns-clause-found g c honest =
    let rows = (g.T.RecordsTx.seen c.args.tx.now).rows in
    IfOk-weaker c.list_children.result _ _
    (λ names e. e ∙ ap (λ p. children p (keys_under rows kind.Cubby p)) (c.as_str.ensures.value ∙ c.in_ok-key.ensures))
    (c.list_children.ensures.set honest)

pub returns-clause-told : goal.returns-clause-told
returns-clause-told g c honest b told len =
    let rows = (g.T.RecordsTx.seen c.args.tx.now).rows in
    let t = c.args.token.now in
    let path = c.args.path.now in
    c.list_children.ensures.named honest (object_key t []) (folder path) (paths b t)
    (c.as_str.ensures.value ∙ c.in_ok-key.ensures ∙ key_joined t (folder path)) (paths_name rows b t told len)
