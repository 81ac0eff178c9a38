use Rattle.broker_model.specs.Words.{None, ap, ◌∙◌, keys_object, plain_reply, names_of, reply}
use Rattle.broker_rows.specs.Words.{policies_there, still_represented}
use Rattle.system_operations.proofs.acl_policies.list.Goals as goal

pub returns-clause-told : goal.returns-clause-told
returns-clause-told g c who honest b starts fresh =
    let seen = g.T.RecordsTx.seen in
    let old = (seen c.args.tx.now).rows in
    let new = (seen c.list.new.tx).rows in
    let request = (names_of c.args.context.now.words).request in
    let st = starts.represents in (
      c.in_ok-shown.ensures
          ∙ ap (λ o. reply (plain_reply request o) None)
          (c.in_ok-object.ensures ∙ ap keys_object (c.deref.ensures.value
          ∙ c.in_ok-names.ensures.told honest b.policies (policies_there b old st))),
      still_represented b old new (c.in_ok-names.ensures.call.same honest) st,
    )
