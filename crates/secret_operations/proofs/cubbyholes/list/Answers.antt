use Rattle.broker_model.specs.Words.{arith, None, Some, Ok, refl, ap, sym, ◌∙◌, keys_object, plain_reply, names_of}
use Rattle.broker_model.specs.Words.{reply, of_cubbyholes, are_none}
use Rattle.cubbyhole.specs.Cubbyhole as cubbyhole
use Rattle.broker_rows.specs.Words.{caller_len, still_represented, tells_part}
use Rattle.secret_operations.proofs.CubbyholeAnswers.{none_by_number, acts_listed, acts_unlisted}
use Rattle.secret_operations.proofs.cubbyholes.list.Goals as goal

pub returns-then-is_empty-clause-told : goal.returns-then-is_empty-clause-told
returns-then-is_empty-clause-told g c honest b starts fresh =
    let seen = g.T.RecordsTx.seen in
    let old = (seen c.args.tx.now).rows in
    let caller = c.args.caller.now in
    let st = starts.represents in
    let names = c.in_ok-names.names in
    let told = c.in_ok-names.ensures.told honest b (tells_part of_cubbyholes b old st)
    (caller_len b old caller st (starts.here caller refl)) in
    acts_unlisted b (seen c.list.new.tx).rows (Some caller) (names_of c.args.context.now.words)
    (cubbyhole.list b caller c.args.path.now)
    (ap are_none (sym told) ∙ none_by_number names.items _ (let ok = names.ok in omega (arith, ok))
    ∙ sym c.is_empty.ensures ∙ c.if-is_empty.true)
    (still_represented b old (seen c.list.new.tx).rows (c.in_ok-names.ensures.call.same honest) st)

pub returns-clause-told : goal.returns-clause-told
returns-clause-told g c honest b starts fresh =
    let seen = g.T.RecordsTx.seen in
    let old = (seen c.args.tx.now).rows in
    let caller = c.args.caller.now in
    let st = starts.represents in
    let names = c.in_ok-names.names in
    let told = c.in_ok-names.ensures.told honest b (tells_part of_cubbyholes b old st)
    (caller_len b old caller st (starts.here caller refl)) in
    acts_listed b (seen c.list.new.tx).rows (Some caller) (names_of c.args.context.now.words)
    (cubbyhole.list b caller c.args.path.now)
    (Ok c.in_ok-shown.field-0)
    (ap are_none (sym told) ∙ none_by_number names.items _ (let ok = names.ok in omega (arith, ok))
    ∙ sym c.is_empty.ensures ∙ c.if-is_empty.false) (
      c.in_ok-shown.ensures
          ∙ ap (λ o. reply (plain_reply (names_of c.args.context.now.words).request o) None) (c.in_ok-object.ensures
          ∙ ap keys_object (c.deref.ensures.value ∙ told)),
      still_represented b old (seen c.list.new.tx).rows (c.in_ok-names.ensures.call.same honest) st,
    )
