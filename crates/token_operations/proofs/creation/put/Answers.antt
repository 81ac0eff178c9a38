use Rattle.std.proofs.Common.{◌≡◌, false, sym, ◌∙◌, ap, subst}
use Rattle.broker_model.specs.Words.{err_from_is_err_and, IsNew, token_identifier, token_text, goes_further}
use Rattle.broker_model.specs.Words.{honest_before, Tells, of_tokens, used_row, table_of, with_row, TokenEntry}
use Rattle.broker_model.specs.Words.{create_sound, with_token, forms}
use Rattle.records.specs.declared.kind.Kind.TheVariants as kind
use Rattle.broker_rows.specs.Words.{represents_tokens}
use Rattle.token_operations.proofs.TokenTables.{represents-created}
use Rattle.token_operations.proofs.creation.put.Goals as goal

pub returns-clause-texts : goal.returns-clause-texts
returns-clause-texts g c = λ i. (
  c.in_ok-text.ensures i,
  (c.in_ok-accessor.ensures ∙ c.as_str.ensures
      ∙ ap (λ (e : TokenEntry). e.accessor) c.token.view_is) i,
)

pub returns-clause-told : goal.returns-clause-told
returns-clause-told g c honest who b x st entry can bare =
    let seen = g.T.RecordsTx.seen in
    let once =
    honest_before (seen c.use_up.new.tx) (seen c.use_up-2.new.tx) _ c.in_ok-use_up-2.ensures.call.goes_on honest in
    let made = honest_before (seen c.create.new.tx) (seen c.use_up.new.tx) _ c.in_ok-use_up.ensures.call.goes_on once in
    let rows = (seen c.args.tx.now).rows in
    let mid = (seen c.create.new.tx).rows in
    let identifier = c.args.identifier.now in
    let text : c.as_str-2.result.now ≡ token_text identifier = c.as_str-2.ensures ∙ c.in_ok-text.ensures in
    let accessor : c.as_str-3.result.now ≡ x.accessor =
    c.as_str-3.ensures ∙ c.in_ok-accessor.ensures ∙ c.as_str.ensures
    ∙ ap (λ (e : TokenEntry). e.accessor) (c.token.view_is ∙ sym entry) in
    let tells = subst (λ t. Tells of_tokens (table_of mid) (with_token b t x)) text
    (c.in_ok-create.ensures.told made forms b (represents_tokens b rows st) x entry st.sound.identifiers.all_used
    (subst (λ t. IsNew b (token_identifier t)) (sym text) can.token_is_new) can.accessor_is_new) in
    represents-created b (token_text identifier) x rows st can mid (seen c.use_up-2.new.tx).rows bare
    (create_sound b (token_text identifier) x forms who st.sound can) tells (c.in_ok-create.ensures.call.others made)
    (c.in_ok-use_up-2.ensures.rows honest
    ∙ (λ i. with_row (c.in_ok-use_up.ensures.rows once i) kind.Used identifier used_row)
    ∙ (λ i. with_row (with_row (table_of mid) kind.Used (accessor i) used_row) kind.Used identifier used_row))

pub returns-clause-call : goal.returns-clause-call
returns-clause-call g c =
    let seen = g.T.RecordsTx.seen in
    record {
      faults = tt;
      goes_on = goes_further (seen c.args.tx.now) (seen c.use_up.new.tx) (seen c.use_up-2.new.tx) false
          (goes_further (seen c.args.tx.now) (seen c.create.new.tx) (seen c.use_up.new.tx) false
          c.in_ok-create.ensures.call.goes_on c.in_ok-use_up.ensures.call.goes_on)
          c.in_ok-use_up-2.ensures.call.goes_on;
    }

pub returns-in_err-use_up-2-clause-call : goal.returns-in_err-use_up-2-clause-call
returns-in_err-use_up-2-clause-call g c =
    let p = err_from_is_err_and c.from_residual-in_err-use_up-2.result
    c.from_residual-in_err-use_up-2.ensures.1 in
    rw (p.1, p.2) (record {
      faults = c.in_err-use_up-2.ensures.call.faults;
      goes_on = goes_further _ _ _ _
          (goes_further _ _ _ _ c.in_ok-create.ensures.call.goes_on c.in_ok-use_up.ensures.call.goes_on)
          c.in_err-use_up-2.ensures.call.goes_on;
    })
