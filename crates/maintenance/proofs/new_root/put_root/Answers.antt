use Rattle.std.proofs.Common.{◌≡◌, refl, sym, ◌∙◌, ap, subst, None}
use Rattle.broker_model.specs.Words.{id, token_text, root_token, IsIdentifier, IsNew, token_identifier}
use Rattle.broker_model.specs.Words.{IsTokenInRange, token_entry, honest_before, Tells, of_tokens, used_row, table_of}
use Rattle.broker_model.specs.Words.{with_row, create_sound, with_token, MayBeMade, forms}
use Rattle.broker_types.specs.Names.{token_word, accessor_word}
use Rattle.records.specs.declared.kind.Kind.TheVariants as kind
use Rattle.broker_rows.specs.Words.{represents_tokens}
use Rattle.maintenance.specs.NewRoot.{root_text}
use Rattle.maintenance.proofs.Made.{represents-created}
use Rattle.maintenance.proofs.Root.{may_be_made, root_in_range}
use Rattle.maintenance.proofs.new_root.put_root.Goals as goal

pub create-requires : goal.create-requires
create-requires g c =
    let accessor : c.as_str-2.result.now ≡ c.in_ok-accessor.accessor = c.as_str-2.ensures in
    subst IsTokenInRange (sym c.in_ok-record.ensures.entry)
    (root_in_range c.args.clock c.as_str-2.result.now c.in_ok-record.ensures.within
    (subst IsIdentifier (sym accessor) c.in_ok-accessor.ensures.good))

pub returns-clause-text : goal.returns-clause-text
returns-clause-text g c =
    c.in_ok-text.ensures ∙ ap token_text (c.as_str.ensures ∙ c.in_ok-own.ensures.value ∙ ap id c.token.ensures)

pub returns-clause-told : goal.returns-clause-told
returns-clause-told g c honest b st at new =
    let seen = g.T.RecordsTx.seen in
    let words = c.args.words.now in
    let token = id (token_word words) in
    let own = id (accessor_word words) in
    let once =
    honest_before (seen c.use_up.new.tx) (seen c.use_up-2.new.tx) _ c.in_ok-use_up-2.ensures.call.goes_on honest in
    let made = honest_before (seen c.create.new.tx) (seen c.use_up.new.tx) _ c.in_ok-use_up.ensures.call.goes_on once in
    let rows = (seen c.args.tx.now).rows in
    let mid = (seen c.create.new.tx).rows in
    let x = root_token c.args.clock own in
    let is_token : c.in_ok-own.own ≡ token = c.in_ok-own.ensures.value ∙ ap id c.token.ensures in
    let is_own : c.in_ok-accessor.accessor ≡ own = c.in_ok-accessor.ensures.value ∙ ap id c.accessor.ensures in
    let text : c.as_str-3.result.now ≡ root_text words = c.as_str-3.ensures ∙ c.in_ok-text.ensures
    ∙ ap token_text (c.as_str.ensures ∙ is_token) in
    let entry : token_entry x ≡ c.in_ok-record.record =
    sym (c.in_ok-record.ensures.entry
    ∙ ap (λ a. token_entry (root_token c.args.clock a)) (c.as_str-2.ensures ∙ is_own)) in
    let can : MayBeMade forms b (root_text words) x =
    subst (λ n. MayBeMade forms b (root_text words) (root_token n own)) at
    (may_be_made b st.sound words (subst IsIdentifier is_token c.in_ok-own.ensures.good)
    (subst IsIdentifier is_own c.in_ok-accessor.ensures.good) new) in
    let tells = subst (λ t. Tells of_tokens (table_of mid) (with_token b t x)) text
    (c.in_ok-create.ensures.told made forms b (represents_tokens b rows st) x entry st.sound.identifiers.all_used
    (subst (λ t. IsNew b (token_identifier t)) (sym text) can.token_is_new) can.accessor_is_new) in
    represents-created b (root_text words) x rows st can mid (seen c.use_up-2.new.tx).rows refl
    (create_sound b (root_text words) x forms None st.sound can) tells (c.in_ok-create.ensures.call.others made)
    (c.in_ok-use_up-2.ensures.rows honest
    ∙ (λ i. with_row (c.in_ok-use_up.ensures.rows once i) kind.Used c.as_str-5.result.now used_row)
    ∙ (λ i. with_row (with_row (table_of mid) kind.Used ((c.as_str-4.ensures ∙ is_own) i) used_row) kind.Used
    ((c.as_str-5.ensures ∙ is_token) i) used_row))
