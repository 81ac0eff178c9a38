use Rattle.records.specs.Words.{rules, None, Some, sym, ap, ◌∙◌, inl, inr, err_from_is_err_and, accessor_row, table_of}
use Rattle.records.specs.Words.{none_of}
use Rattle.wrapping.proofs.Names.{names_told, readable_accessor, unnamed}
use Rattle.wrapping.proofs.Responses.{accessor_told}
use Rattle.wrapping.proofs.dropping.find_accessor.Goals as goal

pub returns-in_default-clause-told : goal.returns-in_default-clause-told
returns-in_default-clause-told g c honest b r =
    names_told b c.args.accessor.now r.one_place (table_of (g.T.RecordsTx.seen c.args.tx.now).rows) r.tells None
    (inl (sym (c.in_ok-kept.ensures.found honest) ∙ none_of _ c.in_default.not-Some))

pub returns-in_err-holder-clause-call : goal.returns-in_err-holder-clause-call
returns-in_err-holder-clause-call g c =
    let rows = table_of (g.T.RecordsTx.seen c.args.tx.now).rows in
    let p = err_from_is_err_and c.from_residual-in_err-holder.result c.from_residual-in_err-holder.ensures.1 in
    record {
      same = search rules;
      faults = rw (p.1, p.2, c.in_err-holder.ensures.damaged) (λ honest.
          unnamed rows c.args.accessor.now c.in-Some.kept (sym (c.in_ok-kept.ensures.found honest) ∙ c.in-Some.is)
          (λ h e. let again = c.in_err-holder.ensures.again h tt e in absurd (cc)));
      goes_on = search rules;
    }

pub returns-in_err-holder-clause-wants : goal.returns-in_err-holder-clause-wants
returns-in_err-holder-clause-wants g c honest b r =
    let rows = table_of (g.T.RecordsTx.seen c.args.tx.now).rows in
    let h = readable_accessor b c.args.accessor.now c.in-Some.kept
    (sym (accessor_told b rows r.tells c.args.accessor.now) ∙ sym (c.in_ok-kept.ensures.found honest) ∙ c.in-Some.is) in
    absurd (let e = c.in_err-holder.ensures.again h.0 tt h.1 in cc)

pub returns-in-Token-clause-told : goal.returns-in-Token-clause-told
returns-in-Token-clause-told g c honest b r =
    let row = sym (c.in_ok-kept.ensures.found honest) ∙ c.in-Some.is in
    names_told b c.args.accessor.now r.one_place (table_of (g.T.RecordsTx.seen c.args.tx.now).rows) r.tells None
    (inr (
      c.in-Some.kept.owner,
      row ∙ ap Some
          (c.in_ok-holder.ensures.exact.1 ∙ ap (accessor_row c.in-Some.kept.owner) c.in-Token.is),
    ))

pub returns-in-WrappingToken-clause-told : goal.returns-in-WrappingToken-clause-told
returns-in-WrappingToken-clause-told g c honest b r =
    let row = sym (c.in_ok-kept.ensures.found honest) ∙ c.in-Some.is in
    names_told b c.args.accessor.now r.one_place (table_of (g.T.RecordsTx.seen c.args.tx.now).rows) r.tells
    (Some c.in-Some.kept.owner)
    (row ∙ ap Some (c.in_ok-holder.ensures.exact.1 ∙ ap (accessor_row c.in-Some.kept.owner) c.in-WrappingToken.is))
