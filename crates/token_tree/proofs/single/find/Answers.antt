use Rattle.std.proofs.Common.{◌≡◌, Some, sym, ap, ◌∙◌, subst, inl, inr, option_map}
use Rattle.records.specs.Words.{err_from_is_err_and, IsMemoryOrStorage, get, token_row, token_entry, mapped}
use Rattle.records.specs.Words.{mapped_none, none_of, token_in_range, entry_row}
use Rattle.token_tree.proofs.Singles.{token_row_at}
use Rattle.broker_types.specs.declared.fault.Fault.TheVariants as fault
use Rattle.token_tree.proofs.single.find.Goals as goal

pub returns-in_default-clause-told : goal.returns-in_default-clause-told
returns-in_default-clause-told g c honest forms b stands =
    let found = token_row_at b (g.T.RecordsTx.seen c.args.tx.now).rows stands.tells c.args.token.now in
    sym (ap (option_map token_entry)
    (mapped_none token_row (get b.tokens c.args.token.now)
    (sym found ∙ sym (c.in_ok-kept.ensures.found honest) ∙ none_of _ c.in_default.not-Some)))

pub returns-in_err-read_token-clause-wants : goal.returns-in_err-read_token-clause-wants
returns-in_err-read_token-clause-wants g c honest forms b stands =
    let found = token_row_at b (g.T.RecordsTx.seen c.args.tx.now).rows stands.tells c.args.token.now in
    let x = mapped token_row (get b.tokens c.args.token.now) c.in-Some.kept
    (sym found ∙ sym (c.in_ok-kept.ensures.found honest) ∙ c.in-Some.is) in
    let p = err_from_is_err_and c.from_residual-in_err-read_token.result c.from_residual-in_err-read_token.ensures.1 in
    rw (p.1, p.2) (subst IsMemoryOrStorage
    (sym (c.in_err-read_token.ensures.again (token_entry x.0)
    (token_in_range forms b.tokens stands.sound c.args.token.now x.0 x.1) x.2)) tt)

pub returns-clause-told : goal.returns-clause-told
returns-clause-told g c honest forms b stands =
    let found = token_row_at b (g.T.RecordsTx.seen c.args.tx.now).rows stands.tells c.args.token.now in
    let x = mapped token_row (get b.tokens c.args.token.now) c.in-Some.kept
    (sym found ∙ sym (c.in_ok-kept.ensures.found honest) ∙ c.in-Some.is) in
    ap Some (c.in_ok-read_token.ensures.again (token_entry x.0)
    (token_in_range forms b.tokens stands.sound c.args.token.now x.0 x.1) x.2)
    ∙ sym (ap (option_map token_entry) x.1)

pub returns-in_err-read_token-clause-call : goal.returns-in_err-read_token-clause-call
returns-in_err-read_token-clause-call g c =
    let p = err_from_is_err_and c.from_residual-in_err-read_token.result c.from_residual-in_err-read_token.ensures.1 in
    elim c.in_err-read_token.ensures.faults [
      | inl memory ↦
          rw (p.1, p.2, memory) (record { same = λ _. tt; faults = tt; goes_on = c.in_ok-kept.ensures.call.goes_on })
      | inr damaged ↦
          rw (p.1, p.2, damaged) (record {
            same = λ _. tt;
            faults = λ honest entry good at.
                let x = mapped entry_row entry c.in-Some.kept
                (sym at ∙ sym (c.in_ok-kept.ensures.found honest) ∙ c.in-Some.is) in
                let memory : c.in_err-read_token.field-0.0 ≡ fault.Memory =
                c.in_err-read_token.ensures.again x.0 (good x.0 x.1) x.2 in cc;
            goes_on = c.in_ok-kept.ensures.call.goes_on;
          })
    ]
