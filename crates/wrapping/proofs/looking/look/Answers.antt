use Rattle.records.specs.Words.{rules, Some, sym, ap, ◌∙◌, err_from_is_err_and, get, mapped, mapped_none}
use Rattle.records.specs.Words.{waiting_in_range, waiting_row, table_of, none_of, ok_inj}
use Rattle.wrapping.proofs.Responses.{waiting_told}
use Rattle.wrapping.proofs.looking.look.Goals as goal

pub returns-in_default-clause-told : goal.returns-in_default-clause-told
returns-in_default-clause-told g c honest b r =
    let t = c.args.token.now in
    let row = waiting_told b (table_of (g.T.RecordsTx.seen c.args.tx.now).rows) r.tells t in
    sym (mapped_none waiting_row (get b.waiting t)
    (sym row ∙ sym (c.in_ok-kept.ensures.found honest) ∙ none_of _ c.in_default.not-Some))

pub returns-in_err-waiting-clause-wants : goal.returns-in_err-waiting-clause-wants
returns-in_err-waiting-clause-wants g c honest b r =
    let t = c.args.token.now in
    let row = waiting_told b (table_of (g.T.RecordsTx.seen c.args.tx.now).rows) r.tells t in
    let w = mapped waiting_row (get b.waiting t) c.in-Some.kept
    (sym row ∙ sym (c.in_ok-kept.ensures.found honest) ∙ c.in-Some.is) in
    absurd (let e = c.in_err-waiting.ensures.again w.0 (waiting_in_range t w.0 (r.sound.each t w.0 w.1)) w.2 in cc)

pub returns-in_err-waiting-clause-call : goal.returns-in_err-waiting-clause-call
returns-in_err-waiting-clause-call g c =
    let p = err_from_is_err_and c.from_residual-in_err-waiting.result c.from_residual-in_err-waiting.ensures.1 in
    record {
      same = search rules;
      faults = rw (p.1, p.2, c.in_err-waiting.ensures.damaged) (λ honest w at.
          let x = mapped waiting_row w c.in-Some.kept
          (sym at.row ∙ sym (c.in_ok-kept.ensures.found honest) ∙ c.in-Some.is) in
          absurd (let e = c.in_err-waiting.ensures.again x.0 (at.in_range x.0 x.1) x.2 in cc));
      goes_on = search rules;
    }

pub returns-clause-told : goal.returns-clause-told
returns-clause-told g c honest b r =
    let t = c.args.token.now in
    let row = waiting_told b (table_of (g.T.RecordsTx.seen c.args.tx.now).rows) r.tells t in
    let w = mapped waiting_row (get b.waiting t) c.in-Some.kept
    (sym row ∙ sym (c.in_ok-kept.ensures.found honest) ∙ c.in-Some.is) in
    ap Some (c.in_ok-copied.ensures
    ∙ ok_inj (c.in_ok-waiting.ensures.again w.0 (waiting_in_range t w.0 (r.sound.each t w.0 w.1)) w.2)) ∙ sym w.1
