use Rattle.broker_model.specs.Words.{Err, ap, sym, ◌∙◌, err_from_is_err_and, Waiting, get, kept_text, mapped}
use Rattle.broker_model.specs.Words.{mapped_none, none_of, handed_out}
use Rattle.broker_rows.specs.Words.{represents_dropped, represents_waiting, still_represented}
use Rattle.broker_rows.specs.declared.answered.Answered.TheVariants.{Kept}
use Rattle.system_operations.proofs.ResponseAnswers.{acts_on_found, acts_on_none}
use Rattle.system_operations.proofs.responses.unwrap.Goals as goal

pub returns-in_err-text-clause-told : goal.returns-in_err-text-clause-told
returns-in_err-text-clause-told g c who x honest b starts fresh =
    let old = (g.T.RecordsTx.seen c.args.tx.now).rows in
    let p = err_from_is_err_and c.from_residual.result c.from_residual.ensures.1 in
    rw (p.1 ∙ ap Err p.2) (c.in_err-text.ensures.wants honest b (represents_waiting b old starts.represents))

pub returns-in_default-clause-told : goal.returns-in_default-clause-told
returns-in_default-clause-told g c who x honest b starts fresh =
    let seen = g.T.RecordsTx.seen in
    let old = (seen c.args.tx.now).rows in
    let new = (seen c.take.new.tx).rows in
    let t = c.args.token.now in
    let st = starts.represents in
    let there = represents_waiting b old st in
    let none = mapped_none (λ (w : Waiting). w.reply) (get b.waiting t)
    (sym (c.in_ok-text.ensures.taken honest b there) ∙ none_of _ c.in_default.not-Some) in
    acts_on_none b who new t (handed_out b) none
    (still_represented b old new (c.in_ok-text.ensures.unknown honest b there none).1 st)

pub returns-clause-told : goal.returns-clause-told
returns-clause-told g c who x honest b starts fresh =
    let seen = g.T.RecordsTx.seen in
    let old = (seen c.args.tx.now).rows in
    let new = (seen c.take.new.tx).rows in
    let t = c.args.token.now in
    let st = starts.represents in
    let there = represents_waiting b old st in
    let w = mapped (λ (w : Waiting). w.reply) (get b.waiting t) c.in-Some.text
    (sym (c.in_ok-text.ensures.taken honest b there) ∙ c.in-Some.is) in
    acts_on_found b who new t (handed_out b) w.0 (Kept c.in-Some.text) w.1 (
      ap kept_text w.2,
      represents_dropped b t old new st (c.in_ok-text.ensures.told honest b there)
          (c.in_ok-text.ensures.call.others honest),
    )
