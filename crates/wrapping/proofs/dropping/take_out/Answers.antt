use Rattle.std.proofs.Common.{◌≡◌, rules, Some, None, sym, ap, ◌∙◌}
use Rattle.records.specs.Words.{Waiting, get, honest_before, Table, table_of, none_of}
use Rattle.wrapping.specs.Words.{without_response}
use Rattle.wrapping.proofs.Responses.{tells_unknown, tells_dropped, dropped_keeps}
use Rattle.wrapping.proofs.dropping.take_out.Goals as goal

pub returns-in_default-clause-told : goal.returns-in_default-clause-told
returns-in_default-clause-told g c honest b r k q h =
    let t = c.args.token.now in
    let none : get b.waiting t ≡ None = sym (c.in_ok-response.ensures.told honest b r)
    ∙ none_of _ c.in_default.not-Some in
    ap (λ rows. table_of rows k q) (c.in_ok-response.ensures.call.same honest)
    ∙ tells_unknown b t (table_of (g.T.RecordsTx.seen c.args.tx.now).rows) none r.tells k q h

pub returns-clause-told : goal.returns-clause-told
returns-clause-told g c honest b r k q h =
    let seen = g.T.RecordsTx.seen in
    let mid = honest_before (seen c.look.new.tx) (seen c.remove.new.tx) _ c.in_ok-remove.ensures.call.goes_on honest in
    let t = c.args.token.now in
    let w = c.in-Some.response in
    let here : get b.waiting t ≡ Some w = sym (c.in_ok-response.ensures.told mid b r) ∙ c.in-Some.is in
    let same = ap table_of (c.in_ok-response.ensures.call.same mid) in
    let accessor : c.as_str.result.now ≡ w.accessor = c.as_str.ensures
    ∙ ap (λ (w : Waiting). w.accessor) c.response.view_is in
    ap (λ (table : Table). table k q) (c.in_ok-remove.ensures.rows honest
    ∙ (λ i. without_response (same i) t (accessor i)))
    ∙ tells_dropped b t r.one_place w here (table_of (seen c.args.tx.now).rows) r.tells k q h

pub returns-clause-call : goal.returns-clause-call
returns-clause-call g c =
    let seen = g.T.RecordsTx.seen in
    record {
      others = λ honest k q h.
          let mid = honest_before (seen c.look.new.tx) (seen c.remove.new.tx) _
          c.in_ok-remove.ensures.call.goes_on honest in
          let t = c.args.token.now in
          let a = c.as_str.result.now in
          ap (λ (table : Table). table k q) (c.in_ok-remove.ensures.rows honest
          ∙ ap (λ rows. without_response (table_of rows) t a) (c.in_ok-response.ensures.call.same mid))
          ∙ dropped_keeps (table_of (seen c.args.tx.now).rows) t a k q h;
      faults = search rules;
      goes_on = search rules;
    }
