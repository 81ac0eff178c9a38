use Rattle.std.proofs.Common.{◌≡◌, Some, sym, ap, ◌∙◌, subst}
use Rattle.records.specs.Words.{Broker, Waiting, IsNew, get, drop_waiting, honest_before, rows_of, table_of}
use Rattle.wrapping.specs.Words.{rewrap_is, TakesOut, with_response, moved, with_waiting}
use Rattle.wrapping.proofs.Responses.{dropped_represents, dropped_used}
use Rattle.wrapping.proofs.storing.rewrap.Goals as goal

pub returns-clause-rows : goal.returns-clause-rows
returns-clause-rows g c honest =
    let seen = g.T.RecordsTx.seen in
    let mid = honest_before (seen c.take_out.new.tx) (seen c.store.new.tx) _
    c.in_ok-store.ensures.call.goes_on honest in
    let w = c.in-Some.response in
    let out = subst (λ found. TakesOut c.args.token.now (table_of (seen c.args.tx.now).rows) found
    (table_of (seen c.take_out.new.tx).rows)) c.in-Some.is (c.in_ok-response.ensures.rows mid) in
    let is_moved : c.moved-moved.result ≡ moved c.args.new_accessor.now c.args.clock w =
    c.moved-moved.ensures ∙ (λ i. moved (c.in_ok-accessor.ensures i) c.args.clock w) in
    let record_is = c.as_record.ensures ∙ is_moved in
    record {
      response = Some w;
      was = out.was;
      is_moved = ap Some is_moved;
      is = c.in_ok-store.ensures.rows honest ∙ (λ i. with_response (out.is i) c.args.new_token.now (record_is i));
    }

pub returns-clause-told : goal.returns-clause-told
returns-clause-told g c honest b r all_used new_token new_accessor k q h =
    let seen = g.T.RecordsTx.seen in
    let mid = honest_before (seen c.take_out.new.tx) (seen c.store.new.tx) _
    c.in_ok-store.ensures.call.goes_on honest in
    let t = c.args.token.now in
    let u = c.args.new_token.now in
    let a = c.args.new_accessor.now in
    let w = c.in-Some.response in
    let here : get b.waiting t ≡ Some w = sym (c.in_ok-response.ensures.taken mid b r) ∙ c.in-Some.is in
    let is_moved : c.moved-moved.result ≡ moved a c.args.clock w =
    c.moved-moved.ensures ∙ (λ i. moved (c.in_ok-accessor.ensures i) c.args.clock w) in
    let record_is = c.as_record.ensures ∙ is_moved in
    let left = dropped_represents b t (table_of (seen c.args.tx.now).rows) (table_of (seen c.take_out.new.tx).rows) r
    (c.in_ok-response.ensures.told mid b r) in
    c.in_ok-store.ensures.told honest (drop_waiting b t) left (dropped_used b t all_used) new_token
    (subst (λ (x : Waiting). IsNew b x.accessor) (sym record_is) new_accessor) k q h
    ∙ ap (λ (d : Broker). rows_of d k q) (ap (with_waiting (drop_waiting b t) u) record_is
    ∙ sym (rewrap_is b t u a c.args.clock w here))
