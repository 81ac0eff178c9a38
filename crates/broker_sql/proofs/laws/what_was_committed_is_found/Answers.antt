use Rattle.std.proofs.Common.{◌&&◌, Bool, true, false, IsTrue, refl, ap, ◌∙◌}
use Rattle.records_sql.specs.Words.{rows_of}
use Rattle.broker_sql.proofs.laws.what_was_committed_is_found.Goals as goal

second : (b c : Bool) → IsTrue (b && c) → IsTrue c
second true c h = h
second false c h = absurd (let e = h in cc)

pub returns : goal.returns
returns g c s is_open =
    let laws = g.met.S.Store in
    let store = s.records.conn.store in
    let view = g.S.Store.view store in
    let up = second view.is_clean view.is_open is_open in
    record {
      found = (view.committed, laws.stays store up, refl);
      only = λ rows may. may.2 ∙ ap rows_of (laws.settled store may.0 up may.1);
    }
