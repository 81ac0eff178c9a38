use Rattle.std.proofs.Common.{◌∙◌}
use Rattle.broker_model.specs.Words.{honest_before, table_of}
use Rattle.records.specs.Words.{one_table}
use Rattle.maintenance.proofs.database.open_and_perform.Goals as goal

pub returns-clause-told : goal.returns-clause-told
returns-clause-told g c honest opened b also st =
    let seen = g.T.RecordsTx.seen in
    let mid = honest_before (seen c.upgrade_keys.new.tx) (seen c.perform.new.tx) _ c.perform.ensures.call.goes_on
    honest in
    let up = c.in_ok-upgrade_keys.ensures.rows mid in
    c.perform.ensures.told honest b (record {
      rows = one_table (table_of (seen c.args.tx.now).rows) (table_of (seen c.upgrade_keys.new.tx).rows)
          (table_of opened) up also
          ∙ st.rows;
      sound = st.sound;
    })
