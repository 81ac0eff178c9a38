use Rattle.std.proofs.Common.{false}
use Rattle.records.specs.Words.{honest_before, IsHonest}
use Rattle.database_transfer.proofs.MadeRows.{made_if_ok, not_whole}
use Rattle.database_transfer.proofs.importing.make_sound.Goals as goal

pub returns-in-Whole-clause-made : goal.returns-in-Whole-clause-made
returns-in-Whole-clause-made g c honest =
    let seen = g.T.RecordsTx.seen in
    let up = seen c.upgrade_keys.new.tx in
    let now = seen c.refuse_unsound.new.tx in
    let early : IsHonest up = honest_before up now _ c.refuse_unsound.ensures.call.goes_on honest in
    made_if_ok c.args.how (seen c.args.tx.now).rows up now c.refuse_unsound.result
    (c.in_ok-upgrade_keys.ensures.rows early) honest c.refuse_unsound.ensures.call
    (c.refuse_unsound.ensures.sound honest)

pub returns-in_ok-salvage-in-Salvaged-clause-made : goal.returns-in_ok-salvage-in-Salvaged-clause-made
returns-in_ok-salvage-in-Salvaged-clause-made g c honest =
    let seen = g.T.RecordsTx.seen in
    let up = seen c.upgrade_keys.new.tx in
    let now = seen c.salvage.new.tx in
    let did = c.in_ok-salvage-in-Salvaged.ensures in
    let early : IsHonest up = honest_before up now false did.call.goes_on honest in
    record {
      opened = up.rows;
      upgraded = c.in_ok-upgrade_keys.ensures.rows early;
      made = did.rows honest;
      few = λ whole. absurd (not_whole c.args.how c.in-Salvaged.moment whole c.in-Salvaged.is);
      sound = did.sound honest;
    }
