use Rattle.std.proofs.Common.{inl, inr, sym, ◌∙◌}
use Rattle.records.specs.Words.{false≢true}
use Rattle.records_sql.specs.Words.{kept_records}
use Rattle.broker_server.proofs.PreparedLemmas.{all_ready, new_broker}
use Rattle.broker_server.proofs.preparing.make_ready.Goals as goal

pub returns-then-checks-clause-ready : goal.returns-then-checks-clause-ready
returns-then-checks-clause-ready g c honest =
    all_ready c.args.checks c.args.moment c.args.words.now (kept_records g.S.Store c.args.records.now).rows
    (kept_records g.S.Store c.prepare_checked.new.records).rows c.prepare_checked.result
    (c.prepare_checked.ensures.prepared honest) (c.prepare_checked.ensures.sound honest)

pub returns-clause-ready : goal.returns-clause-ready
returns-clause-ready g c honest =
    let prepared = c.in_ok-prepare.ensures.prepared honest in
    record {
      prepared = prepared;
      sound = elim [
        | inl checks ↦ absurd (false≢true (sym c.if-checks.false ∙ checks))
        | inr none ↦ new_broker _ _ _ _ c.in_ok-prepare.field-0 prepared none
      ];
    }
