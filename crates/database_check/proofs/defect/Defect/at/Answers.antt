use Rattle.std.proofs.Common.{refl, subst}
use Rattle.records.specs.Words.{Text}
use Rattle.database_check.specs.Naming.{IsName}
use Rattle.database_check.proofs.defect.Defect.at.Goals as goal

pub returns-clause-tells : goal.returns-clause-tells
returns-clause-tells g c honest numbered =
    let rows = (g.T.RecordsTx.seen c.args.tx.now).rows in
    record {
      of_kind = refl;
      of_rule = refl;
      place = numbered;
      name_of = subst (λ (key : Text). IsName rows c.args.trouble.now.kind key c.in_ok-name.name) c.as_str.ensures
          (c.in_ok-name.ensures.named honest);
    }
