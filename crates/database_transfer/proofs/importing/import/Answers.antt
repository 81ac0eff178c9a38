use Rattle.std.proofs.Common.{Result, ℕ, IfOk, subst}
use Rattle.records.specs.Words.{IfOk-weaker, honest_before, IsHonest}
use Rattle.transfer.specs.Files.{IsFileOf}
use Rattle.transfer.specs.declared.refusal.Refusal.{Refusal}
use Rattle.database_transfer.proofs.MadeRows.{imported_of}
use Rattle.database_transfer.proofs.importing.import.Goals as goal

pub returns-clause-imported : goal.returns-clause-imported
returns-clause-imported g c honest none text is =
    let seen = g.T.RecordsTx.seen in
    let mid = seen c.read_rows.new.tx in
    let now = seen c.make_sound.new.tx in
    let early : IsHonest mid = honest_before mid now _ c.make_sound.ensures.call.goes_on honest in
    let file : IsFileOf mid.rows text =
    subst (λ (r : Result ℕ Refusal). IfOk r (λ count. IsFileOf mid.rows text)) c.in_default.is
    (c.in_ok-refusal.ensures.read early none text is) in
    IfOk-weaker c.make_sound.result _ _ (imported_of text c.args.how mid.rows now.rows file)
    (c.make_sound.ensures.made honest)
