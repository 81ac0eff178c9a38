use Rattle.records.specs.Words.{sym, subst, Rows}
use Rattle.sqlite.specs.Files.{over_files}
use Rattle.sqlite.specs.WalFiles.{image_at}
use Rattle.records_sql.specs.Words.{IsKeptIn, kept_records}
use Rattle.database_check.proofs.FindingLemmas.{if_sound, if_unsound, of_opened}
use Rattle.database_check.proofs.checking.check_from.Goals as goal

pub returns-in-Ok-clause-sound : goal.returns-in-Ok-clause-sound
returns-in-Ok-clause-sound g c =
    let opened = kept_records over_files c.in-Ok.records in
    of_opened (λ checked. kept_records over_files checked.1) opened _ c.check_opened.ensures.mismatches
    (λ before checked. if_sound checked.0 (λ counts opens. (opened.rows, c.in-Ok.ensures.found before, opens)))
    c.check_opened.ensures.sound

pub returns-in-Ok-clause-unsound : goal.returns-in-Ok-clause-unsound
returns-in-Ok-clause-unsound g c =
    let opened = kept_records over_files c.in-Ok.records in
    of_opened (λ checked. kept_records over_files checked.1) opened _ c.check_opened.ensures.mismatches
    (λ before checked. if_unsound checked.0 (λ defect none. (opened.rows, c.in-Ok.ensures.found before, none)))
    c.check_opened.ensures.unsound

pub returns-in-Ok-clause-same : goal.returns-in-Ok-clause-same
returns-in-Ok-clause-same g c =
    let opened = kept_records over_files c.in-Ok.records in
    of_opened (λ checked. kept_records over_files checked.1) opened _ c.check_opened.ensures.mismatches
    (λ before checked same is.
    subst (λ (rows : Rows). IsKeptIn (image_at g.S.Start) rows) (sym (same is)) (c.in-Ok.ensures.found before))
    c.check_opened.ensures.same
