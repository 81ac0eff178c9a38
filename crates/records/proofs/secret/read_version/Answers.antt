use Rattle.records.specs.Words.{refl, sym, ◌∙◌, eqb-true, false≢true, nil_from_length, err_from_is_err_and}
use Rattle.records.specs.Words.{VersionFields, HasNone, version_converts, secret_in}
use Rattle.records.proofs.RowReads.{something_left, reads_record, reads_no_record, narrow_read, narrow_refused}
use Rattle.records.proofs.RowReads.{narrow_none}
use Rattle.records.proofs.secret.read_version.Goals.{else-is_destroyed-via-then-is_destroyed+else-not-is_empty}
use Rattle.records.proofs.secret.read_version.Goals.{else-is_destroyed-via-else-is_destroyed}
use Rattle.records.proofs.secret.read_version.Goals as goal

pub returns-in_err-created : goal.returns-in_err-created
returns-in_err-created c =
    let p = err_from_is_err_and c.from_residual.result c.from_residual.ensures.1 in
    rw p.1 (reads_no_record version_converts c.args.kept.now p.0 _ p.2 (narrow_none HasNone _ c.in_err-created.ensures))

pub returns-then-not-is_empty : goal.returns-then-not-is_empty
returns-then-not-is_empty c =
    let read = c.in_ok-created in
    let x : VersionFields = (((read.created, read.deleted), read.is_destroyed), read.object) in
    let some = something_left c.object.inside.text.now c.is_empty.result c.is_empty.ensures c.if-not-is_empty.true in
    reads_no_record version_converts c.args.kept.now _ _ refl
    (narrow_refused HasNone x (λ h. some (c.object.view_is ∙ h c.if-is_destroyed.true)) read.ensures)

pub returns : goal.returns
returns c =
    let read = c.in_ok-created in
    let x : VersionFields = (((read.created, read.deleted), read.is_destroyed), read.object) in
    let none : HasNone x =
    elim c.else-is_destroyed.branch [
      | else-is_destroyed-via-then-is_destroyed+else-not-is_empty w ↦ λ e.
          sym c.object.view_is ∙ nil_from_length c.object.inside.text.now
          (eqb-true _ 0 (sym w.is_empty.ensures ∙ w.if-not-is_empty.false))
      | else-is_destroyed-via-else-is_destroyed w ↦ λ e. absurd (false≢true (sym w.if-is_destroyed.false ∙ e))
    ] in
    reads_record version_converts c.args.kept.now x _
    (λ i. record {
      created = read.created;
      deleted = read.deleted;
      secret = (c.secret_of-secret.ensures
          ∙ (λ j. secret_in read.is_destroyed (c.object.view_is j))) i;
    })
    (narrow_read HasNone x none read.ensures)
