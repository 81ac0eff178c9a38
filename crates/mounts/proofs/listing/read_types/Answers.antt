use Rattle.std.proofs.Common.{◌≡◌, ◌<◌, sym, ap, subst, ◌∙◌, take, get_or, is_ok, Err, arith, take_all}
use Rattle.records.specs.Words.{false≢true, take_more, All-push, All-same, err_from_is_err_and, RowKey, mount_row}
use Rattle.records.specs.Words.{ok_inj}
use Rattle.mounts.specs.Words.{Row, IsMountRow, placed, type_of}
use Rattle.mounts.proofs.MountLists.{none, within_mounts, row_at, one_placed}
use Rattle.mounts.proofs.listing.read_types.Goals as goal

pub returns-in_err-mount_type-clause-faults : goal.returns-in_err-mount_type-clause-faults
returns-in_err-mount_type-clause-faults c =
    let rows = c.args.rows.now in
    let i = c.loop-entry.entry-index in
    let p = err_from_is_err_and c.from_residual.result c.from_residual.ensures.1 in
    rw (p.1 ∙ ap Err (p.2 ∙ c.in_err-mount_type.ensures.faults)) (λ mounts good eq.
    let m = get_or mounts i none in
    let e = c.entry-item.is ∙ row_at rows mounts i eq c.entry-item.result c.loop-entry-test.true in
    let row : c.entry.inside.row ≡ mount_row m.1 = (λ j. (c.entry.view_is j).1) ∙ (λ j. (e j).1) in
    false≢true (ap is_ok (c.in_err-mount_type.ensures.told m.1
    (good i none (within_mounts rows mounts i eq c.loop-entry-test.true)) row)))

pub loop-entry-preserved : goal.loop-entry-preserved
loop-entry-preserved c =
    let rows = c.args.rows.now in
    let i = c.loop-entry.entry-index in
    record {
      told = λ mounts good eq.
          let m = get_or mounts i none in
          let e = c.entry-item.is ∙ row_at rows mounts i eq c.entry-item.result c.loop-entry-test.true in
          let inside : i < _ = within_mounts rows mounts i eq c.loop-entry-test.true in
          let row : c.entry.inside.row ≡ mount_row m.1 = (λ j. (c.entry.view_is j).1) ∙ (λ j. (e j).1) in
          let key : c.as_str.result.now ≡ m.0 = c.as_str.ensures ∙ (λ j. (c.entry.view_is j).0.1) ∙ (λ j. (e j).0.1) in
          let type : c.in_ok-mount_type.mount_type ≡ type_of m.1 =
          ok_inj (c.in_ok-mount_type.ensures.told m.1 (good i none inside) row) in
          c.in_ok-put_type.ensures ∙ (λ j. placed (c.loop-entry.invariant.told mounts good eq j) (key j, type j))
          ∙ sym (one_placed mounts i inside);
      readable =
          let row = c.in_ok-mount_type.ensures.readable in
          All-same (λ (e : RowKey × Row). IsMountRow e.1) _ _
          (take_more rows i c.entry-item.result c.loop-entry-test.true)
          (All-push (λ (e : RowKey × Row). IsMountRow e.1) (take i rows) _ c.loop-entry.invariant.readable
          (subst IsMountRow ((λ j. (c.entry.view_is j).1) ∙ (λ j. (c.entry-item.is j).1)) row));
    }

pub returns-clause-readable : goal.returns-clause-readable
returns-clause-readable c =
    let rows = c.args.rows.now in
    let whole : take c.loop-entry.entry-index rows ≡ rows =
    take_all c.loop-entry.entry-index rows (omega (arith, c.loop-entry-test.false)) in
    All-same (λ (e : RowKey × Row). IsMountRow e.1) _ _ (sym whole) c.loop-entry.invariant.readable
