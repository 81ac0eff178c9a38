use Rattle.std.proofs.Common.{◌≡◌, true, false, set, slice_index_or, sym, ap, ◌∙◌, arith}
use Rattle.std.specs.FinMap.{put}
use Rattle.std.specs.List.{insert}
use Rattle.records.specs.Words.{Text, text_cmp, rank, is_met, rank_bound, met_bound, set_put, insert_put}
use Rattle.mounts.proofs.listing.put_type.Goals as goal

pub index_mut-found-requires : goal.index_mut-found-requires
index_mut-found-requires c =
    omega (
      arith,
      met_bound text_cmp c.as_str.result.now c.deref.result.now c.in-Ok.ensures.met,
      c.in-Ok.ensures.at,
      c.deref.ensures.len,
    )

pub insert-requires : goal.insert-requires
insert-requires c = omega (
  arith,
  rank_bound text_cmp c.as_str.result.now c.deref.result.now,
  c.in-Err.ensures.gap,
  c.deref.ensures.len,
)

pub returns-in-Ok : goal.returns-in-Ok
returns-in-Ok c =
    let q : Text = c.as_str.result.now in
    let es = c.args.list.now.items in
    let x = c.index_mut-found.result.now in
    let met : is_met text_cmp q es ≡ true = rw c.deref.ensures.value at c.in-Ok.ensures.met in
    let at : c.in-Ok.i ≡ rank text_cmp q es = rw c.deref.ensures.value at c.in-Ok.ensures.at in
    let got : x ≡ slice_index_or es (rank text_cmp q es) x = rw at at c.index_mut-found.ensures.value in
    (λ j. set es (at j) ((c.found.view_is j).0, c.args.mount_type)) ∙ set_put text_cmp q c.args.mount_type es x met got
    ∙ ap (λ (name : Text). put text_cmp name c.args.mount_type es) (c.as_str.ensures ∙ c.in_ok-name.ensures)

pub returns-in_ok-insert-in-Err : goal.returns-in_ok-insert-in-Err
returns-in_ok-insert-in-Err c =
    let q : Text = c.as_str.result.now in
    let es = c.args.list.now.items in
    let met : is_met text_cmp q es ≡ false = rw c.deref.ensures.value at c.in-Err.ensures.missed in
    let at : c.in-Err.i ≡ rank text_cmp q es = rw c.deref.ensures.value at c.in-Err.ensures.gap in
    c.in_ok-insert-in-Err.ensures.items ∙ (λ j. insert es (at j) (sym c.as_str.ensures j, c.args.mount_type))
    ∙ insert_put text_cmp q c.args.mount_type es met
    ∙ ap (λ (name : Text). put text_cmp name c.args.mount_type es) (c.as_str.ensures ∙ c.in_ok-name.ensures)
