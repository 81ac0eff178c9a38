use Rattle.std.proofs.Common.{◌≡◌, ◌+◌, ◌∷◌, sym, ap, ◌∙◌, subst, drop}
use Rattle.records.specs.Words.{drop_more, err_from_is_err_and, AllByRecursion, decode_then, RowKey}
use Rattle.token_tree.specs.Words.{Row, IsAccessorRow, with_accessors}
use Rattle.token_tree.proofs.by_accessor.names_of.Goals as goal

pub returns-in_err-add_accessor-clause-faults : goal.returns-in_err-add_accessor-clause-faults
returns-in_err-add_accessor-clause-faults c =
    let entries = c.args.entries.now in
    let i = c.loop-entry.entry-index in
    let p = err_from_is_err_and c.from_residual.result c.from_residual.ensures.1 in
    let worse : (IsAccessorRow c.entry-item.result → ⊥) → AllByRecursion IsAccessorRow entries → ⊥ =
    λ damage all. damage (subst IsAccessorRow (sym c.entry-item.is)
    (subst (AllByRecursion IsAccessorRow) (drop_more entries i c.entry-item.result c.loop-entry-test.true)
    (c.loop-entry.invariant.left all)).0) in
    rw (p.1, p.2) (decode_then worse _ c.in_err-add_accessor.ensures.faults)

pub loop-entry-preserved : goal.loop-entry-preserved
loop-entry-preserved c =
    let entries = c.args.entries.now in
    let i = c.loop-entry.entry-index in
    let e : RowKey × Row = c.entry-item.result in
    let more : drop i entries ≡ e ∷ drop (i + 1) entries = drop_more entries i e c.loop-entry-test.true
    ∙ sym (ap (λ (x : RowKey × Row). x ∷ drop (i + 1) entries) c.entry-item.is) in
    record {
      names = ap (with_accessors (drop (i + 1) entries)) c.in_ok-add_accessor.ensures.found
          ∙ ap (λ es. with_accessors es c.loop-entry.names.items) (sym more) ∙ c.loop-entry.invariant.names;
      left = λ all. (subst (AllByRecursion IsAccessorRow) more (c.loop-entry.invariant.left all)).1;
      read = λ rest. c.loop-entry.invariant.read
          (subst (AllByRecursion IsAccessorRow) (sym more) (c.in_ok-add_accessor.ensures.readable, rest));
    }
