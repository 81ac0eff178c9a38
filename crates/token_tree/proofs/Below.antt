-- What a walk adds is below what it began with, whatever that is.
use Rattle.std.proofs.Common.{◌≡◌, ◌<◌, ◌&&◌, ◌++◌, ℕ, List, [], true, not, length, get_or, filter, Some, All, sym, ◌∙◌}
use Rattle.records.specs.Words.{get, ap, append_assoc, and_parts, append-nil, All-append, All-filter, All-nil, Text}
use Rattle.records.specs.Words.{same, passing_each, RowKey, is_of_kind, same_kind, Rows}
use Rattle.records.specs.declared.kind.Kind.TheVariants as kind
use Rattle.token_tree.specs.Words.{Row, of_owner, Start, children, Descends}
use Rattle.token_tree.proofs.TokenMap.{token_each}
use Rattle.token_tree.proofs.Walks.{to_one}

-- the row of a token, which is a child of t
abbrev IsChild : Rows → Text → RowKey × Row → Type 0
IsChild rows t e =
    (e.0.0 ≡ kind.Token) × (get rows e.0 ≡ Some e.1) × (of_owner (λ owner. same owner t) e.1.owner ≡ true)

child_each : (rows : Rows) (t : Text) → All (IsChild rows t) (children rows t)
child_each rows t k c within =
    let is_child = λ (e : RowKey × Row). is_of_kind kind.Token e.0 && of_owner (λ owner. same owner t) e.1.owner in
    let row = passing_each rows is_child k c within in
    let child = and_parts (is_of_kind kind.Token (get_or (children rows t) k c).0) _ row.1 in
    (same_kind _ kind.Token child.0, row.0, child.1)

pub descends_first : (rows : Rows) (first : List (RowKey × Row)) → Descends rows first first
descends_first rows first = record {
  below = [];
  is = sym (append-nil first);
  there = All-nil (λ e. (e.0.0 ≡ kind.Token) × (get rows e.0 ≡ Some e.1));
  least = λ p holds closed. holds;
}

-- with the children of one of the list, but for those that end by themselves
pub descends_further : (s : Start) (rows : Rows) (first es : List (RowKey × Row)) (n : ℕ) (d : RowKey × Row)
    → n < length es
    → Descends rows first es
    → Descends rows first (es ++ filter (λ e. not (s e)) (children rows (get_or es n d).0.1))
descends_further s rows first es n d within down =
    let t = (get_or es n d).0.1 in
    let found = filter (λ e. not (s e)) (children rows t) in
    let each = All-filter (λ e. not (s e)) (IsChild rows t) (children rows t) (child_each rows t) in
    record {
      below = down.below ++ found;
      is = ap (λ l. l ++ found) down.is ∙ append_assoc first down.below found;
      there = All-append (λ e. (e.0.0 ≡ kind.Token) × (get rows e.0 ≡ Some e.1)) down.below found down.there
          (λ k c below. ((each k c below).0, (each k c below).1));
      least = λ p holds closed. All-append (λ e. p e.0.1 ≡ true) es found (down.least p holds closed) (λ k c below.
          let e = each k c below in
          let at : get rows (kind.Token, (get_or found k c).0.1) ≡ Some (get_or found k c).1 =
          (λ i. get rows (sym e.0 i, (get_or found k c).0.1)) ∙ e.1 in
          token_each rows (λ e. of_owner p e.1.owner ≡ true
          → p e.0.1 ≡ true) (get_or found k c).0.1 (get_or found k c).1
          at closed (to_one p t (get_or found k c).1.owner e.2 (down.least p holds closed n d within)));
    }
