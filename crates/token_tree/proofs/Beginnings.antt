-- The rows of tokens that end by themselves.
use Rattle.std.proofs.Common.{◌≡◌, ◌∷◌, ℕ, List, [], true, filter, Some, None, Contains, sym, ◌∙◌, subst, arith}
use Rattle.records.specs.Words.{get, IsDistinct, All-nil, All-from_recursion, All-contains_itself, none-some, same_Some}
use Rattle.records.specs.Words.{Text, same, same_self, same_true, due_each, due_whole, due_once, AreDue, RowKey}
use Rattle.records.specs.Words.{is_of_kind, Rows}
use Rattle.records.specs.declared.kind.Kind.TheVariants as kind
use Rattle.token_tree.specs.Words.{Row, has_come, is_named, AreStarted}
use Rattle.token_tree.proofs.Found.{lone_token}

nobody : IsDistinct same []
unfolding IsDistinct
nobody = tt

-- of an unknown text there is none
pub unnamed : (rows : Rows) (t : Text) → get rows (kind.Token, t) ≡ None → AreStarted (is_named t) rows []
unnamed rows t none = record {
  tokens = record { each = All-nil (λ e. (e.0.0 ≡ kind.Token) × (get rows e.0 ≡ Some e.1)); once = nobody };
  start = All-nil (λ e. is_named t e ≡ true);
  whole = λ u row is named. absurd (none-some _ (sym none ∙ (λ i. get rows (kind.Token, same_true t u named i)) ∙ is));
}

-- and of a token there is its row
pub named_once : (rows : Rows) (t : Text) (row : Row) → get rows (kind.Token, t) ≡ Some row
    → AreStarted (is_named t) rows (((kind.Token, t), row) ∷ [])
named_once rows t row is = record {
  tokens = lone_token rows t row is;
  start = All-from_recursion (λ e. is_named t e ≡ true) (((kind.Token, t), row) ∷ []) (same_self t, tt);
  whole = λ u found at named.
      let one = same_true t u named in
      let value : row ≡ found = same_Some _ _ (sym is ∙ (λ i. get rows (kind.Token, one i)) ∙ at) in
      subst (Contains (((kind.Token, t), row) ∷ [])) (λ i. ((kind.Token, one i), value i))
      (All-contains_itself (((kind.Token, t), row) ∷ []) 0 ((kind.Token, t), row) (omega arith));
}

-- of the rows that are due, those of tokens
pub due_tokens : (rows : Rows) (now : ℕ) (due : List (RowKey × Row)) → AreDue rows now due
    → AreStarted (has_come now) rows (filter (λ e. is_of_kind kind.Token e.0) due)
due_tokens rows now due are = record {
  tokens = record {
    each = λ k d below. let e = due_each rows now due are kind.Token k d below in (e.0, e.1);
    once = due_once rows now due are kind.Token;
  };
  start = λ k d below. (due_each rows now due are kind.Token k d below).2;
  whole = due_whole rows now due are kind.Token;
}
