-- Chains of parents, by the owners of the rows of tokens.
use Rattle.std.proofs.Common.{◌≡◌, ◌&&◌, [], ℕ, suc, Bool, true, false, cond, Some, All, refl, sym, ◌∙◌, ap, subst, inl}
use Rattle.broker_model.specs.Words.{BTreeSet, contains, get, nat_cmp-IsAntisymmetric, list_any, nat_cmp, is_eq, inr}
use Rattle.broker_model.specs.Words.{and_parts, false≢true, tells_apart, same_Some, Text, same, same_true, id}
use Rattle.broker_model.specs.Words.{token_text, Kind, Row, passing_each, RowKey, is_of_kind, same_kind, Table}
use Rattle.broker_model.specs.Words.{table_of, Rows, rows_owned}
use Rattle.records.specs.declared.kind.Kind.TheVariants as kind
use Rattle.soundness.specs.Words.{Ends, EndsIn, EachEnds, IsAbove}

module _ (rows : Rows) (t : Text) where
  abbrev at : Table
  at = table_of rows

  -- whether an entry is a row of a token that has the owner
  abbrev pub is_owned : RowKey × Row → Bool
  is_owned e = is_of_kind kind.Token e.0 && same e.1.owner t

  -- the row at the key of such an entry has the owner
  owner_at : (e : RowKey × Row) → get rows e.0 ≡ Some e.1 → is_owned e ≡ true → (row : Row)
      → at kind.Token e.0.1 ≡ Some row → row.owner ≡ t
  owner_at e is passes row here =
      let two = and_parts (is_of_kind kind.Token e.0) (same e.1.owner t) passes in
      let of : e.0.0 ≡ kind.Token = same_kind e.0.0 kind.Token two.0 in
      let one : row ≡ e.1 = same_Some _ _ (sym here ∙ ap (λ (k : Kind). get rows (k, e.0.1)) (sym of) ∙ is) in
      ap (λ (r : Row). r.owner) one ∙ same_true e.1.owner t two.1

  -- the chain ends at a token that no token owns
  pub root_ends : t ≡ [] → All (λ e. Ends at e.0.1) (rows_owned rows kind.Token t)
  root_ends none = λ k d h.
      let e = passing_each rows is_owned k d h in
      (1, λ row here. inl (owner_at _ e.0 e.1 row here ∙ none))

  -- and it ends from each child of a token from which it ends
  pub child_ends : Ends at t → All (λ e. Ends at e.0.1) (rows_owned rows kind.Token t)
  child_ends ends = λ k d h.
      let e = passing_each rows is_owned k d h in
      (suc ends.0, λ row here. inr (subst (EndsIn ends.0 at) (sym (owner_at _ e.0 e.1 row here)) ends.1))

  -- so it does from each child of what is above
  pub children_end : IsAbove at t → All (λ e. Ends at e.0.1) (rows_owned rows kind.Token t)
  children_end above = elim above [
    | inl none ↦ root_ends none
    | inr ends ↦ child_ends ends
  ]

-- ---- words

-- no word is in an empty set
pub none_ends : (rows : Table) (s : BTreeSet ℕ) → s.keys ≡ [] → EachEnds rows s
none_ends rows s none word has =
    absurd (false≢true (sym (ap (λ ks. list_any (λ k. is_eq (nat_cmp word k)) ks) none) ∙ has))

-- one more word
pub each_ends_more : (rows : Table) (old new : BTreeSet ℕ) (word : ℕ) (token : Text)
    → ((q : ℕ) → contains nat_cmp new q ≡ cond (is_eq (nat_cmp word q)) true (contains nat_cmp old q))
    → token ≡ token_text (id word) → Ends rows token → EachEnds rows old → EachEnds rows new
each_ends_more rows old new word token more is ends each q has =
    elim (is_eq (nat_cmp word q))
    as (λ b. is_eq (nat_cmp word q) ≡ b → cond b true (contains nat_cmp old q) ≡ true → Ends rows (token_text (id q))) [
      | true ↦ λ met _. subst (Ends rows)
          (is ∙ ap (λ w. token_text (id w)) (tells_apart nat_cmp-IsAntisymmetric word q met)) ends
      | false ↦ λ _ kept. each q kept
    ] refl (sym (more q) ∙ has)
