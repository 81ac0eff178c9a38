-- Rows of tokens in a list, by their texts.
use Rattle.std.proofs.Common.{◌≡◌, ◌<◌, ◌||◌, ◌++◌, ◌∷◌, ℕ, zero, suc, List, [], Bool, true, false, length, take, Some}
use Rattle.records.specs.Words.{get_or, Contains, get, AllByRecursion, IsDistinct, refl, sym, ◌∙◌, ap, subst, arith}
use Rattle.records.specs.Words.{false≢true, or_left, or_right, or_parts, All-contains, All-from_recursion}
use Rattle.records.specs.Words.{All-contains_itself, Contains-append_left, Contains-append_right, Text, same, same_self}
use Rattle.records.specs.Words.{same_true, same_equiv, has, RowKey, Rows}
use Rattle.records.specs.declared.kind.Kind.TheVariants as kind
use Rattle.token_tree.specs.Words.{Row, texts, AreTokens}

abbrev Entry : Type 0
Entry = RowKey × Row

or_cases : (a b : Bool) (P : Type 0) → (a ≡ true → P) → (b ≡ true → P) → (a || b) ≡ true → P
or_cases true b P f g h = f refl
or_cases false b P f g h = g h

-- ---- texts

-- the text of an entry is one of the texts
pub has_texts : (es : List (RowKey × Row)) → AllByRecursion (λ e. has (texts es) e.0.1 ≡ true) es
has_texts [] = tt
has_texts (e ∷ es) = (or_left (same e.0.1 e.0.1) _ (same_self e.0.1), later es (has_texts es))
  where
    later : (fs : List (RowKey × Row)) → AllByRecursion (λ f. has (texts es) f.0.1 ≡ true) fs
        → AllByRecursion (λ f. has (texts (e ∷ es)) f.0.1 ≡ true) fs
    later [] h = tt
    later (f ∷ fs) h = (or_right (same f.0.1 e.0.1) _ h.0, later fs h.1)

pub has_text : (es : List (RowKey × Row)) (e : RowKey × Row) → Contains es e → has (texts es) e.0.1 ≡ true
has_text es e at = All-contains (λ f. has (texts es) f.0.1 ≡ true) es e
    (All-from_recursion (λ f. has (texts es) f.0.1 ≡ true) es (has_texts es)) at

-- and a text is that of an entry
pub text_of : (es : List (RowKey × Row)) (t : Text) → has (texts es) t ≡ true → (e : RowKey × Row) × Contains es e
    × (e.0.1 ≡ t)
text_of [] t h = absurd (false≢true h)
text_of (e ∷ es) t h =
    or_cases (same t e.0.1) (has (texts es) t) ((e' : RowKey × Row) × Contains (e ∷ es) e' × (e'.0.1 ≡ t))
    (λ is. (
      e,
      Contains-append_left (e ∷ []) es e (All-contains_itself (e ∷ []) 0 e (omega arith)),
      sym (same_true t e.0.1 is),
    ))
    (λ rest. let f = text_of es t rest in (f.0, Contains-append_right (e ∷ []) es f.0 f.1, f.2)) h

texts-append : (es fs : List (RowKey × Row)) → texts (es ++ fs) ≡ texts es ++ texts fs
texts-append [] fs = refl
texts-append (e ∷ es) fs = ap (λ l. e.0.1 ∷ l) (texts-append es fs)

-- ---- each text once

all_append : (P : Text → Type 0) (xs ys : List Text) → AllByRecursion P xs → AllByRecursion P ys
    → AllByRecursion P (xs ++ ys)
all_append P [] ys a b = b
all_append P (x ∷ xs) ys a b = (a.0, all_append P xs ys a.1 b)

unlike : (x : Text) (ys : List Text) → has ys x ≡ false → AllByRecursion (λ y. same x y ≡ false) ys
unlike x [] h = tt
unlike x (y ∷ ys) h = let both = or_parts (same x y) (has ys x) h in (both.0, unlike x ys both.1)

once_append : (xs ys : List Text) → IsDistinct same xs → IsDistinct same ys
    → ((t : Text) → has xs t ≡ true → has ys t ≡ true → ⊥) → IsDistinct same (xs ++ ys)
unfolding IsDistinct
once_append [] ys a b apart = b
once_append (x ∷ xs) ys a b apart = (
  all_append (λ y. same x y ≡ false) xs ys a.0 (unlike x ys (none (has ys x) refl)),
  once_append xs ys a.1 b (λ t h g. apart t (or_right (same t x) _ h) g),
)
  where
    none : (v : Bool) → has ys x ≡ v → has ys x ≡ false
    none true is = absurd (apart x (or_left (same x x) _ (same_self x)) is)
    none false is = is

-- two lists of entries with no text in both
pub once-append : (es fs : List (RowKey × Row)) → IsDistinct same (texts es) → IsDistinct same (texts fs)
    → ((t : Text) → has (texts es) t ≡ true → has (texts fs) t ≡ true → ⊥) → IsDistinct same (texts (es ++ fs))
once-append es fs a b apart = subst (IsDistinct same) (sym (texts-append es fs))
    (once_append (texts es) (texts fs) a b apart)

apart_at : (t : Text) (es : List (RowKey × Row)) (n : ℕ) (d : RowKey × Row) → n < length es
    → AllByRecursion (λ y. same t y ≡ false) (texts es) → same t (get_or es n d).0.1 ≡ false
apart_at t [] n d below h = absurd (omega (arith, below))
apart_at t (e ∷ es) zero d below h = h.0
apart_at t (e ∷ es) (suc n) d below h = apart_at t es n d (omega (arith, below)) h.1

-- no entry before another has its text
pub none_before : (es : List (RowKey × Row)) (n : ℕ) (d : RowKey × Row) → n < length es → IsDistinct same (texts es)
    → has (texts (take n es)) (get_or es n d).0.1 ≡ false
unfolding IsDistinct
none_before [] n d below once = absurd (omega (arith, below))
none_before (e ∷ es) zero d below once = refl
none_before (e ∷ es) (suc n) d below once =
    (λ i. (same_equiv.symm (get_or es n d).0.1 e.0.1 ∙ apart_at e.0.1 es n d (omega (arith, below)) once.0) i
    || has (texts (take n es)) (get_or es n d).0.1)
    ∙ none_before es n d (omega (arith, below)) once.1

-- ---- rows of tokens

module _ (rows : Rows) (es : List (RowKey × Row)) (tokens : AreTokens rows es) where
  -- an entry is that of a token
  pub entry_is : (e : RowKey × Row) → Contains es e → (e ≡ ((kind.Token, e.0.1), e.1))
      × (get rows (kind.Token, e.0.1) ≡ Some e.1)
  entry_is e at =
      let is = All-contains (λ e. (e.0.0 ≡ kind.Token) × (get rows e.0 ≡ Some e.1)) es e tokens.each at in
      ((λ i. ((is.0 i, e.0.1), e.1)), (λ i. get rows (sym is.0 i, e.0.1)) ∙ is.1)

  -- of the row at a text that they have
  pub at_text : (t : Text) (row : Row) → get rows (kind.Token, t) ≡ Some row → has (texts es) t ≡ true
      → Contains es ((kind.Token, t), row)
  at_text t row is h =
      let e = text_of es t h in
      let here = entry_is e.0 e.1 in
      let one : e.0.1 ≡ row =
      Rattle.std.proofs.lemmas.Option.same_Some _ _ (sym here.1 ∙ (λ i. get rows (kind.Token, e.2 i)) ∙ is) in
      subst (Contains es) (here.0 ∙ (λ i. ((kind.Token, e.2 i), one i))) e.1

  -- they have a row
  pub text_row : (t : Text) → has (texts es) t ≡ true → (row : Row) × (get rows (kind.Token, t) ≡ Some row)
  text_row t h =
      let e = text_of es t h in
      (e.0.1, (λ i. get rows (kind.Token, sym e.2 i)) ∙ (entry_is e.0 e.1).1)
