-- What a search among forms finds.
use Rattle.std.proofs.Common.{◌≡◌, ◌≤◌, ◌∷◌, ℕ, List, [], length, Bool, true, false, not, Option, Some, None, refl, sym}
use Rattle.records.specs.Words.{◌∙◌, ap, zero-le, suc-le-suc, false≢true, not_from_true, none-some, Text, eqb_self}
use Rattle.records.specs.Words.{slash, lacks}
use Rattle.matchit.specs.Seek.{or_else, has_slash}
use Rattle.mounts.specs.Words.{Ending, nothing, segment, segments}
use Rattle.mounts.proofs.FormSearch.{fits_form, is_nothing, is_segment, is_segments, FormOf, Has, after, keys_at}
use Rattle.mounts.proofs.FormSearch.{first_of_keys, segment_key, search, after_has, after_was, Ends, ends_is, ends_none}
use Rattle.mounts.proofs.FormSearch.{fits_cons, cons_fits, slash_or_not}

-- the key is that of a form that the path has, and no such form has a longer text
pub record Found {K : Type 0} (es : List (FormOf K)) (path : Text) (k : K) : Type 0 where
  pub literal : Text
  pub ending : Ending
  pub has : Has literal ending k es
  pub form : fits_form literal ending path ≡ true
  pub longest : (l : Text) (g : Ending) (j : K) → Has l g j es → fits_form l g path ≡ true → length l ≤ length literal

-- ---- what has no text

at_nothing : (g : Ending) → is_nothing g ≡ true → fits_form [] g [] ≡ true
at_nothing nothing h = refl
at_nothing segment h = absurd (false≢true h)
at_nothing segments h = absurd (false≢true h)

nothing_at : (g : Ending) → fits_form [] g [] ≡ true → is_nothing g ≡ true
nothing_at nothing h = refl
nothing_at segment h = absurd (false≢true h)
nothing_at segments h = absurd (false≢true h)

at_segment : (b : ℕ) (path : Text) (g : Ending) → has_slash (b ∷ path) ≡ false → is_segment g ≡ true
    → fits_form [] g (b ∷ path) ≡ true
at_segment b path nothing none h = absurd (false≢true h)
at_segment b path segment none h = lacking (lacks slash (b ∷ path)) (sym (slash_or_not (b ∷ path)) ∙ none)
  where
    lacking : (v : Bool) → not v ≡ false → v ≡ true
    lacking true e = refl
    lacking false e = absurd (false≢true (sym e))
at_segment b path segments none h = absurd (false≢true h)

at_segments : (b : ℕ) (path : Text) (g : Ending) → is_segments g ≡ true → fits_form [] g (b ∷ path) ≡ true
at_segments b path nothing h = absurd (false≢true h)
at_segments b path segment h = absurd (false≢true h)
at_segments b path segments h = refl

module _ {K : Type 0} where
  -- nothing of three, one after another
  nothing_of : (o p : Option K) → or_else o p ≡ None → (o ≡ None) × (p ≡ None)
  nothing_of None p h = (refl, h)
  nothing_of (Some k) p h = absurd (none-some k (sym h))

  -- if the search finds none, the path has none of the forms
  pub found_none : (es : List (FormOf K)) (path : Text) → search es path ≡ None → (l : Text) (g : Ending) (k : K)
      → Has l g k es
      → fits_form l g path ≡ true → ⊥
  found_none es [] h [] g k has form = ends_none is_nothing es g k has (nothing_at g form) h
  found_none es [] h (x ∷ l) g k has form = false≢true form
  found_none es (b ∷ path) h (x ∷ l) g k has form =
      let parts = fits_cons x b l g path form in
      found_none (after b es) path (nothing_of _ _ h).0 l g k (after_has b x l g k es parts.0 has) parts.1
  found_none es (b ∷ path) h [] nothing k has form = false≢true form
  found_none es (b ∷ path) h [] segment k has form =
      let none : has_slash (b ∷ path) ≡ false = slash_or_not (b ∷ path) ∙ not_from_true _ form in
      ends_none is_segment es segment k has refl
      (sym (ap (λ v. segment_key v (keys_at is_segment es)) none)
      ∙ (nothing_of (segment_key (has_slash (b ∷ path)) (keys_at is_segment es)) _
      (nothing_of (search (after b es) path) _ h).1).0)
  found_none es (b ∷ path) h [] segments k has form =
      ends_none is_segments es segments k has refl
      (nothing_of (segment_key (has_slash (b ∷ path)) (keys_at is_segment es)) _
      (nothing_of (search (after b es) path) _ h).1).1

  -- an empty text, where no form goes on with the path's first byte
  shortest : (es : List (FormOf K)) (b : ℕ) (path : Text) (k : K) (g : Ending) → search (after b es) path ≡ None
      → Has [] g k es
      → fits_form [] g (b ∷ path) ≡ true → Found es (b ∷ path) k
  shortest es b path k g none has form = record { literal = []; ending = g; has = has; form = form; longest = longest }
    where
      longest : (l : Text) (h : Ending) (j : K) → Has l h j es → fits_form l h (b ∷ path) ≡ true → length l ≤ 0
      longest [] h j here is = zero-le
      longest (x ∷ l) h j here is =
          let parts = fits_cons x b l h path is in
          absurd (found_none (after b es) path none l h j (after_has b x l h j es parts.0 here) parts.1)

  -- what is found has a form of the path, with the longest text
  pub found_is : (es : List (FormOf K)) (path : Text) (k : K) → search es path ≡ Some k → Found es path k
  found_is es [] k h =
      let r = ends_is is_nothing es k h in
      record { literal = []; ending = r.ending; has = r.has; form = at_nothing r.ending r.passes; longest = longest }
    where
      longest : (l : Text) (g : Ending) (j : K) → Has l g j es → fits_form l g [] ≡ true → length l ≤ 0
      longest [] g j has is = zero-le
      longest (x ∷ l) g j has is = absurd (false≢true is)
  found_is es (b ∷ path) k h =
      elim (search (after b es) path) as (λ o. search (after b es) path ≡ o
      → or_else o (or_else (segment_key (has_slash (b ∷ path)) (keys_at is_segment es))
      (first_of_keys (keys_at is_segments es))) ≡ Some k
      → Found es (b ∷ path) k) [
        | Some j ↦ λ is e. goes_on (found_is (after b es) path k (is ∙ e))
        | None ↦ λ none e. ends none e
      ] refl h
    where
      goes_on : Found (after b es) path k → Found es (b ∷ path) k
      goes_on r =
          record {
            literal = b ∷ r.literal;
            ending = r.ending;
            has = after_was b r.literal r.ending k es r.has;
            form = cons_fits b r.literal r.ending path (eqb_self b) r.form;
            longest = longest;
          }
        where
          longest : (l : Text) (g : Ending) (j : K) → Has l g j es → fits_form l g (b ∷ path) ≡ true
              → length l ≤ length (b ∷ r.literal)
          longest [] g j has is = zero-le
          longest (x ∷ l) g j has is =
              let parts = fits_cons x b l g path is in
              suc-le-suc (r.longest l g j (after_has b x l g j es parts.0 has) parts.1)

      any : search (after b es) path ≡ None → Ends is_segments es k → Found es (b ∷ path) k
      any none r = shortest es b path k r.ending none r.has (at_segments b path r.ending r.passes)

      ends : search (after b es) path ≡ None
          → or_else (segment_key (has_slash (b ∷ path)) (keys_at is_segment es))
          (first_of_keys (keys_at is_segments es)) ≡ Some k
          → Found es (b ∷ path) k
      ends none e =
          elim (has_slash (b ∷ path)) as (λ v. has_slash (b ∷ path) ≡ v
          → or_else (segment_key v (keys_at is_segment es)) (first_of_keys (keys_at is_segments es)) ≡ Some k
          → Found es (b ∷ path) k) [
            | true ↦ λ _ z. any none (ends_is is_segments es k z)
            | false ↦ λ lacking z.
                elim (first_of_keys (keys_at is_segment es)) as (λ o. first_of_keys (keys_at is_segment es) ≡ o
                → or_else o (first_of_keys (keys_at is_segments es)) ≡ Some k → Found es (b ∷ path) k) [
                  | None ↦ λ _ y. any none (ends_is is_segments es k y)
                  | Some j ↦ λ is y.
                      let r = ends_is is_segment es k (is ∙ y) in
                      shortest es b path k r.ending none r.has (at_segment b path r.ending lacking r.passes)
                ] refl z
          ] refl e
