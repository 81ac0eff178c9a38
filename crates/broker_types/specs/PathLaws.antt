-- Laws of paths.
use Rattle.std.specs.Prelude.{◌≡◌, ◌<◌, ◌-◌, ◌&&◌, ◌==◌, ◌++◌, ◌∷◌, [], ℕ, suc, List, length, cond, Bool, true, false}
use Rattle.broker_types.specs.Words.{slice_index, list_all, refl, sym, ◌∙◌, ap, arith, and_parts, false≢true}
use Rattle.broker_types.specs.Words.{is_segment, segments}

-- the parts after the first are segments as well
later_segments : (t : List ℕ) (ts : List (List ℕ)) → list_all is_segment (t ∷ ts) ≡ true → list_all is_segment ts ≡ true
later_segments t ts h = (and_parts (is_segment t) (list_all is_segment ts) h).1

-- no part after the last slash
ends_empty : (c : ℕ) (begun : List ℕ) → (c == 47) ≡ true → list_all is_segment (segments begun (c ∷ [])) ≡ false
ends_empty c begun slash =
    ap (λ (b : Bool). list_all is_segment (cond b (begun ∷ [] ∷ []) ((begun ++ c ∷ []) ∷ []))) slash
    ∙ no (is_segment begun)
  where
    no : (b : Bool) → (b && false) ≡ false
    no true = refl
    no false = refl

-- a path has no slash at its end
pub slash_not_last : (s : List ℕ) (begun : List ℕ) → 0 < length s → list_all is_segment (segments begun s) ≡ true
    → (slice_index s (length s - 1) == 47) ≡ false
slash_not_last [] begun some h = absurd (omega arith)
slash_not_last (c ∷ []) begun some h = by (c == 47) refl
  where
    by : (b : Bool) → (c == 47) ≡ b → (c == 47) ≡ false
    by false e = e
    by true e = absurd (false≢true (sym (ends_empty c begun e) ∙ h))
slash_not_last (c ∷ d ∷ ds) begun some h =
    let here : length (c ∷ d ∷ ds) - 1 ≡ suc (length ds) = omega arith in
    let next : length (d ∷ ds) - 1 ≡ length ds = omega arith in
    ap (λ (k : ℕ). slice_index (c ∷ d ∷ ds) k == 47) here ∙ ap (λ (k : ℕ). slice_index (d ∷ ds) k == 47) (sym next)
    ∙ by (c == 47) (slash_not_last (d ∷ ds) [] (omega arith))
    (slash_not_last (d ∷ ds) (begun ++ c ∷ []) (omega arith)) h
  where
    by : (b : Bool)
        → (list_all is_segment (segments [] (d ∷ ds)) ≡ true
        → (slice_index (d ∷ ds) (length (d ∷ ds) - 1) == 47) ≡ false)
        → (list_all is_segment (segments (begun ++ c ∷ []) (d ∷ ds)) ≡ true
        → (slice_index (d ∷ ds) (length (d ∷ ds) - 1) == 47) ≡ false)
        → list_all is_segment (cond b (begun ∷ segments [] (d ∷ ds)) (segments (begun ++ c ∷ []) (d ∷ ds))) ≡ true
        → (slice_index (d ∷ ds) (length (d ∷ ds) - 1) == 47) ≡ false
    by true at_slash at_other h = at_slash (later_segments begun (segments [] (d ∷ ds)) h)
    by false at_slash at_other h = at_other h
