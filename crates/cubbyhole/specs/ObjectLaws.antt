-- What the key of an object's row tells.
use Rattle.std.proofs.Common.{◌≡◌, ◌+◌, ◌==◌, ◌∷◌, ◌++◌, length, take, drop, true, T, sym, ◌∙◌, ap, subst, get_or, inl}
use Rattle.records.specs.Words.{eqb→eq, inr, le_of_lt, drop-cons, cases_lt, false≢true, take-append-drop}
use Rattle.records.specs.Words.{length-take-le, get_or_past, Text, token_len, has_slash, slash}
use Rattle.cubbyhole.specs.Objects.{object_key}

-- a key with a slash in its place is that of its token and its path
pub key_parts : (q : Text) → has_slash q ≡ true → q ≡ object_key (take token_len q) (drop (token_len + 1) q)
key_parts q h =
    elim (cases_lt token_len (length q)) [
      | inl within ↦
          let at : get_or q token_len 0 ≡ slash = eqb→eq (get_or q token_len 0) slash (subst T (sym h) tt) in
          let front : drop token_len q ≡ slash ∷ drop (token_len + 1) q = drop-cons q token_len 0 within
          ∙ ap (λ x. x ∷ drop (token_len + 1) q) at in
          sym (take-append-drop token_len q) ∙ ap (λ r. take token_len q ++ r) front
      | inr short ↦ absurd (false≢true (ap (λ v. v == slash) (sym (get_or_past q token_len 0 short)) ∙ h))
    ]

-- and its token is whole
pub token_whole : (q : Text) → has_slash q ≡ true → length (take token_len q) ≡ token_len
token_whole q h =
    elim (cases_lt token_len (length q)) [
      | inl within ↦ length-take-le token_len q (le_of_lt within)
      | inr short ↦ absurd (false≢true (ap (λ v. v == slash) (sym (get_or_past q token_len 0 short)) ∙ h))
    ]
