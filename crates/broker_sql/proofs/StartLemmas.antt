-- Rows without that of the clock, and what a start makes of them.
use Rattle.std.proofs.Common.{◌≡◌, ◌≢◌, ◌⊎◌, inl, inr, ℕ, Option, Some, None, false, is_some, refl, sym, subst, ap}
use Rattle.std.proofs.Common.{◌∙◌}
use Rattle.broker_model.specs.Words.{empty, first_broker, id, token_word, accessor_word, Text, token_text, Words, Rows}
use Rattle.broker_rows.specs.Words.{Represents, HasNoClock}
use Rattle.broker_sql.specs.Prepared.{CannotStart, IsStarted}

pub none_of : {A : Type 0} (o : Option A) → false ≡ is_some o → o ≡ None
none_of None h = refl
none_of (Some x) h = absurd (let e = h in cc)

module _ (words : Words) (token accessor : ℕ) (old mid : Rows) (of_token : token ≡ token_word words)
    (of_accessor : accessor ≡ accessor_word words) (same : mid ≡ old) where
  -- there was none
  pub started : (moment : ℕ) (new : Rows) (text : Text) → mid ≡ empty → token ≢ accessor
      → Represents None new (first_broker moment token accessor) → text ≡ token_text (id token)
      → IsStarted moment words old new text
  started moment new text none differ broker root =
      record {
        empty = sym same ∙ none;
        differ = λ equal. differ (of_token ∙ equal ∙ sym of_accessor);
        broker = subst (λ (t : ℕ). Represents None new (first_broker moment t (accessor_word words))) of_token
            (subst (λ (a : ℕ). Represents None new (first_broker moment token a)) of_accessor broker);
        root = root ∙ ap (λ (t : ℕ). token_text (id t)) of_token;
      }

  -- none is the clock's, and they were refused
  pub cannot_start : HasNoClock old → (mid ≢ empty) ⊎ ((mid ≡ empty) × (token ≡ accessor)) → CannotStart words old
  cannot_start no_clock (inl some) = inl (no_clock, (λ none. some (same ∙ none)))
  cannot_start no_clock (inr none) = inr (sym same ∙ none.0, sym of_token ∙ none.1 ∙ of_accessor)
