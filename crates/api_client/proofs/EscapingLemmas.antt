-- The bytes that a client escapes.
use Rattle.broker_types.specs.Words.{is_ascii, flat_map-cons, agree_below, agree_below_at, cases_lt, eqb_tells}
use Rattle.api_client.specs.Words.{◌≡◌, ◌≢◌, ◌<◌, ◌≤◌, ◌==◌, ◌&&◌, ◌∷◌, if◌then◌else◌, ℕ, not, Bool, true, false, List}
use Rattle.api_client.specs.Words.{[], refl, arith, inl, inr, flat_map, nat_tests, AsciiSet, NON_ALPHANUMERIC, contains}
use Rattle.api_client.specs.Words.{should_percent_encode, encode_byte, percent_encode, percent_encode_byte, escaped}
use Rattle.api_client.specs.Words.{escaped_byte, is_plain}

-- one byte taken out of a set
pub without : (f g : ℕ → Bool) (x : ℕ) → g x ≡ false → ((b : ℕ) → b < 128 → b ≢ x → g b ≡ f b)
    → (b : ℕ) → b < 128 → g b ≡ (f b && not (b == x))
without f g x out rest b small =
    elim (eqb_tells b x) [
      | inl (test, e) ↦ rw (test, e, out) (both_false (f x))
      | inr (test, ne) ↦ rw (test, rest b small ne) (both_true (f b))
    ]
  where
    both_false : (v : Bool) → false ≡ (v && not true)
    both_false true = refl
    both_false false = refl

    both_true : (v : Bool) → v ≡ (v && not false)
    both_true true = refl
    both_true false = refl

-- the set, as a test
abbrev pub is_escaped : ℕ → Bool
is_escaped b = contains NON_ALPHANUMERIC b && not (b == 45) && not (b == 46) && not (b == 95) && not (b == 126)
    && not (b == 47)

pub escaped_table : agree_below is_escaped (λ b. not (is_plain b)) 128 ≡ true
escaped_table = refl

pub escaped_at : (b : ℕ) → b < 128 → is_escaped b ≡ not (is_plain b)
escaped_at b small = agree_below_at is_escaped (λ c. not (is_plain c)) 128 b escaped_table small

not_plain : (b : ℕ) → 128 ≤ b → is_plain b ≡ false
not_plain b high = grind (arith, nat_tests)

past_ascii : (b : ℕ) → 128 ≤ b → is_ascii b ≡ false
past_ascii b high = grind (arith, nat_tests)

in_ascii : (b : ℕ) → b < 128 → is_ascii b ≡ true
in_ascii b low = grind (arith, nat_tests)

escapes : (set : AsciiSet) → ((b : ℕ) → b < 128 → contains set b ≡ not (is_plain b)) → (b : ℕ)
    → should_percent_encode set b ≡ not (is_plain b)
unfolding should_percent_encode
escapes set h b =
    elim (cases_lt b 128) [
      | inl low ↦ rw (in_ascii b low) (h b low)
      | inr high ↦ rw (past_ascii b high, not_plain b high) refl
    ]

one_byte : (set : AsciiSet) → ((b : ℕ) → b < 128 → contains set b ≡ not (is_plain b)) → (b : ℕ)
    → encode_byte set b ≡ escaped_byte b
one_byte set h b = rw (escapes set h b) (swap (is_plain b))
  where
    swap : (v : Bool) → (if not v then percent_encode_byte b else b ∷ [])
        ≡ (if v then b ∷ [] else percent_encode_byte b)
    swap true = refl
    swap false = refl

-- what the crate writes with that set
pub percent_encode-escaped : (set : AsciiSet) → ((b : ℕ) → b < 128 → contains set b ≡ not (is_plain b)) → (bs : List ℕ)
    → percent_encode set bs ≡ escaped bs
unfolding percent_encode escaped
percent_encode-escaped set h bs = all bs
  where
    all : (bs : List ℕ) → flat_map (encode_byte set) bs ≡ flat_map escaped_byte bs
    all [] = refl
    all (b ∷ bs) = rw (flat_map-cons, flat_map-cons, one_byte set h b, all bs) refl
