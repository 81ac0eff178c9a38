-- A number or a literal is no longer than what the lexer passes until the word has ended.
use Rattle.std.proofs.Common.{◌≡◌, ◌+◌, ◌-◌, ◌≤◌, ◌&&◌, ◌||◌, ◌==◌, ◌∷◌, ◌++◌, ◌⊎◌, ℕ, suc, Bool, true, false, cond, []}
use Rattle.broker_types.specs.Words.{List, length, take, drop, Option, Some, None, option_and_then, inl, inr, refl, ap}
use Rattle.broker_types.specs.Words.{◌∙◌, subst, arith, length-take, eqb-true, leb-true, ne_eqb, and_parts, or_cases}
use Rattle.broker_types.specs.Words.{take-append-drop, bytes_eq-Decides, ⊤, nat_eq, prefix_len, starts_with}
use Rattle.broker_types.specs.Words.{is_ascii_digit}
use Rattle.json.specs.Token.{Token, number, boolean, null, bad}
use Rattle.json.specs.Print.{token_text}
use Rattle.json.specs.Word.{head, ends_word, after_digits, after_minus, after_sign, after_whole, after_fraction}
use Rattle.json.specs.Word.{after_exponent, after_number, number_before, literal, word}
use Rattle.json.specs.Lex.{other, class, in_word}
use Rattle.api_json.proofs.LengthsContent.{rest_of_byte, rest_of_token}

digit_class : (x : ℕ) → is_ascii_digit x ≡ true → class x ≡ other
digit_class x h =
    let p = and_parts _ _ h in
    let low : 48 ≤ x = leb-true 48 x p.0 in
    let high : x ≤ 57 = leb-true x 57 p.1 in
    rw (
      ne_eqb x 34 (λ e. omega arith),
      ne_eqb x 92 (λ e. omega arith),
      ne_eqb x 123 (λ e. omega arith),
      ne_eqb x 125 (λ e. omega arith),
      ne_eqb x 91 (λ e. omega arith),
      ne_eqb x 93 (λ e. omega arith),
      ne_eqb x 58 (λ e. omega arith),
      ne_eqb x 44 (λ e. omega arith),
      ne_eqb x 32 (λ e. omega arith),
      ne_eqb x 9 (λ e. omega arith),
      ne_eqb x 10 (λ e. omega arith),
      ne_eqb x 13 (λ e. omega arith),
    )

rest-word : (x : ℕ) (xs : List ℕ) → class x ≡ other → rest_of_token in_word (x ∷ xs) ≡ 1 + rest_of_token in_word xs
unfolding rest_of_token
rest-word x xs e = ap (λ c. rest_of_byte in_word c (λ next. rest_of_token next xs)) e

-- ---- the parts of a number: r stands behind what a part takes of t, all of it in one word

abbrev Passes : List ℕ → List ℕ → Type 0
Passes t r = length t + rest_of_token in_word r ≤ rest_of_token in_word t + length r

abbrev PassesTo : List ℕ → Option (List ℕ) → Type 0
PassesTo t None = ⊤
PassesTo t (Some r) = Passes t r

passes_on : (t u : List ℕ) (o : Option (List ℕ)) → Passes t u → PassesTo u o → PassesTo t o
passes_on t u None p q = tt
passes_on t u (Some r) p q = omega arith

by_test : (t : List ℕ) (b : Bool) (x y : Option (List ℕ)) → (b ≡ true → PassesTo t x) → PassesTo t y
    → PassesTo t (cond b x y)
by_test t true x y p q = p refl
by_test t false x y p q = q

in_turn : (t : List ℕ) (f : List ℕ → Option (List ℕ)) (o : Option (List ℕ)) → PassesTo t o
    → ((u : List ℕ) → PassesTo u (f u))
    → PassesTo t (option_and_then f o)
in_turn t f None p q = tt
in_turn t f (Some u) p q = passes_on t u (f u) p (q u)

one_passed : (c : ℕ) (t : List ℕ) → class c ≡ other → (head t == c) ≡ true → Passes t (drop 1 t)
one_passed c [] k e = omega arith
one_passed c (x ∷ xs) k e = omega (arith, rest-word x xs (ap class (eqb-true x c e) ∙ k))

either_passed : (a b : ℕ) (t : List ℕ) → class a ≡ other → class b ≡ other → ((head t == a) ≡ true)
    ⊎ ((head t == b) ≡ true) → Passes t (drop 1 t)
either_passed a b t p q (inl e) = one_passed a t p e
either_passed a b t p q (inr e) = one_passed b t q e

if_passed : (b : Bool) (t : List ℕ) → (b ≡ true → Passes t (drop 1 t)) → Passes t (cond b (drop 1 t) t)
if_passed true t p = p refl
if_passed false t p = omega arith

digits_at : (d : Bool) (x : ℕ) (xs : List ℕ) (n : ℕ) → (d ≡ true → class x ≡ other) → Passes xs (drop n xs)
    → Passes (x ∷ xs) (drop (cond d (1 + n) 0) (x ∷ xs))
digits_at false x xs n k ih = omega arith
digits_at true x xs n k ih =
    let e : suc n ≡ 1 + n = omega arith in subst (λ j. Passes (x ∷ xs) (drop j (x ∷ xs))) e
    (omega (arith, rest-word x xs (k refl)))

digits_passed : (t : List ℕ) → Passes t (drop (prefix_len is_ascii_digit t) t)
digits_passed [] = omega arith
digits_passed (x ∷ xs) = digits_at (is_ascii_digit x) x xs (prefix_len is_ascii_digit xs) (digit_class x)
    (digits_passed xs)

passes-digits : (t : List ℕ) → PassesTo t (after_digits t)
passes-digits t = by_test t (prefix_len is_ascii_digit t == 0) None _ (λ e. tt) (digits_passed t)

passes-whole : (t : List ℕ) → PassesTo t (after_whole t)
passes-whole t = by_test t (head t == 48) (Some (drop 1 t)) _ (one_passed 48 t refl) (passes-digits t)

passes-fraction : (t : List ℕ) → PassesTo t (after_fraction t)
passes-fraction t =
    let u = drop 1 t in
    by_test t (head t == 46) _ (Some t) (λ e. passes_on t u (after_digits u) (one_passed 46 t refl e) (passes-digits u))
    (omega arith)

passes-sign : (t : List ℕ) → Passes t (after_sign t)
passes-sign t = if_passed ((head t == 45) || (head t == 43)) t (λ e. either_passed 45 43 t refl refl (or_cases _ _ e))

passes-exponent : (t : List ℕ) → PassesTo t (after_exponent t)
passes-exponent t =
    let u = drop 1 t in
    by_test t ((head t == 101) || (head t == 69)) _ (Some t)
    (λ e. passes_on t u (after_digits (after_sign u)) (either_passed 101 69 t refl refl (or_cases _ _ e))
    (passes_on u (after_sign u) (after_digits (after_sign u)) (passes-sign u) (passes-digits (after_sign u))))
    (omega arith)

passes-number : (t : List ℕ) → PassesTo t (after_number t)
unfolding after_number
passes-number t =
    let start = passes_on t (after_minus t) (after_whole (after_minus t))
    (if_passed (head t == 45) t (one_passed 45 t refl)) (passes-whole (after_minus t)) in
    in_turn t after_exponent _ (in_turn t after_fraction _ start passes-fraction) passes-exponent

-- ---- words

abbrev FitsWord : List ℕ → Token → Type 0
FitsWord t k = length (token_text k) ≤ rest_of_token in_word t

either_fits : (t : List ℕ) (b : Bool) (x y : Token) → (b ≡ true → FitsWord t x) → FitsWord t y → FitsWord t (cond b x y)
either_fits t true x y p q = p refl
either_fits t false x y p q = q

number_fits : (t : List ℕ) (o : Option (List ℕ)) → PassesTo t o → FitsWord t (number_before t o)
number_fits t None h = omega arith
number_fits t (Some r) h =
    let n = length t - length r in either_fits t (ends_word r) (number (take n t)) bad
    (λ e. omega (arith, length-take n t)) (omega arith)

literal_fits : (name : List ℕ) (k : Token) (t : List ℕ) → ((r : List ℕ) → FitsWord (name ++ r) k)
    → FitsWord t (literal name k t)
literal_fits name k t h =
    either_fits t (starts_with nat_eq t name && ends_word (drop (length name) t)) k bad
    (λ e.
    let front : name ≡ take (length name) t = (bytes_eq-Decides name (take (length name) t)).0 (and_parts _ _ e).0 in
    let whole : name ++ drop (length name) t ≡ t = ap (λ l. l ++ drop (length name) t) front
    ∙ take-append-drop (length name) t in
    subst (λ l. FitsWord l k) whole (h (drop (length name) t))) (omega arith)

pub word_fits : (t : List ℕ) → length (token_text (word t)) ≤ rest_of_token in_word t
unfolding word rest_of_token
word_fits t =
    either_fits t (head t == 116) _ _
    (λ _. literal_fits (116 ∷ 114 ∷ 117 ∷ 101 ∷ []) (boolean true) t (λ r. omega arith))
    (either_fits t (head t == 102) _ _
    (λ _. literal_fits (102 ∷ 97 ∷ 108 ∷ 115 ∷ 101 ∷ []) (boolean false) t (λ r. omega arith))
    (either_fits t (head t == 110) _ _ (λ _. literal_fits (110 ∷ 117 ∷ 108 ∷ 108 ∷ []) null t (λ r. omega arith))
    (number_fits t (after_number t) (passes-number t))))
