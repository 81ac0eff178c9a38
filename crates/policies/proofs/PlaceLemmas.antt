-- How early a pattern is tried.
use Rattle.std.proofs.Common.{◌≡◌, ◌+◌, ◌==◌, ◌&&◌, ◌||◌, ◌⊎◌, ◌∷◌, ◌++◌, if◌then◌else◌, nat_eq, ℕ, inl, inr, refl, sym}
use Rattle.records.specs.Words.{starts_with, ◌∙◌, ap, arith, List, [], map, length, Bool, true, false, nat_tests}
use Rattle.records.specs.Words.{length-map, and_right, Text, same, same_self, Verb}
use Rattle.broker_types.specs.declared.ask.Verb.TheVariants as verb
use Rattle.policies.specs.Words.{Exact, Prefix, tried, beginnings, with_slash, place, exact_place, prefix_place}
use Rattle.policies.specs.Words.{tried_text}

-- ---- among texts

text_place : List Text → Text → ℕ
text_place [] t = 0
text_place (s ∷ ss) t = if same t s then length ss + 1 else text_place ss t

unfoldable pub begins : Text → Text → Bool
begins s [] = true
begins [] (c ∷ cs) = false
begins (d ∷ ds) (c ∷ cs) = (c == d) && begins ds cs

pub begins_is : (s t : Text) → starts_with nat_eq s t ≡ begins s t
unfolding begins
begins_is s [] = refl
begins_is [] (c ∷ cs) = refl
begins_is (d ∷ ds) (c ∷ cs) = ap (λ b. (c == d) && b) (begins_is ds cs)

abbrev lift : ℕ → ℕ
lift n = if n == 0 then 0 else n + 1

many : (d : ℕ) (ls : List Text) → length (map (λ t. d ∷ t) ls ++ ([] ∷ [])) ≡ length ls + 1
many d [] = refl
many d (l ∷ ls) = omega (arith, many d ls)

empty_place : (d : ℕ) (ls : List Text) → text_place (map (λ t. d ∷ t) ls ++ ([] ∷ [])) [] ≡ 1
unfolding text_place same
empty_place d [] = refl
empty_place d (l ∷ ls) = empty_place d ls

longer_place : (d c : ℕ) (cs : Text) (ls : List Text)
    → text_place (map (λ t. d ∷ t) ls ++ ([] ∷ [])) (c ∷ cs) ≡ (if c == d then lift (text_place ls cs) else 0)
unfolding text_place same
longer_place d c cs [] = elim (c == d) as (λ b. ◌≡◌ {A = ℕ} 0 (if b then 0 else 0)) [ true ↦ refl | false ↦ refl ]
longer_place d c cs (l ∷ ls) =
    rw (many d ls) (rw (longer_place d c cs ls)
    (elim (c == d) as (λ b. (if (b && same cs l) then length ls + 1 + 1 else (if b then lift (text_place ls cs)
    else 0)) ≡ (if b then lift (if same cs l then length ls + 1 else text_place ls cs) else 0)) [
      | true ↦ elim (same cs l) as
          (λ b. (if b then length ls + 1 + 1 else lift (text_place ls cs)) ≡ lift (if b then length ls + 1
          else text_place ls cs)) [ true ↦ grind (arith, nat_tests) | false ↦ refl ]
      | false ↦ refl
    ]))

beginnings_place : (s t : Text) → text_place (beginnings s) t ≡ (if begins s t then length t + 1 else 0)
unfolding text_place begins same
beginnings_place [] [] = refl
beginnings_place [] (c ∷ cs) = refl
beginnings_place (d ∷ ds) [] = empty_place d (beginnings ds)
beginnings_place (d ∷ ds) (c ∷ cs) =
    longer_place d c cs (beginnings ds)
    ∙ rw (beginnings_place ds cs)
    (elim (c == d) as (λ b. (if b then lift (if begins ds cs then length cs + 1 else 0) else 0)
    ≡ (if (b && begins ds cs) then length (c ∷ cs) + 1 else 0)) [
      | true ↦ elim (begins ds cs) as (λ b. lift (if b then length cs + 1 else 0) ≡ (if b then length (c ∷ cs) + 1
          else 0)) [ true ↦ grind (arith, nat_tests) | false ↦ refl ]
      | false ↦ refl
    ])

-- ---- among patterns

prefixes_place : (ss : List Text) (t : Text) → place (map Prefix ss) (Prefix t) ≡ text_place ss t
unfolding text_place
prefixes_place [] t = refl
prefixes_place (s ∷ ss) t = λ i. if same t s then length-map ss Prefix i + 1 else prefixes_place ss t i

no_exact : (ss : List Text) (t : Text) → place (map Prefix ss) (Exact t) ≡ 0
no_exact [] t = refl
no_exact (s ∷ ss) t = no_exact ss t

count : (s : Text) → length (map Prefix (beginnings s)) ≡ length s + 1
count s = length-map (beginnings s) Prefix ∙ each s
  where
    each : (s : Text) → length (beginnings s) ≡ length s + 1
    each [] = refl
    each (d ∷ ds) = omega (arith, many d (beginnings ds), each ds)

folder_length : (path : Text) → length (with_slash path) ≡ length path + 1
folder_length [] = refl
folder_length (c ∷ cs) = omega (arith, folder_length cs)

prefix_of : (s t : Text) → place (map Prefix (beginnings s)) (Prefix t)
    ≡ (if starts_with nat_eq s t then length t + 1 else 0)
prefix_of s t = prefixes_place (beginnings s) t ∙ beginnings_place s t
    ∙ sym (ap (λ b. if b then length t + 1 else 0) (begins_is s t))

exact_of : (path text : Text) → place (Exact path ∷ map Prefix (beginnings path)) (Exact text)
    ≡ (if same text path then length path + 2 else 0)
exact_of path text = rw (count path, no_exact (beginnings path) text)
    (ap (λ n. if same text path then n else 0) (omega arith))

chain : (a b : Bool) (n m n' m' : ℕ) → n' ≡ n → m' ≡ m
    → (if a then n' else (if b then m' else 0)) ≡ (if a then n else (if b then m else 0))
chain a b n m n' m' e f = λ i. if a then e i else (if b then f i else 0)

pub exact_placed : (v : Verb) (path text : Text) → place (tried v path) (Exact text) ≡ exact_place v path text
exact_placed verb.Get path text = exact_of path text
exact_placed verb.Write path text = exact_of path text
exact_placed verb.Delete path text = exact_of path text
exact_placed verb.List path text =
    rw (count (with_slash path), no_exact (beginnings (with_slash path)) text, folder_length path)
    (chain (same text (with_slash path)) (same text path) (length path + 4) (length path + 3) _ _ (omega arith)
    (omega arith))

pub prefix_placed : (v : Verb) (path text : Text) → place (tried v path) (Prefix text) ≡ prefix_place v path text
prefix_placed verb.Get path text = prefix_of path text
prefix_placed verb.Write path text = prefix_of path text
prefix_placed verb.Delete path text = prefix_of path text
prefix_placed verb.List path text = prefix_of (with_slash path) text

-- ---- the path and a slash

snoc_begins : (s t : Text) → begins (s ++ (47 ∷ [])) t ≡ (begins s t || same t (s ++ (47 ∷ [])))
unfolding begins same
snoc_begins [] [] = refl
snoc_begins [] (c ∷ []) = refl
snoc_begins [] (c ∷ d ∷ ds) = refl
snoc_begins (x ∷ xs) [] = refl
snoc_begins (x ∷ xs) (c ∷ cs) = ap (λ b. (c == x) && b) (snoc_begins xs cs)
    ∙ elim (c == x) as (λ b. (b && (begins xs cs || same cs (xs ++ (47 ∷ []))))
    ≡ ((b && begins xs cs) || (b && same cs (xs ++
    (47 ∷ []))))) [ true ↦ refl | false ↦ refl ]

pub folder_begins : (path text : Text) → starts_with nat_eq (with_slash path) text
    ≡ (starts_with nat_eq path text || same text (with_slash path))
folder_begins path text = begins_is (with_slash path) text ∙ snoc_begins path text
    ∙ sym (ap (λ b. b || same text (with_slash path)) (begins_is path text))

pub same_snoc : (a b : Text) (x : ℕ) → same (a ++ (x ∷ [])) (b ++ (x ∷ [])) ≡ same a b
unfolding same
same_snoc [] [] x = (same_self (x ∷ []))
same_snoc [] (c ∷ []) x = and_right (x == c) false refl
same_snoc [] (c ∷ d ∷ ds) x = and_right (x == c) false refl
same_snoc (c ∷ []) [] x = and_right (c == x) false refl
same_snoc (c ∷ d ∷ ds) [] x = and_right (c == x) false refl
same_snoc (c ∷ cs) (d ∷ ds) x = ap (λ b. (c == d) && b) (same_snoc cs ds x)

pub other_text : (v : Verb) (path : Text) → (v ≡ verb.Get) ⊎ ((v ≡ verb.Write) ⊎ (v ≡ verb.Delete))
    → tried_text v path ≡ path
other_text v path (inl e) = rw e refl
other_text v path (inr (inl e)) = rw e refl
other_text v path (inr (inr e)) = rw e refl
