use Rattle.std.proofs.Common.{◌≡◌, ◌≢◌, ◌∙◌, ◌+◌, ◌-◌, ◌++◌, ◌&&◌, ap, ap₂, append_assoc, arith, Bool, Bor, bytes_eq}
use Rattle.std.proofs.Common.{codes, drop, false}
use Rattle.std.proofs.Common.{inl, inr, length, length-append, List, MatchOption, nat_eq, ℕ, None, Option, refl, Some}
use Rattle.std.proofs.Common.{subst, sym, take, true}
use Rattle.std.specs.Cmp.Lexicographic.{pointwise}
use Rattle.std.proofs.lemmas.Bool.{and_parts, cases_Bool, false≢true}
use Rattle.std.proofs.lemmas.Bool.Decides.{Decides-eqb}
use Rattle.std.proofs.lemmas.List.{drop_at, take_at}
use Rattle.std.proofs.lemmas.Slice.Eq.{bytes_eq-Decides, strip_prefix_is, strip_suffix_is}
use Rattle.backup.specs.Names.{is_backup, is_moment, moment_in, named}
use Rattle.backup.proofs.names.is_backup.Goals as goal

-- what a call says that strips a front
abbrev Strips : List ℕ → List ℕ → Option (Bor (List ℕ)) → Type 0
Strips s p r =
    MatchOption r (pointwise nat_eq (take (length p) s) p ≡ false)
    (λ x. (pointwise nat_eq (take (length p) s) p ≡ true) × (x.now ≡ drop (length p) s)
    × (length x.now + length p ≡ length s))

-- and one that strips an end
abbrev StripsEnd : List ℕ → List ℕ → Option (Bor (List ℕ)) → Type 0
StripsEnd s p r =
    MatchOption r (pointwise nat_eq (drop (length s - length p) s) p ≡ false)
    (λ x. (pointwise nat_eq (drop (length s - length p) s) p ≡ true) × (x.now ≡ take (length s - length p) s)
    × (length x.now + length p ≡ length s))

other : (s p : List ℕ) (r : Option (Bor (List ℕ))) → Strips s p r → r ≡ None → (rest : List ℕ) → s ≢ p ++ rest
other s p r cases is =
    subst (λ o. MatchOption o ((rest : List ℕ) → s ≢ p ++ rest) (λ x. s ≡ p ++ x.now)) is
    (strip_prefix_is Decides-eqb s p r cases)

begun : (s p : List ℕ) (r : Option (Bor (List ℕ))) (x : Bor (List ℕ)) → Strips s p r → r ≡ Some x → s ≡ p ++ x.now
begun s p r x cases is =
    subst (λ o. MatchOption o ((rest : List ℕ) → s ≢ p ++ rest) (λ x. s ≡ p ++ x.now)) is
    (strip_prefix_is Decides-eqb s p r cases)

other_end : (s p : List ℕ) (r : Option (Bor (List ℕ))) → StripsEnd s p r → r ≡ None → (front : List ℕ) → s ≢ front ++ p
other_end s p r cases is =
    subst (λ o. MatchOption o ((front : List ℕ) → s ≢ front ++ p) (λ x. s ≡ x.now ++ p)) is
    (strip_suffix_is Decides-eqb s p r cases)

ended : (s p : List ℕ) (r : Option (Bor (List ℕ))) (x : Bor (List ℕ)) → StripsEnd s p r → r ≡ Some x → s ≡ x.now ++ p
ended s p r x cases is =
    subst (λ o. MatchOption o ((front : List ℕ) → s ≢ front ++ p) (λ x. s ≡ x.now ++ p)) is
    (strip_suffix_is Decides-eqb s p r cases)

cancel : (p q r : List ℕ) → p ++ q ≡ p ++ r → q ≡ r
cancel p q r e = sym (drop_at p q _ refl) ∙ ap (drop (length p)) e ∙ drop_at p r _ refl

cancel_end : (p q r : List ℕ) → q ++ p ≡ r ++ p → q ≡ r
cancel_end p q r e =
    let same : length r ≡ length q = omega (arith, length-append q p, length-append r p, ap length e) in
    sym (take_at q p _ refl) ∙ ap (take (length q)) e ∙ take_at r p (length q) same

-- a name that is none with a moment is none of a backup
none : (stem name : List ℕ) → ((moment : List ℕ) → name ≢ named stem moment) → false ≡ is_backup stem name
none stem name never =
    elim (cases_Bool (is_backup stem name)) [
      | inl is ↦ absurd (never (moment_in stem name) ((bytes_eq-Decides _ _).0 (and_parts _ _ is).0))
      | inr not ↦ sym not
    ]

-- where the moment of a name is
found : (stem moment : List ℕ) → length moment ≡ 16 → moment_in stem (named stem moment) ≡ moment
found stem moment sixteen =
    let again = append_assoc stem (codes "-") (moment ++ codes ".db") in
    let rest = drop_at (stem ++ codes "-") (moment ++ codes ".db") (length stem + 1) (length-append stem (codes "-")) in
    ap (λ t. take 16 (drop (length stem + 1) t)) (sym again) ∙ ap (take 16) rest
    ∙ take_at moment (codes ".db") 16 sixteen

-- a moment makes the name of a backup
told : (stem moment : List ℕ) → is_moment moment ≡ true → is_backup stem (named stem moment) ≡ true
told stem moment is =
    let sixteen = (Decides-eqb (length moment) 16).0
    (and_parts _ _ (and_parts _ _ (and_parts _ _ (and_parts _ _ is).0).0).0).0 in
    let name = named stem moment in
    subst (λ m. (bytes_eq name (named stem m) && is_moment m) ≡ true) (sym (found stem moment sixteen))
    (ap₂ (λ a b. a && b) ((bytes_eq-Decides name name).1 refl) is)

-- and only a moment does
only : (stem moment : List ℕ) → is_backup stem (named stem moment) ≡ true → is_moment moment ≡ true
only stem moment is =
    let parts = and_parts _ _ is in
    let m = moment_in stem (named stem moment) in
    let same = (bytes_eq-Decides (named stem moment) (named stem m)).0 parts.0 in
    let after = cancel (codes "-") _ _ (cancel stem _ _ same) in
    ap is_moment (cancel_end (codes ".db") moment m after) ∙ parts.1

of_named : (stem moment : List ℕ) → is_moment moment ≡ is_backup stem (named stem moment)
of_named stem moment =
    elim (cases_Bool (is_moment moment)) [
      | inl is ↦ is ∙ sym (told stem moment is)
      | inr not ↦ not
          ∙ none_of (is_backup stem (named stem moment)) (λ is. false≢true (sym not ∙ only stem moment is))
    ]
  where
    none_of : (b : Bool) → b ≢ true → false ≡ b
    none_of true differs = absurd (differs refl)
    none_of false differs = refl

pub returns-in_default : goal.returns-in_default
returns-in_default c =
    let gone = other c.as_bytes.result.now c.as_bytes-2.result.now c.strip_prefix.result c.strip_prefix.ensures.cases
    c.in_default.is in
    none c.args.stem.now c.args.name.now
    (λ moment e. gone (codes "-" ++ (moment ++ codes ".db"))
    (c.as_bytes.ensures.value ∙ e ∙ ap (λ s. named s moment) (sym c.as_bytes-2.ensures.value)))

-- what is left after the stem
rest : (s stem name given last : List ℕ) → given ≡ stem → s ≡ given ++ last → s ≡ name → (after : List ℕ)
    → name ≡ stem ++ after → last ≡ after
rest s stem name given last is front same after e =
    cancel stem last after (ap (λ a. a ++ last) (sym is) ∙ sym front ∙ same ∙ e)

pub returns-in_default-strip_prefix : goal.returns-in_default-strip_prefix
returns-in_default-strip_prefix c =
    let front = begun c.as_bytes.result.now c.as_bytes-2.result.now c.strip_prefix.result c.in-Some.rest
    c.strip_prefix.ensures.cases c.in-Some.is in
    let gone = other c.in-Some.rest.now c.as_slice.result.now c.strip_prefix-2.result c.strip_prefix-2.ensures.cases
    c.in_default-strip_prefix.is in
    none c.args.stem.now c.args.name.now
    (λ moment e. gone (moment ++ codes ".db")
    (rest _ c.args.stem.now _ _ _ c.as_bytes-2.ensures.value front c.as_bytes.ensures.value _ e
    ∙ ap (λ a. a ++ (moment ++ codes ".db")) (sym c.as_slice.ensures)))

pub returns-in-Some-strip_suffix : goal.returns-in-Some-strip_suffix
returns-in-Some-strip_suffix c =
    let m = c.in-Some-strip_suffix.moment.now in
    let one = begun c.as_bytes.result.now c.as_bytes-2.result.now c.strip_prefix.result c.in-Some.rest
    c.strip_prefix.ensures.cases c.in-Some.is in
    let two = begun c.in-Some.rest.now c.as_slice.result.now c.strip_prefix-2.result c.in-Some-strip_prefix.rest
    c.strip_prefix-2.ensures.cases c.in-Some-strip_prefix.is in
    let three = ended c.in-Some-strip_prefix.rest.now c.as_bytes-3.result.now c.strip_suffix.result
    c.in-Some-strip_suffix.moment c.strip_suffix.ensures.cases c.in-Some-strip_suffix.is in
    let is : c.args.name.now ≡ named c.args.stem.now m = sym c.as_bytes.ensures.value ∙ one
    ∙ ap₂ (λ a b. a ++ b) c.as_bytes-2.ensures.value
    (two ∙ ap₂ (λ a b. a ++ b) c.as_slice.ensures (three ∙ ap (λ b. m ++ b) c.as_bytes-3.ensures.value)) in
    c.is_moment.ensures ∙ of_named c.args.stem.now m ∙ ap (is_backup c.args.stem.now) (sym is)

pub returns-in-None : goal.returns-in-None
returns-in-None c =
    let one = begun c.as_bytes.result.now c.as_bytes-2.result.now c.strip_prefix.result c.in-Some.rest
    c.strip_prefix.ensures.cases c.in-Some.is in
    let two = begun c.in-Some.rest.now c.as_slice.result.now c.strip_prefix-2.result c.in-Some-strip_prefix.rest
    c.strip_prefix-2.ensures.cases c.in-Some-strip_prefix.is in
    let gone = other_end c.in-Some-strip_prefix.rest.now c.as_bytes-3.result.now c.strip_suffix.result
    c.strip_suffix.ensures.cases c.in-None.is in
    none c.args.stem.now c.args.name.now
    (λ moment e. gone moment
    (rest _ (codes "-") _ _ _ c.as_slice.ensures two
    (rest _ c.args.stem.now _ _ _ c.as_bytes-2.ensures.value one c.as_bytes.ensures.value _ e) _ refl
    ∙ ap (λ a. moment ++ a) (sym c.as_bytes-3.ensures.value)))
