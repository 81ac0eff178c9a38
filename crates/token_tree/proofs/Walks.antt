-- What a walk has found, after some of its tokens have been asked for their children.
use Rattle.std.proofs.Common.{◌≡◌, ◌≤◌, ◌<◌, ◌+◌, ◌||◌, ◌&&◌, ◌++◌, ◌∷◌, ℕ, zero, suc, List, [], Bool, true, false, not}
use Rattle.records.specs.Words.{length, take, get_or, filter, Some, All, Contains, get, IsDistinct, list_any, refl, sym}
use Rattle.records.specs.Words.{◌∙◌, ap, arith, length-append, false≢true, and_parts, or_left, or_right, not-true}
use Rattle.records.specs.Words.{take_more, All-append, All-filter, All-contains, Contains-append_left}
use Rattle.records.specs.Words.{Contains-append_right, filter_passes, IsDistinct-keys_filter, Text, same, same_self}
use Rattle.records.specs.Words.{same_true, has, Contains-filter, passing_each, passing_whole, passing_once, texts_once}
use Rattle.records.specs.Words.{RowKey, is_of_kind, same_kind, Rows, rows_under}
use Rattle.records.specs.declared.kind.Kind.TheVariants as kind
use Rattle.token_tree.specs.Words.{Row, goes, has_key, of_owner, IsClosed, Start, Starts, children, texts, AreTokens}
use Rattle.token_tree.specs.Words.{AreStarted, AreDescending}
use Rattle.token_tree.proofs.Entries.{has_text, text_of, once-append, none_before, entry_is, at_text, text_row}
use Rattle.token_tree.proofs.TokenMap.{each_token, token_each, token_passes}

-- ---- owners

-- what passes for an owner by one test passes by a weaker one
weaker_owner : (p r : Text → Bool) → ((q : Text) → p q ≡ true → r q ≡ true) → (o : Text) → of_owner p o ≡ true
    → of_owner r o ≡ true
weaker_owner p r f [] h = h
weaker_owner p r f (c ∷ o) h = f (c ∷ o) h

-- whoever is owned by t passes for an owner as t does
of_one : (p : Text → Bool) (t o : Text) → of_owner (λ q. same q t) o ≡ true → of_owner p o ≡ true → p t ≡ true
of_one p t [] h g = absurd (false≢true h)
of_one p t (c ∷ o) h g = ap p (sym (same_true (c ∷ o) t h)) ∙ g

pub to_one : (p : Text → Bool) (t o : Text) → of_owner (λ q. same q t) o ≡ true → p t ≡ true → of_owner p o ≡ true
to_one p t [] h g = absurd (false≢true h)
to_one p t (c ∷ o) h g = ap p (same_true (c ∷ o) t h) ∙ g

owner_cases : (p r s : Text → Bool) → ((q : Text) → p q ≡ (r q || s q)) → (o : Text) (P : Type 0)
    → (of_owner r o ≡ true → P) → (of_owner s o ≡ true → P) → of_owner p o ≡ true → P
owner_cases p r s is [] P f g h = absurd (false≢true h)
owner_cases p r s is (c ∷ o) P f g h = by (r (c ∷ o)) refl (sym (is (c ∷ o)) ∙ h)
  where
    by : (v : Bool) → r (c ∷ o) ≡ v → (r (c ∷ o) || s (c ∷ o)) ≡ true → P
    by true e k = f e
    by false e k = g ((λ i. sym e i || s (c ∷ o)) ∙ k)

or_weaker : (a b c : Bool) → (b ≡ true → c ≡ true) → (a || b) ≡ true → (a || c) ≡ true
or_weaker true b c f h = refl
or_weaker false b c f h = f h

-- ---- the walk

-- the tokens that were found when the children of the first n had been asked for
pub record IsWalk (s : Start) (rows : Rows) (es : List (RowKey × Row)) (n : ℕ) : Type 0 where
  pub tokens : AreTokens rows es
  pub whole : (t : Text) (row : Row) → get rows (kind.Token, t) ≡ Some row → s ((kind.Token, t), row) ≡ true
      → Contains es ((kind.Token, t), row)
  pub origin : All (λ e. (s e || of_owner (has (texts (take n es))) e.1.owner) ≡ true) es
  pub closed : (t : Text) (row : Row) → get rows (kind.Token, t) ≡ Some row
      → of_owner (has (texts (take n es))) row.owner ≡ true
      → Contains es ((kind.Token, t), row)
  pub least : (p : Text → Bool) → Starts p s (rows_under rows kind.Token [])
      → IsClosed p (rows_under rows kind.Token [])
      → All (λ e. p e.0.1 ≡ true) es
  pub within : n ≤ length es

no_owner : (o : Text) → of_owner (has []) o ≡ true → ⊥
no_owner [] h = absurd (false≢true h)
no_owner (c ∷ o) h = absurd (false≢true h)

-- at first it has what ends by itself
pub walk_begins : (s : Start) (rows : Rows) (es : List (RowKey × Row)) → AreStarted s rows es → IsWalk s rows es 0
walk_begins s rows es started = record {
  tokens = started.tokens;
  whole = started.whole;
  origin = λ k d below. or_left _ _ (started.start k d below);
  closed = λ t row is owned. absurd (no_owner row.owner owned);
  least = λ p starts closed k d below.
      let at = Rattle.std.proofs.lemmas.List.Elements.Contains-get_or es k d below in
      let is = entry_is rows es started.tokens (get_or es k d) at in
      token_each rows (λ e. s e ≡ true → p e.0.1 ≡ true) (get_or es k d).0.1 (get_or es k d).1 is.1 starts
      (ap s (sym is.0) ∙ started.start k d below);
  within = omega arith;
}

module _ (s : Start) (rows : Rows) (es : List (RowKey × Row)) (n : ℕ) (d : RowKey × Row) (below : n < length es)
    (walk : IsWalk s rows es n) where
  -- the token that is asked next, and its children that do not end by themselves
  abbrev asked : Text
  asked = (get_or es n d).0.1

  abbrev found : List (RowKey × Row)
  found = filter (λ e. not (s e)) (children rows asked)

  abbrev before : Text → Bool
  before = has (texts (take n es))

  abbrev is_child : RowKey × Row → Bool
  is_child e = is_of_kind kind.Token e.0 && of_owner (λ owner. same owner asked) e.1.owner

  abbrev IsFound : RowKey × Row → Type 0
  IsFound e = (e.0.0 ≡ kind.Token) × (get rows e.0 ≡ Some e.1) × (of_owner (λ owner. same owner asked) e.1.owner ≡ true)
      × (s e ≡ false)

  found_each : All IsFound found
  found_each k c within =
      let row = All-filter (λ e. not (s e)) (λ e. (get rows e.0 ≡ Some e.1) × (is_child e ≡ true)) (children rows asked)
      (passing_each rows is_child) k c within in
      let child = and_parts (is_of_kind kind.Token (get_or found k c).0) _ row.1 in (
        same_kind _ kind.Token child.0,
        row.0,
        child.1,
        not-true _ (filter_passes (λ e. not (s e)) (children rows asked) k c within),
      )

  found_whole : (t : Text) (row : Row) → get rows (kind.Token, t) ≡ Some row
      → of_owner (λ owner. same owner asked) row.owner ≡ true
      → s ((kind.Token, t), row) ≡ false → Contains found ((kind.Token, t), row)
  found_whole t row is owned stays =
      Contains-filter (λ e. not (s e)) (children rows asked) ((kind.Token, t), row)
      (passing_whole rows is_child (kind.Token, t) row is owned) (ap not stays)

  found_once : IsDistinct same (texts found)
  found_once =
      texts_once kind.Token found (λ k c within. (found_each k c within).0)
      (IsDistinct-keys_filter _ (λ e. not (s e)) (children rows asked) (passing_once rows is_child))

  -- the first tokens, and the one that was asked
  has_more : (q : Text) → has (texts (take (n + 1) (es ++ found))) q ≡ (before q || same q asked)
  has_more q =
      ap (λ l. has (texts l) q) (take_first es (n + 1) (omega (arith, below)) ∙ take_more es n d below)
      ∙ joined (take n es)
    where
      take_first : (xs : List (RowKey × Row)) (i : ℕ) → i ≤ length xs → take i (xs ++ found) ≡ take i xs
      take_first [] zero within = refl
      take_first [] (suc i) within = absurd (omega (arith, within))
      take_first (x ∷ xs) zero within = refl
      take_first (x ∷ xs) (suc i) within = ap (λ l. x ∷ l) (take_first xs i (omega (arith, within)))

      joined : (xs : List (RowKey × Row)) → has (texts (xs ++ get_or es n d ∷ [])) q
          ≡ (has (texts xs) q || same q asked)
      joined [] = last (same q asked)
        where
          last : (v : Bool) → (v || false) ≡ v
          last true = refl
          last false = refl
      joined (x ∷ xs) = ap (λ v. same q x.0.1 || v) (joined xs) ∙ three (same q x.0.1) (has (texts xs) q) (same q asked)
        where
          three : (a b c : Bool) → (a || (b || c)) ≡ ((a || b) || c)
          three true b c = refl
          three false b c = refl

  asked_in : Contains es (get_or es n d)
  asked_in = Rattle.std.proofs.lemmas.List.Elements.Contains-get_or es n d below

  -- no child is there already: it would begin, or have a second owner
  apart : (t : Text) → has (texts es) t ≡ true → has (texts found) t ≡ true → ⊥
  apart t h g =
      let c = text_of found t g in
      let child = All-contains IsFound found c.0 found_each c.1 in
      let here : get rows (kind.Token, t) ≡ Some c.0.1 = (λ i. get rows (sym child.0 i, sym c.2 i)) ∙ child.1 in
      let at = at_text rows es walk.tokens t c.0.1 here h in
      let one : c.0 ≡ ((kind.Token, t), c.0.1) = λ i. ((child.0 i, c.2 i), c.0.1) in
      let from = All-contains (λ e. (s e || of_owner before e.1.owner) ≡ true) es
      ((kind.Token, t), c.0.1) walk.origin at in
      let owned : of_owner before c.0.1.owner ≡ true = (λ i. (sym child.3 ∙ ap s one) i || of_owner before c.0.1.owner)
      ∙ from in
      false≢true (sym (none_before es n d below walk.tokens.once) ∙ of_one before asked c.0.1.owner child.2 owned)

  pub walk_goes_on : IsWalk s rows (es ++ found) (n + 1)
  walk_goes_on = record {
    tokens = record {
      each = All-append (λ e. (e.0.0 ≡ kind.Token) × (get rows e.0 ≡ Some e.1)) es found walk.tokens.each
          (λ k c within. ((found_each k c within).0, (found_each k c within).1));
      once = once-append es found walk.tokens.once found_once apart;
    };
    whole = λ t row is begins. Contains-append_left es found ((kind.Token, t), row) (walk.whole t row is begins);
    origin = All-append (λ e. (s e || of_owner (has (texts (take (n + 1) (es ++ found)))) e.1.owner) ≡ true) es found
        (λ k c within. or_weaker (s (get_or es k c)) _ _
        (weaker_owner before (has (texts (take (n + 1) (es ++ found)))) (λ q h. has_more q ∙ or_left _ _ h)
        (get_or es k c).1.owner)
        (walk.origin k c within))
        (λ k c within. or_right (s (get_or found k c)) _
        (weaker_owner (λ o. same o asked) (has (texts (take (n + 1) (es ++ found))))
        (λ q h. has_more q ∙ or_right (before q) _ h)
        (get_or found k c).1.owner (found_each k c within).2));
    closed = λ t row is owned.
        owner_cases (has (texts (take (n + 1) (es ++ found)))) before (λ o. same o asked) has_more row.owner
        (Contains (es ++ found) ((kind.Token, t), row))
        (λ h. Contains-append_left es found ((kind.Token, t), row) (walk.closed t row is h))
        (λ h. child t row is h (s ((kind.Token, t), row)) refl) owned;
    least = λ p starts closed. All-append (λ e. p e.0.1 ≡ true) es found (walk.least p starts closed) (λ k c within.
        let e = found_each k c within in
        let at : get rows (kind.Token, (get_or found k c).0.1) ≡ Some (get_or found k c).1 =
        (λ i. get rows (sym e.0 i, (get_or found k c).0.1)) ∙ e.1 in
        token_each rows (λ e. of_owner p e.1.owner ≡ true → p e.0.1 ≡ true) (get_or found k c).0.1
        (get_or found k c).1 at closed
        (to_one p asked (get_or found k c).1.owner e.2 (walk.least p starts closed n d below)));
    within = omega (arith, below, length-append es found);
  }
    where
      child : (t : Text) (row : Row) → get rows (kind.Token, t) ≡ Some row
          → of_owner (λ o. same o asked) row.owner ≡ true
          → (v : Bool) → s ((kind.Token, t), row) ≡ v → Contains (es ++ found) ((kind.Token, t), row)
      child t row is owned true begins = Contains-append_left es found ((kind.Token, t), row)
          (walk.whole t row is begins)
      child t row is owned false stays = Contains-append_right es found ((kind.Token, t), row)
          (found_whole t row is owned stays)

-- once all have been asked it has all that end
pub walk_ends : (s : Start) (rows : Rows) (es : List (RowKey × Row)) (n : ℕ) → IsWalk s rows es n → (n < length es → ⊥)
    → AreDescending s rows es
walk_ends s rows es n walk done = record {
  tokens = walk.tokens;
  descent = record {
    once = walk.tokens.once;
    stay = each_token rows (λ e. goes s (texts es) e ≡ false)
        (λ t row is. stays t row is (s ((kind.Token, t), row)) (of_owner (has (texts es)) row.owner) refl refl);
    keys = λ q h. let r = text_row rows es walk.tokens q h in
        mapped q (rows_under rows kind.Token []) (token_passes rows (λ e. same q e.0.1) q r.0 r.1 (same_self q));
    least = λ p starts closed q h. let e = text_of es q h in
        ap p (sym e.2) ∙ All-contains (λ e. p e.0.1 ≡ true) es e.0 (walk.least p starts closed) e.1;
  };
}
  where
    all_asked : take n es ≡ es
    all_asked = took es n (omega (arith, walk.within, done))
      where
        took : (xs : List (RowKey × Row)) (i : ℕ) → length xs ≤ i → take i xs ≡ xs
        took [] zero h = refl
        took [] (suc i) h = refl
        took (x ∷ xs) zero h = absurd (omega (arith, h))
        took (x ∷ xs) (suc i) h = ap (λ l. x ∷ l) (took xs i (omega (arith, h)))

    mapped : (q : Text) (fs : List (RowKey × Row)) → list_any (λ e. same q e.0.1) fs ≡ true → has_key fs q ≡ true
    mapped q fs h = sym (same_any fs) ∙ h
      where
        same_any : (gs : List (RowKey × Row)) → list_any (λ e. same q e.0.1) gs ≡ has_key gs q
        same_any [] = refl
        same_any (g ∷ gs) = ap (λ v. same q g.0.1 || v) (same_any gs)

    stays : (t : Text) (row : Row) → get rows (kind.Token, t) ≡ Some row → (a b : Bool) → s ((kind.Token, t), row) ≡ a
        → of_owner (has (texts es)) row.owner ≡ b
        → goes s (texts es) ((kind.Token, t), row) ≡ false
    stays t row is true b begins owned =
        ap (λ v. not v && (s ((kind.Token, t), row) || of_owner (has (texts es)) row.owner))
        (has_text es ((kind.Token, t), row) (walk.whole t row is begins))
    stays t row is false true begins owned =
        ap (λ v. not v && (s ((kind.Token, t), row) || of_owner (has (texts es)) row.owner))
        (has_text es ((kind.Token, t), row)
        (walk.closed t row is ((λ i. of_owner (has (texts (all_asked i))) row.owner) ∙ owned)))
    stays t row is false false begins owned =
        (λ i. not (has (texts es) t) && (begins i || owned i)) ∙ never (not (has (texts es) t))
      where
        never : (v : Bool) → (v && false) ≡ false
        never true = refl
        never false = refl
