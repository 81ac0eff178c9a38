-- The rows of a sound broker keep the rules: those for identifiers, origins and chains of parents too.
use Rattle.std.proofs.Common.{◌≡◌, ◌∷◌, ℕ, zero, suc, [], List, Bool, true, false, cond, Option, Some, None, option_map}
use Rattle.broker_model.specs.Words.{unwrap_or, Contains, entries, find, option_map_or, refl, sym, ◌∙◌, ap, subst, inl}
use Rattle.broker_model.specs.Words.{inr, arith, false≢true, All-contains_itself, Contains-append_left}
use Rattle.broker_model.specs.Words.{Contains-append_right, none-some, same_Some, Text, same, same_true, same_self, id}
use Rattle.broker_model.specs.Words.{ends_within, get, len, first_where, found_or_not, is_nothing, identifier_at}
use Rattle.broker_model.specs.Words.{token_identifier, lease_identifier, first_where_only, OnePasses, Sound, Token}
use Rattle.broker_model.specs.Words.{Lease, token_text, Broker, Waiting, forms, Kind, Row, element_cases, entry_at}
use Rattle.broker_model.specs.Words.{at_entry, RowKey, waiting_in_range, Table, table_of, Rows}
use Rattle.broker_types.specs.IdentifierPlaces as places
use Rattle.broker_types.specs.IdentifierPlaces.{Place}
use Rattle.broker_rows.specs.Words.{Represents}
use Rattle.records.specs.declared.kind.Kind.TheVariants as kind
use Rattle.soundness.specs.Words.{AreSound, Places, IsHad, HasItsIdentifier, AreOfOneOrigin, EndsIn}
use Rattle.soundness.proofs.BrokerRows as broker
use Rattle.soundness.proofs.IdentifiersSound.{key_of, after_prefix}

-- ---- the first of a list

module _ {X : Type 0} (p : X → Bool) where
  -- an element that passes is found, or one before it
  first_found : (xs : List X) (x : X) → Contains xs x → p x ≡ true
      → (y : X) × (find p xs ≡ Some y) × Contains xs y × (p y ≡ true)
  first_found [] x h passes = absurd (omega (arith, h.1))
  first_found (y ∷ ys) x h passes =
      elim (p y)
      as (λ b. p y ≡ b → (z : X) × (cond b (Some y) (find p ys) ≡ Some z) × Contains (y ∷ ys) z × (p z ≡ true)) [
        | true ↦ λ is. (y, refl, head, is)
        | false ↦ λ fails. elim (element_cases y ys x h) [
          | inl one ↦ absurd (false≢true (sym fails ∙ ap p one ∙ passes))
          | inr later ↦
              let z = first_found ys x later passes in
              (z.0, z.1, Contains-append_right (y ∷ []) ys z.0 z.2, z.3)
        ]
      ] refl
    where
      head : Contains (y ∷ ys) y
      head = Contains-append_left (y ∷ []) ys y (All-contains_itself (y ∷ []) 0 y (omega arith))

-- the identifier in the key of a row, if one of its kind has one
abbrev identifier_in : RowKey → Option Text
identifier_in (kind.Token, q) = Some (token_identifier q)
identifier_in (kind.Waiting, q) = Some (token_identifier q)
identifier_in (kind.Accessor, q) = Some q
identifier_in (kind.Credential, q) = Some q
identifier_in (kind.Lease, q) = Some (lease_identifier q)
identifier_in (_, q) = None

-- whether the row has the identifier
abbrev has : Text → RowKey × Row → Bool
has i e = option_map_or (λ j. same j i) (identifier_in e.0) false

has_some : (o : Option Text) (i : Text) → option_map_or (λ j. same j i) o false ≡ true → o ≡ Some i
has_some None i h = absurd (false≢true h)
has_some (Some j) i h = ap Some (same_true j i h)

-- whether the response has the origin
abbrev of_origin : Text → Text → Waiting → Bool
of_origin i t w = same w.origin i

module _ (rows : Rows) (b : Broker) (r : Represents None rows b) where
  abbrev at : Table
  at = table_of rows

  abbrev s : Sound forms None b
  s = r.sound

  -- ---- identifiers

  -- the place of the identifier that a row has
  IsPlaceOf : RowKey → Text → Type 0
  IsPlaceOf key i = (p : Place) × (identifier_at b p ≡ Some i) × (key ≡ key_of p i)

  place_of : (k : Kind) (q : Text) (row : Row) (i : Text) → at k q ≡ Some row → identifier_in (k, q) ≡ Some i
      → IsPlaceOf (k, q) i
  unfolding IsPlaceOf
  place_of kind.Token q row i here is =
      let x = broker.token_in rows b r q row here in
      (places.token q, ap (option_map (λ (_ : Token). token_identifier q)) x.1 ∙ is, refl)
  place_of kind.Waiting q row i here is =
      let w = broker.waiting_in rows b r q row here in
      (places.wrapping_token q, ap (option_map (λ (_ : Waiting). token_identifier q)) w.1 ∙ is, refl)
  place_of kind.Accessor q row i here is =
      let key : ◌≡◌ {A = RowKey} (kind.Accessor, q) (kind.Accessor, i) =
      ap (λ a. (kind.Accessor, a)) (same_Some _ _ is) in
      elim (broker.accessor_in rows b r q row here) [
        | inl x ↦ (
          places.accessor x.0,
          ap (option_map (λ (y : Token). y.accessor)) x.2 ∙ ap Some x.3 ∙ is,
          key,
        )
        | inr w ↦ (
          places.wrapping_accessor w.0,
          ap (option_map (λ (y : Waiting). y.accessor)) w.2 ∙ ap Some w.3 ∙ is,
          key,
        )
      ]
  place_of kind.Credential q row i here is =
      let l = (broker.leases_are rows b r).credentials q row here in (
        places.credential l.0 l.1,
        ap (option_map (λ (m : Lease). m.credential)) l.3 ∙ ap Some l.4 ∙ is,
        ap (λ c. (kind.Credential, c)) (same_Some _ _ is),
      )
  place_of kind.Lease q row i here is =
      let l = (broker.leases_are rows b r).leases q row here in
      (places.lease l.0 q, ap (option_map (λ (_ : Lease). lease_identifier q)) l.2 ∙ is, refl)
  place_of _ q row i here is = absurd (none-some _ is)

  -- the first row that has the identifier of a word
  abbrev identifiers : Places
  identifiers word = option_map (λ (e : RowKey × Row). e.0) (find (has (id word)) (entries rows))

  -- a row has its identifier alone, and it was given out
  had : (k : Kind) (q : Text) (row : Row) (i : Text) → at k q ≡ Some row → identifier_in (k, q) ≡ Some i
      → IsHad at identifiers (k, q) i
  unfolding IsPlaceOf
  had k q row i here is =
      let p = place_of k q row i here is in
      let used = s.identifiers.all_used p.0 i p.1 in
      let word = s.identifiers.used i used in
      let passes : has (id word.0) ((k, q), row) ≡ true =
      ap (λ o. option_map_or (λ j. same j (id word.0)) o false) is
      ∙ ap (λ j. same j (id word.0)) word.2 ∙ same_self (id word.0) in
      let e = first_found (has (id word.0)) (entries rows) ((k, q), row) (entry_at rows (k, q) row here) passes in
      let o = place_of e.0.0.0 e.0.0.1 e.0.1 (id word.0) (at_entry rows e.0 e.2)
      (has_some (identifier_in e.0.0) (id word.0) e.3) in
      let one : o.0 ≡ p.0 = s.identifiers.one_place o.0 p.0 (id word.0) o.1 (p.1 ∙ ap Some word.2) in
      let one_key : key_of o.0 (id word.0) ≡ key_of p.0 i = λ n. key_of (one n) (sym word.2 n) in
      let key : e.0.0 ≡ (k, q) = ◌∙◌ {b = key_of o.0 (id word.0)} o.2 (◌∙◌ {b = key_of p.0 i} one_key (sym p.2)) in (
        word.0,
        word.1,
        word.2,
        broker.marked rows b r i used,
        ap (option_map (λ (e : RowKey × Row). e.0)) e.1 ∙ ap Some key,
      )

  prefixed : (k : Kind) (q : Text) (row : Row) (i : Text) → at k q ≡ Some row → q ≡ token_text i
      → identifier_in (k, q) ≡ Some (token_identifier q) → IsHad at identifiers (k, q) i
  prefixed k q row i here text is =
      had k q row i here (is ∙ ap Some (ap token_identifier text ∙ after_prefix i))

  has_identifier : (k : Kind) (q : Text) (row : Row) → at k q ≡ Some row → HasItsIdentifier at identifiers k q
  has_identifier kind.Token q row here =
      let x = broker.token_in rows b r q row here in
      let name = (s.tokens.each q x.0 x.1).name in
      (name.0, name.2, prefixed kind.Token q row name.0 here name.2 refl)
  has_identifier kind.Waiting q row here =
      let w = broker.waiting_in rows b r q row here in
      let name = (s.waiting.each q w.0 w.1).name in
      (name.0, name.2, prefixed kind.Waiting q row name.0 here name.2 refl)
  has_identifier kind.Accessor q row here = had kind.Accessor q row q here refl
  has_identifier kind.Credential q row here = had kind.Credential q row q here refl
  has_identifier kind.Lease q row here = had kind.Lease q row (lease_identifier q) here refl
  has_identifier _ q row here = tt

  -- ---- origins

  -- the first response that has the origin of a word
  abbrev of_origins : Places
  of_origins word =
      option_map (λ (e : Text × Waiting). (kind.Waiting, e.0)) (first_where (of_origin (id word)) b.waiting)

  one_origin : (i : Text) → OnePasses (of_origin i) b.waiting
  one_origin i t u v w in_t in_u p q =
      s.waiting.one_origin t u v w in_t in_u (same_true v.origin i p ∙ sym (same_true w.origin i q))

  origins : AreOfOneOrigin at
  origins = (
    of_origins,
    λ t row here.
        let w = broker.waiting_in rows b r t row here in
        let used = s.identifiers.origins_used t w.0 w.1 in
        let word = s.identifiers.used w.0.origin used in
        let found = first_where_only (of_origin (id word.0)) b.waiting t w.0 (one_origin (id word.0)) w.1
        (ap (λ o. same o (id word.0)) word.2 ∙ same_self (id word.0)) in (
          w.0,
          (
            waiting_in_range t w.0 (s.waiting.each t w.0 w.1),
            (
              word.0,
              word.1,
              word.2,
              broker.marked rows b r w.0.origin used,
              ap (option_map (λ (e : Text × Waiting). (kind.Waiting, e.0))) found,
            ),
          ),
          w.2,
        ),
  )

  -- ---- chains of parents

  abbrev step : ℕ → Option Token → Bool
  step n o = option_map_or (λ (x : Token). option_map_or (ends_within n b.tokens) x.parent true) o true

  ends : (n : ℕ) (t : Text) → ends_within n b.tokens t ≡ true → EndsIn (suc n) at t
  ends zero t none row here =
      let x = broker.token_in rows b r t row here in
      absurd (none-some _ (sym (is_nothing (get b.tokens t) none) ∙ x.1))
  ends (suc n) t e row here =
      let x = broker.token_in rows b r t row here in
      let above : option_map_or (ends_within n b.tokens) x.0.parent true ≡ true = sym (ap (step n) x.1) ∙ e in
      let owner : row.owner ≡ unwrap_or x.0.parent [] = ap (λ (o : Row). o.owner) x.2 in
      elim (found_or_not x.0.parent) [
        | inl none ↦ inl (owner ∙ ap (λ o. unwrap_or o []) none)
        | inr p ↦ inr (subst (EndsIn (suc n) at) (sym (owner ∙ ap (λ o. unwrap_or o []) p.1))
            (ends n p.0 (sym (ap (λ o. option_map_or (ends_within n b.tokens) o true) p.1) ∙ above)))
      ]

  -- ---- the whole

  pub rules_kept : AreSound at
  rules_kept =
      record {
        clock = broker.clock_here rows b r;
        each = broker.each rows b r;
        identifiers = (identifiers, has_identifier);
        origins = origins;
        chains = λ t row here. (suc (len b.tokens), ends (len b.tokens) t (s.tokens.chains_end t));
      }
