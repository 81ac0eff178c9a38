-- The rows of a sound broker keep the rules for single rows.
use Rattle.std.proofs.Common.{◌≡◌, ◌≢◌, ◌+◌, ◌++◌, ◌∷◌, ◌⊎◌, if◌then◌else◌, ◌≤◌, ℕ, [], take, drop, Bool, true, false}
use Rattle.broker_model.specs.Words.{Option, Some, None, option_map, option_and_then, ⊤, refl, sym, ◌∙◌, ap, subst, inl}
use Rattle.broker_model.specs.Words.{inr, false≢true, none-some, same_Some, Text, same, same_true, same_self}
use Rattle.broker_model.specs.Words.{most_custom_metadata, get, first_where, found_or_not, mapped, mapped_none}
use Rattle.broker_model.specs.Words.{identifier_at, place_token, each_entry, first_where_is, first_where_only}
use Rattle.broker_model.specs.Words.{none_found, OnePasses, Key, Sound, IsIdentifier, IsCustomPair, IsSoundMount}
use Rattle.broker_model.specs.Words.{IsSoundPolicy, IsSoundRole, Token, Broker, Waiting, forms, Kind, Row, digits_are}
use Rattle.broker_model.specs.Words.{key_entry, token_entry, token_in_range, lease_in_range, key_in_range}
use Rattle.broker_model.specs.Words.{version_in_range, waiting_in_range, clock_row, used_row, token_row, entry_row}
use Rattle.broker_model.specs.Words.{accessor_row, cubby_row, lease_row, credential_row, key_row, key_entry_row}
use Rattle.broker_model.specs.Words.{version_row, waiting_row, mount_row, policy_row, role_row, rows_of, token_len}
use Rattle.broker_model.specs.Words.{has_slash, object_row, or_else, waiting_rows, version_at, version_row_of}
use Rattle.broker_model.specs.Words.{version_of_digits, line_feed, split_once, lacking_split, Table, table_of, Rows}
use Rattle.broker_model.specs.Words.{key_parts, AreLeases, are_leases, token_of}
use Rattle.std.specs.FinMap as fin
use Rattle.broker_types.specs.IdentifierPlaces as places
use Rattle.broker_types.specs.IdentifierPlaces.{Place}
use Rattle.broker_rows.specs.Words.{Represents}
use Rattle.records.specs.declared.holder.Holder.TheVariants as holder
use Rattle.records.specs.declared.kind.Kind.TheVariants as kind
use Rattle.soundness.specs.Words.{IsOf, IsClock, IsTokenAt, Named, IsNamedBy, Owned, IsObjectAt, Held, IsLeaseAt}
use Rattle.soundness.specs.Words.{IsCredentialOf, IsKeyAt, IsVersionAt, IsWaitingAt, IsSoundAt}

-- whether it is the place of a wrapping token's accessor
is_wrapping : Place → Bool
is_wrapping (places.wrapping_accessor t) = true
is_wrapping _ = false

abbrev token_named : Text × Token → Row
token_named e = accessor_row e.0 holder.Token

abbrev waiting_named : Text × Waiting → Row
waiting_named e = accessor_row e.0 holder.WrappingToken

abbrev token_has : Text → Text → Token → Bool
token_has a t x = same x.accessor a

abbrev waiting_has : Text → Text → Waiting → Bool
waiting_has a t w = same w.accessor a

module _ (rows : Rows) (b : Broker) (r : Represents None rows b) where
  abbrev at : Table
  at = table_of rows

  abbrev s : Sound forms None b
  s = r.sound

  -- the row at each kind and key is the broker's
  pub told : (k : Kind) (q : Text) → at k q ≡ rows_of b k q
  told k q = ap (λ (t : Table). t k q) r.rows

  -- ---- the clock, and identifiers that were given out

  clock_at : (q : Text) (row : Row) → at kind.Clock q ≡ Some row → IsOf clock_row (IsClock q) row
  unfolding rows_of
  clock_at q row is =
      elim (same q [])
      as (λ v. same q [] ≡ v → (if v then Some (clock_row b.clock) else None) ≡ Some row
      → IsOf clock_row (IsClock q) row) [
        | true ↦ λ here found. (b.clock, (same_true q [] here, s.clock), sym (same_Some _ _ found))
        | false ↦ λ _ none. absurd (none-some _ none)
      ] refl (sym (told kind.Clock q) ∙ is)

  pub clock_here : at kind.Clock [] ≢ None
  unfolding rows_of
  clock_here none =
      none-some _
      (sym none ∙ told kind.Clock [] ∙ ap (λ v. if v then Some (clock_row b.clock) else None) (same_self []))

  -- what was given out has its row
  pub marked : (i : Text) → get b.used i ≢ None → at kind.Used i ≢ None
  unfolding rows_of
  marked i here none = here (mapped_none (λ (_ : ⊤). used_row) (get b.used i) (sym (told kind.Used i) ∙ none))

  used_at : (q : Text) (row : Row) → at kind.Used q ≡ Some row
      → IsOf {X = ⊤} (λ _. used_row) (λ _. IsIdentifier q) row
  unfolding rows_of
  used_at q row is =
      let u = mapped (λ (_ : ⊤). used_row) (get b.used q) row (sym (told kind.Used q) ∙ is) in
      (u.0, s.identifiers.used q (λ none. none-some _ (sym none ∙ u.1)), u.2)

  -- ---- tokens

  -- a row of a token is that of one of the broker
  pub token_in : (t : Text) (row : Row) → at kind.Token t ≡ Some row
      → (x : Token) × (get b.tokens t ≡ Some x) × (row ≡ token_row x)
  unfolding rows_of
  token_in t row is = mapped token_row (get b.tokens t) row (sym (told kind.Token t) ∙ is)

  token_at : (t : Text) (x : Token) → get b.tokens t ≡ Some x → at kind.Token t ≡ Some (token_row x)
  unfolding rows_of
  token_at t x is = told kind.Token t ∙ ap (option_map token_row) is

  filled : (t : Text) → get b.tokens t ≢ None → at kind.Token t ≢ None
  unfolding rows_of
  filled t there none = there (mapped_none token_row (get b.tokens t) (sym (told kind.Token t) ∙ none))

  filled_by : (t : Text) (x : Token) → get b.tokens t ≡ Some x → at kind.Token t ≢ None
  filled_by t x is = filled t (λ none. none-some _ (sym none ∙ is))

  -- ---- responses that wait

  -- a row of a response is that of one of the broker
  pub waiting_in : (t : Text) (row : Row) → at kind.Waiting t ≡ Some row
      → (w : Waiting) × (get b.waiting t ≡ Some w) × (row ≡ waiting_row w)
  unfolding rows_of
  waiting_in t row is = mapped waiting_row (get b.waiting t) row (sym (told kind.Waiting t) ∙ is)

  waiting_at : (t : Text) (w : Waiting) → get b.waiting t ≡ Some w → at kind.Waiting t ≡ Some (waiting_row w)
  unfolding rows_of
  waiting_at t w is = told kind.Waiting t ∙ ap (option_map waiting_row) is

  -- ---- accessors

  in_token : (a t : Text) (x : Token) → get b.tokens t ≡ Some x → same x.accessor a ≡ true
      → identifier_at b (places.accessor t) ≡ Some a
  in_token a t x is p = ap (option_map (λ (y : Token). y.accessor)) is ∙ ap Some (same_true x.accessor a p)

  in_waiting : (a t : Text) (w : Waiting) → get b.waiting t ≡ Some w → same w.accessor a ≡ true
      → identifier_at b (places.wrapping_accessor t) ≡ Some a
  in_waiting a t w is p = ap (option_map (λ (y : Waiting). y.accessor)) is ∙ ap Some (same_true w.accessor a p)

  one_token : (a : Text) → OnePasses (token_has a) b.tokens
  one_token a t u x y in_t in_u p q =
      ap place_token
      (s.identifiers.one_place (places.accessor t) (places.accessor u) a (in_token a t x in_t p)
      (in_token a u y in_u q))

  one_response : (a : Text) → OnePasses (waiting_has a) b.waiting
  one_response a t u v w in_t in_u p q =
      ap place_token
      (s.identifiers.one_place (places.wrapping_accessor t) (places.wrapping_accessor u) a (in_waiting a t v in_t p)
      (in_waiting a u w in_u q))

  accessor_of_token : (t : Text) (x : Token) → get b.tokens t ≡ Some x
      → at kind.Accessor x.accessor ≡ Some (accessor_row t holder.Token)
  unfolding rows_of
  accessor_of_token t x is =
      let found = first_where_only (token_has x.accessor) b.tokens t x (one_token x.accessor) is
      (same_self x.accessor) in
      told kind.Accessor x.accessor
      ∙ ap (λ o. or_else (option_map token_named o) (waiting_rows b.waiting kind.Accessor x.accessor)) found

  accessor_of_waiting : (t : Text) (w : Waiting) → get b.waiting t ≡ Some w
      → at kind.Accessor w.accessor ≡ Some (accessor_row t holder.WrappingToken)
  unfolding rows_of is_wrapping
  accessor_of_waiting t w is =
      let a = w.accessor in
      let nobody = none_found (token_has a) b.tokens (λ u x in_u p. false≢true
      (ap is_wrapping
      (s.identifiers.one_place (places.accessor u) (places.wrapping_accessor t) a (in_token a u x in_u p)
      (in_waiting a t w is (same_self a))))) in
      let found = first_where_only (waiting_has a) b.waiting t w (one_response a) is (same_self a) in
      told kind.Accessor a
      ∙ (λ i. or_else (option_map token_named (nobody i)) (option_map waiting_named (found i)))

  -- a row of an accessor is that of a token or of a wrapping token
  pub accessor_in : (a : Text) (row : Row) → at kind.Accessor a ≡ Some row
      → ((t : Text) × (x : Token) × (get b.tokens t ≡ Some x) × (x.accessor ≡ a) × (row ≡ accessor_row t holder.Token))
      ⊎ ((t : Text) × (w : Waiting) × (get b.waiting t ≡ Some w) × (w.accessor ≡ a)
      × (row ≡ accessor_row t holder.WrappingToken))
  unfolding rows_of
  accessor_in a row is = elim (found_or_not (first_where (token_has a) b.tokens)) [
    | inr e ↦
        let at_e = first_where_is (token_has a) b.tokens e.0 e.1 in
        inl (
          e.0.0,
          e.0.1,
          at_e.0,
          same_true e.0.1.accessor a at_e.1,
          same_Some _ _ (sym is ∙ told kind.Accessor a
              ∙ ap (λ o. or_else (option_map token_named o) (waiting_rows b.waiting kind.Accessor a)) e.1),
        )
    | inl none ↦
        let e = mapped waiting_named (first_where (waiting_has a) b.waiting) row
        (sym (told kind.Accessor a
        ∙ ap (λ o. or_else (option_map token_named o) (waiting_rows b.waiting kind.Accessor a)) none) ∙ is) in
        let at_e = first_where_is (waiting_has a) b.waiting e.0 e.1 in
        inr (e.0.0, e.0.1, at_e.0, same_true e.0.1.accessor a at_e.1, e.2)
  ]

  accessor_at : (a : Text) (row : Row) → at kind.Accessor a ≡ Some row
      → IsOf (λ (n : Named). accessor_row n.0 n.1) (IsNamedBy at a) row
  accessor_at a row is = elim (accessor_in a row is) [
    | inl x ↦ (
      (x.0, holder.Token),
      (
        token_entry x.1,
        token_in_range forms b.tokens s.tokens x.0 x.1 x.2,
        token_at x.0 x.1 x.2,
        x.3,
      ),
      x.4,
    )
    | inr w ↦ (
      (w.0, holder.WrappingToken),
      (w.1, waiting_in_range w.0 w.1 (s.waiting.each w.0 w.1 w.2), waiting_at w.0 w.1 w.2, w.3),
      w.4,
    )
  ]

  token_good : (t : Text) (row : Row) → at kind.Token t ≡ Some row → IsOf entry_row (IsTokenAt at t) row
  token_good t row is =
      let x = token_in t row is in (
        token_entry x.0,
        record {
          in_range = token_in_range forms b.tokens s.tokens t x.0 x.1;
          policy_names = (s.tokens.each t x.0 x.1).policy_names;
          unspent = λ spent. none-some _ (s.unspent t x.0 x.1 spent);
          parent = λ p parent. filled p (s.tokens.parents_exist t p x.0 x.1 parent);
          accessor = accessor_of_token t x.0 x.1;
        },
        x.2,
      )

  waiting_good : (t : Text) (row : Row) → at kind.Waiting t ≡ Some row → IsOf waiting_row (IsWaitingAt at t) row
  waiting_good t row is =
      let w = waiting_in t row is in
      let good = s.waiting.each t w.0 w.1 in (
        w.0,
        record {
          in_range = waiting_in_range t w.0 good;
          waits = good.waits;
          path = good.path;
          accessor = accessor_of_waiting t w.0 w.1;
        },
        w.2,
      )

  -- ---- cubbyholes

  abbrev object_of : Text → Text → Token → Option Row
  object_of t path x = option_map (cubby_row t) (get x.cubbyhole path)

  object_good : (q : Text) (row : Row) → at kind.Cubby q ≡ Some row
      → IsOf (λ (e : Owned). cubby_row e.0 e.1) (IsObjectAt at q) row
  unfolding rows_of
  object_good q row is =
      elim (has_slash q)
      as (λ v. has_slash q ≡ v → (if v then object_row b.tokens t path else None) ≡ Some row
      → IsOf (λ (e : Owned). cubby_row e.0 e.1) (IsObjectAt at q) row) [
        | true ↦ λ slashed found. of slashed found
        | false ↦ λ _ none. absurd (none-some _ none)
      ] refl (sym (told kind.Cubby q) ∙ is)
    where
      t : Text
      t = take token_len q

      path : Text
      path = drop (token_len + 1) q

      of : has_slash q ≡ true → object_row b.tokens t path ≡ Some row
          → IsOf (λ (e : Owned). cubby_row e.0 e.1) (IsObjectAt at q) row
      of slashed found = elim (found_or_not (get b.tokens t)) [
        | inl none ↦ absurd (none-some _ (sym (ap (option_and_then (object_of t path)) none) ∙ found))
        | inr x ↦
            let o = mapped (cubby_row t) (get x.0.cubbyhole path) row
            (sym (ap (option_and_then (object_of t path)) x.1) ∙ found) in
            let good = (s.tokens.each t x.0 x.1).cubbyhole path o.0 o.1 in (
              (t, o.0),
              record {
                path = path;
                key = key_parts q slashed;
                owner = filled_by t x.0 x.1;
                is_path_text = good.0;
                object = good.1;
              },
              o.2,
            )
      ]

  -- ---- leases and credentials

  pub leases_are : AreLeases at b
  leases_are = are_leases b s.identifiers.one_place at (λ k q _. told k q)

  lease_good : (q : Text) (row : Row) → at kind.Lease q ≡ Some row
      → IsOf (λ (h : Held). lease_row h.0 h.1) (IsLeaseAt at q) row
  lease_good q row is =
      let l = leases_are.leases q row is in
      let x = token_of b l.0 q l.1 l.2 in
      let good = (s.tokens.each l.0 x.0 x.1).leases q l.1 x.2 in (
        (l.0, l.1),
        record {
          in_range = lease_in_range q l.1 good;
          name = good.name;
          ttl = good.ttl;
          owner = filled_by l.0 x.0 x.1;
          credential = leases_are.each_credential l.0 q l.1 l.2;
        },
        l.3,
      )

  credential_good : (c : Text) (row : Row) → at kind.Credential c ≡ Some row
      → IsOf credential_row (IsCredentialOf at c) row
  credential_good c row is =
      let l = leases_are.credentials c row is in
      let x = token_of b l.0 l.1 l.2 l.3 in
      let good = (s.tokens.each l.0 x.0 x.1).leases l.1 l.2 x.2 in
      (l.1, ((l.0, l.2), lease_in_range l.1 l.2 good, leases_are.each_lease l.0 l.1 l.2 l.3, l.4), l.5)

  -- ---- secrets

  key_good : (q : Text) (row : Row) → at kind.KvKey q ≡ Some row → IsOf key_entry_row (IsKeyAt q) row
  unfolding rows_of
  key_good q row is =
      let k = mapped key_row (get b.secrets q) row (sym (told kind.KvKey q) ∙ is) in
      let good = s.secrets q k.0 k.1 in (
        key_entry k.0,
        record {
          in_range = key_in_range forms q k.0 good;
          name = good.name;
          few_metadata = subst (λ n. n ≤ most_custom_metadata) (fin.len-entries k.0.custom_metadata) good.few_metadata;
          metadata = each_entry (λ e. IsCustomPair e.0 e.1) k.0.custom_metadata good.metadata;
        },
        k.2,
      )

  version_of : (q : Text) (row : Row) (p : Text × Text) (n : ℕ) (k : Key) → split_once line_feed q ≡ Some p
      → version_of_digits p.1 ≡ Some n → get b.secrets p.0 ≡ Some k
      → option_map version_row (fin.get k.versions n) ≡ Some row → IsOf version_row (IsVersionAt at q) row
  unfolding rows_of
  version_of q row p n k split digits in_p e =
      let v = mapped version_row (fin.get k.versions n) row e in
      let key = s.secrets p.0 k in_p in
      let good = key.versions n v.0 v.1 in (
        v.0,
        record {
          in_range = version_in_range forms k n v.0 good;
          object = good.secret;
          name = p.0;
          number = n;
          key = key_entry k;
          key_in_range = key_in_range forms p.0 k key;
          key_row = told kind.KvKey p.0 ∙ ap (option_map key_row) in_p;
          is_key = (lacking_split line_feed q p split).0 ∙ ap (λ d. p.0 ++ line_feed ∷ d) (digits_are p.1 n digits).1;
          first = good.first;
          last = good.last;
        },
        v.2,
      )

  version_good : (q : Text) (row : Row) → at kind.KvVersion q ≡ Some row → IsOf version_row (IsVersionAt at q) row
  unfolding rows_of
  version_good q row is = elim (found_or_not (split_once line_feed q)) [
    | inl none ↦ absurd
        (none-some _ (sym (told kind.KvVersion q ∙ ap (option_and_then (version_at b.secrets)) none) ∙ is))
    | inr p ↦
        let at_p : version_row_of (get b.secrets p.0.0) (version_of_digits p.0.1) ≡ Some row =
        sym (told kind.KvVersion q ∙ ap (option_and_then (version_at b.secrets)) p.1) ∙ is in
        elim (found_or_not (version_of_digits p.0.1)) [
          | inl none ↦ absurd (none-some _ (sym (ap (version_row_of (get b.secrets p.0.0)) none) ∙ at_p))
          | inr n ↦
              let at_n : version_row_of (get b.secrets p.0.0) (Some n.0) ≡ Some row =
              sym (ap (version_row_of (get b.secrets p.0.0)) n.1) ∙ at_p in
              elim (found_or_not (get b.secrets p.0.0)) [
                | inl none ↦ absurd (none-some _ (sym (ap (λ k. version_row_of k (Some n.0)) none) ∙ at_n))
                | inr k ↦ version_of q row p.0 n.0 k.0 p.1 n.1 k.1
                    (sym (ap (λ k. version_row_of k (Some n.0)) k.1) ∙ at_n)
              ]
        ]
  ]

  -- ---- settings

  mount_good : (q : Text) (row : Row) → at kind.Mount q ≡ Some row → IsOf mount_row (IsSoundMount q) row
  unfolding rows_of
  mount_good q row is =
      let m = mapped mount_row (get b.mounts q) row (sym (told kind.Mount q) ∙ is) in
      (m.0, s.mounts q m.0 m.1, m.2)

  policy_good : (q : Text) (row : Row) → at kind.Policy q ≡ Some row → IsOf policy_row (IsSoundPolicy forms q) row
  unfolding rows_of
  policy_good q row is =
      let p = mapped policy_row (get b.policies q) row (sym (told kind.Policy q) ∙ is) in
      (p.0, s.policies q p.0 p.1, p.2)

  role_good : (q : Text) (row : Row) → at kind.Role q ≡ Some row → IsOf role_row (IsSoundRole q) row
  unfolding rows_of
  role_good q row is =
      let p = mapped role_row (get b.roles q) row (sym (told kind.Role q) ∙ is) in
      (p.0, s.roles q p.0 p.1, p.2)

  -- ---- each row

  pub each : (k : Kind) (q : Text) (row : Row) → at k q ≡ Some row → IsSoundAt at k q row
  each kind.Clock q row is = clock_at q row is
  each kind.Used q row is = used_at q row is
  each kind.Token q row is = token_good q row is
  each kind.Accessor q row is = accessor_at q row is
  each kind.Cubby q row is = object_good q row is
  each kind.Lease q row is = lease_good q row is
  each kind.Credential q row is = credential_good q row is
  each kind.KvKey q row is = key_good q row is
  each kind.KvVersion q row is = version_good q row is
  each kind.Waiting q row is = waiting_good q row is
  each kind.Mount q row is = mount_good q row is
  each kind.Policy q row is = policy_good q row is
  each kind.Role q row is = role_good q row is
