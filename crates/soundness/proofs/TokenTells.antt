-- The rows of tokens, and of what goes with them, are those of the broker that is read off them.
use Rattle.std.proofs.Common.{◌≡◌, ◌+◌, ◌++◌, ◌∷◌, if◌then◌else◌, length, take, drop, true, false, Option, Some, None}
use Rattle.broker_model.specs.Words.{option_map, option_and_then, not, is_none, refl, sym, ◌∙◌, ap, inl, inr}
use Rattle.broker_model.specs.Words.{false≢true, none-some, same_Some, Text, same, same_true, same_self, Map, get}
use Rattle.broker_model.specs.Words.{found_or_not, mapped, first_where_only, first_where_is, none_found, OnePasses}
use Rattle.broker_model.specs.Words.{Token, Lease, Waiting, Row, key_has_slash, key_token, key_path, accessor_row}
use Rattle.broker_model.specs.Words.{cubby_row, lease_row, credential_row, token_len, has_slash, object_row, has_lease}
use Rattle.broker_model.specs.Words.{credential_is, lease_of_credential, token_rows, waiting_rows, or_else, slash}
use Rattle.broker_model.specs.Words.{Table, table_of, Rows, key_parts, token_whole}
use Rattle.records.specs.declared.holder.Holder.TheVariants as holder
use Rattle.records.specs.declared.kind.Kind.TheVariants as kind
use Rattle.soundness.specs.Words.{Named, Owned, Held, AreSound}
use Rattle.soundness.proofs.ReadBack as read
use Rattle.soundness.proofs.TokenFacts.{both_ways, token_is, token_here, token_long, same_entry, same_waiting}
use Rattle.soundness.proofs.TokenFacts.{same_held, held_by, holder_has, entry_row_at}
use Rattle.soundness.proofs.BrokenLemmas.{not_both}

module _ (rows : Rows) (s : AreSound (table_of rows)) where
  abbrev at : Table
  at = table_of rows

  abbrev tokens : Map Token
  tokens = read.tokens rows s

  abbrev waiting : Map Waiting
  waiting = read.waiting rows s

  -- ---- accessors

  pub accessor_of_token : (q t : Text) (y : Token) → get tokens t ≡ Some y → same y.accessor q ≡ true
      → at kind.Accessor q ≡ Some (accessor_row t holder.Token)
  accessor_of_token q t y is h =
      let x = token_is rows s t y is in
      ap (at kind.Accessor) (sym (same_true y.accessor q h)) ∙ ap (λ (z : Token). at kind.Accessor z.accessor) x.2
      ∙ (read.entry_good rows s t x.0 x.1).accessor

  pub accessor_of_waiting : (q t : Text) (w : Waiting) → get waiting t ≡ Some w → same w.accessor q ≡ true
      → at kind.Accessor q ≡ Some (accessor_row t holder.WrappingToken)
  accessor_of_waiting q t w is h =
      ap (at kind.Accessor) (sym (same_true w.accessor q h)) ∙ (read.waiting_good rows s t w is).accessor

  one_token : (q : Text) → OnePasses (λ t (x : Token). same x.accessor q) tokens
  one_token q t u x y in_t in_u p r =
      ap (λ (row : Row). row.owner)
      (same_Some _ _ (sym (accessor_of_token q t x in_t p) ∙ accessor_of_token q u y in_u r))

  one_response : (q : Text) → OnePasses (λ t (w : Waiting). same w.accessor q) waiting
  one_response q t u v w in_t in_u p r =
      ap (λ (row : Row). row.owner)
      (same_Some _ _ (sym (accessor_of_waiting q t v in_t p) ∙ accessor_of_waiting q u w in_u r))

  abbrev both : Text → Option Row
  both q = or_else (token_rows tokens kind.Accessor q) (waiting_rows waiting kind.Accessor q)

  abbrev token_row_of : Text × Token → Row
  token_row_of e = accessor_row e.0 holder.Token

  abbrev waiting_row_of : Text × Waiting → Row
  waiting_row_of e = accessor_row e.0 holder.WrappingToken

  accessor_named : (q : Text) (n : Named) → get (read.named_map rows s) q ≡ Some n → at kind.Accessor q ≡ both q
  accessor_named q (t, holder.Token) is =
      let n = read.named_good rows s q (t, holder.Token) is in
      let entry = same_entry rows s t n.0 n.1 n.2 in
      let here = token_here rows s t (λ none. none-some _ (sym none ∙ n.2)) in
      let one : here.0 ≡ n.0 = same_Some _ _ (sym here.1 ∙ entry) in
      let passes : same here.0.accessor q ≡ true =
      ap (λ a. same a q) ((λ i. (one i).accessor) ∙ n.3) ∙ same_self q in
      let found = first_where_only (λ t (x : Token). same x.accessor q) tokens t (read.token_of rows s t here.0)
      (one_token q) here.2 passes in
      read.named_told rows s q ∙ ap (option_map (read.named_row rows s)) is
      ∙ sym (ap (λ o. or_else (option_map token_row_of o) (waiting_rows waiting kind.Accessor q)) found)
  accessor_named q (t, holder.WrappingToken) is =
      let n = read.named_good rows s q (t, holder.WrappingToken) is in
      let row : at kind.Accessor q ≡ Some (accessor_row t holder.WrappingToken) =
      read.named_told rows s q ∙ ap (option_map (read.named_row rows s)) is in
      let here = same_waiting rows s t n.0 n.1 n.2 in
      let passes : same n.0.accessor q ≡ true = ap (λ a. same a q) n.3 ∙ same_self q in
      let found = first_where_only (λ t (w : Waiting). same w.accessor q) waiting t n.0 (one_response q) here passes in
      let none = none_found (λ t (x : Token). same x.accessor q) tokens
      (λ u x in_u p. not_both u t (same_Some _ _ (sym (accessor_of_token q u x in_u p) ∙ row))) in
      row ∙ sym (λ i. or_else (option_map token_row_of (none i)) (option_map waiting_row_of (found i)))

  pub accessor_told : (q : Text) → at kind.Accessor q ≡ both q
  accessor_told q = elim (found_or_not (get (read.named_map rows s) q)) [
    | inl none ↦
        let no_row : at kind.Accessor q ≡ None =
        read.named_told rows s q ∙ ap (option_map (read.named_row rows s)) none in
        let no_token = none_found (λ t (x : Token). same x.accessor q) tokens
        (λ t x is p. none-some _ (sym no_row ∙ accessor_of_token q t x is p)) in
        let no_response = none_found (λ t (w : Waiting). same w.accessor q) waiting
        (λ t w is p. none-some _ (sym no_row ∙ accessor_of_waiting q t w is p)) in
        no_row ∙ sym (λ i. or_else (option_map token_row_of (no_token i)) (option_map waiting_row_of (no_response i)))
    | inr n ↦ accessor_named q n.0 n.1
  ]

  -- ---- cubbyholes

  -- the row of an object at a path of a token
  object_row_at : (t path : Text) (y : Token) → get tokens t ≡ Some y → length t ≡ token_len
      → token_rows tokens kind.Cubby (t ++ slash ∷ path) ≡ option_map (cubby_row t) (get y.cubbyhole path)
  object_row_at t path y is long =
      ap (λ v. if v then object_row tokens (take token_len (t ++ slash ∷ path))
      (drop (token_len + 1) (t ++ slash ∷ path)) else None)
      (key_has_slash t path long)
      ∙ (λ i. object_row tokens (key_token t path long i) (key_path t path long i))
      ∙ ap (option_and_then (λ (z : Token). option_map (cubby_row t) (get z.cubbyhole path))) is

  object_there : (q : Text) (r : Row) → at kind.Cubby q ≡ Some r → token_rows tokens kind.Cubby q ≡ Some r
  object_there q r is =
      let e = mapped (read.owned_row rows s) (get (read.object_map rows s) q) r
      (sym (read.object_told rows s q) ∙ is) in
      let t = e.0.0 in
      let good = read.object_good rows s q e.0 e.1 in
      let here = token_here rows s t good.owner in
      let long = token_long rows s t _ (entry_row_at rows s t here.0 here.1) in
      let object : get (read.cubbyhole rows s t) good.path ≡ Some e.0.1 =
      read.get-cubbyhole rows s t good.path long
      ∙ ap (option_map (λ (o : Owned). o.1)) (ap (get (read.object_map rows s)) (sym good.key) ∙ e.1) in
      ap (token_rows tokens kind.Cubby) good.key
      ∙ object_row_at t good.path (read.token_of rows s t here.0) here.2 long
      ∙ ap (option_map (cubby_row t)) object ∙ ap Some (sym e.2)

  object_back : (q : Text) (r : Row) → token_rows tokens kind.Cubby q ≡ Some r → at kind.Cubby q ≡ Some r
  object_back q r is =
      elim (has_slash q) as (λ v. has_slash q ≡ v → (if v then object_row tokens t path else None) ≡ Some r
      → at kind.Cubby q ≡ Some r) [
        | true ↦ λ slashed e. of slashed e
        | false ↦ λ _ none. absurd (none-some _ none)
      ] refl is
    where
      t : Text
      t = take token_len q

      path : Text
      path = drop (token_len + 1) q

      stands : (y : Token) → get tokens t ≡ Some y → has_slash q ≡ true
          → option_map (cubby_row t) (get y.cubbyhole path) ≡ Some r → at kind.Cubby q ≡ Some r
      stands y in_t slashed e =
          let x = token_is rows s t y in_t in
          let long = token_whole q slashed in
          let object = mapped (cubby_row t) (get y.cubbyhole path) r e in
          let kept : read.object_read rows s t path ≡ Some object.0 =
          sym (read.get-cubbyhole rows s t path long) ∙ ap (λ (z : Token). get z.cubbyhole path) (sym x.2) ∙ object.1 in
          let o = mapped (λ (o : Owned). o.1) (get (read.object_map rows s) (t ++ slash ∷ path)) object.0 kept in
          let good = read.object_good rows s (t ++ slash ∷ path) o.0 o.1 in
          let here = token_here rows s o.0.0 good.owner in
          let own_long = token_long rows s o.0.0 _ (entry_row_at rows s o.0.0 here.0 here.1) in
          let own : o.0.0 ≡ t =
          sym (key_token o.0.0 good.path own_long) ∙ ap (take token_len) (sym good.key) ∙ key_token t path long in
          ap (at kind.Cubby) (key_parts q slashed) ∙ read.object_told rows s (t ++ slash ∷ path)
          ∙ ap (option_map (read.owned_row rows s)) o.1
          ∙ (λ i. Some (cubby_row (own i) (sym o.2 i))) ∙ ap Some (sym object.2)

      of : has_slash q ≡ true → object_row tokens t path ≡ Some r → at kind.Cubby q ≡ Some r
      of slashed e = elim (found_or_not (get tokens t)) [
        | inl none ↦ absurd
            (none-some _
            (sym (ap (option_and_then (λ (x : Token). option_map (cubby_row t) (get x.cubbyhole path))) none) ∙ e))
        | inr y ↦ stands y.0 y.1 slashed
            (sym (ap (option_and_then (λ (x : Token). option_map (cubby_row t) (get x.cubbyhole path))) y.1) ∙ e)
      ]

  pub object_told : (q : Text) → at kind.Cubby q ≡ token_rows tokens kind.Cubby q
  object_told q = both_ways _ _ (object_there q) (object_back q)

  -- ---- leases

  -- a lease of a token, by the token
  pub lease_held : (t q : Text) (y : Token) (l : Lease) → get tokens t ≡ Some y → get y.leases q ≡ Some l
      → get (read.held_map rows s) q ≡ Some (t, l)
  lease_held t q y l is has =
      let x = token_is rows s t y is in
      held_by rows s t q l (ap (λ (z : Token). get z.leases q) (sym x.2) ∙ has)

  some_lease : (q : Text) (y : Token) → has_lease q y ≡ true → (l : Lease) × (get y.leases q ≡ Some l)
  some_lease q y h = elim (found_or_not (get y.leases q)) [
    | inl none ↦ absurd (false≢true (ap (λ (o : Option Lease). not (is_none o)) (sym none) ∙ h))
    | inr l ↦ l
  ]

  holder_is : (q t : Text) (y : Token) → get tokens t ≡ Some y → has_lease q y ≡ true
      → (l : Lease) × (get (read.held_map rows s) q ≡ Some (t, l))
  holder_is q t y is h = let l = some_lease q y h in (l.0, lease_held t q y l.0 is l.1)

  one_holder : (q : Text) → OnePasses (λ t (x : Token). has_lease q x) tokens
  one_holder q t u x y in_t in_u p r =
      let l = holder_is q t x in_t p in
      let m = holder_is q u y in_u r in
      ap (λ (h : Held). h.0) (same_Some _ _ (sym l.1 ∙ m.1))

  abbrev row_of_lease : Text → Text × Token → Option Row
  row_of_lease q e = option_map (λ l. lease_row e.0 l) (get e.1.leases q)

  pub lease_told : (q : Text) → at kind.Lease q ≡ token_rows tokens kind.Lease q
  lease_told q = elim (found_or_not (get (read.held_map rows s) q)) [
    | inl none ↦
        let nobody = none_found (λ t (x : Token). has_lease q x) tokens
        (λ t x is p. none-some _ (sym none ∙ (holder_is q t x is p).1)) in
        read.held_told rows s q ∙ ap (option_map (read.held_row rows s)) none
        ∙ sym (ap (option_and_then (row_of_lease q)) nobody)
    | inr h ↦
        let t = h.0.0 in
        let here = token_here rows s t ((read.held_good rows s q h.0 h.1).owner) in
        let has = holder_has rows s q h.0 h.1 in
        let found = first_where_only (λ t (x : Token). has_lease q x) tokens t (read.token_of rows s t here.0)
        (one_holder q) here.2 (ap (λ (o : Option Lease). not (is_none o)) has) in
        read.held_told rows s q ∙ ap (option_map (read.held_row rows s)) h.1
        ∙ sym (ap (option_and_then (row_of_lease q)) found ∙ ap (option_map (λ l. lease_row t l)) has)
  ]

  -- ---- credentials

  -- the credential of a held lease has its row
  pub credential_of : (c q : Text) (h : Held) → get (read.held_map rows s) q ≡ Some h → same h.1.credential c ≡ true
      → at kind.Credential c ≡ Some (credential_row q)
  credential_of c q h is p =
      ap (at kind.Credential) (sym (same_true h.1.credential c p)) ∙ (read.held_good rows s q h is).credential

  -- a lease of a token with the credential
  leased : (c t : Text) (y : Token) → get tokens t ≡ Some y → not (is_none (lease_of_credential c y)) ≡ true
      → (q : Text) × (l : Lease) × (lease_of_credential c y ≡ Some (q, l))
      × (get (read.held_map rows s) q ≡ Some (t, l)) × (at kind.Credential c ≡ Some (credential_row q))
  leased c t y is p = elim (found_or_not (lease_of_credential c y)) [
    | inl none ↦ absurd (false≢true (ap (λ (o : Option (Text × Lease)). not (is_none o)) (sym none) ∙ p))
    | inr e ↦
        let at_e = first_where_is (credential_is c) y.leases e.0 e.1 in
        let held = lease_held t e.0.0 y e.0.1 is at_e.0 in
        (e.0.0, e.0.1, e.1, held, credential_of c e.0.0 (t, e.0.1) held at_e.1)
  ]

  one_lease : (c t : Text) (y : Token) → get tokens t ≡ Some y → OnePasses (credential_is c) y.leases
  one_lease c t y is q u l m in_q in_u p r =
      ap (λ (row : Row). row.owner) (same_Some _ _
      (sym (credential_of c q (t, l) (lease_held t q y l is in_q) p)
      ∙ credential_of c u (t, m) (lease_held t u y m is in_u) r))

  one_leaser : (c : Text) → OnePasses (λ t x. not (is_none (lease_of_credential c x))) tokens
  one_leaser c t u x y in_t in_u p r =
      let l = leased c t x in_t p in
      let m = leased c u y in_u r in
      let one : l.0 ≡ m.0 = ap (λ (row : Row). row.owner) (same_Some _ _ (sym l.4 ∙ m.4)) in
      ap (λ (h : Held). h.0) (same_Some _ _ (sym l.3 ∙ ap (get (read.held_map rows s)) one ∙ m.3))

  abbrev row_of_credential : Text → Text × Token → Option Row
  row_of_credential c e = option_map (λ (l : Text × Lease). credential_row l.0) (lease_of_credential c e.1)

  pub credential_told : (c : Text) → at kind.Credential c ≡ token_rows tokens kind.Credential c
  credential_told c = elim (found_or_not (get (read.credential_map rows s) c)) [
    | inl none ↦
        let no_row : at kind.Credential c ≡ None =
        read.credential_told rows s c ∙ ap (option_map credential_row) none in
        let nobody = none_found (λ t x. not (is_none (lease_of_credential c x))) tokens
        (λ t x is p. none-some _ (sym no_row ∙ (leased c t x is p).4)) in
        no_row ∙ sym (ap (option_and_then (row_of_credential c)) nobody)
    | inr q ↦
        let good = read.credential_good rows s c q.0 q.1 in
        let held = same_held rows s q.0 good.0 good.1 good.2 in
        let t = good.0.0 in
        let here = token_here rows s t ((read.held_good rows s q.0 good.0 held).owner) in
        let y = read.token_of rows s t here.0 in
        let has = holder_has rows s q.0 good.0 held in
        let lease : lease_of_credential c y ≡ Some (q.0, good.0.1) =
        first_where_only (credential_is c) y.leases q.0 good.0.1 (one_lease c t y here.2) has
        (ap (λ k. same k c) good.3 ∙ same_self c) in
        let found = first_where_only (λ t x. not (is_none (lease_of_credential c x))) tokens t y (one_leaser c) here.2
        (ap (λ (o : Option (Text × Lease)). not (is_none o)) lease) in
        read.credential_told rows s c ∙ ap (option_map credential_row) q.1
        ∙ sym (ap (option_and_then (row_of_credential c)) found
        ∙ ap (option_map (λ (l : Text × Lease). credential_row l.0)) lease)
  ]
