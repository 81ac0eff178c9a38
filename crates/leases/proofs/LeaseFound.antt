-- What the row of a lease says, and what is found.
use Rattle.std.proofs.Common.{◌≡◌, is_some, Option, Some, None, option_map, option_and_then, refl, sym, ◌∙◌, ap, subst}
use Rattle.records.specs.Words.{inl, inr, none-some, same_Some, Text, get, first_where, found_or_not, mapped}
use Rattle.records.specs.Words.{mapped_none, first_where_is, Token, Lease, Broker, lease_of, IsLeaseInRange}
use Rattle.records.specs.Words.{lease_in_range, lease_row, credential_row, Table}
use Rattle.records.specs.declared.kind.Kind.TheVariants as kind
use Rattle.leases.specs.Words.{Row, Held, IsLeaseAt, IsReadableCredential, RepresentsLeases, find, verify, holds}
use Rattle.leases.specs.Words.{holds_credential, lease_at, credential_at, lease_rows, credential_rows, lease_in}
use Rattle.leases.specs.Words.{is_there, are_leases}

-- the record of a row that is there
pub at_is : (rows : Table) (q : Text) (o : Option Held) (r : Row) → IsLeaseAt rows q o → rows kind.Lease q ≡ Some r
    → (h : Held) × (o ≡ Some h) × IsLeaseInRange h.1 × (r ≡ lease_row h.0 h.1)
at_is rows q o r at is =
    let h = mapped (λ (h : Held). lease_row h.0 h.1) o r (sym at.row ∙ is) in
    (h.0, h.1, at.in_range h.0 h.1, h.2)

-- no row, no record
pub at_none : (rows : Table) (q : Text) (o : Option Held) → IsLeaseAt rows q o → rows kind.Lease q ≡ None → o ≡ None
at_none rows q o at none = mapped_none (λ (h : Held). lease_row h.0 h.1) o (sym at.row ∙ none)

-- a row that was read
pub at_read : (rows : Table) (q : Text) (r : Row) (l : Lease) → rows kind.Lease q ≡ Some r → IsLeaseInRange l
    → r ≡ lease_row r.owner l
    → IsLeaseAt rows q (Some (r.owner, l))
at_read rows q r l is in_range row =
    record {
      in_range = λ h e. subst (λ (h : Held). IsLeaseInRange h.1) (same_Some _ _ e) in_range;
      row = is ∙ ap Some row;
    }

-- ---- of a broker

module _ (rows : Table) (b : Broker) (represents : RepresentsLeases rows b) (q : Text) where
  abbrev in_token : Text × Token → Option Held
  in_token e = option_map (λ l. (e.0, l)) (get e.1.leases q)

  abbrev found : Option (Text × Token)
  found = first_where (holds q) b.tokens

  -- the lease, and the token that has it
  abbrev pub held : Option Held
  held = option_and_then in_token found

  pub find_is : find b q ≡ option_map (λ h. h.1) held
  find_is = inner found
    where
      one : (t : Text) (o : Option Lease) → o ≡ option_map (λ (h : Held). h.1) (option_map (λ l. (t, l)) o)
      one t None = refl
      one t (Some l) = refl

      inner : (o : Option (Text × Token)) → option_and_then (λ (e : Text × Token). get e.1.leases q) o
          ≡ option_map (λ h. h.1) (option_and_then in_token o)
      inner None = refl
      inner (Some e) = one e.0 (get e.1.leases q)

  row_held : rows kind.Lease q ≡ option_map (λ h. lease_row h.0 h.1) held
  row_held = represents.tells kind.Lease q refl ∙ lease_rows b q ∙ inner found
    where
      one : (t : Text) (o : Option Lease) → option_map (λ l. lease_row t l) o
          ≡ option_map (λ (h : Held). lease_row h.0 h.1) (option_map (λ l. (t, l)) o)
      one t None = refl
      one t (Some l) = refl

      inner : (o : Option (Text × Token)) → option_and_then (lease_at q) o
          ≡ option_map (λ (h : Held). lease_row h.0 h.1) (option_and_then in_token o)
      inner None = refl
      inner (Some e) = one e.0 (get e.1.leases q)

  held_of : (h : Held) → held ≡ Some h → lease_of b h.0 q ≡ Some h.1
  held_of h is = elim (found_or_not found) [
    | inl none ↦ absurd (none-some _ (sym (ap (option_and_then in_token) none) ∙ is))
    | inr e ↦
        let at = first_where_is (holds q) b.tokens e.0 e.1 in
        let l = mapped (λ l. (e.0.0, l)) (get e.0.1.leases q) h (sym (ap (option_and_then in_token) e.1) ∙ is) in
        (λ i. lease_of b ((l.2 i).0) q) ∙ lease_in b e.0.0 q e.0.1 at.0 ∙ l.1
        ∙ ap Some (sym (ap (λ (h : Held). h.1) l.2))
  ]

  pub held_at : IsLeaseAt rows q held
  held_at = record {
    in_range = λ h is. lease_in_range q h.1 (represents.sound h.0 q h.1 (held_of h is));
    row = row_held;
  }

  -- no row, no lease
  pub find_none : rows kind.Lease q ≡ None → find b q ≡ None
  find_none none = find_is ∙ ap (option_map (λ (h : Held). h.1)) (at_none rows q held held_at none)

  -- a row is that of the lease
  pub find_some : (r : Row) → rows kind.Lease q ≡ Some r
      → (h : Held) × IsLeaseInRange h.1 × (r ≡ lease_row h.0 h.1) × (find b q ≡ Some h.1)
      × (lease_of b h.0 q ≡ Some h.1)
  find_some r is =
      let h = at_is rows q held r held_at is in
      (h.0, h.2, h.3, find_is ∙ ap (option_map (λ (h : Held). h.1)) h.1, held_of h.0 h.1)

  -- a credential has a row exactly if some lease has it
  pub verify_told : is_some (rows kind.Credential q) ≡ verify b q
  verify_told = ap is_some (represents.tells kind.Credential q refl ∙ credential_rows b q)
      ∙ elim (found_or_not (first_where (holds_credential q) b.tokens)) [
        | inl none ↦ ap (λ o. is_some (option_and_then (credential_at q) o)) none ∙ sym (ap is_some none)
        | inr e ↦
            let l = is_there _ (first_where_is (holds_credential q) b.tokens e.0 e.1).1 in
            ap (λ o. is_some (option_and_then (credential_at q) o)) e.1
            ∙ ap (λ o. is_some (option_map (λ (l : Text × Lease). credential_row l.0) o)) l.1
            ∙ sym (ap is_some e.1)
      ]

  -- and its row can be read
  pub credential_readable : IsReadableCredential rows q
  credential_readable r is =
      let l = (are_leases b represents.one_place rows represents.tells).credentials q r is in
      l.5 ∙ ap credential_row (sym (ap (λ (r : Row). r.owner) l.5))
