-- Laws of what ends as a broker evolves.
use Rattle.std.proofs.Common.{◌≡◌, ◌≢◌, Option, Some, None, option_map, option_and_then, sym, ◌∙◌, ap, subst, inl, inr}
use Rattle.broker_model.specs.Words.{false≢true, none-some, Text, get, Broker, Token, Lease, Evolves, HasEnded}
use Rattle.broker_model.specs.Words.{IsTakenOut, OriginIsGone, found_or_not, IsUsed, identifier_at, lease_of, token}
use Rattle.broker_model.specs.Words.{lease, credential, wrapping_token, token_identifier, lease_identifier}
use Rattle.broker_model.specs.Words.{SoundIdentifiers, Bool, true, false}
use Rattle.broker_types.specs.IdentifierPlaces.{Place}

-- a lease that ended: its identifiers were given out, and no lease has one of them
pub record IsLeaseGone (b : Broker) (lease_id : Text) (l : Lease) : Type 0 where
  pub used : IsUsed b (lease_identifier lease_id)
  pub credential_used : IsUsed b l.credential
  pub gone : (t id : Text) (k : Lease) → lease_of b t id ≡ Some k
      → (lease_identifier id ≢ lease_identifier lease_id) × (k.credential ≢ l.credential)

-- ---- what lasts

-- a token that has ended stays so
pub ended_lasts : (b c : Broker) (t : Text) → Evolves b c → HasEnded b t → HasEnded c t
ended_lasts b c t e h = record {
  used = e.used (token_identifier t) h.used;
  gone = elim (found_or_not (get c.tokens t)) [
    | inl none ↦ none
    | inr x ↦ elim (e.tokens t x.0 x.1) [ inl stood ↦ absurd (stood h.gone) | inr new ↦ absurd (h.used new) ]
  ];
  not_waiting = elim (found_or_not (get c.waiting t)) [
    | inl none ↦ none
    | inr w ↦ elim (e.wrapping_tokens t w.0 w.1) [
      | inl waited ↦ absurd (waited h.not_waiting)
      | inr new ↦ absurd (h.used new)
    ]
  ];
}

-- so does a wrapping token that was taken out
pub out_lasts : (b c : Broker) (t : Text) → Evolves b c → IsTakenOut b t → IsTakenOut c t
out_lasts b c t e h = record {
  used = e.used (token_identifier t) h.used;
  gone = elim (found_or_not (get c.waiting t)) [
    | inl none ↦ none
    | inr w ↦ elim (e.wrapping_tokens t w.0 w.1) [ inl waited ↦ absurd (waited h.gone) | inr new ↦ absurd (h.used new) ]
  ];
}

-- and an origin that is gone
pub origin_lasts : (b c : Broker) (o : Text) → Evolves b c → OriginIsGone b o → OriginIsGone c o
origin_lasts b c o e h = record {
  used = e.used o h.used;
  gone = λ t w is same_origin. elim (e.waiting t w is) [
    | inl v ↦ h.gone v.0 v.1 v.2 (sym v.3 ∙ same_origin)
    | inr new ↦ h.used (subst (λ i. get b.used i ≡ None) same_origin new)
  ];
}

-- a lease that has ended stays so
pub lease_lasts : (b c : Broker) (lease_id : Text) (l : Lease) → Evolves b c → IsLeaseGone b lease_id l
    → IsLeaseGone c lease_id l
lease_lasts b c lease_id l e h = record {
  used = e.used (lease_identifier lease_id) h.used;
  credential_used = e.used l.credential h.credential_used;
  gone = λ t id k is. elim (e.leases t id k is) [
    | inl before ↦
        let no = h.gone t id before.0 before.1 in
        (no.0, λ same. no.1 (before.2 ∙ same))
    | inr new ↦ (
      λ same. h.used (ap (get b.used) (sym same) ∙ new.0),
      λ same. h.credential_used (ap (get b.used) (sym same) ∙ new.1),
    )
  ];
}

-- ---- what has ended

abbrev is_wrapping : Place → Bool
is_wrapping (wrapping_token t) = true
is_wrapping _ = false

-- whose a lease or a credential is
abbrev holder : Place → Option Text
holder (lease t id) = Some t
holder (credential t id) = Some t
holder _ = None

module _ (b c : Broker) (ids : SoundIdentifiers b) (e : Evolves b c) (q : Text) (gone : get c.tokens q ≡ None) where
  -- a token that is gone has ended
  pub gone_has_ended : get b.tokens q ≢ None → HasEnded c q
  gone_has_ended stood = elim (found_or_not (get b.tokens q)) [
    | inl none ↦ absurd (stood none)
    | inr x ↦
        let here : identifier_at b (token q) ≡ Some (token_identifier q) =
        ap (option_map (λ _. token_identifier q)) x.1 in
        let used = ids.all_used (token q) (token_identifier q) here in
        record {
          used = e.used (token_identifier q) used;
          gone = gone;
          not_waiting = elim (found_or_not (get c.waiting q)) [
            | inl none ↦ none
            | inr w ↦ elim (e.wrapping_tokens q w.0 w.1) [
              | inl waited ↦ elim (found_or_not (get b.waiting q)) [
                | inl none ↦ absurd (waited none)
                | inr v ↦
                    let there : identifier_at b (wrapping_token q) ≡ Some (token_identifier q) =
                    ap (option_map (λ _. token_identifier q)) v.1 in
                    absurd (false≢true (ap is_wrapping (ids.one_place (token q) (wrapping_token q)
                    (token_identifier q) here there)))
              ]
              | inr new ↦ absurd (used new)
            ]
          ];
        }
  ]

  no_lease : (id : Text) (k : Lease) → lease_of c q id ≡ Some k → ⊥
  no_lease id k is = none-some _ (sym (ap (option_and_then (λ (x : Token). get x.leases id)) gone) ∙ is)

  -- and so have its leases
  pub leases_are_gone : (lease_id : Text) (l : Lease) → lease_of b q lease_id ≡ Some l → IsLeaseGone c lease_id l
  leases_are_gone lease_id l was =
      let here : identifier_at b (lease q lease_id) ≡ Some (lease_identifier lease_id) =
      ap (option_map (λ (k : Lease). lease_identifier lease_id)) was in
      let secret : identifier_at b (credential q lease_id) ≡ Some l.credential =
      ap (option_map (λ (k : Lease). k.credential)) was in
      let used = ids.all_used (lease q lease_id) (lease_identifier lease_id) here in
      let secret_used = ids.all_used (credential q lease_id) l.credential secret in
      record {
        used = e.used (lease_identifier lease_id) used;
        credential_used = e.used l.credential secret_used;
        gone = λ t id k is. elim (e.leases t id k is) [
          | inl before ↦ (
            λ same.
                let there : identifier_at b (lease t id) ≡ Some (lease_identifier lease_id) =
                ap (option_map (λ (y : Lease). lease_identifier id)) before.1 ∙ ap Some same in
                let one : lease t id ≡ lease q lease_id =
                ids.one_place (lease t id) (lease q lease_id) (lease_identifier lease_id) there here in
                no_lease id k (ap (λ u. lease_of c u id) (sym (holder_is t q (ap holder one))) ∙ is),
            λ same.
                let there : identifier_at b (credential t id) ≡ Some l.credential =
                ap (option_map (λ (y : Lease). y.credential)) before.1 ∙ ap Some (before.2 ∙ same) in
                let one : credential t id ≡ credential q lease_id =
                ids.one_place (credential t id) (credential q lease_id) l.credential there secret in
                no_lease id k (ap (λ u. lease_of c u id) (sym (holder_is t q (ap holder one))) ∙ is),
          )
          | inr new ↦ (
            λ same. used (ap (get b.used) (sym same) ∙ new.0),
            λ same. secret_used (ap (get b.used) (sym same) ∙ new.1),
          )
        ];
      }
    where
      holder_is : (t u : Text) → ◌≡◌ {A = Option Text} (Some t) (Some u) → t ≡ u
      holder_is t u e = cc
