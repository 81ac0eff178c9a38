-- A lease that a request ends does not come back.
use Rattle.std.proofs.Common.{◌≡◌, ◌⊎◌}
use Rattle.broker_types.specs.IdentifierPlaces as place
use Rattle.histories.specs.Words.{Some, None, option_map, sym, ◌∙◌, ap, inl, inr, none-some, Text, get, Broker}
use Rattle.histories.specs.Words.{Evolves, identifier_at, lease_identifier, lease_of, Sound, Lease, forms, Asking}
use Rattle.histories.specs.Words.{unwrapped_body, LacksLease}
use Rattle.histories.proofs.Ending.{IsLeaseGone, lease_lasts}
use Rattle.histories.proofs.Keeping.{Keeps}
use Rattle.histories.proofs.Lasting.{kept_evolves}

-- places of leases that are one
lease_parts : (t id u j : Text) → place.lease t id ≡ place.lease u j → (t ≡ u) × (id ≡ j)
lease_parts t id u j e = (cc, cc)

credential_parts : (t id u j : Text) → place.credential t id ≡ place.credential u j → (t ≡ u) × (id ≡ j)
credential_parts t id u j e = (cc, cc)

module _ (a : Asking) (sound : Sound forms None a.broker) (keeps : Keeps unwrapped_body a) (q lease_id : Text)
    (l : Lease) (was : lease_of a.broker q lease_id ≡ Some l)
    (none_left : lease_of a.outcome.next q lease_id ≡ None) where
  was_used : get a.broker.used (lease_identifier lease_id) ≡ None → ⊥
  was_used = sound.identifiers.all_used (place.lease q lease_id) (lease_identifier lease_id)
      (ap (option_map (λ (k : Lease). lease_identifier lease_id)) was)

  was_secret : get a.broker.used l.credential ≡ None → ⊥
  was_secret = sound.identifiers.all_used (place.credential q lease_id) l.credential
      (ap (option_map (λ (k : Lease). k.credential)) was)

  not_here : (t id : Text) (k : Lease) → lease_of a.outcome.next t id ≡ Some k → (t ≡ q) × (id ≡ lease_id) → ⊥
  not_here t id k is at =
      none-some _ (sym none_left ∙ ap (λ u. lease_of a.outcome.next u lease_id) (sym at.0)
      ∙ ap (lease_of a.outcome.next t) (sym at.1) ∙ is)

  lease_gone : IsLeaseGone a.outcome.next lease_id l
  lease_gone =
      let e = kept_evolves unwrapped_body a keeps in
      let here : identifier_at a.broker (place.lease q lease_id) ≡ Some (lease_identifier lease_id) =
      ap (option_map (λ (k : Lease). lease_identifier lease_id)) was in
      let secret : identifier_at a.broker (place.credential q lease_id) ≡ Some l.credential =
      ap (option_map (λ (k : Lease). k.credential)) was in
      record {
        used = e.used (lease_identifier lease_id) was_used;
        credential_used = e.used l.credential was_secret;
        gone = λ t id k is. elim (e.leases t id k is) [
          | inl before ↦ (
            λ same.
                let there : identifier_at a.broker (place.lease t id) ≡ Some (lease_identifier lease_id) =
                ap (option_map (λ (y : Lease). lease_identifier id)) before.1 ∙ ap Some same in
                not_here t id k is (lease_parts t id q lease_id
                (sound.identifiers.one_place (place.lease t id) (place.lease q lease_id)
                (lease_identifier lease_id) there here)),
            λ same.
                let there : identifier_at a.broker (place.credential t id) ≡ Some l.credential =
                ap (option_map (λ (y : Lease). y.credential)) before.1 ∙ ap Some (before.2 ∙ same) in
                not_here t id k is (credential_parts t id q lease_id
                (sound.identifiers.one_place (place.credential t id)
                (place.credential q lease_id) l.credential there secret)),
          )
          | inr new ↦ (
            λ same. was_used (ap (get a.broker.used) (sym same) ∙ new.0),
            λ same. was_secret (ap (get a.broker.used) (sym same) ∙ new.1),
          )
        ];
      }

  -- and in nothing that evolves from that
  pub stays_gone : (b : Broker) → (a.outcome.next ≡ b) ⊎ Evolves a.outcome.next b → LacksLease b lease_id l
  stays_gone b (inl e) t id k is = lease_gone.gone t id k (ap (λ (z : Broker). lease_of z t id) e ∙ is)
  stays_gone b (inr e) t id k is = (lease_lasts a.outcome.next b lease_id l e lease_gone).gone t id k is
