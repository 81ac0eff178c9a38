-- Laws of how a broker evolves.
use Rattle.broker_types.specs.Words.{sym, ◌∙◌, subst, inl, inr, none-some, Text, get, Broker, token_identifier}
use Rattle.broker_types.specs.Words.{lease_identifier, Evolves, IsNew, LeaseHasEnded}
use Rattle.broker_types.specs.OptionLaws.{found_or_not}

-- what is new later was new before
new_before : (b c : Broker) (i : Text) → Evolves b c → IsNew c i → IsNew b i
new_before b c i e h = elim (found_or_not (get b.used i)) [
  | inl none ↦ none
  | inr some ↦ absurd (e.used i (λ n. absurd (none-some _ (sym n ∙ some.1))) h)
]

-- to evolve is transitive
pub evolves_trans : (b c d : Broker) → Evolves b c → Evolves c d → Evolves b d
evolves_trans b c d e f = record {
  used = λ i u. f.used i (e.used i u);
  tokens = λ t x is. elim (f.tokens t x is) [
    | inl before ↦ elim (found_or_not (get c.tokens t)) [ inl none ↦ absurd (before none) | inr y ↦ e.tokens t y.0 y.1 ]
    | inr fresh ↦ inr (new_before b c (token_identifier t) e fresh)
  ];
  leases = λ t lease_id l is. elim (f.leases t lease_id l is) [
    | inl k ↦ elim (e.leases t lease_id k.0 k.1) [
      | inl j ↦ inl (j.0, j.1, j.2 ∙ k.2)
      | inr fresh ↦ inr (fresh.0, subst (λ i. IsNew b i) k.2 fresh.1)
    ]
    | inr fresh ↦ inr (new_before b c (lease_identifier lease_id) e fresh.0, new_before b c l.credential e fresh.1)
  ];
  wrapping_tokens = λ t w is. elim (f.wrapping_tokens t w is) [
    | inl before ↦
        elim (found_or_not (get c.waiting t)) [
          | inl none ↦ absurd (before none)
          | inr v ↦
              e.wrapping_tokens t v.0 v.1
        ]
    | inr fresh ↦ inr (new_before b c (token_identifier t) e fresh)
  ];
  waiting = λ t w is. elim (f.waiting t w is) [
    | inl v ↦ elim (e.waiting v.0 v.1 v.2) [
      | inl u ↦ inl (u.0, u.1, u.2, v.3 ∙ u.3, v.4 ∙ u.4)
      | inr fresh ↦ inr (subst (λ i. IsNew b i) (sym v.3) fresh)
    ]
    | inr fresh ↦ inr (new_before b c w.origin e fresh)
  ];
}

-- a lease that has ended does not come back: a later one was there before, or its identifiers are new
pub ended_lease_stays : (b c : Broker) (lease_id credential : Text) → Evolves b c → LeaseHasEnded b lease_id credential
    → LeaseHasEnded c lease_id credential
ended_lease_stays b c lease_id credential e h = record {
  used = e.used (lease_identifier lease_id) h.used;
  credential_used = e.used credential h.credential_used;
  gone = λ t j l is. elim (e.leases t j l is) [
    | inl k ↦ let apart = h.gone t j k.0 k.1 in (apart.0, (λ same. apart.1 (k.2 ∙ same)))
    | inr fresh ↦ (
      (λ same. h.used (subst (λ i. IsNew b (lease_identifier i)) same fresh.0)),
      (λ same. h.credential_used (subst (λ i. IsNew b i) same fresh.1)),
    )
  ];
}
