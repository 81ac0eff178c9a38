-- Laws of a broker in which two identifiers more are given out, and have places.
use Rattle.std.proofs.Common.{◌≡◌, ◌≢◌, ◌⊎◌, ◌∷◌, [], Some, None, sym, ◌∙◌, ap, subst, inl, inr}
use Rattle.broker_types.specs.Words.{⊤, Text, Map, get, put, Broker, Waiting, IsNew, Place, identifier_at, IsUsed}
use Rattle.broker_types.specs.Words.{OnePlaceEach, AllUsed, SoundIdentifiers, IsIdentifier, use_up}
use Rattle.broker_types.specs.PutLaws.{put_there, put_keeps, put_filled}

-- an identifier of c is i in the place p, or j in the place q, or it has its place in b
abbrev pub HasTwoMore : Broker → Place → Text → Place → Text → Broker → Type 0
HasTwoMore b p i q j c =
    (r : Place) (k : Text) → identifier_at c r ≡ Some k
    → (identifier_at b r ≡ Some k) ⊎ (((r ≡ p) × (k ≡ i)) ⊎ ((r ≡ q) × (k ≡ j)))

module _ (b : Broker) (i j : Text) where
  abbrev marked : Map ⊤
  marked = use_up b.used (i ∷ j ∷ [])

  -- what was given out is so still
  pub still_marked : (k : Text) → IsUsed b k → get marked k ≢ None
  still_marked k used = put_keeps (put b.used j tt) i tt k (put_keeps b.used j tt k used)

  -- the first of the two is
  pub first_marked : get marked i ≢ None
  first_marked = put_there (put b.used j tt) i tt

  -- and so is the second
  pub second_marked : get marked j ≢ None
  second_marked = put_keeps (put b.used j tt) i tt j (put_there b.used j tt)

  module _ (p q : Place) (c : Broker) (marks : c.used ≡ marked) (sound : SoundIdentifiers b) (new_i : IsNew b i)
      (new_j : IsNew b j) (differ : i ≢ j) (two : HasTwoMore b p i q j c) where
    -- what has a place in b is not new
    not_first : (r : Place) (k : Text) → identifier_at b r ≡ Some k → k ≢ i
    not_first r k at is = sound.all_used r k at (ap (get b.used) is ∙ new_i)

    not_second : (r : Place) (k : Text) → identifier_at b r ≡ Some k → k ≢ j
    not_second r k at is = sound.all_used r k at (ap (get b.used) is ∙ new_j)

    one_place : OnePlaceEach c
    one_place r s k at too = elim (two r k at) [
      | inl was ↦ elim (two s k too) [
        | inl old ↦ sound.one_place r s k was old
        | inr new ↦ elim new [
          | inl first ↦ absurd (not_first r k was first.1)
          | inr second ↦ absurd (not_second r k was second.1)
        ]
      ]
      | inr now ↦ elim now [
        | inl here ↦ elim (two s k too) [
          | inl old ↦ absurd (not_first s k old here.1)
          | inr new ↦ elim new [
            | inl first ↦ here.0 ∙ sym first.0
            | inr second ↦ absurd (differ (sym here.1 ∙ second.1))
          ]
        ]
        | inr there ↦ elim (two s k too) [
          | inl old ↦ absurd (not_second s k old there.1)
          | inr new ↦ elim new [
            | inl first ↦ absurd (differ (sym first.1 ∙ there.1))
            | inr second ↦ there.0 ∙ sym second.0
          ]
        ]
      ]
    ]

    is_used : (k : Text) → get marked k ≢ None → IsUsed c k
    is_used k used = subst (λ (m : Map ⊤). get m k ≢ None) (sym marks) used

    all_used : AllUsed c
    all_used r k at = is_used k (elim (two r k at) [
      | inl was ↦ still_marked k (sound.all_used r k was)
      | inr now ↦ elim now [
        | inl here ↦ subst (λ z. get marked z ≢ None) (sym here.1) first_marked
        | inr there ↦ subst (λ z. get marked z ≢ None) (sym there.1) second_marked
      ]
    ])

    identifiers : IsIdentifier i → IsIdentifier j → (k : Text) → IsUsed c k → IsIdentifier k
    identifiers is_i is_j k used =
        put_filled (put b.used j tt) i tt k (IsIdentifier k) (subst (λ (m : Map ⊤). get m k ≢ None) marks used)
        (λ is. subst IsIdentifier (sym is) is_i)
        (λ other. put_filled b.used j tt k (IsIdentifier k) other (λ is. subst IsIdentifier (sym is) is_j)
        (sound.used k))

    -- two new identifiers with places leave identifiers sound
    pub sound_with_two : IsIdentifier i → IsIdentifier j
        → ((t : Text) (w : Waiting) → get c.waiting t ≡ Some w → IsUsed c w.origin) → SoundIdentifiers c
    sound_with_two is_i is_j origins = record {
      used = identifiers is_i is_j;
      one_place = one_place;
      all_used = all_used;
      origins_used = origins;
    }
