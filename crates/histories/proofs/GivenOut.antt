-- No identifier is given out twice.
use Rattle.std.proofs.Common.{◌≡◌, ◌⊎◌, ◌||◌, ◌∷◌, not, ℕ, take, [], true, false, is_none, Some, refl, sym, ap, inl}
use Rattle.std.proofs.Common.{zero, suc, Bool, Option, None, Result, ◌∙◌}
use Rattle.broker_model.specs.Words.{⊤, get-empty, list_any, inr, false≢true, false_from_ne_true, and_from, Text, same}
use Rattle.broker_model.specs.Words.{text_cmp, same_true, get, empty, Broker, id, id-same, first_sound, AllUsed, IsUsed}
use Rattle.broker_model.specs.Words.{identifier_at, Forms, are_new, OperationsDoAsTold, member_new, subst}
use Rattle.broker_model.specs.Words.{none-some, same_Some, Map, without_is, Waiting, Names, names_of, Done, use_up}
use Rattle.broker_model.specs.Words.{Verb, Refusal, act, Traits, Outcome, Wrapped, counted, ordered, wrapped, permits}
use Rattle.broker_model.specs.Words.{are_proper, Request, request_of, step, traits, first_in}
use Rattle.broker_types.specs.IdentifierPlaces.{Place}
use Rattle.histories.specs.Words.{AreAsked, AreSteps, Asking, AskedAt, Beginning, History, begun, given_out, AreUsed}
use Rattle.histories.specs.Words.{EachIsTold, GivesOutNew, NoIdentifierTwice, IsStep, clocked}
use Rattle.histories.proofs.Cover.{used_is_given}
use Rattle.histories.proofs.Lasting.{given_out_new, waited_before}
use Rattle.histories.proofs.Placed.{moment_placed}
use Rattle.histories.proofs.Requests.{asked_at}
use Rattle.histories.proofs.RequestsPlace.{requests_tell}
use Rattle.histories.proofs.Used.{any_left, any_right, new_append, new_differ, used_or, member_used}
use Rattle.histories.proofs.Keeping.{EachMarks, Marks}
use Rattle.histories.proofs.OrderCases.{IsServed, IsTurnedAway, IsTurnedDown, order_cases, spent}
use Rattle.histories.proofs.OrderKeeps.{AreProper, LeftBy, end_spent_used, end_spent_waiting, left, own_new, spent_used}
use Rattle.histories.proofs.OrderKeeps.{spent_waiting, used_more}

-- ---- what each request marks of what it gives out, whether the broker that it is asked of is sound or not

-- ---- one request

module _ {Command : Type 0} (permits : Broker → Option Text → Verb → Text → Bool) (traits : Command → Traits)
    (act : Broker → Option Text → Names → Command → Result Done Refusal) (now : Broker) (q : Request Command)
    (names : Names)
    (proper : AreProper permits traits act names) where
  turned_away : (o : Outcome) → IsTurnedAway now q o → Marks now o
  turned_away o s = subst (Marks now) (sym s.outcome) (elim s.removed [
    | inl same_now ↦ record {
      new = refl;
      marked = ap (λ (c : Broker). c.used) same_now;
      origins = λ t w e. inl (t, w, ap (λ (c : Broker). get c.waiting t) (sym same_now) ∙ e, refl);
    }
    | inr (u, closed, token, waits, dropped) ↦ record {
      new = refl;
      marked = ap (λ (c : Broker). c.used) dropped;
      origins = λ t w e.
          inl (t, w, (without_is now.waiting u t w (ap (λ (c : Broker). get c.waiting t) (sym dropped) ∙ e)).1, refl);
    }
  ])

  turned_down : (o : Outcome) → IsTurnedDown now o → Marks now o
  turned_down o s =
      let start = spent now s.caller in
      let same_waiting = end_spent_waiting start s.caller ∙ spent_waiting now s.caller in
      subst (Marks now) (sym s.outcome) (record {
        new = refl;
        marked = end_spent_used start s.caller ∙ spent_used now s.caller;
        origins = λ t w e. inl (t, w, ap (λ (m : Map Waiting). get m t) (sym same_waiting) ∙ e, refl);
      })

  was_served : (o : Outcome) → IsServed permits traits act now q names o → Marks now o
  was_served o s =
      let start = spent now s.caller in
      let v = wrapped permits traits act start q names s.command s.done in
      let l : LeftBy permits traits act start q names s.command s.done v =
      left permits traits act start q names s.command s.done s.new
      (proper start s.caller s.command s.done (own_new permits traits act start.used q names s.command s.new)
      s.acted) in
      subst (Marks now) (sym s.outcome) (record {
        new = ap (λ (m : Map ⊤). are_new m v.done.taken) (sym (spent_used now s.caller)) ∙ l.new;
        marked = end_spent_used (counted v.done) s.caller
            ∙ ap (λ (m : Map ⊤). use_up m v.done.taken) (l.used ∙ spent_used now s.caller);
        origins = λ t w e.
            elim (l.waits t w (ap (λ (m : Map Waiting). get m t) (sym (end_spent_waiting (counted v.done) s.caller))
            ∙ e)) [
              | inl (u, y, there, origin, text) ↦
                  inl (u, y, ap (λ (m : Map Waiting). get m u) (sym (spent_waiting now s.caller)) ∙ there, origin)
              | inr (x, here) ↦ inr (ap (λ (z : Waiting). list_any (same z.origin) v.done.taken) here
                  ∙ ap (λ (z : Wrapped). list_any (same names.wrapping_token) z.done.taken) x.4
                  ∙ first_in names.wrapping_token (names.wrapping_accessor ∷ s.done.taken))
            ];
      })

  by_cases : (o : Outcome) → IsTurnedAway now q o ⊎ (IsTurnedDown now o ⊎ IsServed permits traits act now q names o)
      → Marks now o
  by_cases o (inl s) = turned_away o s
  by_cases o (inr (inl s)) = turned_down o s
  by_cases o (inr (inr s)) = was_served o s

-- what was asked of a broker had the outcome of its step
outcome_is : (b : Broker) (a : Asking) → IsStep b a → a.outcome ≡ step a.broker a.moment a.words a.ask
outcome_is b a is = is.outcome ∙ ap (λ c. step c a.moment a.words a.ask) (sym is.broker)

module _ (told : OperationsDoAsTold) where
  request_marks : (b : Broker) (a : Asking) → IsStep b a → Marks (clocked a) a.outcome
  unfolding step
  request_marks b a is =
      let now = clocked a in
      let q = request_of a.ask in
      let names = names_of a.words in
      subst (Marks now) (sym (outcome_is b a is))
      (by_cases permits traits act now q names
      (λ c caller command d new done. are_proper told c caller a.words command d new done)
      (ordered permits traits act a.broker a.moment q names) (order_cases permits traits act a.broker a.moment q names))

  -- what was given out before a request counts as given out after it
  used_after : (b : Broker) (a : Asking) → IsStep b a → (i : Text) → IsUsed a.broker i → IsUsed a.outcome.next i
  used_after b a is i used none =
      used_more a.broker.used a.outcome.taken i used (ap (λ m. get m i) (sym (request_marks b a is).marked) ∙ none)

  -- and so does what it gives out
  given_after : (b : Broker) (a : Asking) → IsStep b a → (i : Text) → list_any (same i) a.outcome.taken ≡ true
      → IsUsed a.outcome.next i
  given_after b a is i among none =
      member_used a.broker.used a.outcome.taken i among (ap (λ m. get m i) (sym (request_marks b a is).marked) ∙ none)

  -- so all that is in a place counts as given out
  pub stay_used : (b : Broker) (a : Asking) → IsStep b a → AreUsed a.broker → AreUsed a.outcome.next
  stay_used b a is used = record {
    places = λ p i there. elim (requests_tell told a (outcome_is b a is) p i there) [
      | inl was ↦ elim (moment_placed a.broker [] a.moment p i was) [
        | inl before ↦ used_after b a is i (used.places p i before)
        | inr none ↦ absurd (false≢true none)
      ]
      | inr here ↦ given_after b a is i here
    ];
    origins = λ t w there. elim ((request_marks b a is).origins t w there) [
      | inl (u, v, waits, origin) ↦
          used_after b a is w.origin (subst (IsUsed a.broker) (sym origin)
          (used.origins u v (waited_before a u v waits).0))
      | inr here ↦ given_after b a is w.origin here
    ];
  }

  -- ---- one after another

  pub steps_mark : (b : Broker) (history : History) → AreSteps b history → EachMarks b history
  steps_mark b [] steps = tt
  steps_mark b (None ∷ later) steps = steps_mark b later steps
  steps_mark b (Some a ∷ later) (is, steps) = (is.broker, request_marks b a is, steps_mark a.outcome.next later steps)

  -- where all that is in a place counted as given out at first, it does so in each state
  pub used_at : (b : Broker) (history : History) → AreSteps b history → AreUsed b → (j : ℕ) (x : Asking)
      → AskedAt history j x
      → AreUsed x.broker
  used_at b [] steps used j x at = absurd (none-some _ at)
  used_at b (None ∷ later) steps used zero x at = absurd (none-some _ at)
  used_at b (None ∷ later) steps used (suc j) x at = used_at b later steps used j x at
  used_at b (Some a ∷ later) (is, steps) used zero x at =
      subst AreUsed (sym is.broker ∙ ap (λ (z : Asking). z.broker) (same_Some _ _ at)) used
  used_at b (Some a ∷ later) (is, steps) used (suc j) x at =
      used_at a.outcome.next later steps (stay_used b a is (subst AreUsed (sym is.broker) used)) j x at

-- what was asked at a place was a step
pub step_at : (b : Broker) (history : History) (i : ℕ) (a : Asking) → AreSteps b history → AskedAt history i a
    → IsStep a.broker a
step_at b [] i a h at = absurd (none-some _ at)
step_at b (None ∷ later) zero a h at = absurd (none-some _ at)
step_at b (None ∷ later) (suc i) a h at = step_at b later i a h at
step_at b (Some x ∷ later) zero a (is, h) at =
    subst (λ (y : Asking). IsStep y.broker y) (same_Some _ _ at) (subst (λ c. IsStep c x) (sym is.broker) is)
step_at b (Some x ∷ later) (suc i) a (is, h) at = step_at x.outcome.next later i a h at

-- what was asked of sound brokers were steps
pub are_steps : (b : Broker) (history : History) → AreAsked b history → AreSteps b history
are_steps b [] h = tt
are_steps b (None ∷ later) h = are_steps b later h
are_steps b (Some a ∷ later) (is, h) =
    (record { broker = is.broker; outcome = is.outcome }, are_steps a.outcome.next later h)

-- each identifier in a place of a broker that is asked was given out
abbrev AllUsedAt : History → Type 0
AllUsedAt history = (j : ℕ) (x : Asking) → AskedAt history j x → AllUsed x.broker

module _ (told : OperationsDoAsTold) (b : Broker) (history : History) (steps : AreSteps b history)
    (used : AllUsedAt history) where
  all_new : are_new b.used (given_out history) ≡ true
  all_new = given_out_new b history (steps_mark told b history steps)

  used_or_given : (j : ℕ) (x : Asking) (p : Place) (i : Text) → AskedAt history j x → identifier_at x.broker p ≡ Some i
      → IsUsed b i ⊎ (list_any (same i) (given_out (take j history)) ≡ true)
  used_or_given j x p i at there = used_is_given b history j x i (steps_mark told b history steps) at
      (used j x at p i there)

  each_is_told : EachIsTold history
  each_is_told j x p i at there = elim (requests_tell told x (step_at b history j x steps at).outcome p i there) [
    | inl was ↦ elim (moment_placed x.broker [] x.moment p i was) [
      | inl before ↦ inl (before, was)
      | inr none ↦ absurd (false≢true none)
    ]
    | inr here ↦ inr here
  ]

  -- what is given out is new
  gives_new : GivesOutNew b history
  gives_new = record {
    once = new_differ b.used (given_out history) all_new;
    unused = λ i among. member_new b.used (given_out history) i all_new among;
    each = each_is_told;
    all = used_or_given;
  }

module _ (told : OperationsDoAsTold) (s : Beginning) (history : History) (steps : AreSteps (begun s) history)
    (used : AllUsedAt history) where
  start_new : are_new empty (id s.accessor_word ∷ id s.token_word ∷ []) ≡ true
  start_new =
      let first : is_none (get (empty {X = ⊤} {R = text_cmp}) (id s.accessor_word)) ≡ true =
      ap is_none (get-empty text_cmp (id s.accessor_word)) in
      let second : is_none (get (empty {X = ⊤} {R = text_cmp}) (id s.token_word)) ≡ true =
      ap is_none (get-empty text_cmp (id s.token_word)) in
      let apart : same (id s.accessor_word) (id s.token_word) ≡ false =
      false_from_ne_true (same (id s.accessor_word) (id s.token_word)) (λ e. s.differ
      (sym (id-same s.accessor_word s.token_word s.accessor_fits s.token_fits
      (same_true (id s.accessor_word) (id s.token_word) e)))) in
      and_from _ _ first (and_from _ _ (ap (λ v. not (v || false)) apart) (and_from _ _ second refl))

  all_given : (j : ℕ) (x : Asking) (p : Place) (i : Text) → AskedAt history j x → identifier_at x.broker p ≡ Some i
      → list_any (same i) (id s.accessor_word ∷ id s.token_word ∷ given_out (take j history)) ≡ true
  all_given j x p i at there =
      let first = id s.accessor_word ∷ id s.token_word ∷ [] in
      elim (used_or_given told (begun s) history steps used j x p i at there) [
        | inl used ↦ elim (used_or empty first i used) [
          | inl one ↦ any_left i first (given_out (take j history)) one
          | inr none ↦ absurd (none (get-empty text_cmp i))
        ]
        | inr later ↦ any_right i first (given_out (take j history)) later
      ]

  none_twice : NoIdentifierTwice s history
  none_twice = record {
    once = new_differ empty (id s.accessor_word ∷ id s.token_word ∷ given_out history)
        (new_append empty (id s.accessor_word ∷ id s.token_word ∷ []) (given_out history) start_new
        (all_new told (begun s) history steps used));
    each = each_is_told told (begun s) history steps used;
    all = all_given;
  }

-- ---- of sound brokers

all_used : (b : Broker) (history : History) → AreAsked b history → AllUsedAt history
all_used b history h j x at = (asked_at b history j x h at).sound.identifiers.all_used

-- what is given out is new
pub gives_out_new : OperationsDoAsTold → (b : Broker) (history : History) → AreAsked b history → GivesOutNew b history
gives_out_new told b history h = gives_new told b history (are_steps b history h) (all_used b history h)

-- from a start on, no identifier is given out twice
pub no_identifier_twice : OperationsDoAsTold → (s : Beginning) (history : History) → AreAsked (begun s) history
    → NoIdentifierTwice s history
no_identifier_twice told s history h =
    none_twice told s history (are_steps (begun s) history h) (all_used (begun s) history h)

-- ---- of any brokers

-- each identifier in a place of the broker that a start makes was given out
begun_used : (s : Beginning) → AreUsed (begun s)
begun_used s =
    let any : Forms = record { is_object = λ t. true; is_policy = λ t. true } in
    let sound =
    first_sound any s.moment s.token_word s.accessor_word s.accepted s.token_fits s.accessor_fits s.differ refl in
    record { places = sound.identifiers.all_used; origins = sound.identifiers.origins_used }

-- what is given out is new
pub any_gives_out_new : OperationsDoAsTold → (b : Broker) (history : History) → AreSteps b history → AreUsed b
    → GivesOutNew b history
any_gives_out_new told b history steps used =
    gives_new told b history steps (λ j x at. (used_at told b history steps used j x at).places)

-- from a start on, no identifier is given out twice
pub none_twice_by_any : OperationsDoAsTold → (s : Beginning) (history : History) → AreSteps (begun s) history
    → NoIdentifierTwice s history
none_twice_by_any told s history steps =
    none_twice told s history steps (λ j x at. (used_at told (begun s) history steps (begun_used s) j x at).places)

-- all that is in a place of a later broker was given out
pub all_stay_used : OperationsDoAsTold → (b : Broker) (history : History) (j : ℕ) (x : Asking) → AreSteps b history
    → AreUsed b
    → AskedAt history j x → AreUsed x.broker × AreUsed x.outcome.next
all_stay_used told b history j x steps used at =
    let before = used_at told b history steps used j x at in
    (before, stay_used told x.broker x (step_at b history j x steps at) before)
