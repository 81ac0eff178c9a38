-- Laws of histories.
use Rattle.std.proofs.Common.{◌≡◌, ◌<◌, ◌≤◌, ◌⊎◌, ◌∷◌, ℕ, zero, suc, max, [], Bool, true, false, nat_lt, Option, Some}
use Rattle.broker_model.specs.Words.{None, slice_index_or, option_map_or, refl, sym, ◌∙◌, ap, subst, inl, inr, arith}
use Rattle.broker_model.specs.Words.{ltb-true, cases_order, none-some, same_Some, eq-or-lt_of_le, Text, get, Broker}
use Rattle.broker_model.specs.Words.{Waiting, waiting_ends, Evolves, WaitedBefore, evolves_trans, at_moment_evolves}
use Rattle.broker_model.specs.Words.{kept_get, evolves_self, are_new, use_up}
use Rattle.histories.specs.Words.{Asking, AskedAt, History, clocked, given_out, KeepsReply}
use Rattle.histories.proofs.Ending.{origin_lasts}
use Rattle.histories.proofs.Keeping.{EachKeeps, EachMarks, Keeps, WasBorn}
use Rattle.histories.proofs.Used.{new_append}

-- ---- no identifier twice

-- what a history gives out was not given out before it, and all of it differs
pub given_out_new : (b : Broker) (history : History) → EachMarks b history → are_new b.used (given_out history) ≡ true
given_out_new b [] h = refl
given_out_new b (None ∷ later) h = given_out_new b later h
given_out_new b (Some a ∷ later) (is, marks, h) =
    let rest : are_new (use_up a.broker.used a.outcome.taken) (given_out later) ≡ true =
    ap (λ m. are_new m (given_out later)) (sym marks.marked) ∙ given_out_new a.outcome.next later h in
    ap (λ (c : Broker). are_new c.used (given_out (Some a ∷ later))) (sym is)
    ∙ new_append a.broker.used a.outcome.taken (given_out later) marks.new rest

-- ---- states one after another

-- what a request leaves evolved from what it was asked of
pub kept_evolves : (body : Asking → Text) (a : Asking) → Keeps body a → Evolves a.broker a.outcome.next
kept_evolves body a keeps =
    evolves_trans a.broker (clocked a) a.outcome.next (at_moment_evolves a.broker a.moment) keeps.evolves

-- what was asked at a place
pub asked_keeps : (body : Asking → Text) (b : Broker) (history : History) (i : ℕ) (a : Asking)
    → EachKeeps body b history
    → AskedAt history i a → Keeps body a
asked_keeps body b [] i a h at = absurd (none-some _ at)
asked_keeps body b (None ∷ later) zero a h at = absurd (none-some _ at)
asked_keeps body b (None ∷ later) (suc i) a h at = asked_keeps body b later i a h at
asked_keeps body b (Some x ∷ later) zero a (is, keeps, h) at = subst (Keeps body) (same_Some _ _ at) keeps
asked_keeps body b (Some x ∷ later) (suc i) a (is, keeps, h) at = asked_keeps body x.outcome.next later i a h at

-- what is asked is asked of a broker that evolved from the first
pub evolved_to : (body : Asking → Text) (b : Broker) (history : History) (j : ℕ) (x : Asking) → EachKeeps body b history
    → AskedAt history j x → Evolves b x.broker
evolved_to body b [] j x h at = absurd (none-some _ at)
evolved_to body b (None ∷ later) zero x h at = absurd (none-some _ at)
evolved_to body b (None ∷ later) (suc j) x h at = evolved_to body b later j x h at
evolved_to body b (Some a ∷ later) zero x (is, keeps, h) at =
    subst (λ (y : Asking). Evolves b y.broker) (same_Some _ _ at) (subst (Evolves b) (sym is) (evolves_self b))
evolved_to body b (Some a ∷ later) (suc j) x (is, keeps, h) at =
    evolves_trans b a.outcome.next x.broker
    (subst (λ (c : Broker). Evolves c a.outcome.next) is (kept_evolves body a keeps))
    (evolved_to body a.outcome.next later j x h at)

-- what is asked later is asked of a broker that evolved from what an earlier request left
pub evolved_since : (body : Asking → Text) (b : Broker) (history : History) (i j : ℕ) (a x : Asking)
    → EachKeeps body b history
    → AskedAt history i a → AskedAt history j x → i < j → Evolves a.outcome.next x.broker
evolved_since body b [] i j a x h one other lt = absurd (none-some _ one)
evolved_since body b (None ∷ later) zero j a x h one other lt = absurd (none-some _ one)
evolved_since body b (None ∷ later) (suc i) zero a x h one other lt = absurd (none-some _ other)
evolved_since body b (None ∷ later) (suc i) (suc j) a x h one other lt =
    evolved_since body b later i j a x h one other (omega (arith, lt))
evolved_since body b (Some y ∷ later) zero zero a x h one other lt = absurd (omega (arith, lt))
evolved_since body b (Some y ∷ later) zero (suc j) a x (is, keeps, h) one other lt =
    subst (λ (z : Asking). Evolves z.outcome.next x.broker) (same_Some _ _ one)
    (evolved_to body y.outcome.next later j x h other)
evolved_since body b (Some y ∷ later) (suc i) zero a x h one other lt = absurd (omega (arith, lt))
evolved_since body b (Some y ∷ later) (suc i) (suc j) a x (is, keeps, h) one other lt =
    evolved_since body y.outcome.next later i j a x h one other (omega (arith, lt))

-- what an event at the place or later leaves is what the earlier one left, or evolved from it
pub left_since : (body : Asking → Text) (b : Broker) (history : History) (i j : ℕ) (a x : Asking)
    → EachKeeps body b history
    → AskedAt history i a → AskedAt history j x → i ≤ j
    → (a.outcome.next ≡ x.outcome.next) ⊎ Evolves a.outcome.next x.outcome.next
left_since body b history i j a x h one other le = elim (eq-or-lt_of_le le) [
  | inl e ↦ inl (ap (λ (z : Asking). z.outcome.next)
      (same_Some _ _ (sym one ∙ ap (λ n. slice_index_or history n None) e ∙ other)))
  | inr lt ↦ inr (evolves_trans a.outcome.next x.broker x.outcome.next
      (evolved_since body b history i j a x h one other lt)
      (kept_evolves body x (asked_keeps body b history j x h other)))
]

-- ---- handed out once

-- what waits at a clock waited before it, and ends later
pub waited_before : (a : Asking) (t : Text) (w : Waiting) → get (clocked a).waiting t ≡ Some w
    → (get a.broker.waiting t ≡ Some w) × ((clocked a).clock < waiting_ends w)
waited_before a t w is =
    let now = max a.broker.clock a.moment in
    let passes : Text → Bool = λ u. option_map_or (λ v. nat_lt now (waiting_ends v)) (get a.broker.waiting u) false in
    let k = kept_get passes a.broker.waiting t w is in (
      k.0,
      ltb-true now (waiting_ends w) (ap (λ (o : Option Waiting). option_map_or (λ v. nat_lt now (waiting_ends v)) o
          false) (sym k.0) ∙ k.1),
    )

module _ (body : Asking → Text) (b : Broker) (history : History) (h : EachKeeps body b history) where
  not_later : (i j : ℕ) (a x : Asking) (o : Text) → AskedAt history i a → a.outcome.handed ≡ Some o
      → AskedAt history j x → x.outcome.handed ≡ Some o → i < j → ⊥
  not_later i j a x o one handed other again lt =
      let k = (asked_keeps body b history i a h one).hands_out o handed in
      let l = (asked_keeps body b history j x h other).hands_out o again in
      let gone = origin_lasts a.outcome.next x.broker o (evolved_since body b history i j a x h one other lt) k.gone in
      gone.gone l.token l.entry (waited_before x l.token l.entry l.waited).0 l.origin

  -- the response of an origin is handed out by one event at most
  pub handed_once : (i j : ℕ) (a x : Asking) (o : Text) → AskedAt history i a → a.outcome.handed ≡ Some o
      → AskedAt history j x → x.outcome.handed ≡ Some o → i ≡ j
  handed_once i j a x o one handed other again = elim (cases_order i j) [
    | inl e ↦ e
    | inr r ↦ elim r [
      | inl lt ↦ absurd (not_later i j a x o one handed other again lt)
      | inr gt ↦ absurd (not_later j i x a o other again one handed gt)
    ]
  ]

-- ---- the same reply

-- what waits when a request is asked waited from the first, or an earlier request made its origin, with its own body
pub waits_since : (body : Asking → Text) (b : Broker) (history : History) (j : ℕ) (x : Asking)
    → EachKeeps body b history
    → AskedAt history j x → (t : Text) (w : Waiting) → get x.broker.waiting t ≡ Some w
    → WaitedBefore b w ⊎ WasBorn body history j w
waits_since body b [] j x h at t w is = absurd (none-some _ at)
waits_since body b (None ∷ later) zero x h at t w is = absurd (none-some _ at)
waits_since body b (None ∷ later) (suc j) x h at t w is = elim (waits_since body b later j x h at t w is) [
  | inl old ↦ inl old
  | inr r ↦ inr (record {
    place = suc r.place;
    earlier = omega (arith, r.earlier);
    asking = r.asking;
    asked = r.asked;
    born = r.born;
  })
]
waits_since body b (Some a ∷ later) zero x (is, keeps, h) at t w waits =
    let at_first : a.broker ≡ x.broker = ap (λ (z : Asking). z.broker) (same_Some _ _ at) in
    inl (t, w, ap (λ (c : Broker). get c.waiting t) (sym is ∙ at_first) ∙ waits, refl, refl)
waits_since body b (Some a ∷ later) (suc j) x (is, keeps, h) at t w waits =
    elim (waits_since body a.outcome.next later j x h at t w waits) [
      | inl (u, v, there, same_origin, same_reply) ↦ elim (keeps.waits u v there) [
        | inl (s, y, before, origin, text) ↦
            inl (s, y, ap (λ (c : Broker). get c.waiting s) (sym is) ∙ before, same_origin ∙ origin, same_reply ∙ text)
        | inr born ↦ inr (record {
          place = zero;
          earlier = omega (arith);
          asking = a;
          asked = refl;
          born = record {
            origin = born.origin ∙ ap Some (sym same_origin);
            reply = same_reply ∙ born.reply;
            kept = subst (KeepsReply a (body a)) (sym same_origin) born.kept;
          };
        })
      ]
      | inr r ↦ inr (record {
        place = suc r.place;
        earlier = omega (arith, r.earlier);
        asking = r.asking;
        asked = r.asked;
        born = r.born;
      })
    ]
