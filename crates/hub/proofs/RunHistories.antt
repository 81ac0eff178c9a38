-- The history of a run, one event after another.
use Rattle.std.proofs.Common.{◌≡◌, ◌∷◌, ◌++◌, ◌∙◌, ℕ, List, [], Option, Some, None, refl, sym, ap, subst}
use Rattle.broker_model.specs.Words.{Broker, Sound, Words, forms, step}
use Rattle.histories.specs.Words.{AreAsked, Asking, History, IsAsked}
use Rattle.hub.specs.Words.{EventAsks, EventAsked, EventsAsked, Next, World, Event}
use Rattle.hub.proofs.AskingLemmas.{asking_is_a_step, each_event_asks, one_asking}
use Rattle.hub.proofs.RunLemmas.{Next-unique}

-- ---- one event

-- what the event asked of a sound broker
pub goes : (w : World) (e : Event) (bytes : List ℕ) (after : World) → Next w e bytes after
    → (asking : Option Asking) × EventAsked w e bytes asking after
    × ((a : Asking) → asking ≡ Some a → Sound forms None w.broker → IsAsked w.broker a)
goes w e bytes after next =
    let o = each_event_asks w e bytes after next in (
      o.asking,
      record {
        next = next;
        asks = o.asks;
        timed = λ a is. let known = asking_is_a_step w e a (subst (EventAsks w e) is o.asks) in (known.1, known.2);
        reply = o.reply;
        broker = o.broker;
      },
      λ a is sound.
          let known = asking_is_a_step w e a (subst (EventAsks w e) is o.asks) in
          record {
            broker = known.0;
            sound = sound;
            outcome = known.3 ∙ ap (λ (m : ℕ). step w.broker m e.words a.ask) (sym known.1)
                ∙ ap (λ (ws : Words). step w.broker a.moment ws a.ask) (sym known.2);
          },
    )

-- ---- events after others

pub EventsAsked-append : (w : World) (es fs : List Event) (rs ss : List (List ℕ)) (hs ks : History) (mid after : World)
    → EventsAsked w es rs hs mid → EventsAsked mid fs ss ks after → EventsAsked w (es ++ fs) (rs ++ ss) (hs ++ ks) after
EventsAsked-append w [] fs [] ss [] ks mid after run next = subst (λ (v : World). EventsAsked v fs ss ks after) run next
EventsAsked-append w [] fs [] ss (h ∷ hs) ks mid after run next = absurd run
EventsAsked-append w [] fs (r ∷ rs) ss hs ks mid after run next = absurd run
EventsAsked-append w (e ∷ es) fs [] ss hs ks mid after run next = absurd run
EventsAsked-append w (e ∷ es) fs (r ∷ rs) ss [] ks mid after run next = absurd run
EventsAsked-append w (e ∷ es) fs (r ∷ rs) ss (h ∷ hs) ks mid after (v, first, run) next =
    (v, first, EventsAsked-append v es fs rs ss hs ks mid after run next)

pub AreAsked-one : (b : Broker) (asking : Option Asking) → ((a : Asking) → asking ≡ Some a → IsAsked b a)
    → AreAsked b (asking ∷ [])
AreAsked-one b None is = tt
AreAsked-one b (Some a) is = (is a refl, tt)

-- ---- one history

-- the events of a run asked one history
pub one_history : (w : World) (es : List Event) (rs qs : List (List ℕ)) (hs ks : History) (u v : World)
    → EventsAsked w es rs hs u → EventsAsked w es qs ks v → hs ≡ ks
one_history w [] [] [] [] [] u v p q = refl
one_history w [] [] qs (h ∷ hs) ks u v p q = absurd p
one_history w [] (r ∷ rs) qs hs ks u v p q = absurd p
one_history w [] [] (y ∷ qs) [] ks u v p q = absurd q
one_history w [] [] [] [] (k ∷ ks) u v p q = absurd q
one_history w (e ∷ es) [] qs hs ks u v p q = absurd p
one_history w (e ∷ es) (x ∷ rs) qs [] ks u v p q = absurd p
one_history w (e ∷ es) (x ∷ rs) [] (h ∷ hs) ks u v p q = absurd q
one_history w (e ∷ es) (x ∷ rs) (y ∷ qs) (h ∷ hs) [] u v p q = absurd q
one_history w (e ∷ es) (x ∷ rs) (y ∷ qs) (h ∷ hs) (k ∷ ks) u v (s, first, p) (t, second, q) =
    let one = Next-unique w e x y s t first.next second.next in
    let more = one_history t es rs qs hs ks u v (subst (λ (z : World). EventsAsked z es rs hs u) one.1 p) q in
    let asking : h ≡ k = one_asking w e h k first.asks second.asks in
    ap (λ (a : Option Asking). a ∷ hs) asking ∙ ap (λ (l : History). k ∷ l) more
