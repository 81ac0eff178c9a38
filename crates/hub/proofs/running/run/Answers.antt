use Rattle.std.specs.Prelude.{◌≡◌, ◌+◌, ◌∷◌, ◌++◌, if◌then◌else◌, ℕ, List, [], Result, Ok, Err, IsOk, is_ok, take, refl}
use Rattle.broker_model.specs.Words.{◌∙◌, ap, sym, subst, inr, arith, rules, Vec, false≢true, map_push, IfErr-at_err}
use Rattle.broker_model.specs.Words.{All-nil, All-push, All, IsMemoryOrStorage, Global, Kept}
use Rattle.hub.specs.Words.{IsListedReply, hub_store, bytes_of, Answers, TookTurns, RunKeeps, Run, World, Event, Hub}
use Rattle.histories.specs.Words.{AreAsked, History, KeepsLaws}
use Rattle.hub.proofs.AnswersLemmas.{answers_none, answers_more, answers_all, stops_at, honest_before, later_still}
use Rattle.hub.proofs.AnswersLemmas.{turns_more, turns_stop, turns_all}
use Rattle.hub.proofs.running.run.Goals as goal

-- the replies after one more
replies_more : (now before : List (Vec ℕ Global)) (bytes : Vec ℕ Global) → now ≡ before ++ bytes ∷ []
    → bytes_of now ≡ bytes_of before ++ bytes.items ∷ []
replies_more now before bytes is = ap bytes_of is ∙ map_push (λ r. r.items) before bytes

-- what a push that succeeds leaves
pushed : {A T E : Type 0} (r : Result T E) (now after before : A) → IsOk r → now ≡ if is_ok r then after else before
    → now ≡ after
pushed (Ok x) now after before ok is = is
pushed (Err e) now after before ok is = absurd (false≢true ok)

pub returns-in-Err-feed-clause-listed : goal.returns-in-Err-feed-clause-listed
returns-in-Err-feed-clause-listed g c = c.loop-i.invariant.listed

pub returns-clause-listed : goal.returns-clause-listed
returns-clause-listed g c = c.loop-i.invariant.listed

pub returns-in-Err-clause-before : goal.returns-in-Err-clause-before
returns-in-Err-clause-before g c = λ honest w represents.
    let none : bytes_of c.reserve.new.self.items ≡ [] =
    ap bytes_of (c.reserve.ensures.items ∙ c.new-replies.ensures.items) in
    (w, subst (λ (replies : List (List ℕ)). Run w [] replies w) (sym none) refl)

pub returns-in-Err-feed-clause-before : goal.returns-in-Err-feed-clause-before
returns-in-Err-feed-clause-before g c = λ honest w represents.
    let honest_then = honest_before (hub_store g.S.Store.seen c.loop-i.hub) (hub_store g.S.Store.seen c.feed.new.self)
    c.feed.ensures.keeps.later.mismatches honest in
    let a = c.loop-i.invariant.answers honest_then w represents in
    (a.after, a.run)

pub returns-in-Err-feed-clause-stopped : goal.returns-in-Err-feed-clause-stopped
returns-in-Err-feed-clause-stopped g c = inr (
  c.loop-i-test.true,
  λ honest open_ w represents.
      let seen = g.S.Store.seen in
      let old = c.loop-i.hub in
      let new = c.feed.new.self in
      let honest_then = honest_before (hub_store seen old)
      (hub_store seen new) c.feed.ensures.keeps.later.mismatches honest in
      let kept = IfErr-at_err (λ _. (hub_store seen new).rows ≡ (hub_store seen old).rows) c.in-Err-feed.is
      (c.feed.ensures.keeps.kept honest open_) in
      stops_at seen w c.args.events.now c.loop-i.i c.index-events-i.result c.as_slice-piece.result.now
      (bytes_of c.loop-i.replies.items) c.in-Err-feed.fault
      old new c.index-events-i.is c.as_slice-piece.ensures
      (c.loop-i.invariant.answers honest_then w represents) kept c.in-Err-feed.ensures.connections,
)

pub returns-in-Err-feed-clause-connections : goal.returns-in-Err-feed-clause-connections
returns-in-Err-feed-clause-connections g c = λ all represents.
    inr (turns_stop all c.args.events.now c.loop-i.i c.index-events-i.result c.as_slice-piece.result.now
    (bytes_of c.loop-i.replies.items)
    c.in-Err-feed.fault c.loop-i.hub c.feed.new.self c.index-events-i.is c.as_slice-piece.ensures
    (c.loop-i.invariant.turns all represents)
    c.in-Err-feed.ensures.connections)

pub returns-in-Err-feed-clause-wants : goal.returns-in-Err-feed-clause-wants
returns-in-Err-feed-clause-wants g c = λ honest w represents.
    let before = honest_before (hub_store g.S.Store.seen c.loop-i.hub) (hub_store g.S.Store.seen c.feed.new.self)
    c.feed.ensures.keeps.later.mismatches honest in
    let a = c.loop-i.invariant.answers before w represents in
    IfErr-at_err IsMemoryOrStorage c.in-Err-feed.is
    (c.feed.ensures.keeps.wants honest a.after.broker a.represents.broker)

pub loop-i-init : goal.loop-i-init
loop-i-init g c = record {
  count = search rules;
  room = search rules;
  later = search rules;
  is_open = λ honest. search rules;
  listed = subst (All IsListedReply) (sym (ap bytes_of (c.reserve.ensures.items ∙ c.new-replies.ensures.items)))
      (All-nil IsListedReply);
  answers = λ honest w represents.
      subst (λ (l : List (List ℕ)). Answers g.S.Store.seen w [] l c.args.hub.now)
      (sym (ap bytes_of (c.reserve.ensures.items ∙ c.new-replies.ensures.items)))
      (answers_none g.S.Store.seen w c.args.hub.now represents);
  turns = λ all represents.
      subst (λ (l : List (List ℕ)). TookTurns all [] l c.args.hub.now)
      (sym (ap bytes_of (c.reserve.ensures.items ∙ c.new-replies.ensures.items)))
      (record { after = all; run = refl; represents = represents });
}

pub loop-i-preserved : goal.loop-i-preserved
loop-i-preserved g c =
    let ok : IsOk c.push.result = c.push.ensures.succeeds
    (omega (arith, c.loop-i-test.true, c.loop-i.invariant.count, c.loop-i.invariant.room)) in
    let now = replies_more c.push.new.self.items c.loop-i.replies.items c.in-Ok.bytes
    (pushed {A = List (Vec ℕ Global)} c.push.result _ _ _ ok c.push.ensures.items) in
    record {
      count = pushed c.push.result _ _ _ ok c.push.ensures.len ∙ ap (λ (n : ℕ). n + 1) c.loop-i.invariant.count;
      room = omega (arith, c.push.ensures.capacity, c.loop-i.invariant.room);
      later = later_still (hub_store g.S.Store.seen c.args.hub.now) (hub_store g.S.Store.seen c.loop-i.hub)
          (hub_store g.S.Store.seen c.feed.new.self)
          c.loop-i.invariant.later c.feed.ensures.keeps.later;
      is_open = λ honest.
          let before = honest_before (hub_store g.S.Store.seen c.loop-i.hub) (hub_store g.S.Store.seen c.feed.new.self)
          c.feed.ensures.keeps.later.mismatches honest in
          c.in-Ok.ensures.keeps.stays_open honest refl ∙ c.loop-i.invariant.is_open before;
      listed = subst (All IsListedReply) (sym now)
          (All-push IsListedReply (bytes_of c.loop-i.replies.items) c.in-Ok.bytes.items c.loop-i.invariant.listed
          c.in-Ok.ensures.listed);
      answers = λ honest w represents.
          let before = honest_before (hub_store g.S.Store.seen c.loop-i.hub) (hub_store g.S.Store.seen c.feed.new.self)
          c.feed.ensures.keeps.later.mismatches honest in
          subst (λ (l : List (List ℕ)). Answers g.S.Store.seen w
          (take (c.loop-i.i + 1) c.args.events.now) l c.feed.new.self) (sym now)
          (answers_more g.S.Store.seen w c.args.events.now c.loop-i.i c.index-events-i.result
          c.as_slice-piece.result.now c.in-Ok.bytes.items
          (bytes_of c.loop-i.replies.items) c.loop-i.hub c.feed.new.self c.loop-i-test.true c.index-events-i.is
          c.as_slice-piece.ensures
          (c.loop-i.invariant.answers before w represents) (c.in-Ok.ensures.ok honest));
      turns = λ all represents.
          subst (λ (l : List (List ℕ)). TookTurns all (take (c.loop-i.i + 1) c.args.events.now) l c.feed.new.self)
          (sym now)
          (turns_more all c.args.events.now c.loop-i.i c.index-events-i.result c.as_slice-piece.result.now
          c.in-Ok.bytes.items
          (bytes_of c.loop-i.replies.items) c.loop-i.hub c.feed.new.self c.loop-i-test.true c.index-events-i.is
          c.as_slice-piece.ensures
          (c.loop-i.invariant.turns all represents) c.in-Ok.ensures.connections);
    }

pub returns-clause-replies : goal.returns-clause-replies
returns-clause-replies g c = λ honest w represents.
    answers_all g.S.Store.seen w c.args.events.now c.loop-i.i
    (bytes_of c.loop-i.replies.items) c.loop-i.hub c.loop-i-test.false
    (c.loop-i.invariant.answers honest w represents)

pub returns-clause-connections : goal.returns-clause-connections
returns-clause-connections g c = λ all represents.
    turns_all all c.args.events.now c.loop-i.i (bytes_of c.loop-i.replies.items) c.loop-i.hub c.loop-i-test.false
    (c.loop-i.invariant.turns all represents)

-- ---- the laws of what was asked

-- the law of a run is one of what it asked
keeps_law : {S : Type 0} (seen : S → Kept) (w : World) (events : List Event) (replies : List (List ℕ)) (hub : Hub S)
    (Law : History → Type 0)
    → ((history : History) → AreAsked w.broker history → Law history) → Answers seen w events replies hub
    → RunKeeps w events replies Law
keeps_law seen w events replies hub Law law a = (a.history, a.after, a.asks, law a.history a.asked)

-- no event was answered
keeps_none : (w : World) (replies : List (List ℕ)) (Law : History → Type 0) → replies ≡ []
    → ((history : History) → AreAsked w.broker history → Law history) → RunKeeps w [] replies Law
keeps_none w replies Law none law = subst (λ (l : List (List ℕ)). RunKeeps w [] l Law) (sym none)
    ([], w, refl, law [] tt)

pub returns-clause-lawful : goal.returns-clause-lawful
returns-clause-lawful g c = λ honest w represents.
    keeps_law g.S.Store.seen w c.args.events.now (bytes_of c.loop-i.replies.items) c.loop-i.hub (KeepsLaws w.broker)
    (c.all_that_is_asked_keeps_the_laws.ensures w.broker)
    (answers_all g.S.Store.seen w c.args.events.now c.loop-i.i
    (bytes_of c.loop-i.replies.items) c.loop-i.hub c.loop-i-test.false
    (c.loop-i.invariant.answers honest w represents))

pub returns-in-Err-clause-lawful : goal.returns-in-Err-clause-lawful
returns-in-Err-clause-lawful g c = λ honest w represents.
    let none : bytes_of c.reserve.new.self.items ≡ [] =
    ap bytes_of (c.reserve.ensures.items ∙ c.new-replies.ensures.items) in
    keeps_none w (bytes_of c.reserve.new.self.items) (KeepsLaws w.broker) none
    (c.all_that_is_asked_keeps_the_laws.ensures w.broker)

pub returns-in-Err-feed-clause-lawful : goal.returns-in-Err-feed-clause-lawful
returns-in-Err-feed-clause-lawful g c = λ honest w represents.
    let before = honest_before (hub_store g.S.Store.seen c.loop-i.hub) (hub_store g.S.Store.seen c.feed.new.self)
    c.feed.ensures.keeps.later.mismatches honest in
    keeps_law g.S.Store.seen w (take c.loop-i.i c.args.events.now) (bytes_of c.loop-i.replies.items) c.loop-i.hub
    (KeepsLaws w.broker)
    (c.all_that_is_asked_keeps_the_laws.ensures w.broker) (c.loop-i.invariant.answers before w represents)
