-- What is another's stays: what makes a token go, what changes of one that stands, and who reads a cubbyhole.
use Rattle.std.proofs.Common.{◌≡◌, ◌≢◌, ◌⊎◌, ◌&&◌, ◌||◌, ◌-◌, ◌==◌, if◌then◌else◌}
use Rattle.cubbyhole.specs.Cubbyhole as of_cubbyhole
use Rattle.histories.specs.Words.{ℕ, zero, suc, [], true, false, not, nat_lt, Option, Some, None, Ok, is_none, is_some}
use Rattle.histories.specs.Words.{option_map, list_any, option_map_or, refl, sym, ◌∙◌, ap, subst, inl, inr, arith}
use Rattle.histories.specs.Words.{false≢true, and_parts, eqb-true, none-some, same_Some, get-empty, Text, same}
use Rattle.histories.specs.Words.{text_cmp, IsTree, Map, get, keys, len, valued_none, Broker, climb, ends_within}
use Rattle.histories.specs.Words.{is_under, climb_above, climb_at, ends_above, ends_at, names_of, reply, Done}
use Rattle.histories.specs.Words.{found_or_not, some_or, unless, no_ok, ok_step, Sound, is_spent, one_less, Token}
use Rattle.histories.specs.Words.{Tokens, status_code, Reply, children, folder, ok_inj, keys_object, plain_reply}
use Rattle.histories.specs.Words.{reply_text, act, Command, on_cubbyhole, command_of, allowed, chained, forms}
use Rattle.histories.specs.Words.{OperationsDoAsTold, Outcome, Wrapped, response_to, permits, ok, request_of, step}
use Rattle.histories.specs.Words.{traits, are_none, is_privileged, making_path, new_policies, Refusal, Status}
use Rattle.histories.specs.Words.{CubbyholeCommand, Asking, clocked, spent_by, AllOwnStays, AnswersOwn, EndsWithClient}
use Rattle.histories.specs.Words.{TokenGoes, IsListAt, IsObjectAt, IsClient, has_no_use, left_by_caller, same_self}
use Rattle.histories.specs.Words.{put, without, get-change, get-put_self, get-without_self, mapped, edited}
use Rattle.histories.specs.Words.{with_cubbyhole, LeavesAt}
use Rattle.histories.proofs.Clients.{CarriesOut, Course, from_clock, is_client}
use Rattle.histories.proofs.Created.{new_unspent}
use Rattle.histories.proofs.Descent.{Makes, follows, keeps, leaves}
use Rattle.histories.proofs.Order.{IsCaller, some_ok, spent, wrapped_cases, answers_plainly, asked_at, means_at_clock}
use Rattle.histories.proofs.Order.{Served, served}
use Rattle.histories.proofs.Renewals.{had_lease, renewed_lease, renewed_token}
use Rattle.histories.proofs.RevocationLasts.{called_tree, not_due_stays}
use Rattle.histories.proofs.TokenLaws.{asked_course}
use Rattle.histories.proofs.Disabled.{token_left}

-- ---- after a 204 to a write or a deletion the cubbyhole of the client token has what that leaves

-- a token that is there after an edit of its cubbyhole has it edited
edited_is : (b : Broker) (c : Text) (edit : Map Text → Map Text) (y : Token) → get (edited b c edit).tokens c ≡ Some y
    → (x : Token) × (y.cubbyhole ≡ edit x.cubbyhole)
edited_is b c edit y e =
    let x = mapped (λ (x : Token). if same c c then with_cubbyhole edit x else x) (get b.tokens c) y
    (sym (get-change b.tokens c (with_cubbyhole edit) c) ∙ e) in
    (x.0, ap (λ (z : Token). z.cubbyhole) (x.2 ∙ ap (λ v. if v then with_cubbyhole edit x.0 else x.0) (same_self c)))

module _ (a : Asking) (is : a.outcome ≡ step a.broker a.moment a.words a.ask) (q path : Text) (client : IsClient a q)
    (answered : a.outcome.response.status ≡ Status.NoContent) (y : Token)
    (there : get a.outcome.next.tokens q ≡ Some y) where
  it : Served a
  it = served a is (omega (arith, ap status_code answered))

  left : (caller : Option Text) → IsCaller (clocked a) (request_of a.ask) caller → (command : CubbyholeCommand)
      → act (spent (clocked a) caller) caller (names_of a.words) (on_cubbyhole path command) ≡ Ok it.done
      → LeavesAt (get y.cubbyhole path) command
  left None asked command e = no_ok e
  left (Some c) asked (CubbyholeCommand.Write None) e = no_ok e
  left (Some c) asked (CubbyholeCommand.Write (Some text)) e =
      let at : q ≡ c = same_Some _ _ (sym client.token ∙ (is_client a c asked).token) in
      let x = edited_is (spent (clocked a) (Some c)) c (λ m. put m path text) y
      (ap (λ (z : Done). get z.next.tokens c) (ok_inj e)
      ∙ subst (λ u. get it.done.next.tokens u ≡ Some y) at (token_left a it q y there)) in
      ap (λ (m : Map Text). get m path) x.1 ∙ get-put_self (x.0).cubbyhole path text
  left (Some c) asked CubbyholeCommand.Delete e =
      let at : q ≡ c = same_Some _ _ (sym client.token ∙ (is_client a c asked).token) in
      let x = edited_is (spent (clocked a) (Some c)) c (λ m. without m path) y
      (ap (λ (z : Done). get z.next.tokens c) (ok_inj e)
      ∙ subst (λ u. get it.done.next.tokens u ≡ Some y) at (token_left a it q y there)) in
      ap (λ (m : Map Text). get m path) x.1 ∙ get-without_self (x.0).cubbyhole path
  left (Some c) asked CubbyholeCommand.Read e = tt
  left (Some c) asked CubbyholeCommand.List e = tt

  pub edits_stand : (command : CubbyholeCommand) → command_of (clocked a).mounts a.ask ≡ Ok (on_cubbyhole path command)
      → LeavesAt (get y.cubbyhole path) command
  edits_stand command means =
      let is_command : it.command ≡ on_cubbyhole path command =
      ok_inj (sym (means_at_clock a it.caller it.command it.means) ∙ means) in
      left it.caller it.asked command
      (subst (λ (x : Command). act (spent (clocked a) it.caller) it.caller (names_of a.words) x ≡ Ok it.done)
      is_command it.acted)

-- ---- what is above a token of fewer

-- each token of us is one of ts, with the same parent unless it has none
abbrev IsPruned : Tokens → Tokens → Type 0
IsPruned ts us =
    (t : Text) (y : Token) → get us t ≡ Some y
    → (x : Token) × (get ts t ≡ Some x) × ((y.parent ≡ x.parent) ⊎ (y.parent ≡ None))

-- a token is under no other than it was, where tokens keep their parents, or lose them
under_pruned : (n m : ℕ) (ts us : Tokens) (q c : Text) → IsPruned ts us → ends_within m ts q ≡ true
    → list_any (same c) (climb n us q) ≡ true → list_any (same c) (climb m ts q) ≡ true
under_pruned zero m ts us q c pruned ends above = absurd (false≢true above)
under_pruned (suc n) zero ts us q c pruned ends above = elim (found_or_not (get us q)) [
  | inl none ↦ absurd (false≢true (sym (ap (λ o. list_any (same c) (climb_at n us q o)) none) ∙ above))
  | inr y ↦ absurd (false≢true (sym (ap is_none (pruned q y.0 y.1).1) ∙ ends))
]
under_pruned (suc n) (suc m) ts us q c pruned ends above = elim (found_or_not (get us q)) [
  | inl none ↦ absurd (false≢true (sym (ap (λ o. list_any (same c) (climb_at n us q o)) none) ∙ above))
  | inr y ↦
      let x = pruned q y.0 y.1 in
      let here : (same c q || list_any (same c) (climb_above n us y.0.parent)) ≡ true =
      sym (ap (λ o. list_any (same c) (climb_at n us q o)) y.1) ∙ above in
      let ends_here : ends_above m ts x.0.parent ≡ true = sym (ap (ends_at m ts) x.1) ∙ ends in
      ap (λ o. list_any (same c) (climb_at m ts q o)) x.1
      ∙ elim (same c q) as
      (λ v. (v || list_any (same c) (climb_above n us y.0.parent)) ≡ true
      → (v || list_any (same c) (climb_above m ts x.0.parent)) ≡ true) [
        | true ↦ λ _. refl
        | false ↦ λ rest. by (λ r e u. under_pruned n m ts us r c pruned e u) y.0.parent x.0.parent x.2 ends_here rest
      ] here
]
  where
    by : ((r : Text) → ends_within m ts r ≡ true → list_any (same c) (climb n us r) ≡ true
        → list_any (same c) (climb m ts r) ≡ true)
        → (p r : Option Text) → (p ≡ r) ⊎ (p ≡ None) → ends_above m ts r ≡ true
        → list_any (same c) (climb_above n us p) ≡ true
        → list_any (same c) (climb_above m ts r) ≡ true
    by again None r how ends rest = absurd (false≢true rest)
    by again (Some p) None how ends rest = elim how [
      | inl e ↦ absurd (none-some _ (sym e))
      | inr e ↦ absurd
          (none-some _ (sym e))
    ]
    by again (Some p) (Some r) how ends rest = elim how [
      | inl e ↦ again r ends (subst (λ u. list_any (same c) (climb n us u) ≡ true) (same_Some _ _ e) rest)
      | inr e ↦ absurd (none-some _ (sym e))
    ]

-- ---- the last use

-- the client token that has spent it
spent_there : (ts : Tokens) (c : Text) → has_no_use ts c ≡ true
    → (x : Token) × (get ts c ≡ Some x) × (is_spent x ≡ true)
spent_there ts c none = elim (found_or_not (get ts c)) [
  | inl away ↦ absurd (false≢true (sym (ap (λ (o : Option Token). option_map_or is_spent o false) away) ∙ none))
  | inr x ↦ (x.0, x.1, sym (ap (λ (o : Option Token). option_map_or is_spent o false) x.1) ∙ none)
]

-- what its end leaves
kept_by_caller : (ts : Tokens) (c q : Text) → get ts q ≢ None → (has_no_use ts c ≡ true → is_under ts q c ≡ true → ⊥)
    → left_by_caller ts c q ≢ None
kept_by_caller ts c q there apart none =
    elim (has_no_use ts c && is_under ts q c) as
    (λ v. (has_no_use ts c && is_under ts q c) ≡ v → (if v then None else get ts q) ≡ None → ⊥) [
      | true ↦ λ on _. let both = and_parts (has_no_use ts c) (is_under ts q c) on in apart both.0 both.1
      | false ↦ λ _ away. there away
    ] refl none

-- ---- one request

module _ (a : Asking) where
  ends_with_client : (c : Text) → IsClient a c → (q : Text) (x : Token) → get (spent_by a c).tokens c ≡ Some x
      → is_spent x ≡ true
      → is_under (spent_by a c).tokens q c ≡ true → EndsWithClient a q
  ends_with_client c client q x there spent_ under =
      let from = from_clock a c client c x there in
      let uses : (o : Option ℕ) → from.earlier.uses_left ≡ o
      → option_map_or (λ m. m == 0) (option_map (λ n. n - 1) o) false ≡ true = λ o e.
      sym (ap (λ (o : Option ℕ). option_map_or (λ m. m == 0) o false)
      (from.uses client ∙ ap (option_map (λ n. n - 1)) e)) ∙ spent_ in
      elim (found_or_not from.earlier.uses_left) [
        | inl none ↦ absurd (false≢true (uses None none))
        | inr n ↦ record {
          caller = c;
          client = client;
          own = from.earlier;
          there = from.there;
          uses = n.0;
          limited = n.1;
          last = omega (arith, eqb-true (n.0 - 1) 0 (uses (Some n.0) n.1));
          under = under;
        }
      ]

  module _ (c : Text) (command : Command) (d : Done) (s : CarriesOut a c command d) (q : Text) where
    abbrev b : Broker
    b = spent_by a c

    -- a client token that has spent its last use makes none
    no_maker : (x y : Token) → get b.tokens c ≡ Some x → y.uses_left ≡ x.uses_left → is_spent y ≡ true
        → (t : Text) (z : Token)
        → Makes a t z → ⊥
    no_maker x y was uses spent_ t z m =
        let is_c : m.made.caller ≡ c = same_Some _ _ (sym m.made.client.token ∙ s.client.token) in
        let own : get b.tokens c ≡ Some m.own = subst (λ u. get (spent_by a u).tokens u ≡ Some m.own) is_c m.there in
        let privileged = is_privileged (clocked a) (making_path m.made.making) m.own in
        let rules = allowed privileged m.made.making m.own
        (new_policies privileged m.own m.made.asked) m.made.asked tt m.might in
        let none : y.uses_left ≡ None = uses ∙ ap (λ (w : Token). w.uses_left) (same_Some _ _ (sym was ∙ own))
        ∙ rules.unlimited in
        false≢true (sym (ap (λ (o : Option ℕ). option_map_or (λ n. n == 0) o false) none) ∙ spent_)

    -- so what is under one after the operation was so before
    under_before : has_no_use d.next.tokens c ≡ true → is_under d.next.tokens q c ≡ true → IsTree b.tokens
        → EndsWithClient a q
    under_before none under tree_ =
        let y = spent_there d.next.tokens c none in
        elim (leaves a c command d s c y.0 y.1) [
          | inl (x, was, became) ↦
              let pruned : IsPruned b.tokens d.next.tokens = λ t z is. elim (leaves a c command d s t z is) [
                | inl (w, there, so) ↦ (w, there, elim so.parent [ inl e ↦ inl e | inr o ↦ inr o.none ])
                | inr m ↦ absurd (no_maker x y.0 was became.uses y.2 t z m)
              ] in
              ends_with_client c s.client q x was
              (ap (λ (o : Option ℕ). option_map_or (λ n. n == 0) o false) (sym became.uses) ∙ y.2)
              (under_pruned (len d.next.tokens) (len b.tokens) b.tokens d.next.tokens q c pruned
              (tree_.chains_end q) under)
          | inr m ↦ absurd (false≢true (sym (ap is_spent m.is ∙ new_unspent m.made.asked.num_uses) ∙ y.2))
        ]

  -- a token of the clock stays, unless it goes
  stays_there : Sound forms None a.broker → Course a → (q : Text) → get (clocked a).tokens q ≢ None
      → (TokenGoes a q → ⊥)
      → get a.outcome.next.tokens q ≢ None
  stays_there sound went q there free none =
      let spent_too : (c : Text) → get (spent_by a c).tokens q ≢ None = λ c away.
      there (valued_none (λ u (z : Token). if same u c then one_less z else z) (clocked a).tokens q away) in
      elim went.way [
        | inl l ↦ there (ap (λ (m : Tokens). get m q) (sym l.tokens) ∙ none)
        | inr r ↦ elim r [
          | inl (c, t) ↦ kept_by_caller (spent_by a c).tokens c q (spent_too c)
              (λ last under. let x = spent_there (spent_by a c).tokens c last in
              free (inr (inr (ends_with_client c t.client q x.0 x.1 x.2 under))))
              (sym (t.left q) ∙ none)
          | inr (c, command, d, s) ↦ kept_by_caller d.next.tokens c q
              (keeps a c command d s q (spent_too c) (λ r. free (inr (inl r))))
              (λ last under. free (inr (inr (under_before c command d s q last under (called_tree a c sound)))))
              (sym (s.left q) ∙ none)
        ]
      ]

-- ---- who reads a cubbyhole

module _ (a : Asking) (is : a.outcome ≡ step a.broker a.moment a.words a.ask) (path : Text) (k : CubbyholeCommand)
    (means : command_of (clocked a).mounts a.ask ≡ Ok (on_cubbyhole path k))
    (success : a.outcome.response.status ≡ Status.Success) where
  was_served : Served a
  was_served = served a is (omega (arith, ap status_code success))

  abbrev Acted : Option Text → Type 0
  Acted caller = act (spent (clocked a) caller) caller (names_of a.words) (on_cubbyhole path k) ≡ Ok was_served.done

  -- without a wrap TTL, what was replied is the answer
  answers_so : (r : Reply) → was_served.done.answered ≡ reply r None → a.ask.wrap_ttl ≡ 0
      → a.outcome.response ≡ ok (reply_text r)
  answers_so r answered none =
      let s = was_served in
      ap (λ (x : Outcome). x.response) s.outcome
      ∙ elim (wrapped_cases permits traits act (spent (clocked a) s.caller) (request_of a.ask)
      (names_of a.words) s.command s.done) [
        | inl plain ↦ ap (λ (x : Wrapped). response_to x.done.answered) plain ∙ ap response_to answered
        | inr (other, made, wraps_, replied, kept) ↦
            absurd (false≢true (sym (ap (λ n. nat_lt 0 n) none)
            ∙ (and_parts (nat_lt 0 a.ask.wrap_ttl) (traits s.command).may_wrap wraps_).0))
      ]

  module _ (IsOf : Map Text → Text → Type 0)
      (tells : (c : Text) (x : Token) → get (spent_by a c).tokens c ≡ Some x → Acted (Some c)
      → (text : Text) × IsOf x.cubbyhole text × (was_served.done.answered ≡ reply
      (plain_reply (names_of a.words).request text) None)) where
    by_caller : (caller : Option Text) → IsCaller (clocked a) (request_of a.ask) caller → Acted caller
        → AnswersOwn a IsOf
    by_caller caller (inl (open_, none)) done = no_ok (subst Acted none done)
    by_caller caller (inr (c, closed, is_token, is_c, no_wait, there)) done = elim
        (found_or_not (get (spent_by a c).tokens c)) [
          | inl away ↦ absurd (false≢true (sym (ap (λ (o : Option Token). is_some o)
              (valued_none (λ u (z : Token). if same u c then one_less z else z) (clocked a).tokens c away)) ∙ there))
          | inr x ↦
              let client : IsClient a c = record { closed = closed; token = is_token } in
              let from = from_clock a c client c x.0 x.1 in
              let told = tells c x.0 x.1 (subst Acted is_c done) in
              record {
                caller = c;
                client = client;
                own = from.earlier;
                there = from.there;
                shown = told.0;
                of_own = subst (λ (m : Map Text). IsOf m told.0) (ap (λ (z : Token). z.cubbyhole) from.rest) told.1;
                unwrapped = answers_plainly a was_served _ None told.2;
                plain = answers_so _ told.2;
              }
        ]

    answers_own : AnswersOwn a IsOf
    answers_own =
        let s = was_served in
        by_caller s.caller s.asked
        (subst (λ (x : Command). act (spent (clocked a) s.caller) s.caller (names_of a.words) x ≡ Ok s.done)
        (ok_inj (sym (means_at_clock a s.caller s.command s.means) ∙ means)) s.acted)

-- ---- the law

pub own_stays : OperationsDoAsTold → AllOwnStays
own_stays told b history h = record {
  goes = λ i a q at was free.
      let is = asked_at b history i a h at in
      stays_there a is.sound (asked_course told a.broker a is) q
      (λ none. elim (found_or_not (get a.broker.tokens q)) [
        | inl away ↦ was away
        | inr x ↦ none-some _ (sym none ∙ not_due_stays a q x.0 x.1 (λ due. free (inl due)))
      ]) free;
  stands = λ i a q y at there. elim (follows a (asked_course told a.broker a (asked_at b history i a h at)) q y there) [
    | inl s ↦ inl s.stands
    | inr m ↦ inr (record {
      made = m.made;
      no_cubbyhole = λ path. ap (λ (z : Token). get z.cubbyhole path) m.is ∙ get-empty text_cmp path;
      no_lease = λ lease_id. ap (λ (z : Token). get z.leases lease_id) m.is ∙ get-empty text_cmp lease_id;
    })
  ];
  renewed = λ i a q y at r there. renewed_token a (asked_at b history i a h at).outcome q y r there;
  renewed_lease = λ i a lease_id at r. had_lease a (asked_at b history i a h at).outcome lease_id r;
  lease_ends = λ i a q lease_id l at r was stays.
      renewed_lease a (asked_at b history i a h at).outcome lease_id r q l was stays;
  edited = λ i a q path command y at client means answered there.
      edits_stand a (asked_at b history i a h at).outcome q path client answered y there command means;
  reads = λ i a path at means success.
      answers_own a (asked_at b history i a h at).outcome path CubbyholeCommand.Read means success (IsObjectAt path)
      (λ c x there done.
      let kept = ok_step (some_or Refusal.NotFound (of_cubbyhole.object_at (spent_by a c) c path)) _ _ done in
      let object = chained (λ (z : Token). get z.cubbyhole path) (get (spent_by a c).tokens c) kept.0
      (some_ok Refusal.NotFound _ kept.1) in (
        kept.0,
        subst (λ (z : Token). get z.cubbyhole path ≡ Some kept.0) (same_Some _ _ (sym object.1 ∙ there)) object.2,
        ap (λ (z : Done). z.answered) (sym (ok_inj kept.2)),
      ));
  lists = λ i a path at means success.
      answers_own a (asked_at b history i a h at).outcome path CubbyholeCommand.List means success (IsListAt path)
      (λ c x there done.
      let names = of_cubbyhole.list (spent_by a c) c path in
      let some = ok_step (unless (not (are_none names)) Refusal.NotFound) _ _ done in (
        keys_object names,
        ap (λ (o : Option Token). keys_object (children (folder path)
            (option_map_or (λ (z : Token). keys z.cubbyhole) o []))) there,
        ap (λ (z : Done). z.answered) (sym (ok_inj some.2)),
      ));
}
