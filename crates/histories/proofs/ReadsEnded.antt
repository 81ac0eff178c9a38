-- What a 404 to a read of a version shows: one that is deleted or destroyed, without what it held; or there is none.
use Rattle.std.proofs.Common.{◌≡◌, ◌≢◌, ◌⊎◌, ◌==◌, if◌then◌else◌, ◌||◌}
use Rattle.broker_model.specs.Words.{version_shown}
use Rattle.kv2.specs.Secrets as secrets
use Rattle.histories.specs.Words.{ℕ, Bool, true, false, is_some, Option, Some, None, Ok, Result, Err, option_and_then}
use Rattle.histories.specs.Words.{option_map, refl, sym, ◌∙◌, ap, subst, inl, inr, eqb-true, none-some, Text, entries}
use Rattle.histories.specs.Words.{get, Response, refused, names_of, missing, reply, Done, mapped, mapped_none}
use Rattle.histories.specs.Words.{not_there, some_or, no_ok, ok_step, Key, Version, spend, Refusal, Reply, Status}
use Rattle.histories.specs.Words.{ok_inj, secret_name, Found, asked_number, numbered, secret_object, plain_reply}
use Rattle.histories.specs.Words.{reply_text, act, Command, command_of, on_secret, chained, Outcome, Wrapped}
use Rattle.histories.specs.Words.{permission_denied, response_to, permits, not_found, request_of, step, traits, Place}
use Rattle.histories.specs.Words.{object_left, version_answered, version_reply, Reason, SecretCommand, Asking, clocked}
use Rattle.histories.specs.Words.{LacksVersion, ShowsEnded, not, nat_lt, ⊤, Map, Broker, Mount, ◌>>=◌, unless}
use Rattle.histories.specs.Words.{unless_ok, are_new, finish, needed, serve, wrapped, Request}
use Rattle.histories.proofs.EventSecrets.{is_200}
use Rattle.histories.proofs.Order.{some_ok, spent, wrapped_cases, means_at_clock, Served, IsCaller, spent_mounts}
use Rattle.histories.proofs.InOrder.{in_order}

-- ---- why a request that means a command is refused: by policies, by its identifiers, or by the command

-- ---- steps that are refused

pub err_inj : {X : Type 0} {x y : Refusal} → ◌≡◌ {A = Result X Refusal} (Err x) (Err y) → x ≡ y
err_inj {X = X} {x = x} e = ap why e
  where
    why : Result X Refusal → Refusal
    why (Ok y) = x
    why (Err z) = z

-- the step that was refused first, or the next
pub err_step : {A B : Type 0} (r : Result A Refusal) (f : A → Result B Refusal) (e : Refusal) → (r >>= f) ≡ Err e
    → (r ≡ Err e) ⊎ ((x : A) × (r ≡ Ok x) × (f x ≡ Err e))
err_step (Ok x) f e h = inr (x, refl, h)
err_step (Err z) f e h = inl (ap Err (err_inj h))

pub unless_err : (v : Bool) (r e : Refusal) → unless v r ≡ Err e → e ≡ r
unless_err true r e h = no_ok (sym h)
unless_err false r e h = sym (err_inj h)

pub some_err : {A : Type 0} (r : Refusal) (o : Option A) (e : Refusal) → some_or r o ≡ Err e → (o ≡ None) × (e ≡ r)
some_err r None e h = (refl, sym (err_inj h))
some_err r (Some x) e h = no_ok (sym h)

-- ---- one request

-- the command was refused
pub record Rejects (a : Asking) (command : Command) : Type 0 where
  pub caller : Option Text
  pub asked : IsCaller (clocked a) (request_of a.ask) caller
  pub why : Refusal
  pub acted : act (spent (clocked a) caller) caller (names_of a.words) command ≡ Err why
  pub response : a.outcome.response ≡ refused why

-- the request was denied; its identifiers were not new, or it had no wrap TTL; its command was refused; or it was
-- served
abbrev pub Way : Asking → Command → Type 0
Way a command =
    (a.outcome.response ≡ refused permission_denied)
    ⊎ ((a.outcome.response ≡ refused Refusal.IdentifierUsed)
    ⊎ ((a.outcome.response ≡ refused (Refusal.BadRequest Reason.WrappingRequired)) ⊎ (Rejects a command ⊎ Served a)))

module _ (a : Asking) (is : a.outcome ≡ step a.broker a.moment a.words a.ask) (command : Command)
    (means : command_of (clocked a).mounts a.ask ≡ Ok command) where
  abbrev q : Request Command
  q = request_of a.ask

  module _ (caller : Option Text) (asked : IsCaller (clocked a) (request_of a.ask) caller) where
    abbrev start : Broker
    start = spent (clocked a) caller

    means_it : q.command start ≡ Ok command
    means_it = ap (λ (m : Map Mount). command_of m a.ask) (spent_mounts (clocked a) caller) ∙ means

    abbrev fresh : Result ⊤ Refusal
    fresh = unless (are_new start.used (needed permits traits act q (names_of a.words) command)) Refusal.IdentifierUsed

    abbrev has_ttl : Result ⊤ Refusal
    has_ttl =
        unless (not (traits command).must_wrap || nat_lt 0 q.wrap_ttl) (Refusal.BadRequest Reason.WrappingRequired)

    by_command : (why : Refusal) → a.outcome ≡ finish start caller (Err why)
        → (fresh >>= (λ u. has_ttl >>= (λ v. act start caller (names_of a.words) command
        >>= (λ d. Ok (wrapped permits traits act start q (names_of a.words) command d))))) ≡ Err why
        → Way a command
    by_command why outcome e = elim (err_step fresh _ why e) [
      | inl used ↦ inr (inl (answer ∙ ap refused (unless_err _ _ why used)))
      | inr (u, new, f) ↦ elim (err_step has_ttl _ why f) [
        | inl none ↦ inr (inr (inl (answer ∙ ap refused (unless_err _ _ why none))))
        | inr (v, some, g) ↦ elim (err_step (act start caller (names_of a.words) command) _ why g) [
          | inl rejected ↦ inr (inr (inr (inl (record {
            caller = caller;
            asked = asked;
            why = why;
            acted = rejected;
            response = answer;
          }))))
          | inr d ↦ no_ok (sym d.2)
        ]
      ]
    ]
      where
        answer : a.outcome.response ≡ refused why
        answer = ap (λ (o : Outcome). o.response) outcome

    by_result : (r : Result Wrapped Refusal) → serve permits traits act start caller q (names_of a.words) ≡ r
        → a.outcome ≡ finish start caller r → Way a command
    by_result (Err why) e outcome =
        elim (err_step (unless (q.is_open || permits start caller q.verb q.path) permission_denied) _ why e) [
          | inl forbidden ↦ inl (ap (λ (o : Outcome). o.response) outcome
              ∙ ap refused (unless_err _ _ why forbidden))
          | inr (u, may, f) ↦
              by_command why outcome
              (ap (λ (z : Result Command Refusal). z >>= (λ k.
              unless (are_new start.used (needed permits traits act q (names_of a.words) k)) Refusal.IdentifierUsed
              >>= (λ u. unless (not (traits k).must_wrap || nat_lt 0 q.wrap_ttl)
              (Refusal.BadRequest Reason.WrappingRequired)
              >>= (λ v. act start caller (names_of a.words) k
              >>= (λ d. Ok (wrapped permits traits act start q (names_of a.words) k d)))))) (sym means_it) ∙ f)
        ]
    by_result (Ok v) e outcome =
        let p = ok_step (unless (q.is_open || permits start caller q.verb q.path) permission_denied) _ v e in
        let r = ok_step (q.command start) _ v p.2 in
        let n = ok_step (unless (are_new start.used (needed permits traits act q (names_of a.words) r.0))
        Refusal.IdentifierUsed) _ v r.2 in
        let m = ok_step (unless (not (traits r.0).must_wrap || nat_lt 0 q.wrap_ttl)
        (Refusal.BadRequest Reason.WrappingRequired)) _ v n.2 in
        let f = ok_step (act start caller (names_of a.words) r.0) _ v m.2 in
        inr (inr (inr (inr (record {
          caller = caller;
          asked = asked;
          command = r.0;
          done = f.0;
          allowed = unless_ok _ permission_denied p.0 p.1;
          means = r.1;
          new = unless_ok _ Refusal.IdentifierUsed n.0 n.1;
          acted = f.1;
          outcome = outcome ∙ ap (λ (x : Wrapped). finish start caller (Ok x)) (sym (ok_inj f.2));
        }))))

  -- a request that means the command went in one of these ways
  pub ways : Way a command
  unfolding step
  ways =
      in_order permits traits act a.broker a.moment q (names_of a.words)
      (λ o. a.outcome ≡ o → Way a command)
      (λ closed none outcome. inl (ap (λ (o : Outcome). o.response) outcome))
      (λ t closed is_token waits outcome. inl (ap (λ (o : Outcome). o.response) outcome))
      (λ caller asked outcome. by_result caller asked
      (serve permits traits act (spent (clocked a) caller) caller q (names_of a.words)) refl outcome) is

-- the number that is asked for
pub number_is : (k : Key) (n : ℕ) → n ≢ 0 → asked_number k.current n ≡ n
number_is k n some = by (n == 0) refl
  where
    by : (v : Bool) → (n == 0) ≡ v → (if v then k.current else n) ≡ n
    by true zero_ = absurd (some (eqb-true n 0 zero_))
    by false _ = refl

pub current_is : (k : Key) (n : ℕ) → n ≡ 0 → asked_number k.current n ≡ k.current
current_is k n none = ap (λ m. if m == 0 then k.current else m) none

-- a version of which nothing is left is deleted or destroyed
has_ended : (v : Version) → object_left v ≡ None → (v.deleted ≢ None) ⊎ (v.secret ≡ None)
has_ended v none = by v.deleted refl none
  where
    by : (o : Option ℕ) → v.deleted ≡ o → (if is_some o then None else v.secret) ≡ None
        → (v.deleted ≢ None) ⊎ (v.secret ≡ None)
    by None is e = inr e
    by (Some t) is e = inl (λ away. none-some t (sym away ∙ is))

module _ (a : Asking) (p : Place) (n : ℕ)
    (means : command_of (clocked a).mounts a.ask ≡ Ok (on_secret p (SecretCommand.Read n)))
  where
    abbrev request : Text
    request = (names_of a.words).request

    -- what a read that was carried out found
    pub record FoundRead (d : Done) : Type 0 where
      pub key : Key
      pub there : get (clocked a).secrets (secret_name p.mount p.path) ≡ Some key
      pub version : Version
      pub is_kept : get key.versions (asked_number key.current n) ≡ Some version
      pub answered : d.answered
          ≡ version_answered request (numbered (entries key.custom_metadata) (asked_number key.current n) version)

    found_by : (d : Done) (caller : Option Text)
        → act (spent (clocked a) caller) caller (names_of a.words) (on_secret p (SecretCommand.Read n)) ≡ Ok d
        → FoundRead d
    found_by d None e = no_ok e
    found_by d (Some c) e =
        let v = ok_step (some_or Refusal.NotFound (secrets.read (spend (clocked a) c) p.mount p.path n)) _ d e in
        let o = get (clocked a).secrets (secret_name p.mount p.path) in
        let k = chained (λ (k : Key). option_map (numbered (entries k.custom_metadata) (asked_number k.current n))
        (get k.versions (asked_number k.current n))) o v.0 (some_ok Refusal.NotFound _ v.1) in
        let x = mapped (numbered (entries (k.0).custom_metadata) (asked_number (k.0).current n)) _ v.0 k.2 in
        record {
          key = k.0;
          there = k.1;
          version = x.0;
          is_kept = x.1;
          answered = ap (λ (d : Done). d.answered) (sym (ok_inj v.2)) ∙ ap (version_answered request) x.2;
        }

    module _ (s : Served a) where
      found : FoundRead s.done
      found =
          found_by s.done s.caller
          (subst (λ (x : Command). act (spent (clocked a) s.caller) s.caller (names_of a.words) x ≡ Ok s.done)
          (ok_inj (sym (means_at_clock a s.caller s.command s.means) ∙ means)) s.acted)

      -- a 404 with a reply is not wrapped
      missing_is : (r : Reply) → s.done.answered ≡ missing r → a.outcome.response ≡ not_found (reply_text r)
      missing_is r answered =
          ap (λ (o : Outcome). o.response) s.outcome
          ∙ elim (wrapped_cases permits traits act (spent (clocked a) s.caller) (request_of a.ask) (names_of a.words)
          s.command s.done) [
            | inl plain ↦ ap (λ (z : Wrapped). response_to z.done.answered) plain ∙ ap response_to answered
            | inr kept ↦ absurd (apart (sym answered ∙ kept.3))
          ]
        where
          apart : {r x : Reply} {made : Option Text} → missing r ≡ reply x made → ⊥
          apart e = cc

      module _ (f : FoundRead s.done) where
        abbrev shown_version : Found
        shown_version = numbered (entries f.key.custom_metadata) (asked_number f.key.current n) f.version

        of_ended : object_left f.version ≡ None → s.done.answered ≡ missing (version_reply request shown_version)
            → ShowsEnded a p n
        of_ended none answered = record {
          key = f.key;
          there = f.there;
          number = asked_number f.key.current n;
          by_number = number_is f.key n;
          by_current = current_is f.key n;
          version = f.version;
          is_kept = f.is_kept;
          ended = has_ended f.version none;
          shown = version_shown (asked_number f.key.current n) f.version;
          is_shown = refl;
          response = missing_is (version_reply request shown_version) answered
              ∙ ap (λ o. not_found (reply_text (plain_reply request (secret_object o (entries f.key.custom_metadata)
              (version_shown (asked_number f.key.current n) f.version))))) none;
        }

        by_left : (w : Bool) → is_some (object_left f.version) ≡ w
            → s.done.answered
            ≡ (if w then reply (version_reply request shown_version) None
            else missing (version_reply request shown_version))
            → ((r : Reply) → s.done.answered ≡ reply r None → ⊥) → ShowsEnded a p n
        by_left true left answered no_reply = absurd (no_reply (version_reply request shown_version) answered)
        by_left false none answered no_reply = of_ended (not_there (object_left f.version) none) answered

        ended_if : ((r : Reply) → s.done.answered ≡ reply r None → ⊥) → ShowsEnded a p n
        ended_if = by_left (is_some (object_left f.version)) refl f.answered

      -- a read that was answered so shows a version that has ended
      pub shows_ended : (r : Reply) → s.done.answered ≡ missing r → ShowsEnded a p n
      shows_ended r answered = ended_if found (λ x replied. apart (sym answered ∙ replied))
        where
          apart : {r x : Reply} {made : Option Text} → missing r ≡ reply x made → ⊥
          apart e = cc

    -- ---- where there is none

    lacks : (caller : Option Text) (why : Refusal)
        → act (spent (clocked a) caller) caller (names_of a.words) (on_secret p (SecretCommand.Read n)) ≡ Err why
        → (refused why).status ≡ Status.NotFound
        → LacksVersion a p n × (why ≡ Refusal.NotFound)
    lacks None why e is_404 = absurd (apart (ap (λ r. (refused r).status) (err_inj e) ∙ is_404))
      where
        apart : ◌≡◌ {A = Status} Status.Forbidden Status.NotFound → ⊥
        apart e = cc
    lacks (Some c) why e is_404 =
        elim (err_step (some_or Refusal.NotFound (secrets.read (spend (clocked a) c) p.mount p.path n)) _ why e) [
          | inr x ↦ absurd (ok_no_err x.2)
          | inl none ↦ by (some_err Refusal.NotFound (secrets.read (spend (clocked a) c) p.mount p.path n) why none)
        ]
      where
        ok_no_err : {X : Type 0} {x : X} {e : Refusal} → ◌≡◌ {A = Result X Refusal} (Ok x) (Err e) → ⊥
        ok_no_err e = no_ok (sym e)

        at_key : (k : Key) → get (clocked a).secrets (secret_name p.mount p.path) ≡ Some k
            → secrets.read (spend (clocked a) c) p.mount p.path n ≡ None
            → get k.versions (asked_number k.current n) ≡ None
        at_key k there none =
            mapped_none (numbered (entries k.custom_metadata) (asked_number k.current n)) _
            (ap (option_and_then (λ (k : Key).
            option_map (numbered (entries k.custom_metadata) (asked_number k.current n))
            (get k.versions (asked_number k.current n)))) (sym there) ∙ none)

        by : (secrets.read (spend (clocked a) c) p.mount p.path n ≡ None) × (why ≡ Refusal.NotFound)
            → LacksVersion a p n × (why ≡ Refusal.NotFound)
        by (none, is) = (
          record {
            by_number = λ k there some. ap (get k.versions) (sym (number_is k n some)) ∙ at_key k there none;
            by_current = λ k there zero_. ap (get k.versions) (sym (current_is k n zero_)) ∙ at_key k there none;
          },
          is,
        )

-- what a 404 to a read says
module _ (a : Asking) (is : a.outcome ≡ step a.broker a.moment a.words a.ask) (p : Place) (n : ℕ)
    (means : command_of (clocked a).mounts a.ask ≡ Ok (on_secret p (SecretCommand.Read n)))
    (is_404 : a.outcome.response.status ≡ Status.NotFound) where
  abbrev Says : Type 0
  Says = ShowsEnded a p n ⊎ (LacksVersion a p n × (a.outcome.response ≡ refused Refusal.NotFound))

  -- another refusal is no 404
  other : (why : Refusal) → a.outcome.response ≡ refused why → ((refused why).status ≡ Status.NotFound → ⊥) → Says
  other why response apart = absurd (apart (ap (λ (r : Response). r.status) (sym response) ∙ is_404))

  rejected : Rejects a (on_secret p (SecretCommand.Read n)) → Says
  rejected r =
      let none = lacks a p n means r.caller r.why r.acted (ap (λ (x : Response). x.status) (sym r.response) ∙ is_404) in
      inr (none.0, r.response ∙ ap refused none.1)

  was_served : Served a → Says
  was_served s =
      inl (ended_if a p n means s (found a p n means s) (λ r answered.
      absurd (apart (sym (is_200 a s r None answered) ∙ is_404))))
    where
      apart : ◌≡◌ {A = Status} Status.Success Status.NotFound → ⊥
      apart e = cc

  pub read_404 : Says
  read_404 = by_way (ways a is (on_secret p (SecretCommand.Read n)) means)
    where
      not_403 : ◌≡◌ {A = Status} Status.Forbidden Status.NotFound → ⊥
      not_403 e = cc

      not_500 : ◌≡◌ {A = Status} Status.InternalServerError Status.NotFound → ⊥
      not_500 e = cc

      not_400 : ◌≡◌ {A = Status} Status.BadRequest Status.NotFound → ⊥
      not_400 e = cc

      by_way : Way a (on_secret p (SecretCommand.Read n)) → Says
      by_way (inl forbidden) = other permission_denied forbidden not_403
      by_way (inr (inl used)) = other Refusal.IdentifierUsed used not_500
      by_way (inr (inr (inl none))) = other (Refusal.BadRequest Reason.WrappingRequired) none not_400
      by_way (inr (inr (inr (inl r)))) = rejected r
      by_way (inr (inr (inr (inr s)))) = was_served s
