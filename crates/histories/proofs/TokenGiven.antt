-- Who makes which token, and what a 200 to a creation made.
use Rattle.std.proofs.Common.{◌≡◌, ◌<◌, ◌==◌, ◌&&◌, if◌then◌else◌}
use Rattle.histories.specs.Words.{true, false, cond, Option, Some, None, Ok, refl, sym, option_map_or, ◌∙◌, ap, inl}
use Rattle.histories.specs.Words.{inr, arith, lt-ltb, Text, same, get, put, get-put, get-put_self, Broker, is_under}
use Rattle.histories.specs.Words.{Names, names_of, reply, Done, no_ok, ok_step, is_spent, status_code, Token, Tokens}
use Rattle.histories.specs.Words.{token_text, token_entry, ok_inj, AllThatIsGranted, OnlyWhatIsGranted, RootMayDoAll}
use Rattle.histories.specs.Words.{wrap_object, reply_text, wrap_reply, TokenCreation, act, Command, command_of}
use Rattle.histories.specs.Words.{on_token, allowed, OperationsDoAsTold, Outcome, response_to, unwrapped, wrap_200}
use Rattle.histories.specs.Words.{wraps, permits, ok, request_of, step, traits, is_privileged, making_path, may_make}
use Rattle.histories.specs.Words.{new_parent, new_policies, new_token, auth_reply, known, Status, Making, TokenCommand}
use Rattle.histories.specs.Words.{GivesToken, Asking, clocked, spent_by, telling_body, unwrapped_body}
use Rattle.histories.specs.Words.{AllMadeAsAllowed, CreatesAtPath, has_no_use}
use Rattle.histories.proofs.Created.{new_unspent}
use Rattle.histories.proofs.Descent.{Makes, follows, parent_is}
use Rattle.histories.proofs.Order.{some_ok, spent, spent_clock, asked_at, means_at_clock, tells_body, served}
use Rattle.histories.proofs.ServedFor.{ServedFor, served_for, tokens_left}
use Rattle.histories.proofs.TokenLaws.{asked_course, might}

module _ (told : OperationsDoAsTold) (only : OnlyWhatIsGranted) (all : AllThatIsGranted) (root_all : RootMayDoAll)
    (creates : CreatesAtPath) where
  module _ (a : Asking) (is : a.outcome ≡ step a.broker a.moment a.words a.ask) (making : Making)
      (asked : TokenCreation) (means : command_of (clocked a).mounts a.ask ≡ Ok
      (on_token (TokenCommand.Create making asked)))
      (success : a.outcome.response.status ≡ Status.Success) where
    pub s : ServedFor a (on_token (TokenCommand.Create making asked))
    s = served_for a (served a is (omega (arith, ap status_code success))) (on_token (TokenCommand.Create making asked))
        means
        (λ b names d e. no_ok e)

    abbrev c : Text
    c = s.caller

    abbrev start : Broker
    start = spent_by a s.caller

    abbrev names : Names
    names = names_of a.words

    abbrev d : Done
    d = s.it.done

    abbrev text : Text
    text = token_text names.token

    -- the token that is made, and the answer
    pub record DidMake : Type 0 where
      pub fresh : Token
      pub makes : Makes a text fresh
      pub next : d.next.tokens ≡ put start.tokens text fresh
      pub answered : d.answered
          ≡ reply (auth_reply names.request start.clock text (token_entry fresh)) (Some names.accessor)
      pub caller_unspent : option_map_or is_spent (get start.tokens c) false ≡ false
      pub unspent : is_spent fresh ≡ false

    did_make : DidMake
    did_make =
        let x = ok_step (known start c) _ d s.acted in
        let privileged = is_privileged start (making_path making) x.0 in
        let policies = new_policies privileged x.0 asked in
        let may = ok_step (may_make privileged making x.0 policies asked) _ d x.2 in
        let own = some_ok _ (get start.tokens c) x.1 in
        let rules = allowed privileged making x.0 policies asked tt may.1 in
        record {
          fresh = new_token start.clock (new_parent c making asked) names.accessor policies asked;
          makes = record {
            made = record {
              caller = c;
              client = s.client;
              making = making;
              asked = asked;
              means = means;
              text = refl;
              accessor = refl;
              parent = parent_is c making asked;
            };
            own = x.0;
            there = own;
            might = may.1;
            is = refl;
          };
          next = ap (λ (z : Done). z.next.tokens) (sym (ok_inj may.2));
          answered = ap (λ (z : Done). z.answered) (sym (ok_inj may.2));
          caller_unspent = ap (λ (o : Option Token). option_map_or is_spent o false) own
              ∙ ap (λ o. option_map_or (λ n. n == 0) o false) rules.unlimited;
          unspent = new_unspent asked.num_uses;
        }

    module _ (did : DidMake) where
      has_use : has_no_use d.next.tokens c ≡ false
      has_use =
          ap (λ (ts : Tokens). has_no_use ts c) did.next
          ∙ ap (λ (o : Option Token). option_map_or is_spent o false) (get-put start.tokens text did.fresh c)
          ∙ elim (same c text) as
          (λ v. option_map_or is_spent (cond v (Some did.fresh) (get start.tokens c)) false ≡ false) [
            | true ↦ did.unspent
            | false ↦ did.caller_unspent
          ]

      is_command : (s.it).command ≡ on_token (TokenCommand.Create making asked)
      is_command = ok_inj (sym (means_at_clock a (s.it).caller (s.it).command (s.it).means) ∙ means)

      -- with a wrap TTL its reply is wrapped, and tells the accessor of the token
      wrapped_so : 0 < a.ask.wrap_ttl
          → a.outcome.response ≡ ok (telling_body a (unwrapped_body a) (Some names.accessor))
      wrapped_so some =
          let q = request_of a.ask in
          let from = spent (clocked a) (s.it).caller in
          let wraps_it : wraps permits traits act q (s.it).command ≡ true =
          ap (λ v. v && (traits (s.it).command).may_wrap) (lt-ltb 0 a.ask.wrap_ttl some)
          ∙ ap (λ (k : Command). (traits k).may_wrap) is_command in
          let same_clock : from.clock ≡ (clocked a).clock = spent_clock (clocked a) (s.it).caller in
          ap (λ (o : Outcome). o.response) (s.it).outcome
          ∙ ap (λ v. response_to (if v then wrap_200 from q.path q.wrap_ttl names d d.answered
          else unwrapped d).done.answered) wraps_it
          ∙ ap (λ x. response_to (wrap_200 from q.path q.wrap_ttl names d x).done.answered) did.answered
          ∙ ap (λ n. ok (reply_text (wrap_reply names.request (wrap_object (record {
            accessor = names.wrapping_accessor;
            creation_path = a.ask.path;
            created = n;
            token = token_text names.wrapping_token;
            ttl = a.ask.wrap_ttl;
            wrapped_accessor = Some names.accessor;
          }))))) same_clock

      gives : GivesToken a
      gives = record {
        text = text;
        made = did.fresh;
        there = tokens_left a s.it c text s.is_caller
            ∙ ap (λ v. if v && is_under d.next.tokens text c then None else get d.next.tokens text) has_use
            ∙ ap (λ (ts : Tokens). get ts text) did.next ∙ get-put_self start.tokens text did.fresh;
        might = might only all root_all creates a text did.fresh did.makes;
        told = sym (tells_body told a s.it _ (Some names.accessor) did.answered).0;
        wrapped = λ some. wrapped_so some
            ∙ ap (λ u. ok (telling_body a (unwrapped_body a) (Some u))) (sym did.makes.made.accessor);
      }

    pub gives_token : GivesToken a
    gives_token = gives did_make

  pub made_as_allowed : AllMadeAsAllowed
  made_as_allowed b history h = record {
    each = λ i a q y at there.
        elim (follows a (asked_course told a.broker a (asked_at b history i a h at)) q y there) [
          | inl s ↦ inl s.stands.was
          | inr m ↦ inr (might only all root_all creates a q y m)
        ];
    given = λ i a making asked at means success.
        gives_token a (asked_at b history i a h at).outcome making asked means success;
  }
