-- No operation takes a token's last use: where no token had spent it when a caller began to be served, none has then.
use Rattle.std.proofs.Common.{◌≡◌, ◌≢◌, ◌==◌, ◌||◌, if◌then◌else◌, ℕ, Bool, true, false, not, nat_lt, cond, is_some, Ok}
use Rattle.broker_model.specs.Words.{Option, Some, None, option_map, Result, Err, option_map_or, refl, sym, ◌∙◌, ap}
use Rattle.broker_model.specs.Words.{subst, eqb-true, true≢false, none-some, same_Some, Broker, revoke, unspent_still}
use Rattle.broker_model.specs.Words.{get, get-put, Names, names_of, Answered, nothing, reply, kept_text, missing, Done}
use Rattle.broker_model.specs.Words.{unless, ok_step, revoke_orphan_sound, revoke_sound, Sound, Unspent, end_spent}
use Rattle.broker_model.specs.Words.{is_spent, end_spent_sound, Text, same, Token, token_text, are_new, Ask, Refusal}
use Rattle.broker_model.specs.Words.{Words, TokenEntry, token_entry, Rows, ok_inj, TokenCreation, act, Command, Both}
use Rattle.broker_model.specs.Words.{Does, IsFated, Stay, StaysAt, forms, OperationsDoAsTold, Wrapped, counted}
use Rattle.broker_model.specs.Words.{permission_denied, unwrapped, wrap_200, permits, is_open, is_wrapped, needed_by}
use Rattle.broker_model.specs.Words.{served, request_of, traits, Fate, make, orphan, renew, stay, is_privileged}
use Rattle.broker_model.specs.Words.{making_path, may_make, new_parent, new_policies, new_token, use_limit, known}
use Rattle.broker_model.specs.Words.{new_end}
use Rattle.broker_types.specs.declared.refusal.Reason.TheVariants as reason
use Rattle.broker_types.specs.declared.refusal.Refusal.TheVariants as refusal
use Rattle.token_tree.specs.Tokens as tree
use Rattle.broker_model.specs.Traits.{revoke as ends}
use Rattle.broker_model.specs.declared.making.Making.{Making}
use Rattle.broker_model.specs.parts.Tokens as tokens
use Rattle.broker_rows.specs.Words.{Caller, IsCallerOf, has_no_uses, Represents}
use Rattle.broker_rows.specs.declared.answered.Answered.{Answered as Given}
use Rattle.broker.specs.Stages.{HasServed, may_be_spent}

-- ---- the caller

-- where no token has spent its last use, the caller does not end
unspent_stays : (b : Broker) (t : Text) → Unspent None b.tokens → end_spent b (Some t) ≡ b
unspent_stays b t unspent = by (get b.tokens t) refl
  where
    by_uses : (x : Token) → get b.tokens t ≡ Some x → (uses : Option ℕ) → x.uses_left ≡ uses
        → (if option_map_or (λ n. n == 0) uses false then revoke b t else b) ≡ b
    by_uses x there None is = refl
    by_uses x there (Some n) is = elim (n == 0) as (λ v. (n == 0) ≡ v → (if v then revoke b t else b) ≡ b) [
      | true ↦ λ zero. absurd (none-some _ (unspent t x there (is ∙ ap Some (eqb-true n 0 zero))))
      | false ↦ λ _. refl
    ] refl

    by : (o : Option Token) → get b.tokens t ≡ o → (if option_map_or is_spent o false then revoke b t else b) ≡ b
    by None there = refl
    by (Some x) there = by_uses x there x.uses_left refl

-- so the rows go on to represent the broker
pub unspent_ended : (b : Broker) (t : Text) (rows : Rows) → Represents None rows b
    → Represents None rows (end_spent b (Some t))
unspent_ended b t rows st = subst (Represents None rows) (sym (unspent_stays b t st.sound.unspent)) st

-- where only the caller may have spent its last use, and it was not on that, none has
caller_unspent : (b : Broker) (c : Caller) → Unspent (Some c.token) b.tokens → IsCallerOf b c
    → has_no_uses c.known ≡ false → Unspent None b.tokens
caller_unspent b c unspent is left t x there zero =
    let is_c : c.token ≡ t = same_Some _ _ (unspent t x there zero) in
    let entry : c.known ≡ token_entry x =
    same_Some _ _ (is ∙ ap (option_map token_entry) (ap (get b.tokens) is_c ∙ there)) in
    let uses : c.known.uses_left ≡ Some 0 = ap (λ (e : TokenEntry). e.uses_left) entry ∙ zero in
    absurd (true≢false (sym (ap (λ o. option_map_or (λ n. n == 0) o false) uses) ∙ left))

-- and then the rows represent the broker of which no token has
unspent_represented : (b : Broker) (t : Text) (rows : Rows) → Represents (Some t) rows b → Unspent None b.tokens
    → Represents None rows b
unspent_represented b t rows st unspent = record {
  rows = st.rows;
  sound = subst (Sound forms None) (unspent_stays b t unspent) (end_spent_sound forms (Some t) b st.sound);
}

-- ---- operations

module _ (b : Broker) (sound : Sound forms None b) where
  stays_unspent : (d : Done) {changes : _} {who : Option Text} → Stay changes who d.taken b d.next
      → Unspent None d.next.tokens
  stays_unspent d {changes} {who} stays t y there zero =
      by (get b.tokens t) refl (subst (Both (StaysAt changes who t) (get b.tokens t)) there (stays.tokens t))
    where
      by : (o : Option Token) → get b.tokens t ≡ o → Both (StaysAt changes who t) o (Some y) → None ≡ Some t
      by None was both = absurd both
      by (Some x) was both = sound.unspent t x was (sym (ap (λ (z : Token). z.uses_left) both.rest) ∙ zero)

  -- a new token has uses, or no limit
  limited : (n : ℕ) → use_limit n ≢ Some 0
  limited n = elim (n == 0) as (λ v. (n == 0) ≡ v → (if v then None else Some n) ≢ Some 0) [
    | true ↦ λ _ is. none-some _ is
    | false ↦ λ some is. true≢false (sym (ap (λ k. k == 0) (same_Some _ _ is)) ∙ some)
  ] refl

  put_unspent : (t : Text) (fresh : Token) (n : ℕ) → fresh.uses_left ≡ use_limit n
      → Unspent None (tree.with_token b t fresh).tokens
  put_unspent t fresh n uses q y there zero = by (same q t) (sym (get-put b.tokens t fresh q) ∙ there)
    where
      by : (v : Bool) → cond v (Some fresh) (get b.tokens q) ≡ Some y → None ≡ Some q
      by true is =
          absurd (limited n (sym uses ∙ ap (λ (z : Token). z.uses_left) (same_Some _ _ is) ∙ zero))
      by false is = sound.unspent q y is zero

  made_unspent : (c : Text) (names : Names) (making : Making) (asked : TokenCreation) (d : Done)
      → tokens.create b c names making asked ≡ Ok d → Unspent None d.next.tokens
  made_unspent c names making asked d e =
      let x = ok_step (known b c) _ d e in
      let privileged = is_privileged b (making_path making) x.0 in
      let policies = new_policies privileged x.0 asked in
      let may = ok_step (may_make privileged making x.0 policies asked) _ d x.2 in
      let fresh = new_token b.clock (new_parent c making asked) names.accessor policies asked in
      subst (λ (z : Done). Unspent None z.next.tokens) (ok_inj may.2)
      (put_unspent (token_text names.token) fresh asked.num_uses refl)

  renewed_unspent : (t : Text) (names : Names) (increment : ℕ) (d : Done)
      → tokens.renew_token b names t increment ≡ Ok d
      → Unspent None d.next.tokens
  renewed_unspent t names increment d e =
      let x = ok_step (known b t) _ d e in
      let ending = ok_step (unless (is_some x.0.ends) (refusal.BadRequest reason.TokenNotRenewable)) _ d x.2 in
      subst (λ (z : Done). Unspent None z.next.tokens) (ok_inj ending.2)
      (unspent_still b.tokens t (tree.with_end (new_end b.clock (token_entry x.0) increment)) None (λ y. refl)
      sound.unspent)

  acted_unspent : (who : Option Text) (names : Names) (command : Command) (d : Done) → Does b who names command d
      → Unspent None d.next.tokens
  acted_unspent who names command d does = by (traits command).fate does.fated
    where
      by : (f : Fate) → IsFated f (traits command).changes b who names d → Unspent None d.next.tokens
      by stay stays = stays_unspent d stays
      by (make making asked) makes = made_unspent makes.0 names making asked d makes.2
      by (renew named increment) renews = renewed_unspent renews.1 names increment d renews.4
      by (ends named) revokes =
          subst (λ (z : Done). Unspent None z.next.tokens) (sym revokes.4)
          (revoke_sound forms None b sound revokes.1).unspent
      by (orphan t) revokes =
          subst (λ (z : Done). Unspent None z.next.tokens) (sym revokes.2)
          (revoke_orphan_sound forms None b sound t).unspent

  -- a reply that is wrapped is that of no token
  wrapped_unspent : (v : Bool) (path : Text) (ttl : ℕ) (names : Names) (d : Done) (a : Answered)
      → Unspent None d.next.tokens
      → Unspent None (if v then wrap_200 b path ttl names d a else unwrapped d).done.next.tokens
  wrapped_unspent false path ttl names d a unspent = unspent
  wrapped_unspent true path ttl names d nothing unspent = unspent
  wrapped_unspent true path ttl names d (reply r made) unspent = unspent
  wrapped_unspent true path ttl names d (kept_text text) unspent = unspent
  wrapped_unspent true path ttl names d (missing r) unspent = unspent

  served_unspent : OperationsDoAsTold → (who : Option Text) (words : Words) (a : Ask) (w : Wrapped)
      → served b who (names_of words) a ≡ Ok w → Unspent None w.done.next.tokens
  served_unspent law who words a w e =
      let names = names_of words in
      let allowed = ok_step (unless (is_open a || permits b who a.verb a.path) permission_denied) _ w e in
      let command = ok_step ((request_of a).command b) _ w allowed.2 in
      let fresh = ok_step (unless (are_new b.used (needed_by a names command.0)) refusal.IdentifierUsed) _ w command.2
      in
      let timed =
      ok_step (unless (not (traits command.0).must_wrap || nat_lt 0 a.wrap_ttl)
      (refusal.BadRequest reason.WrappingRequired)) _ w fresh.2 in
      let done = ok_step (act b who names command.0) _ w timed.2 in
      subst (λ (v : Wrapped). Unspent None v.done.next.tokens) (ok_inj done.2)
      (wrapped_unspent (is_wrapped a command.0) a.path a.wrap_ttl names done.0 done.0.answered
      (acted_unspent who names command.0 done.0 (law b who words command.0 done.0 done.1)))

-- ---- the whole

-- So when a caller has been served or refused, the rows represent a broker of which no token has spent its last use but
-- for the caller, if it was on that.
pub has_served : OperationsDoAsTold → (b : Broker) (c : Caller) (words : Words) (a : Ask) (old rows : Rows)
    (given : Result Given Refusal) (last : Bool) → Represents (Some c.token) old b → IsCallerOf b c
    → last ≡ has_no_uses c.known
    → HasServed (Some c.token) rows b given (served b (Some c.token) (names_of words) a)
    → HasServed (may_be_spent c.token last) rows b given (served b (Some c.token) (names_of words) a)
has_served law b c words a old rows given true st is told has = has
has_served law b c words a old rows given false st is told has =
    by given (served b (Some c.token) (names_of words) a) refl has
  where
    unspent : Unspent None b.tokens
    unspent = caller_unspent b c st.sound.unspent is (sym told)

    sound : Sound forms None b
    sound = (unspent_represented b c.token old st unspent).sound

    by : (given : Result Given Refusal) (m : Result Wrapped Refusal)
        → served b (Some c.token) (names_of words) a ≡ m → HasServed (Some c.token) rows b given m
        → HasServed None rows b given m
    by (Ok x) (Ok w) is_m done = (
      done.0,
      unspent_represented (counted w.done) c.token rows done.1
          (served_unspent b sound law (Some c.token) words a w is_m),
    )
    by (Ok x) (Err r) is_m done = absurd done
    by (Err r) (Ok w) is_m done = absurd done
    by (Err r) (Err e) is_m refused = (refused.0, unspent_represented b c.token rows refused.1 unspent)
