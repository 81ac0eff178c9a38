-- What an operation leaves is proper, if the identifiers that it needs are new.
use Rattle.std.proofs.Common.{◌≡◌, ◌≢◌, ◌⊎◌, ◌∷◌, ℕ, [], true, is_some, Option, Some, None, Ok, refl, sym, ◌∙◌, ap, inl}
use Rattle.records.specs.Words.{⊤, subst, inr, false≢true, none-some, Text, Map, get, Token, Lease, token_text, Broker}
use Rattle.records.specs.Words.{Waiting, Evolves, IsNew, IsNewLease, WaitedBefore, WasBefore, evolves_trans, Names}
use Rattle.records.specs.Words.{names_of, Done, lease_of, token_identifier, unless, ok_step, revoke_evolves}
use Rattle.records.specs.Words.{revoke_orphan_evolves, drop_evolves, are_new, Part, token_entry, ok_inj}
use Rattle.broker_types.specs.Broker as broker
use Rattle.broker_types.specs.declared.refusal.Refusal.TheVariants as refusal
use Rattle.broker_types.specs.declared.refusal.Reason.TheVariants as reason
use Rattle.api_json.specs.declared.token_bodies.TokenCreation.{TokenCreation}
use Rattle.token_tree.specs.Words.{create_evolves, renew_evolves}
use Rattle.broker_model.specs.Command.{Command}
use Rattle.broker_model.specs.EffectLaws.{both_there}
use Rattle.broker_model.specs.Effects.{Both, Does, IsFated, IsGiven, StaysAt}
use Rattle.broker_model.specs.Laws.{OperationsAreProper, OperationsDoAsTold}
use Rattle.broker_model.specs.NewIdentifierLaws.{first_in, member_new}
use Rattle.broker_model.specs.Order.{IsProper}
use Rattle.broker_model.specs.Step.{traits}
use Rattle.broker_model.specs.Traits.{Fate, make, orphan, renew, revoke, stay}
use Rattle.broker_model.specs.declared.making.Making.{Making}
use Rattle.broker_model.specs.parts.TokenCreation.{is_privileged, making_path, may_make, new_parent, new_policies}
use Rattle.broker_model.specs.parts.TokenCreation.{new_token}
use Rattle.broker_model.specs.parts.Tokens as tokens
use Rattle.broker_model.specs.parts.Tokens.{known, new_end}

module _ (b : Broker) (who : Option Text) (names : Names) (d : Done)
    (new : (i : Text) → IsGiven d.taken i → IsNew b i) where
  -- each token and each lease was there, or is new
  abbrev AreOld : Type 0
  AreOld =
      ((t : Text) (x : Token) → get d.next.tokens t ≡ Some x → (get b.tokens t ≢ None) ⊎ IsNew b (token_identifier t))
      × ((t lease_id : Text) (l : Lease) → lease_of d.next t lease_id ≡ Some l → WasBefore b t lease_id l
      ⊎ IsNewLease b lease_id l)

  by_evolves : Evolves b d.next → AreOld
  by_evolves e = (e.tokens, e.leases)

  make_evolves : (c : Text) (making : Making) (asked : TokenCreation) → tokens.create b c names making asked ≡ Ok d
      → Evolves b d.next
  make_evolves c making asked e =
      let x = ok_step (known b c) _ d e in
      let privileged = is_privileged b (making_path making) x.0 in
      let policies = new_policies privileged x.0 asked in
      let may = ok_step (may_make privileged making x.0 policies asked) _ d x.2 in
      let token_is_new : IsNew b names.token =
      new names.token (subst (λ (z : Done). IsGiven z.taken names.token) (ok_inj may.2)
      (first_in names.token (names.accessor ∷ []))) in
      let made = create_evolves b (token_text names.token)
      (new_token b.clock (new_parent c making asked) names.accessor policies asked) refl token_is_new in
      subst (λ (z : Done). Evolves b z.next) (ok_inj may.2)
      (record {
        used = λ i u. u;
        tokens = made.tokens;
        leases = made.leases;
        wrapping_tokens = made.wrapping_tokens;
        waiting = made.waiting;
      })

  renewed_evolves : (t : Text) (increment : ℕ) → tokens.renew_token b names t increment ≡ Ok d → Evolves b d.next
  renewed_evolves t increment e =
      let x = ok_step (known b t) _ d e in
      let ending = ok_step (unless (is_some x.0.ends) (refusal.BadRequest reason.TokenNotRenewable)) _ d x.2 in
      subst (λ (z : Done). Evolves b z.next) (ok_inj ending.2)
      (renew_evolves b t (new_end b.clock (token_entry x.0) increment))

  -- whatever becomes of tokens
  are_old : (changes : Option Part) (fate : Fate) → IsFated fate changes b who names d → AreOld
  are_old changes stay stays = (
    λ t x e.
        let was = both_there (StaysAt changes who t) (get b.tokens t) x
        (subst (Both (StaysAt changes who t) (get b.tokens t)) e (stays.tokens t)) in
        inl (λ none. none-some _ (sym none ∙ was.1)),
    λ t lease_id l e. elim (stays.leases t lease_id l e) [
      | inl was ↦ inl was
      | inr given ↦ inr (new _ given.1, new _ given.2)
    ],
  )
  are_old changes (make making asked) (c, is, e) = by_evolves (make_evolves c making asked e)
  are_old changes (renew named increment) (c, t, is, named_, e) = by_evolves (renewed_evolves t increment e)
  are_old changes (revoke named) (c, t, is, named_, e) =
      let next = broker.revoke b t in
      by_evolves (subst (λ (z : Done). Evolves b z.next) (sym e)
      (evolves_trans b next _ (revoke_evolves b t) (drop_evolves next t)))
  are_old changes (orphan t) (c, is, e) =
      let next = broker.revoke_orphan b t in
      by_evolves (subst (λ (z : Done). Evolves b z.next) (sym e)
      (evolves_trans b next _ (revoke_orphan_evolves b t) (drop_evolves next t)))

module _ (b : Broker) (who : Option Text) (names : Names) (command : Command) (d : Done)
    (does : Does b who names command d)
    (new : are_new b.used ((traits command).own names) ≡ true) where
  given_new : (i : Text) → IsGiven d.taken i → IsNew b i
  given_new i given = elim does.gives_own [
    | inl none ↦ absurd (false≢true (subst (λ is. IsGiven is i) none given))
    | inr own ↦ member_new b.used ((traits command).own names) i new (subst (λ is. IsGiven is i) own given)
  ]

  waited : (t : Text) (w : Waiting) → get d.next.waiting t ≡ Some w → WaitedBefore b w
  waited t w e = elim (does.waiting t w e) [ inl was ↦ (t, w, was, refl, refl) | inr moved ↦ moved.2 ]

  evolves : Evolves b d.next
  evolves =
      let old = are_old b who names d given_new (traits command).changes (traits command).fate does.fated in
      record {
        used = λ i used none. used (ap (λ (m : Map ⊤). get m i) (sym does.keeps.used) ∙ none);
        tokens = old.0;
        leases = old.1;
        wrapping_tokens = λ t w e. elim (does.waiting t w e) [
          | inl was ↦ inl (λ none. none-some _ (sym none ∙ was))
          | inr moved ↦ inr (given_new (token_identifier t) moved.0)
        ];
        waiting = λ t w e. inl (waited t w e);
      }

  pub proper_of : IsProper b ((traits command).own names) d
  proper_of = record {
    used = does.keeps.used;
    gives_own = does.gives_own;
    none_at_204 = does.none_at_204;
    none_at_404 = does.none_at_404;
    hands_out = does.hands_out;
    keeps_text = does.keeps_text;
    none_born = waited;
    evolves = evolves;
  }

-- so operations are
pub are_proper : OperationsDoAsTold → OperationsAreProper
are_proper told b caller words command d new done =
    proper_of b caller (names_of words) command d (told b caller words command d done) new
