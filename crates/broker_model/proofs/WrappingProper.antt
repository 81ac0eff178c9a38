-- Commands on responses that wait are proper, and so is the wrapping of a reply.
use Rattle.std.specs.Prelude.{◌≡◌, ◌≢◌, ◌⊎◌, ◌∷◌, ℕ, List, [], true, false, ⊤, Option, Some, None, Ok, option_map, refl}
use Rattle.broker_model.specs.Words.{option_map_or, sym, ◌∙◌, ap, subst, inl, inr, false≢true, none-some, Text, same}
use Rattle.broker_model.specs.Words.{same_true, Map, get, Broker, Waiting, Evolves, IsNew, IsTakenOut, OriginIsGone}
use Rattle.broker_model.specs.Words.{WaitedBefore, evolves_trans, Names, Done, kept_text, wrapping_token}
use Rattle.broker_model.specs.Words.{token_identifier, some_or, ok_step, Forms, Sound, SoundIdentifiers, SoundWaiting}
use Rattle.broker_model.specs.Words.{IsSoundWaiting, drop_waiting, drop_sound, drop_takes_out, drop_ends_origin}
use Rattle.broker_model.specs.Words.{token_text, are_new, use_up, Reply, ok_inj, store_adds_one, moved_waits}
use Rattle.broker_model.specs.Words.{moved_is_taken_out, store_evolves, store_sound, rewrap_sound, AddsNone}
use Rattle.broker_model.specs.Words.{with_waiting, moved, on_wrapping, IsProper, counted, kept_entry, wrap}
use Rattle.broker_model.specs.Words.{AreWrappingNames, new_after, two_of, proper_of, wrapping_names, WrappingCommand}
use Rattle.broker_model.specs.Words.{token_meant, is_own, wrapping_traits, FoundResponse, found_under, found, rewrapped}
use Rattle.broker_model.specs.Words.{handed_out, act_on_wrappings}
use Rattle.broker_types.specs.declared.refusal.Refusal.TheVariants as refusal
use Rattle.broker_types.specs.declared.refusal.Reason.TheVariants as reason
use Rattle.broker_model.specs.declared.commands.WrappingCommand.TheVariants as command
use Rattle.broker_model.proofs.WrappingEffects as effects
use Rattle.broker_model.proofs.WrappingEffects.{found_is}

-- ---- the part

-- a command that is not refused gives out its own identifiers or none, and lets the broker evolve
pub acts : (b : Broker) (names : Names) (command : WrappingCommand) (d : Done)
    → are_new b.used ((wrapping_traits command).own names) ≡ true → act_on_wrappings b names command ≡ Ok d
    → IsProper b ((wrapping_traits command).own names) d
acts b names command d new e = proper_of b None names (on_wrapping command) d
    (effects.acts b None names command d e) new

-- ---- what is sound stays so

module _ (forms : Forms) (who : Option Text) (b : Broker) (sound : Sound forms who b) where
  moved_sound : (names : Names) (f : FoundResponse) → AreWrappingNames names
      → are_new b.used (wrapping_names names) ≡ true → get b.waiting f.token ≡ Some f.response
      → Sound forms who (counted (rewrapped b names f))
  moved_sound names f good new is =
      let u = token_text names.wrapping_token in
      let a = names.wrapping_accessor in
      let two = two_of b.used names.wrapping_token a [] new in
      let after = λ (o : Option Waiting). option_map_or
      (λ w. with_waiting (drop_waiting b f.token) u (moved a b.clock w)) o b in
      subst (λ (o : Option Waiting). Sound forms who
      (record (after o) { used = use_up (after o).used (wrapping_names names) }))
      (sym is)
      (rewrap_sound forms who b sound f.token u a b.clock f.response is sound.clock
      (names.wrapping_token, good.token, refl)
      good.accessor two.one two.two two.differ)

  -- a command leaves a sound broker sound
  pub leave : (names : Names) (command : WrappingCommand) (d : Done) → AreWrappingNames names
      → are_new b.used ((wrapping_traits command).own names) ≡ true → act_on_wrappings b names command ≡ Ok d
      → Sound forms who (counted d)
  leave names (command.Wrap text) d good new e = subst (λ d. Sound forms who (counted d)) (ok_inj e) sound
  leave names (command.LookUp meant) d good new e =
      let f = ok_step (found b meant) _ d e in subst (λ d. Sound forms who (counted d)) (ok_inj f.2) sound
  leave names (command.Rewrap meant) d good new e =
      let f = ok_step (found b meant) _ d e in
      subst (λ d. Sound forms who (counted d)) (ok_inj f.2) (moved_sound names f.0 good new (found_is b meant f.0 f.1))
  leave names (command.Unwrap meant) d good new e =
      let f = ok_step (found b meant) _ d e in
      subst (λ d. Sound forms who (counted d)) (ok_inj f.2) (drop_sound b f.0.token forms who sound)

-- ---- what moves, what is taken out, and what changes nothing

module _ (b : Broker) (names : Names) where
  -- a response that waits is the one that is meant by its wrapping token
  found_there : (t : Text) (w : Waiting) (f : FoundResponse) → get b.waiting t ≡ Some w → found b (Some t) ≡ Ok f
      → found_under t w ≡ f
  found_there t w f is e =
      ok_inj (sym (ap (λ o. some_or (refusal.BadRequest reason.InvalidWrappingToken) (option_map (found_under t) o)) is)
      ∙ e)

  -- a wrapping token that waits was given out, so a new one is another
  other_token : (t : Text) (w : Waiting) → SoundIdentifiers b → IsNew b names.wrapping_token → get b.waiting t ≡ Some w
      → token_text names.wrapping_token ≢ t
  other_token t w sound new is one =
      sound.all_used (wrapping_token t) (token_identifier t) (ap (option_map (λ _. token_identifier t)) is)
      (ap (λ u. get b.used (token_identifier u)) (sym one) ∙ new)

  pub moves : (t : Text) (w : Waiting) (d : Done) → SoundIdentifiers b → are_new b.used (wrapping_names names) ≡ true
      → get b.waiting t ≡ Some w → act_on_wrappings b names (command.Rewrap (Some t)) ≡ Ok d
      → (get d.next.waiting (token_text names.wrapping_token) ≡ Some (moved names.wrapping_accessor b.clock w))
      × IsTakenOut d.next t
  moves t w d sound new is e =
      let u = token_text names.wrapping_token in
      let a = names.wrapping_accessor in
      let f = ok_step (found b (Some t)) _ d e in
      let there = found_there t w f.0 is f.1 in
      let one : rewrapped b names (found_under t w) ≡ d = ap (rewrapped b names) there ∙ ok_inj f.2 in
      let differ = other_token t w sound (two_of b.used names.wrapping_token a [] new).one is in
      subst (λ (d : Done). (get d.next.waiting u ≡ Some (moved a b.clock w)) × IsTakenOut d.next t) one (
        moved_waits b t u a b.clock w is,
        moved_is_taken_out b t u a b.clock sound differ (λ none. none-some _ (sym none ∙ is)),
      )

  pub takes_out : (t : Text) (w : Waiting) (d : Done) → SoundIdentifiers b → SoundWaiting b.waiting
      → get b.waiting t ≡ Some w → act_on_wrappings b names (command.Unwrap (Some t)) ≡ Ok d
      → (d.answered ≡ kept_text w.reply) × IsTakenOut d.next t × OriginIsGone d.next w.origin
  takes_out t w d sound waiting is e =
      let f = ok_step (found b (Some t)) _ d e in
      let there = found_there t w f.0 is f.1 in
      let one : handed_out b (found_under t w) ≡ d = ap (handed_out b) there ∙ ok_inj f.2 in
      subst (λ (d : Done). (d.answered ≡ kept_text w.reply) × IsTakenOut d.next t × OriginIsGone d.next w.origin) one
      (refl, drop_takes_out b t sound (λ none. none-some _ (sym none ∙ is)), drop_ends_origin b t sound waiting w is)

  pub wraps_alone : (text : Text) (d : Done) → act_on_wrappings b names (command.Wrap text) ≡ Ok d → d.next ≡ b
  wraps_alone text d e = sym (ap (λ (d : Done). d.next) (ok_inj e))

  pub looks_up : (meant : Option Text) (d : Done) → act_on_wrappings b names (command.LookUp meant) ≡ Ok d → d.next ≡ b
  looks_up meant d e =
      let f = ok_step (found b meant) _ d e in sym (ap (λ (d : Done). d.next) (ok_inj f.2))

-- ---- which wrapping token is meant

-- a text that the client token is, which the body names and which is not empty
named_is : (t : Text) (client : Option Text) → option_map_or (same t) client false ≡ true → Some t ≡ client
named_is t None h = absurd (false≢true h)
named_is t (Some c) h = ap Some (same_true t c h)

-- what is the client token's own is the client token
pub own_meant : (client named : Option Text) → is_own client named ≡ true → token_meant client named ≡ client
own_meant client None h = refl
own_meant client (Some []) h = refl
own_meant client (Some (c ∷ t)) h = named_is (c ∷ t) client h

-- ---- the wrapping of a reply

module _ (b : Broker) (path : Text) (ttl : ℕ) (names : Names) (d : Done) (r : Reply) (made : Option Text) where
  abbrev entry : Waiting
  entry = kept_entry b path ttl names r

  pub wrap_sound : (forms : Forms) (who : Option Text) (own : List Text)
      → are_new b.used (names.wrapping_token ∷ names.wrapping_accessor ∷ own) ≡ true → d.next.used ≡ b.used
      → (d.taken ≡ []) ⊎ (d.taken ≡ own) → IsSoundWaiting (token_text names.wrapping_token) entry
      → Sound forms who (counted d) → Sound forms who (counted (wrap b path ttl names d r made).done)
  wrap_sound forms who own new used taken good sound =
      let two = two_of b.used names.wrapping_token names.wrapping_accessor own new in
      store_sound (counted d) (token_text names.wrapping_token) entry forms who sound (record {
        sound = good;
        token_is_new = new_after b own d used taken names.wrapping_token two.one two.one_apart;
        accessor_is_new = new_after b own d used taken names.wrapping_accessor two.two two.two_apart;
        differ = two.differ;
        origin = inl refl;
      })

  pub wrap_evolves : IsNew b names.wrapping_token → d.next.used ≡ b.used → Evolves b d.next
      → Evolves b (wrap b path ttl names d r made).done.next
  wrap_evolves new used evolves =
      evolves_trans b d.next (with_waiting d.next (token_text names.wrapping_token) entry) evolves
      (store_evolves d.next (token_text names.wrapping_token) entry
      (ap (λ (m : Map ⊤). get m names.wrapping_token) used ∙ new) refl)

  pub wrap_adds_one : (t : Text) (w : Waiting) → AddsNone b d.next
      → get (wrap b path ttl names d r made).done.next.waiting t ≡ Some w
      → WaitedBefore b w ⊎ ((t ≡ token_text names.wrapping_token) × (w ≡ entry))
  wrap_adds_one t w none is =
      elim (store_adds_one d.next (token_text names.wrapping_token) t entry w is) [
        | inl before ↦
            let was = none before.0 before.1 before.2 in
            inl (was.0, was.1, was.2, before.3 ∙ was.3, before.4 ∙ was.4)
        | inr one ↦ inr one
      ]
