-- What revocation and expiry leave of the rows, and which tokens they end.
use Rattle.std.proofs.Common.{◌≡◌, ◌||◌, ◌∷◌, ℕ, List, [], Bool, true, false, not, None, Result, Ok, Err, IfOk, OnOk}
use Rattle.records.specs.Words.{refl, sym, ◌∙◌, ap, subst, inl, inr, not-not, Text, get, keep, Broker, revoke, is_under}
use Rattle.records.specs.Words.{is_alive, with_live_leases, Forms, IsTokenText, revoke_unknown, same_self, under_tokens}
use Rattle.records.specs.Words.{found_or_not, RowKey, of_tokens, Tells, KeepsOthers, rows_of, table_of-injective}
use Rattle.records.specs.Words.{table_of, token_entry, Rows, rows_under, token_in_range, has}
use Rattle.token_tree.specs.Words.{Kind, Row, has_come, is_named, IsDescent, Start, RepresentsTokens, AreEnded}
use Rattle.token_tree.specs.Words.{has_ended, without_expired, ended_by_revocation, ended_by_now, EndsDescent}
use Rattle.token_tree.specs.Words.{IsTokenRow, HasDamagedDescent}
use Rattle.records.specs.declared.kind.Kind.TheVariants as kind
use Rattle.token_tree.proofs.Taken.{without_ended, AreReadableEnded}
use Rattle.token_tree.proofs.Fates.{IsFate, fated, under_fate, expired_fate}
use Rattle.token_tree.proofs.ListedTokens.{each_listed, lists_tokens}
use Rattle.token_tree.proofs.Removals.{tells_kept, tells_changed, others_stay}
use Rattle.token_tree.proofs.TokenEnds.{table_of-without_tokens, rows_read}

-- what follows from each answer
pub on_each : {X E P : Type 0} (r : Result X E) (Q : X → Type 0) → ((x : X) → Q x → P) → IfOk r Q → OnOk r P
on_each (Ok x) Q f h = f x h
on_each (Err e) Q f h = tt

module _ (forms : Forms) (b : Broker) (rows : Rows) (stands : RepresentsTokens forms (table_of rows) b) where
  unnamed : get b.tokens [] ≡ None
  unnamed = elim (found_or_not (get b.tokens [])) [
    | inl none ↦ none
    | inr x ↦ absurd (no_text (stands.sound.each [] x.0 x.1).name)
  ]
    where
      no_text : IsTokenText [] → ⊥
      no_text h = absurd (let e = h.2 in cc)

  pub readable : (ended : List Text) (es : List (RowKey × Row)) → es ≡ rows_under rows kind.Token []
      → AreReadableEnded ended es
  readable ended es listed = subst (AreReadableEnded ended) (sym (listed ∙ lists_tokens b rows stands.tells))
      (each_listed b.tokens (λ e. has ended e.0.1 ≡ true → IsTokenRow e) (λ t x is gone.
      (token_entry x, token_in_range forms b.tokens stands.sound t x is, refl)))

  module _ (s : Start) (gone : Text → Bool) (fate : IsFate b.tokens s gone) where
    ends_exactly : (es : List (RowKey × Row)) (ended : List Text) → es ≡ rows_under rows kind.Token []
        → IsDescent s es ended → (q : Text)
        → has ended q ≡ gone q
    ends_exactly es ended listed down =
        fated b.tokens s gone fate stands.sound.chains_end unnamed ended
        (subst (λ l. IsDescent s l ended) (listed ∙ lists_tokens b rows stands.tells) down)

    each : (c : Broker) → ((q : Text) → has_ended b c q ≡ gone q) → (es : List (RowKey × Row)) (ended : List Text)
        → es ≡ rows_under rows kind.Token []
        → IsDescent s es ended → AreEnded b c ended
    each c goes es ended listed down =
        record { once = down.once; exact = λ q. ends_exactly es ended listed down q ∙ sym (goes q) }

    left : (es fs : List (RowKey × Row)) (ended : List Text) → es ≡ rows_under rows kind.Token []
        → fs ≡ rows_under rows kind.Token [] → IsDescent s es ended
        → (p : Text → Bool) → ((q : Text) → gone q ≡ not (p q))
        → Tells of_tokens (table_of (without_ended ended fs rows))
        (record b { tokens = keep p b.tokens })
    left es fs ended listed again down p opposite =
        subst (λ l. Tells of_tokens (table_of (without_ended ended l rows)) (record b { tokens = keep p b.tokens }))
        (sym (again ∙ lists_tokens b rows stands.tells))
        (tells_kept forms b stands.sound stands.one_place ended p
        (λ q. ends_exactly es ended listed down q ∙ opposite q) rows stands.tells)

  -- ---- revocation

  pub revoked_each : (t : Text) (es : List (RowKey × Row)) (ended : List Text) → es ≡ rows_under rows kind.Token []
      → IsDescent (is_named t) es ended
      → AreEnded b (revoke b t) ended
  revoked_each t es ended listed down = each (is_named t) (λ q. is_under b.tokens q t)
      (under_fate b.tokens t stands.sound.chains_end) (revoke b t)
      (ended_by_revocation b t) es ended listed down

  pub revoked_rows : (t : Text) (es fs : List (RowKey × Row)) (ended : List Text) → es ≡ rows_under rows kind.Token []
      → fs ≡ rows_under rows kind.Token []
      → IsDescent (is_named t) es ended
      → (new : Rows) → new ≡ without_ended ended fs rows → Tells of_tokens (table_of new) (revoke b t)
  revoked_rows t es fs ended listed again down new is =
      subst (λ m. Tells of_tokens (table_of m) (revoke b t)) (sym is)
      (left (is_named t) (λ q. is_under b.tokens q t)
      (under_fate b.tokens t stands.sound.chains_end) es fs ended listed again down
      (λ q. not (is_under b.tokens q t)) (λ q. sym (not-not (is_under b.tokens q t))))

  -- ---- expiry

  pub swept_each : (now : ℕ) (es : List (RowKey × Row)) (ended : List Text) → es ≡ rows_under rows kind.Token []
      → IsDescent (has_come now) es ended
      → AreEnded b (without_expired b now) ended
  swept_each now es ended listed down = each (has_come now) (λ q. not (is_alive now b.tokens q))
      (expired_fate now b.tokens stands.sound.chains_end)
      (without_expired b now) (ended_by_now b now) es ended listed down

  pub swept_rows : (now : ℕ) (es fs : List (RowKey × Row)) (ended : List Text) → es ≡ rows_under rows kind.Token []
      → fs ≡ rows_under rows kind.Token []
      → IsDescent (has_come now) es ended
      → (new : Rows) → new ≡ without_ended ended fs rows → Tells of_tokens (table_of new) (without_expired b now)
  swept_rows now es fs ended listed again down new is k q h =
      ap (λ m. table_of m k q) is
      ∙ left (has_come now) (λ q. not (is_alive now b.tokens q))
      (expired_fate now b.tokens stands.sound.chains_end) es fs ended listed again down
      (is_alive now b.tokens) (λ q. refl) k q h
      ∙ tells_changed (record b { tokens = keep (is_alive now b.tokens) b.tokens }) (with_live_leases now) (λ x. refl)
      (λ x. refl) k q h

  -- by an unknown text nothing ends
  pub revoked_unknown : (t : Text) → get b.tokens t ≡ None → (new : Rows) → Tells of_tokens (table_of new) (revoke b t)
      → KeepsOthers of_tokens (table_of rows) (table_of new)
      → (ended : List Text) → AreEnded b (revoke b t) ended → (ended ≡ []) × (new ≡ rows)
  revoked_unknown t none new after others ended each = (
    no_one ended (λ q. each.exact q ∙ ended_by_revocation b t q),
    table_of-injective new rows
        (λ i k q. at k q (of_tokens k) refl i),
  )
    where
      no_one : (list : List Text) → ((q : Text) → has list q ≡ is_under b.tokens q t) → list ≡ []
      no_one [] exact = refl
      no_one (x ∷ xs) exact =
          absurd ((under_tokens b.tokens x t (sym (exact x) ∙ ap (λ v. v || has xs x) (same_self x))).1 none)

      at : (k : Kind) (q : Text) (v : Bool) → of_tokens k ≡ v → table_of new k q ≡ table_of rows k q
      at k q true h = after k q h ∙ ap (λ ts. rows_of (record b { tokens = ts }) k q) (revoke_unknown b.tokens t none)
          ∙ sym (stands.tells k q h)
      at k q false h = others k q h

  -- ---- as clauses

  ended_rows : (s : Start) (ended : List Text) (new : Rows) → EndsDescent s rows ended new
      → new ≡ without_ended ended (rows_under rows kind.Token []) rows
  ended_rows s ended new ends = table_of-injective new _ (ends.rows ∙ sym (table_of-without_tokens rows ended))

  -- no row of a token is damaged
  pub undamaged : (s : Start) → HasDamagedDescent s rows → ⊥
  undamaged s found = found.damage
      (rows_read rows found.ended (readable found.ended (rows_under rows kind.Token []) refl))

  module _ (t : Text) (ended : List Text) (new : Rows) (ends : EndsDescent (is_named t) rows ended new) where
    pub revocation_told : Tells of_tokens (table_of new) (revoke b t)
    revocation_told =
        revoked_rows t (rows_under rows kind.Token []) (rows_under rows kind.Token []) ended refl refl ends.descent new
        (ended_rows (is_named t) ended new ends)

    pub revocation_ended : AreEnded b (revoke b t) ended
    revocation_ended = revoked_each t (rows_under rows kind.Token []) ended refl ends.descent

    pub revocation_unknown : get b.tokens t ≡ None → (ended ≡ []) × (new ≡ rows)
    revocation_unknown none =
        revoked_unknown t none new revocation_told
        (subst (λ m. KeepsOthers of_tokens (table_of rows) (table_of m)) (sym (ended_rows (is_named t) ended new ends))
        (others_stay ended (rows_under rows kind.Token []) rows))
        ended revocation_ended

  module _ (now : ℕ) (ended : List Text) (new : Rows) (ends : EndsDescent (has_come now) rows ended new) where
    pub expiry_told : Tells of_tokens (table_of new) (without_expired b now)
    expiry_told =
        swept_rows now (rows_under rows kind.Token []) (rows_under rows kind.Token []) ended refl refl ends.descent new
        (ended_rows (has_come now) ended new ends)

    pub expiry_ended : AreEnded b (without_expired b now) ended
    expiry_ended = swept_each now (rows_under rows kind.Token []) ended refl ends.descent
