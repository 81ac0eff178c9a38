-- Leases: from what the rows tell to what the commands answer, and to the brokers that are left.
use Rattle.std.proofs.Common.{◌≡◌, ◌-◌, ℕ, false, Option, None, Result, Ok, Err, refl, sym, ◌∙◌, ap, subst, true≢false}
use Rattle.broker_model.specs.Words.{⊤, Broker, change, Names, nothing, reply, plainly, Done, ◌>>=◌, EndsOk, EndsErr}
use Rattle.broker_model.specs.Words.{Sound, Text, Lease, Refusal, Reply, RequestError, Refused, OnAnswer, AgreeOutside}
use Rattle.broker_model.specs.Words.{Tells, KeepsOthers, of_leases, Table, table_of, Rows, renew_sound}
use Rattle.broker_model.specs.Words.{KeepsOtherLeases, Times, times_of, Renewed, renewed, renewed_end, with_renewed}
use Rattle.broker_model.specs.Words.{shows_in_leases, lease_object, plain_reply, lease_reply, forms}
use Rattle.broker_types.specs.declared.request_error.RequestError.TheVariants.{Fault}
use Rattle.leases.specs.Leases as leases
use Rattle.broker_model.specs.parts.Leases as part
use Rattle.broker_rows.specs.Words.{answered_of, ActsAs, Represents, represents_next, still_represented}
use Rattle.broker_rows.specs.declared.answered.Answered as Code
use Rattle.broker_rows.specs.declared.answered.Answered.TheVariants.{Nothing, Given}

-- ---- errors

-- what holds if a call was refused holds of its refusal
pub with_refusal : (A : Type 0) {Y : Type 0} (P : Type 0) (m : Result Y Refusal) (e : RequestError) → EndsErr ⊤ e m
    → OnAnswer {A = A} (Err e) P → EndsErr P e m
with_refusal A P (Ok y) (Refused r) h p = absurd h
with_refusal A P (Err x) (Refused r) h p = (h.0, p)
with_refusal A P m (Fault f) h p = h

-- ---- what the commands leave

-- what a look-up answers of a lease
abbrev pub shown_of : Broker → Names → Text → Lease → Done
shown_of b names lease_id l =
    plainly (reply (plain_reply names.request (lease_object (part.shown_lease b.clock lease_id (times_of l)))) None) b

-- what a renewal answers, by the new end, and leaves
abbrev pub renewed_of : Broker → Names → Text → Renewed → Done
renewed_of b names lease_id r =
    plainly (reply (lease_reply names.request lease_id (r.ends - b.clock) None) None) r.next

-- a renewal keeps the rows of all other parts
pub others_kept : (lease_id : Text) (old new : Table) → KeepsOtherLeases lease_id old new
    → KeepsOthers of_leases old new
others_kept lease_id old new keeps k q outside =
    keeps k q (λ is _. true≢false (subst (λ k. of_leases k ≡ false) is outside))

module _ (b : Broker) (who : Option Text) (old new : Rows) (st : Represents who old b) where
  -- a step that is refused leaves the broker as it was
  pub acts_refused : {Y : Type 0} (m : Result Y Refusal) (f : Y → Done) (e : RequestError) → EndsErr (new ≡ old) e m
      → ActsAs who b new (Err e) (m >>= (λ y. Ok (f y)))
  acts_refused (Ok y) f (Refused r) h = absurd h
  acts_refused (Err x) f (Refused r) h = (h.0, still_represented b old new h.1 st)
  acts_refused m f (Fault g) h = h

  -- ---- look-up

  -- a lease that was found is shown
  pub acts_shown : (names : Names) (asked lease_id : Text) (now : ℕ) (times : Times) (a : Code.Answered)
      → asked ≡ lease_id → new ≡ old → b.clock ≡ now
      → EndsOk (λ times l. times ≡ times_of l) times (leases.lookup b asked)
      → answered_of a ≡ reply (plain_reply names.request (lease_object (part.shown_lease now lease_id times))) None
      → ActsAs who b new (Ok a) (part.look_up b names lease_id)
  acts_shown names asked lease_id now times a named same clock told is =
      by (leases.lookup b lease_id)
      (subst (λ q. EndsOk (λ times l. times ≡ times_of l) times (leases.lookup b q)) named told)
    where
      by : (m : Result Lease Refusal) → EndsOk (λ times l. times ≡ times_of l) times m
          → ActsAs who b new (Ok a) (m >>= (λ l. Ok (shown_of b names lease_id l)))
      by (Ok l) e = (
        is ∙ (λ i. reply (plain_reply names.request
            (lease_object (part.shown_lease (sym clock i) lease_id (e i)))) None),
        still_represented b old new same st,
      )
      by (Err r) e = absurd e

  -- ---- renewal

  -- a lease that was renewed has its new end, and the reply the seconds to it
  pub acts_renewed : (names : Names) (asked lease_id : Text) (increment ends : ℕ) (r : Reply) → asked ≡ lease_id
      → EndsOk (λ ends next. (ends ≡ next.ends) × Tells of_leases (table_of new) next.next) ends
      (leases.renew b asked increment) → KeepsOtherLeases asked (table_of old) (table_of new)
      → r ≡ lease_reply names.request lease_id (ends - b.clock) None
      → ActsAs who b new (Ok (Given r)) (part.renew b names lease_id increment)
  acts_renewed names asked lease_id increment ends r named told keeps is =
      by (leases.lookup b lease_id)
      (subst (λ q. EndsOk (λ ends next. (ends ≡ next.ends) × Tells of_leases (table_of new) next.next) ends
      (leases.renew b q increment)) named told)
    where
      next : Lease → Result Renewed Refusal
      next l = Ok (record { ends = renewed_end b.clock increment l; next = with_renewed b lease_id increment })

      by : (m : Result Lease Refusal)
          → EndsOk (λ ends next. (ends ≡ next.ends) × Tells of_leases (table_of new) next.next) ends (m >>= next)
          → ActsAs who b new (Ok (Given r)) ((m >>= next) >>= (λ r. Ok (renewed_of b names lease_id r)))
      by (Ok l) e = (
        ap (λ r. reply r None) (is ∙ ap (λ n. lease_reply names.request lease_id (n - b.clock) None) e.0),
        represents_next of_leases b (with_renewed b lease_id increment) old new st
            (renew_sound b lease_id increment forms who st.sound)
            (shows_in_leases b (λ t m. change m lease_id (renewed b.clock increment))) e.1
            (others_kept asked (table_of old) (table_of new) keeps),
      )
      by (Err x) e = absurd e

  -- ---- revocation

  -- leases that were revoked are gone
  pub acts_ended : (c : Broker) → Sound forms who c → AgreeOutside of_leases b c
      → Tells of_leases (table_of new) c → KeepsOthers of_leases (table_of old) (table_of new)
      → ActsAs who b new (Ok Nothing) (Ok (plainly nothing c))
  acts_ended c sound agree tells keeps =
      (refl, represents_next of_leases b c old new st sound agree tells keeps)
