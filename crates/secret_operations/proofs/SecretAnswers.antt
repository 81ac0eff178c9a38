-- How the commands on secrets end.
use Rattle.std.specs.Prelude.{◌≡◌, if◌then◌else◌, ℕ, Bool, true, false, Option, None, is_some, Result, Ok, Err, ⊤, refl}
use Rattle.broker_model.specs.Words.{sym, ◌∙◌, ap, subst, Broker, Map, Names, Answered, nothing, reply, missing, Done}
use Rattle.broker_model.specs.Words.{plainly, ◌>>=◌, Key, EndsOk, EndsErr, Sound, IsPathText, IsObjectText, Text}
use Rattle.broker_model.specs.Words.{Refusal, Reply, RequestError, Refused, SecretWrite, OnRefused, Tells, KeepsOthers}
use Rattle.broker_model.specs.Words.{of_secrets, table_of, Rows, KeepsOtherNames, Written, write_is, Found, WriteAnswer}
use Rattle.broker_model.specs.Words.{forms, Place, object_left, version_reply, version_answered, written_reply}
use Rattle.broker_types.specs.declared.request_error.RequestError.TheVariants.{Fault}
use Rattle.kv2.specs.Secrets as secrets
use Rattle.kv2.specs.SoundLaws.{write_sound}
use Rattle.broker_model.specs.parts.Secrets.{write}
use Rattle.broker_rows.specs.Words.{Represents, answered_of, ActsAs, still_represented}
use Rattle.broker_rows.specs.declared.answered.Answered as Code
use Rattle.broker_rows.specs.declared.answered.Answered.TheVariants.{Nothing}
use Rattle.secret_operations.proofs.SecretTables.{keeps_outside, represents-secrets}

-- ---- a change

-- a command that answers nothing leaves the secrets that it says
pub acts_changed : (b : Broker) (who : Option Text) (old new : Rows) (secrets : Map Key) → Represents who old b
    → Sound forms who (record b { secrets = secrets })
    → Tells of_secrets (table_of new) (record b { secrets = secrets })
    → KeepsOthers of_secrets (table_of old) (table_of new)
    → ActsAs who b new (Ok Nothing) (Ok (plainly nothing (record b { secrets = secrets })))
acts_changed b who old new secrets st sound tells keeps =
    (refl, represents-secrets b old new st secrets sound tells keeps)

-- ---- a write

-- the version that the code answers is the one that the definition has written, and the rows tell the next broker
abbrev pub IsWrittenAs : Rows → WriteAnswer → Written → Type 0
IsWrittenAs new v w = (v.number ≡ w.number) × (v.custom_metadata ≡ w.custom_metadata)
    × Tells of_secrets (table_of new) w.next

module _ (b : Broker) (who : Option Text) (old new : Rows) (names : Names) (p : Place) (asked : SecretWrite)
    (st : Represents who old b) where
  abbrev outcome : Result Written Refusal
  outcome = secrets.write b p.mount p.path asked.cas asked.object

  abbrev shown : Result Written Refusal → Result Done Refusal
  shown m = m >>= (λ w. Ok (plainly (reply (written_reply names.request b.clock w.custom_metadata w.number) None)
      w.next))

  -- one that is refused leaves the broker as it was
  pub acts_not_written : (e : RequestError) → EndsErr ⊤ e outcome → OnRefused {A = WriteAnswer} (Err e) (new ≡ old)
      → ActsAs who b new (Err e) (write b names p asked)
  acts_not_written e ends same = by e outcome ends same
    where
      by : (e : RequestError) (m : Result Written Refusal) → EndsErr ⊤ e m
          → OnRefused {A = WriteAnswer} (Err e) (new ≡ old)
          → ActsAs who b new (Err e) (shown m)
      by (Refused r) (Ok w) h same = absurd h
      by (Refused r) (Err x) h same = (h.0, still_represented b old new same st)
      by (Fault f) m h same = h

  -- another leaves one more version
  module _ (path : IsPathText p.path) (object : IsObjectText forms asked.object)
      (keeps : KeepsOtherNames (secrets.secret_name p.mount p.path) (table_of old) (table_of new)) where
    represents-written : (w : Written) → outcome ≡ Ok w → Tells of_secrets (table_of new) w.next
        → Represents who new w.next
    represents-written w is tells =
        let x = write_is b p.mount p.path asked.cas asked.object w is in
        let sound = write_sound forms who b st.sound p.mount p.path asked.cas asked.object w path object is in
        let inside = keeps_outside (secrets.secret_name p.mount p.path) (table_of old) (table_of new) keeps in
        subst (λ (z : Written). Represents who new z.next) (sym x.3)
        (represents-secrets b old new st _ (subst (λ (z : Written). Sound forms who z.next) x.3 sound)
        (subst (λ (z : Written). Tells of_secrets (table_of new) z.next) x.3 tells) inside)

    pub acts_written : (v : WriteAnswer) (now : ℕ) (x : Code.Answered) → now ≡ b.clock
        → EndsOk (IsWrittenAs new) v outcome
        → answered_of x ≡ reply (written_reply names.request now v.custom_metadata v.number) None
        → ActsAs who b new (Ok x) (write b names p asked)
    acts_written v now x clock ends answered = by outcome refl ends
      where
        by : (m : Result Written Refusal) → outcome ≡ m → EndsOk (IsWrittenAs new) v m
            → ActsAs who b new (Ok x) (shown m)
        by (Err r) is h = absurd h
        by (Ok w) is h = (
          answered ∙ (λ i. reply (written_reply names.request (clock i) (h.1 i) (h.0 i)) None),
          represents-written w is h.2,
        )

-- ---- a version that is read

module _ (request : Text) (v : Found) (r : Reply) (is : r ≡ version_reply request v) where
  abbrev answer : Bool → Answered
  answer left = if left then reply (version_reply request v) None else missing (version_reply request v)

  -- one whose object is left
  pub answered_left : is_some (object_left v.version) ≡ true → reply r None ≡ version_answered request v
  answered_left left = ap (λ r. reply r None) is ∙ sym (ap answer left)

  -- and one whose object is not
  pub answered_gone : is_some (object_left v.version) ≡ false → missing r ≡ version_answered request v
  answered_gone gone = ap missing is ∙ sym (ap answer gone)
