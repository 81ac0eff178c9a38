-- A write: what its calls say of the rows, and what the rows say of the broker.
use Rattle.std.proofs.Common.{◌≡◌, ◌+◌, ◌||◌, ℕ, Option, Some, None, option_map, unwrap_or, Result, Ok, Err, refl, sym}
use Rattle.records.specs.Words.{⊤, ◌∙◌, ap, subst, arith, Text, get, entries-empty, ◌>>=◌, some_or, Ends, EndsOk, Key}
use Rattle.records.specs.Words.{Broker, Mount, Forms, SoundSecrets, SoundMounts, IsPathText, IsSecretName, Refusal}
use Rattle.records.specs.Words.{RequestError, Refused, KeyEntry, key_entry, of_secrets, Tells, Table, none_of}
use Rattle.broker_types.specs.declared.refusal.Refusal.TheVariants as refusal
use Rattle.broker_types.specs.declared.request_error.RequestError.TheVariants.{Fault as Given}
use Rattle.kv2.specs.SecretRows as rows
use Rattle.kv2.specs.Words.{WrittenRows, new_entry, next_entry, rows_with_version, Written, secret_name, write}
use Rattle.kv2.specs.Words.{write_over, written, room, is_secret_name, WriteAnswer, version_of, key_or_new, checked}
use Rattle.kv2.specs.Words.{or_if_zero, versions_kept}
use Rattle.kv2.proofs.Digits.{KeyLaws, name_lacks}
use Rattle.kv2.proofs.Writes.{written_told}

-- ---- the rows, from the calls

-- what a write answers of the key that it leaves
abbrev pub answer_of : KeyEntry → WriteAnswer
answer_of e = record { number = e.current; custom_metadata = e.custom_metadata }

-- the answer of a write, and its rows
abbrev pub IsWritten : Table → WriteAnswer → WrittenRows → Type 0
IsWritten new v w = (v.number ≡ w.number) × (v.custom_metadata ≡ w.custom_metadata) × (new ≡ w.rows)

-- the answer of a write, and the broker that its rows tell
abbrev pub IsToldAs : Table → WriteAnswer → Written → Type 0
IsToldAs new v w = (v.number ≡ w.number) × (v.custom_metadata ≡ w.custom_metadata) × Tells of_secrets new w.next

pub rows_written : (old new : Table) (m : Mount) (k : Option KeyEntry) (name object : Text) (now limit : ℕ)
    (cas : Option ℕ) (e : KeyEntry)
    → e ≡ unwrap_or k (new_entry now) → Ok tt ≡ checked (e.cas_required || m.cas_required) e.current cas
    → limit ≡ or_if_zero e.max_versions (or_if_zero m.max_versions 10)
    → new ≡ rows_with_version old name e limit now object
    → EndsOk (IsWritten new) (answer_of (next_entry now e)) (rows.write old (Some m) k name now cas object)
rows_written old new m k name object now limit cas e is passed kept left =
    subst (λ (z : KeyEntry). EndsOk (IsWritten new) (answer_of (next_entry now e))
    (rows.write_over old m name now cas object z)) is
    (subst (λ r. EndsOk (IsWritten new) (answer_of (next_entry now e))
    (r >>= (λ _. Ok (rows.written old m name now object e)))) passed
    (refl, refl, left ∙ ap (λ n. rows_with_version old name e n now object) kept))

-- ---- the broker, from the rows

module _ {X Y Z : Type 0} (P : X → Y → Type 0) (Q : X → Z → Type 0) where
  ends_refused : (r : Refusal) (result : Result X RequestError) → Ends P ⊤ result (Err r) → Ends Q ⊤ result (Err r)
  ends_refused r (Ok x) h = h
  ends_refused r (Err (Refused s)) h = h
  ends_refused r (Err (Given f)) h = h

  ends_ok : (y : Y) (z : Z) (result : Result X RequestError) → ((x : X) → P x y → Q x z) → Ends P ⊤ result (Ok y)
      → Ends Q ⊤ result (Ok z)
  ends_ok y z (Ok x) keeps h = keeps x h
  ends_ok y z (Err (Refused s)) keeps h = h
  ends_ok y z (Err (Given f)) keeps h = h

  -- where one test decides both, and then the answers
  ends_tested : (c : Result ⊤ Refusal) (y : Y) (z : Z) (result : Result X RequestError)
      → (c ≡ Ok tt → (x : X) → P x y → Q x z)
      → Ends P ⊤ result (c >>= (λ _. Ok y)) → Ends Q ⊤ result (c >>= (λ _. Ok z))
  ends_tested (Ok u) y z result keeps h = ends_ok y z result (keeps refl) h
  ends_tested (Err r) y z result keeps h = ends_refused r result h

pub entry_or_new : (now : ℕ) (o : Option Key)
    → unwrap_or (option_map key_entry o) (new_entry now) ≡ key_entry (key_or_new now o)
entry_or_new now None = λ i. record (new_entry now) { custom_metadata = sym entries-empty i }
entry_or_new now (Some k) = refl

module _ (forms : Forms) (b : Broker) (sound : SoundSecrets forms b.secrets) (mounts : SoundMounts b.mounts)
    (t new : Table) (told : Tells of_secrets t b)
    (laws : KeyLaws) (mount path object : Text) (cas : Option ℕ) (is_path : IsPathText path) where
  abbrev name : Text
  name = secret_name mount path

  abbrev over : Key
  over = key_or_new b.clock (get b.secrets name)

  -- the key has no version 0
  no_first : version_of (get b.secrets name) 0 ≡ None
  no_first = elim (get b.secrets name) as (λ o. get b.secrets name ≡ o → version_of o 0 ≡ None) [
    | None ↦ λ _. refl
    | Some k ↦ λ is. none_of _ (λ v e. let first = ((sound name k is).versions 0 v e).first in
        absurd (omega (arith, first)))
  ] refl

  abbrev entry : KeyEntry
  entry = unwrap_or (option_map key_entry (get b.secrets name)) (new_entry b.clock)

  entry_is : entry ≡ key_entry over
  entry_is = entry_or_new b.clock (get b.secrets name)

  module _ (m : Mount) (some : get b.mounts mount ≡ Some m) where
    same_test : checked (entry.cas_required || m.cas_required) entry.current cas
        ≡ checked (over.cas_required || m.cas_required) over.current cas
    same_test = ap (λ (e : KeyEntry). checked (e.cas_required || m.cas_required) e.current cas) entry_is

    same_limit : or_if_zero entry.max_versions (or_if_zero m.max_versions 10) ≡ versions_kept m over
    same_limit = ap (λ (e : KeyEntry). or_if_zero e.max_versions (or_if_zero m.max_versions 10)) entry_is

    after_write : checked (over.cas_required || m.cas_required) over.current cas ≡ Ok tt → (v : WriteAnswer)
        → IsWritten new v (rows.written t m name b.clock object entry) → IsToldAs new v (written b m name object over)
    after_write passed v h =
        let is_name : IsSecretName name = is_secret_name mount path (mounts mount m some).mount_name is_path in
        let left = h.2 ∙ (λ i. rows_with_version t name (entry_is i) (same_limit i) b.clock object) in (
          h.0 ∙ ap (λ (e : KeyEntry). e.current + 1) entry_is,
          h.1 ∙ ap (λ (e : KeyEntry). e.custom_metadata) entry_is,
          subst (λ (t : Table). Tells of_secrets t (written b m name object over).next) (sym left)
              (written_told t b m name object told laws (name_lacks laws name is_name)
              (room _ over.current cas passed) no_first),
        )

  -- the write ends as its definition does on the broker
  pub write_told : (result : Result WriteAnswer RequestError)
      → Ends (IsWritten new) ⊤ result
      (rows.write t (get b.mounts mount) (option_map key_entry (get b.secrets name)) name b.clock cas object)
      → Ends (IsToldAs new) ⊤ result (write b mount path cas object)
  write_told result h =
      elim (get b.mounts mount) as (λ o. get b.mounts mount ≡ o
      → Ends (IsWritten new) ⊤ result
      (rows.write t o (option_map key_entry (get b.secrets name)) name b.clock cas object)
      → Ends (IsToldAs new) ⊤ result (some_or refusal.NotFound o >>= (λ m. write_over b m name cas object over))) [
        | None ↦ λ _ z. ends_refused (IsWritten new) (IsToldAs new) refusal.NotFound result z
        | Some m ↦ λ some z.
            ends_tested (IsWritten new) (IsToldAs new)
            (checked (over.cas_required || m.cas_required) over.current cas)
            (rows.written t m name b.clock object entry) (written b m name object over)
            result (λ passed v k. after_write m some passed v k)
            (subst (λ c. Ends (IsWritten new) ⊤ result (c >>= (λ _. Ok (rows.written t m name b.clock object entry))))
            (same_test m some) z)
      ] refl h
