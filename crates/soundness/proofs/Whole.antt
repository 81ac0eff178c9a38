-- Sound rows are those of the broker that is read off them, and it is sound.
use Rattle.std.proofs.Common.{◌≡◌, if◌then◌else◌, [], true, false, Some, None, refl, sym, ◌∙◌, ap, inl, inr, true≢false}
use Rattle.broker_model.specs.Words.{Text, same, same_true, same_self, found_or_not, Sound, Broker, forms, Kind}
use Rattle.broker_model.specs.Words.{clock_row, rows_of, Table, table_of, Rows}
use Rattle.broker_rows.specs.Words.{Represents}
use Rattle.records.specs.declared.kind.Kind.TheVariants as kind
use Rattle.soundness.specs.Words.{AreSound}
use Rattle.soundness.proofs.ReadBack as read
use Rattle.soundness.proofs.TokenFacts.{token_told}
use Rattle.soundness.proofs.TokenTells.{accessor_told, object_told, lease_told, credential_told}
use Rattle.soundness.proofs.SecretTells.{key_told, version_told}
use Rattle.soundness.proofs.TokensSound.{tokens_sound, tokens_unspent}
use Rattle.soundness.proofs.OthersSound.{secrets_sound, responses_sound}
use Rattle.soundness.proofs.IdentifiersSound.{identifiers_sound}

module _ (rows : Rows) (s : AreSound (table_of rows)) where
  abbrev at : Table
  at = table_of rows

  abbrev b : Broker
  b = read.broker rows s

  clock_told : (q : Text) → at kind.Clock q ≡ (if same q [] then Some (clock_row b.clock) else None)
  clock_told q =
      elim (same q []) as (λ v. same q [] ≡ v → at kind.Clock q ≡ (if v then Some (clock_row b.clock) else None)) [
        | true ↦ λ is.
            let row = read.clock_found rows s in
            ap (at kind.Clock) (same_true q [] is) ∙ row.1 ∙ ap Some (s.each kind.Clock [] row.0 row.1).2
        | false ↦ λ other. elim (found_or_not (at kind.Clock q)) [
          | inl none ↦ none
          | inr row ↦
              let at_empty : q ≡ [] = (s.each kind.Clock q row.0 row.1).1.0 in
              absurd (true≢false (sym (ap (λ t. same t []) at_empty ∙ same_self []) ∙ other))
        ]
      ] refl

  tells : (k : Kind) (q : Text) → at k q ≡ rows_of b k q
  unfolding rows_of
  tells kind.Clock q = clock_told q
  tells kind.Used q = read.used_told rows s q
  tells kind.Token q = token_told rows s q
  tells kind.Accessor q = accessor_told rows s q
  tells kind.Cubby q = object_told rows s q
  tells kind.Lease q = lease_told rows s q
  tells kind.Credential q = credential_told rows s q
  tells kind.KvKey q = key_told rows s q
  tells kind.KvVersion q = version_told rows s q
  tells kind.Waiting q = read.waiting_told rows s q
  tells kind.Mount q = read.mounts_told rows s q
  tells kind.Policy q = read.policies_told rows s q
  tells kind.Role q = read.roles_told rows s q

  sound : Sound forms None b
  sound =
      record {
        clock = (s.each kind.Clock [] (read.clock_found rows s).0 (read.clock_found rows s).1).1.1;
        tokens = tokens_sound rows s;
        secrets = secrets_sound rows s;
        waiting = responses_sound rows s;
        mounts = read.mounts_good rows s;
        roles = read.roles_good rows s;
        policies = read.policies_good rows s;
        identifiers = identifiers_sound rows s;
        unspent = tokens_unspent rows s;
      }

  pub represented : Represents None rows b
  represented = record { rows = λ i k q. tells k q i; sound = sound }
