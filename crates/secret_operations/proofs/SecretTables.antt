-- The part of secrets: from rows that a call on secrets left to the broker that they represent.
use Rattle.std.proofs.Common.{◌≡◌, ◌==◌, ◌&&◌, ℕ, List, false, Option, refl, true≢false}
use Rattle.broker_model.specs.Words.{Broker, Mount, Map, Key, Version, Sound, Text, Kind, kind_number, joined_rows}
use Rattle.broker_model.specs.Words.{rows_of-other_secrets, rows_of-other_mounts, Tells, KeepsOthers, of_secrets}
use Rattle.broker_model.specs.Words.{of_mounts, Table, table_of, has_prefix, Rows, AreChanged, KeepsOtherNames}
use Rattle.broker_model.specs.Words.{KeepsOtherMounts, is_key_of, versions_prefix, forms}
use Rattle.records.specs.declared.kind.Kind.TheVariants as kind
use Rattle.records.specs.Table.{is_at}
use Rattle.broker_rows.specs.Words.{Represents}

-- ---- rows of other parts

-- rows of no secret are of no name
outside_secrets : (name : Text) (k : Kind) (q : Text) → of_secrets k ≡ false
    → (is_at kind.KvKey name k q ≡ false) × (has_prefix kind.KvVersion (versions_prefix name) k q ≡ false)
outside_secrets name kind.KvKey q h = absurd (true≢false h)
outside_secrets name kind.KvVersion q h = absurd (true≢false h)
outside_secrets name _ q h = (refl, refl)

pub keeps_outside : (name : Text) (old new : Table) → KeepsOtherNames name old new → KeepsOthers of_secrets old new
keeps_outside name old new keeps k q h =
    let o = outside_secrets name k q h in
    keeps k q o.0 o.1

-- nor of a version
outside_versions : (ns : List ℕ) (name : Text) (k : Kind) (q : Text) → of_secrets k ≡ false
    → ((kind_number k == kind_number kind.KvVersion) && is_key_of ns name q) ≡ false
outside_versions ns name kind.KvKey q h = absurd (true≢false h)
outside_versions ns name kind.KvVersion q h = absurd (true≢false h)
outside_versions ns name _ q h = refl

pub changes_inside : (f : Version → Version) (ns : List ℕ) (name : Text) (old new : Table)
    → AreChanged f ns name old new → KeepsOthers of_secrets old new
changes_inside f ns name old new changed k q h = changed.others k q (outside_versions ns name k q h)

-- rows of no mount are of no mount's name
outside_mounts : (name : Text) (k : Kind) (q : Text) → of_mounts k ≡ false → is_at kind.Mount name k q ≡ false
outside_mounts name kind.Mount q h = absurd (true≢false h)
outside_mounts name _ q h = refl

pub only_mounts : (name : Text) (old new : Table) → KeepsOtherMounts name old new → KeepsOthers of_mounts old new
only_mounts name old new keeps k q h = keeps k q (outside_mounts name k q h)

-- ---- a broker with other secrets, or other settings

module _ {who : Option Text} (b : Broker) (old new : Rows) (st : Represents who old b) where
  pub represents-secrets : (secrets : Map Key) → Sound forms who (record b { secrets = secrets })
      → Tells of_secrets (table_of new) (record b { secrets = secrets })
      → KeepsOthers of_secrets (table_of old) (table_of new)
      → Represents who new (record b { secrets = secrets })
  represents-secrets secrets sound tells keeps = record {
    rows = joined_rows of_secrets (table_of old) (table_of new) b (record b { secrets = secrets }) st.rows tells keeps
        (rows_of-other_secrets b secrets);
    sound = sound;
  }

  pub represents-settings : (name : Text) (mounts : Map Mount) → Sound forms who (record b { mounts = mounts })
      → Tells of_mounts (table_of new) (record b { mounts = mounts })
      → KeepsOtherMounts name (table_of old) (table_of new)
      → Represents who new (record b { mounts = mounts })
  represents-settings name mounts sound tells keeps = record {
    rows = joined_rows of_mounts (table_of old) (table_of new) b (record b { mounts = mounts }) st.rows tells
        (only_mounts name (table_of old) (table_of new) keeps) (rows_of-other_mounts b mounts);
    sound = sound;
  }
