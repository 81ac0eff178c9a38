-- The rows of mounts that a broker has tell its mounts, and they alone do (this project's).
use Rattle.records.specs.Words.{refl, sym, ◌∙◌, false≢true, Broker, SoundMounts, of_mounts, Tells, Table, mount_rows}
use Rattle.records.specs.declared.kind.Kind.TheVariants as kind
use Rattle.mounts.specs.MountRows.{AreMounts}

module _ (rows : Table) (b : Broker) where
  -- the rows of a sound broker's mounts are those of its mounts
  pub mounts_told : SoundMounts b.mounts → Tells of_mounts rows b → AreMounts rows b.mounts
  mounts_told sound told name =
      record { in_range = λ m is. (sound name m is).max_versions; row = told kind.Mount name refl ∙ mount_rows b name }

  -- rows that are those of the broker's mounts are the broker's
  pub told_mounts : AreMounts rows b.mounts → Tells of_mounts rows b
  told_mounts are kind.Mount name inside = (are name).row ∙ sym (mount_rows b name)
  told_mounts are kind.Clock name inside = absurd (false≢true inside)
  told_mounts are kind.Used name inside = absurd (false≢true inside)
  told_mounts are kind.Token name inside = absurd (false≢true inside)
  told_mounts are kind.Accessor name inside = absurd (false≢true inside)
  told_mounts are kind.Cubby name inside = absurd (false≢true inside)
  told_mounts are kind.Lease name inside = absurd (false≢true inside)
  told_mounts are kind.Credential name inside = absurd (false≢true inside)
  told_mounts are kind.KvKey name inside = absurd (false≢true inside)
  told_mounts are kind.KvVersion name inside = absurd (false≢true inside)
  told_mounts are kind.Waiting name inside = absurd (false≢true inside)
  told_mounts are kind.Policy name inside = absurd (false≢true inside)
  told_mounts are kind.Role name inside = absurd (false≢true inside)
