-- Where in a mount a command acts (this project's definition).
use Rattle.records.specs.Words.{Text}

-- The mount, and the path there: that of a secret, of a folder, whose path is empty for the whole mount, or the name of
-- a role.
pub record Place : Type 0 where
  pub mount : Text
  pub path : Text

-- the place of a mount and a path
abbrev pub at : Text → Text → Place
at mount path = record { mount = mount; path = path }
