-- Names in keys of rows, and custom metadata, as code tests them (this project's definition).
use Rattle.std.specs.Prelude.{◌≡◌, ◌++◌, ◌&&◌, nat_le, nat_lt, codes, length, List, Bool, true}
use Rattle.broker_model.specs.Words.{list_all, most_custom_metadata, longest_custom_name, longest_custom_value, is_name}
use Rattle.broker_model.specs.Words.{is_mount_name, Text}

-- a mount, a slash and the name of a role
pub record IsRoleName (q : Text) : Type 0 where
  pub mount : Text
  pub role : Text
  pub mount_name : is_mount_name mount ≡ true
  pub role_name : is_name role ≡ true
  pub parts : q ≡ mount ++ codes "/" ++ role

-- a name and a value of custom metadata are as short as they have to be, the name not empty
abbrev pub is_fit : Text × Text → Bool
is_fit e =
    nat_lt 0 (length e.0) && (nat_le (length e.0) longest_custom_name && nat_le (length e.1) longest_custom_value)

-- custom metadata has few names, and each fits
abbrev pub are_fit : List (Text × Text) → Bool
are_fit es = nat_le (length es) most_custom_metadata && list_all is_fit es
