-- Names of mounts, policies and roles (this project's definition).
use Rattle.std.specs.Prelude.{ℕ, ◌∷◌, [], List, Bool, ◌&&◌, ◌||◌, ◌==◌, nat_lt, nat_le, not, length, codes}
use Rattle.std.specs.List.{list_all, list_any}
use Rattle.broker_types.specs.Text.{Text, same}

-- an ASCII letter or digit, `-`, `_` or `.`
abbrev pub is_name_byte : ℕ → Bool
is_name_byte b =
    (nat_le 48 b && nat_le b 57)
    || ((nat_le 65 b && nat_le b 90)
    || ((nat_le 97 b && nat_le b 122) || ((b == 45) || ((b == 95) || (b == 46)))))

-- 1 to 128 such bytes
abbrev pub is_name : Text → Bool
is_name s = nat_lt 0 (length s) && (nat_le (length s) 128 && list_all is_name_byte s)

-- the names that no mount may have (Vault's documentation, "System backend", `/sys/mounts`; the list is this project's)
abbrev pub reserved_names : List Text
reserved_names = codes "sys" ∷ codes "auth" ∷ codes "cubbyhole" ∷ codes "identity" ∷ []

-- a name that a mount may have
abbrev pub is_mount_name : Text → Bool
is_mount_name s = is_name s && not (list_any (same s) reserved_names)
