-- Paths of requests (RFC 3986, section 3.3; the limits are this project's).
use Rattle.std.specs.Prelude.{ℕ, ◌-◌, ◌&&◌, ◌==◌, nat_le, nat_lt, List, [], ◌∷◌, ◌++◌, take, length, slice_index, Bool}
use Rattle.std.specs.Prelude.{not, if◌then◌else◌, bytes_eq, codes}
use Rattle.std.specs.List.{list_all}

-- the parts between slashes; `begun` is what was read of the first
abbrev pub segments : List ℕ → List ℕ → List (List ℕ)
segments begun [] = begun ∷ []
segments begun (c ∷ cs) = if c == 47 then begun ∷ segments [] cs else segments (begun ++ c ∷ []) cs

-- a part that is not empty, `.` or `..`
abbrev pub is_segment : List ℕ → Bool
is_segment s = not (length s == 0) && not (bytes_eq s (codes ".")) && not (bytes_eq s (codes ".."))

-- neither below 0x20 nor 0x7F
abbrev pub is_path_byte : ℕ → Bool
is_path_byte b = nat_le 32 b && not (b == 127)

-- 1 to 512 bytes, none of them below 0x20 or 0x7F, and no segment empty, `.` or `..`
abbrev pub is_path : List ℕ → Bool
is_path s =
    nat_lt 0 (length s) && nat_le (length s) 512 && list_all is_path_byte s && list_all is_segment (segments [] s)

-- the text without one `/` at its end
abbrev pub without_slash : List ℕ → List ℕ
without_slash s = if slice_index s (length s - 1) == 47 then take (length s - 1) s else s
