-- The names of backups (this project's definition).
use Rattle.std.specs.Prelude.{◌+◌, ◌++◌, ◌&&◌, ◌||◌, Bool, ℕ, List, codes, count_by, drop, filter, length, nat_eq}
use Rattle.std.specs.Prelude.{nat_le, not, slice_index, slice_range, take}
use Rattle.std.specs.Char.{is_ascii_digit}
use Rattle.std.specs.Ordering.{is_lt, nat_cmp}
use Rattle.std.specs.Cmp.Lexicographic.{slice_cmp}
use Rattle.std.specs.List.{list_all}
use Rattle.std.specs.Str.{bytes_eq, chars, encode_utf8_all}
use Rattle.broker_types.specs.Time.{time_text}

-- a sign that a time of RFC 3339 has, and a name has not
abbrev pub is_sign : ℕ → Bool
is_sign letter = nat_eq letter 45 || nat_eq letter 58

-- a second in a name, as `20261201T022900Z`: as RFC 3339 writes it, without `-` and `:`
abbrev pub moment_text : ℕ → List ℕ
moment_text second = encode_utf8_all (filter (λ letter. not (is_sign letter)) (chars (time_text second)))

-- the name with a moment: `STEM-MOMENT.db`
abbrev pub named : List ℕ → List ℕ → List ℕ
named stem moment = stem ++ (codes "-" ++ (moment ++ codes ".db"))

-- whether a text is a moment in a name
abbrev pub is_moment : List ℕ → Bool
is_moment text =
    nat_eq (length text) 16
    && list_all is_ascii_digit (slice_range text 0 8)
    && nat_eq (slice_index text 8) 84
    && list_all is_ascii_digit (slice_range text 9 15)
    && nat_eq (slice_index text 15) 90

-- what a name has where one of these has its moment
abbrev pub moment_in : List ℕ → List ℕ → List ℕ
moment_in stem name = take 16 (drop (length stem + 1) name)

-- whether a name is that of a backup of a file with this stem
abbrev pub is_backup : List ℕ → List ℕ → Bool
is_backup stem name = bytes_eq name (named stem (moment_in stem name)) && is_moment (moment_in stem name)

-- whether a name is that of a newer backup: such names differ in their moments alone, so their order is that of time
abbrev pub is_newer : List ℕ → List ℕ → List ℕ → Bool
is_newer stem name other = is_backup stem other && is_lt (slice_cmp nat_cmp name other)

-- whether a backup goes where so many stay: as many of the names are of newer ones
abbrev pub is_surplus : List (List ℕ) → List ℕ → List ℕ → ℕ → Bool
is_surplus names stem name keep = is_backup stem name && nat_le keep (count_by (is_newer stem name) names)
