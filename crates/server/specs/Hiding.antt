-- Lines without tokens (this project's definition).
use Rattle.std.specs.Prelude.{◌≡◌, ◌||◌, ◌==◌, if◌then◌else◌, ◌∷◌, ◌++◌, ℕ, Bool, true, List, [], All, bytes_eq}
use Rattle.std.specs.Prelude.{take, codes}
use Rattle.records.specs.Words.{Text}

-- what stands between segments: a space, `"`, `/`, `=` and `?`
abbrev pub is_boundary : ℕ → Bool
is_boundary c = c == 32 || c == 34 || c == 47 || c == 61 || c == 63

-- whether it begins as a token does
abbrev pub is_token : Text → Bool
is_token s = bytes_eq (take 4 s) (codes "hvs.")

-- the segments of a line; `begun` is what was read of the first
abbrev pub segments : Text → Text → List Text
segments begun [] = begun ∷ []
segments begun (c ∷ cs) = if is_boundary c then begun ∷ segments [] cs else segments (begun ++ c ∷ []) cs

-- a segment that begins as a token does is `hvs.*`
abbrev pub IsHidden : Text → Type 0
IsHidden s = is_token s ≡ true → s ≡ codes "hvs.*"

-- each of the line
abbrev pub HidesTokens : Text → Type 0
HidesTokens line = All IsHidden (segments [] line)

-- a segment as it is shown
abbrev pub hidden_segment : Text → Text
hidden_segment s = if is_token s then codes "hvs.*" else s

-- a line, segment by segment; `begun` is what was read of the first
abbrev pub hidden : Text → Text → Text
hidden begun [] = hidden_segment begun
hidden begun (c ∷ cs) =
    if is_boundary c then hidden_segment begun ++ c ∷ hidden [] cs else hidden (begun ++ c ∷ []) cs
