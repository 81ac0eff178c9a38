-- Where the client token comes from (this project's).
use Rattle.std.specs.Prelude.{◌==◌, ℕ, Bool, Option, Some, None, option_map}
use Rattle.broker_types.specs.Words.{option_or, Text}
use Rattle.command_line.specs.declared.token_places.TokenPlace.{TokenPlace}
use Rattle.command_line.specs.declared.token_places.TokenPlace.TheVariants as place

-- a token itself, or the name of the file whose first line it is
pub data Place : Type 0 where
  token : Text → Place
  file : Text → Place

abbrev pub place_of : TokenPlace → Place
place_of (place.Variable t) = token t.now
place_of (place.File name) = file name.now

-- a token of the environment, else the first file that is named
abbrev pub token_place : Option Text → Option Text → Option Text → Option Text → Option Place
token_place variable option file_variable home_file =
    option_or (option_map token variable) (option_map file (option_or option (option_or file_variable home_file)))

-- the byte LF
abbrev pub is_line_feed : ℕ → Bool
is_line_feed b = b == 10
