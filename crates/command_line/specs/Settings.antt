-- What the values and options of a command line mean (this project's).
use Rattle.std.specs.Prelude.{◌≡◌, ◌&&◌, ◌^◌, ◌∷◌, if◌then◌else◌, ℕ, Bool, false, codes, List, length, bytes_eq, nat_le}
use Rattle.std.specs.Prelude.{Option, Some, Ok}
use Rattle.broker_types.specs.Words.{None, Result, Err, longest_body, is_path, without_slash, Text}
use Rattle.broker_types.specs.Words.{option_map_or}
use Rattle.clap.specs.Words.{Row, all_of, first_of}
use Rattle.api_client.specs.Commands.{is_field_text, is_short_text}
use Rattle.api_client.specs.Numbers.{number_told}
use Rattle.command_line.specs.declared.mistake.Mistake.{Mistake}
use Rattle.command_line.specs.declared.mistake.Mistake.TheVariants as mistake
use Rattle.command_line.specs.declared.settings.Settings.{Settings}

infixl 10 ◌>>=◌
-- the next step, unless this one found a mistake
abbrev pub ◌>>=◌ : {A B : Type 0} → Result A Mistake → (A → Result B Mistake) → Result B Mistake
(Ok x) >>= f = f x
(Err m) >>= f = Err m

-- ---- values

-- the text, or the mistake if it is not a value of a field
abbrev pub field_text : Mistake → Text → Result Text Mistake
field_text m t = if is_field_text t then Ok t else Err m

-- the path that the text is read as
abbrev pub path_text : Text → Result Text Mistake
path_text t = if is_path (without_slash t) then Ok (without_slash t) else Err mistake.Path

abbrev pub body_text : Text → Result Text Mistake
body_text t = if nat_le (length t) longest_body then Ok t else Err mistake.Body

-- the text, or the mistake if it is too long
abbrev pub short_text : Mistake → Text → Result Text Mistake
short_text m t = if is_short_text t then Ok t else Err m

abbrev pub number_text : Text → Result ℕ Mistake
number_text t = option_map_or (λ n. Ok n) (number_told t) (Err mistake.Number)

-- from a second to a day
abbrev pub seconds_of : ℕ → Result ℕ Mistake
seconds_of n = if nat_le 1 n && nat_le n 86400 then Ok n else Err mistake.Seconds

abbrev pub seconds_text : Text → Result ℕ Mistake
seconds_text t = option_map_or seconds_of (number_told t) (Err mistake.Seconds)

-- ---- arguments, each by what was found for its name

-- an argument that must be given
abbrev pub given : {A : Type 0} → Mistake → (Text → Result A Mistake) → Option Text → Result A Mistake
given m read None = Err m
given m read (Some t) = read t

-- an argument that may be left out
abbrev pub optional : {A : Type 0} → (Text → Result A Mistake) → Option Text → Result (Option A) Mistake
optional read None = Ok None
optional read (Some t) = do
  x ← read t
  Ok (Some x)

abbrev pub address_in : List Row → Result Text Mistake
address_in rows = given mistake.Address (field_text mistake.Address) (first_of (codes "addr") rows)

abbrev pub client_token_in : List Row → Result (Option Text) Mistake
client_token_in rows = optional (field_text mistake.Token) (first_of (codes "token") rows)

abbrev pub wrap_ttl_in : List Row → Result (Option Text) Mistake
wrap_ttl_in rows = optional (field_text mistake.WrapTtl) (first_of (codes "wrap-ttl") rows)

-- a text that may be left out
abbrev pub short_in : Text → List Row → Result (Option Text) Mistake
short_in name rows = optional (short_text mistake.Long) (first_of name rows)

-- a number that may be left out
abbrev pub number_in : Text → List Row → Result (Option ℕ) Mistake
number_in name rows = optional number_text (first_of name rows)

abbrev pub seconds_in : Text → List Row → Result (Option ℕ) Mistake
seconds_in name rows = optional seconds_text (first_of name rows)

-- whether an option without a value is given
abbrev pub is_given : Text → List Row → Bool
is_given name rows = option_map_or (λ t. bytes_eq t (codes "true")) (first_of name rows) false

-- ---- the options of the client

abbrev pub settings_in : List Row → Result Settings Mistake
settings_in rows = do
  address ← address_in rows
  token ← client_token_in rows
  wrap_ttl ← wrap_ttl_in rows
  field ← short_in (codes "field") rows
  token_file ← short_in (codes "token-file") rows
  wait ← seconds_in (codes "wait") rows
  timeout ← seconds_in (codes "timeout") rows
  Ok (record {
    address = address;
    token = token;
    wrap_ttl = wrap_ttl;
    field = field;
    token_file = token_file;
    wait = wait;
    timeout = timeout;
    exit_codes = is_given (codes "exit-codes") rows;
  })
