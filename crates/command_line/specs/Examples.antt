-- The example of each command (this project's).
use Rattle.std.specs.Prelude.{◌==◌, ◌∷◌, ◌++◌, if◌then◌else◌, ℕ, Bool, List, [], codes, bytes_eq}
use Rattle.broker_types.specs.Words.{before_first, after_first, Text}
use Rattle.command_line.specs.Arranging.{command_words, is_dash_first}

-- the byte of a space
abbrev pub is_space : ℕ → Bool
is_space b = b == 32

-- the first of two words
abbrev pub group_of : Text → Text
group_of name = before_first is_space name

abbrev pub get_example : Text
get_example = codes "Example: client kv get --field password secret/app"

abbrev pub secret_example : Text → Text
secret_example name =
    if bytes_eq name (codes "kv put")
    then codes "Example: client kv put --cas 3 secret/app user=app password=@password"
    else if bytes_eq name (codes "kv list") then codes "Example: client kv list secret"
    else if bytes_eq name (codes "kv delete") then codes "Example: client kv delete secret/app"
    else get_example

abbrev pub token_example : Text → Text
token_example name =
    if bytes_eq name (codes "token create")
    then codes "Example: client token create --policy app --period 24h --field client_token"
    else if bytes_eq name (codes "token renew") then codes "Example: client token renew --keep"
    else if bytes_eq name (codes "token revoke")
    then codes "Example: client token revoke --accessor 083138d6-2df2-16c0-6e4c-ef963681c07b"
    else if bytes_eq name (codes "token list") then codes "Example: client token list"
    else codes "Example: client token lookup --field ttl"

abbrev pub policy_example : Text → Text
policy_example name =
    if bytes_eq name (codes "policy write")
    then codes "Example: client policy write app app.json  # {\"path\":{\"secret/*\":{\"capabilities\":[\"read\"]}}}"
    else if bytes_eq name (codes "policy delete") then codes "Example: client policy delete app"
    else if bytes_eq name (codes "policy list") then codes "Example: client policy list"
    else codes "Example: client policy read app --field policy"

abbrev pub lease_example : Text → Text
lease_example name =
    if bytes_eq name (codes "lease revoke")
    then codes "Example: client lease revoke db/creds/app/5a1dd4b5-60b6-4de5-a1ba-ef67e2a86a9e"
    else codes "Example: client lease renew db/creds/app/5a1dd4b5-60b6-4de5-a1ba-ef67e2a86a9e"

abbrev pub path_example : Text → Text
path_example name =
    if bytes_eq name (codes "read") then codes "Example: client read secret/data/app"
    else if bytes_eq name (codes "write") then codes "Example: client write cubbyhole/a k=v password=@password"
    else if bytes_eq name (codes "list") then codes "Example: client list secret/metadata"
    else if bytes_eq name (codes "delete") then codes "Example: client delete cubbyhole/a"
    else if bytes_eq name (codes "unwrap") then codes "Example: client --token-file wrapping-token unwrap"
    else get_example

-- the example of the command of this name; of a name that no command has, that of another one with its first word
abbrev pub example_named : Text → Text
example_named name =
    if bytes_eq (group_of name) (codes "kv") then secret_example name
    else if bytes_eq (group_of name) (codes "token") then token_example name
    else if bytes_eq (group_of name) (codes "policy") then policy_example name
    else if bytes_eq (group_of name) (codes "lease") then lease_example name
    else path_example name

-- the example, with the variable of the environment that names the server
abbrev pub from_server : Text → Text
from_server example = codes "Example: VAULT_ADDR=http://127.0.0.1:8200 " ++ after_first is_space example

-- the first word that does not begin with a dash
abbrev pub first_word : List Text → Text
first_word [] = []
first_word (word ∷ words) = if is_dash_first word then first_word words else word

-- The example of the command that the words of a line name; it names a server too, if none is known.
abbrev pub example_of : List Text → Bool → Text
example_of words has_server =
    if has_server then example_named (first_word (command_words words))
    else from_server (example_named (first_word (command_words words)))
