-- The command line of the client, as `clap` sees it (this project's).
use Rattle.std.specs.Prelude.{◌∷◌, List, [], codes, Some, true}
use Rattle.clap.specs.Words.{App, Rule, Shape, Text, new_app, new_rule, with_rule, with_subcommand}
use Rattle.clap.specs.Lexer.{usize_max}
use Rattle.clap.specs.declared.builder.action.ArgAction.TheVariants.{Append, SetTrue}

-- ---- arguments

-- an option that is given by this name and a value
abbrev pub option_rule : Text → Rule
option_rule name = record (new_rule name) { long = Some name; value_names = 1 }

-- an option that may be given several times
abbrev pub repeated_rule : Text → Rule
repeated_rule name = record (option_rule name) { action = Some Append }

-- an option without a value
abbrev pub flag_rule : Text → Rule
flag_rule name = record (new_rule name) { long = Some name; action = Some SetTrue }

-- a value that is given by its place
abbrev pub value_rule : Text → Rule
value_rule name = record (new_rule name) { value_names = 1 }

-- one value or more, by their place
abbrev pub values_rule : Text → Rule
values_rule name =
    record (value_rule name) { range = Some (record { start_inclusive = 1; end_inclusive = usize_max }) }

-- an argument that must be given
abbrev pub wanted : Rule → Rule
wanted rule = record rule { required = true }

-- ---- commands

-- `NAME PATH`
abbrev pub path_app : Text → App
path_app name = with_rule (new_app name) (wanted (value_rule (codes "path")))

-- `write PATH [BODY|NAME=VALUE]..`
abbrev pub write_app : App
write_app = with_rule (path_app (codes "write")) (values_rule (codes "body"))

-- `unwrap [TOKEN]`
abbrev pub unwrap_app : App
unwrap_app = with_rule (new_app (codes "unwrap")) (value_rule (codes "token"))

-- `kv get PATH [--version N]`
abbrev pub get_app : App
get_app = with_rule (path_app (codes "kv get")) (option_rule (codes "version"))

-- `kv put PATH (BODY|NAME=VALUE..) [--cas N]`
abbrev pub put_app : App
put_app = with_rule (with_rule (path_app (codes "kv put")) (wanted (values_rule (codes "body"))))
    (option_rule (codes "cas"))

-- `token create [--policy P].. [--ttl D] [--period D]`
abbrev pub lasting_app : App
lasting_app =
    with_rule
    (with_rule
    (with_rule (new_app (codes "token create")) (repeated_rule (codes "policy")))
    (option_rule (codes "ttl")))
    (option_rule (codes "period"))

-- the same with `[--use-limit N] [--orphan]`
abbrev pub create_app : App
create_app = with_rule (with_rule lasting_app (option_rule (codes "use-limit"))) (flag_rule (codes "orphan"))

-- `NAME [--accessor A]`
abbrev pub accessor_app : Text → App
accessor_app name = with_rule (new_app name) (option_rule (codes "accessor"))

-- `token renew [--keep]`
abbrev pub renew_app : App
renew_app = with_rule (new_app (codes "token renew")) (flag_rule (codes "keep"))

-- `NAME POLICY`
abbrev pub policy_app : Text → App
policy_app name = with_rule (new_app name) (wanted (value_rule (codes "name")))

-- `policy write POLICY FILE`
abbrev pub write_policy_app : App
write_policy_app = with_rule (policy_app (codes "policy write")) (wanted (value_rule (codes "body")))

-- `NAME ID`
abbrev pub lease_app : Text → App
lease_app name = with_rule (new_app name) (wanted (value_rule (codes "id")))

-- `lease renew ID [--increment D]`
abbrev pub renew_lease_app : App
renew_lease_app = with_rule (lease_app (codes "lease renew")) (option_rule (codes "increment"))

-- ---- the client

-- `client`, which has a version and requires a command
abbrev pub named_app : App
named_app = record (new_app (codes "client")) {
  top = record (new_app (codes "client")).top { has_version = true; subcommand_required = true };
}

-- with `--addr ADDR [--token T] [--wrap-ttl D]`
abbrev pub request_app : App
request_app =
    with_rule
    (with_rule (with_rule named_app (wanted (option_rule (codes "addr")))) (option_rule (codes "token")))
    (option_rule (codes "wrap-ttl"))

-- with `[--wait SECONDS] [--timeout SECONDS] [--exit-codes]`
abbrev pub with_time_rules : App → App
with_time_rules app =
    with_rule (with_rule (with_rule app (option_rule (codes "wait"))) (option_rule (codes "timeout")))
    (flag_rule (codes "exit-codes"))

-- the client without its commands, also with `[--field NAME] [--token-file FILE]`
abbrev pub options_app : App
options_app =
    with_time_rules
    (with_rule (with_rule request_app (option_rule (codes "field"))) (option_rule (codes "token-file")))

-- a command with further subcommands, in this order
abbrev pub with_subcommands : App → List App → App
with_subcommands app [] = app
with_subcommands app (sub ∷ subs) = with_subcommands (with_subcommand app sub.top) subs

-- requests to a path, as they are
abbrev pub path_apps : List App
path_apps =
    path_app (codes "read") ∷ write_app ∷ path_app (codes "list") ∷ path_app (codes "delete") ∷ unwrap_app ∷ []

-- versioned secrets
abbrev pub secret_apps : List App
secret_apps = get_app ∷ put_app ∷ path_app (codes "kv list") ∷ path_app (codes "kv delete") ∷ []

abbrev pub token_apps : List App
token_apps =
    create_app ∷ accessor_app (codes "token lookup") ∷ renew_app ∷ accessor_app (codes "token revoke")
    ∷ new_app (codes "token list") ∷ []

abbrev pub policy_apps : List App
policy_apps =
    write_policy_app ∷ policy_app (codes "policy read") ∷ policy_app (codes "policy delete")
    ∷ new_app (codes "policy list") ∷ []

abbrev pub lease_apps : List App
lease_apps = renew_lease_app ∷ lease_app (codes "lease revoke") ∷ []

-- the client, with its commands
unfoldable pub client_app : App
client_app =
    with_subcommands
    (with_subcommands
    (with_subcommands (with_subcommands (with_subcommands options_app path_apps) secret_apps) token_apps) policy_apps)
    lease_apps
