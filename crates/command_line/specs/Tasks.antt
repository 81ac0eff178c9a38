-- What the client does for a command (this project's).
use Rattle.std.specs.Prelude.{◌||◌, ◌&&◌, if◌then◌else◌, Bool, true, false, not, codes, bytes_eq, is_none, List, Option}
use Rattle.std.specs.Prelude.{Some, None, Result, Ok}
use Rattle.broker_types.specs.Words.{Text}
use Rattle.clap.specs.Words.{Row}
use Rattle.command_line.specs.Found.{Found}
use Rattle.command_line.specs.Settings.{◌>>=◌, is_given, settings_in}
use Rattle.api_client.specs.declared.manner.Manner.{Manner}
use Rattle.command_line.specs.declared.mistake.Mistake.{Mistake}
use Rattle.command_line.specs.declared.settings.Settings.{Settings}
use Rattle.command_line.specs.declared.task.Task.{Task}
use Rattle.command_line.specs.declared.task.Task.TheVariants as task

-- the task of the command of this name
abbrev pub task_of : Text → Bool → Task
task_of name keeps =
    if bytes_eq name (codes "token renew") then (if keeps then task.KeepRenewing else task.Renew)
    else if bytes_eq name (codes "token list") then task.ListTokens
    else if bytes_eq name (codes "policy write") then task.WritePolicy
    else task.Ask

abbrev pub task_entered : Option (Text × List Row) → Task
task_entered None = task.Ask
task_entered (Some entered) = task_of entered.0 (is_given (codes "keep") entered.1)

-- a command of one word
abbrev pub is_plain : Text → Bool
is_plain name =
    bytes_eq name (codes "read") || bytes_eq name (codes "write") || bytes_eq name (codes "list")
    || bytes_eq name (codes "delete") || bytes_eq name (codes "unwrap")

abbrev pub is_plain_entered : Option (Text × List Row) → Bool
is_plain_entered None = false
is_plain_entered (Some entered) = is_plain entered.0

-- the command is one word, and none of these options is given
abbrev pub is_plain_line : Settings → Bool → Bool
is_plain_line settings is_plain =
    is_plain && is_none settings.field && is_none settings.token_file && is_none settings.wait
    && is_none settings.timeout && not settings.exit_codes

-- nothing is printed of the reply
abbrev pub is_silent : Task → Bool
is_silent task.Renew = true
is_silent task.KeepRenewing = true
is_silent _ = false

-- how the reply is printed
abbrev pub manner_in : Found → Result Manner Mistake
manner_in found = do
  settings ← settings_in found.0
  Ok (record {
    plain = is_plain_line settings (is_plain_entered found.1);
    field = settings.field;
    silent = is_silent (task_entered found.1);
    exit_codes = settings.exit_codes;
  })
