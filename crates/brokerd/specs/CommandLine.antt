-- The command line of the program, as `clap` sees it (this project's).
use Rattle.std.specs.Prelude.{◌≡◌, ◌≢◌, ◌⊎◌, ◌<◌, ◌^◌, ◌||◌, codes, true, false, Bool, option_map, Option, Some, None}
use Rattle.std.specs.Prelude.{List, [], ◌∷◌, ℕ, ⊤, is_some, pos, unwrap_or}
use Rattle.std.specs.Str.Parse.{IsNumeral, digits_value, without_leading_plus}
use Rattle.clap.specs.Words.{App, Row, Rule, Text, first_of, new_app, new_rule, one_of, with_rule, with_subcommand}
use Rattle.clap.specs.declared.builder.action.ArgAction.TheVariants.{SetTrue}
use Rattle.clap.specs.declared.builder.value_parser.ValueParser.TheVariants.{Signed}
use Rattle.server.specs.declared.settings.LogFormat.{LogFormat}
use Rattle.server.specs.declared.settings.LogFormat.TheVariants.{Text as AsText, Json}
use Rattle.brokerd.specs.declared.command.Command.{Command}
use Rattle.brokerd.specs.declared.command.Command.TheVariants.{AfterRestore, Backup, Check, Export, Import, NewRoot}
use Rattle.brokerd.specs.declared.command.Command.TheVariants.{Replay}
use Rattle.brokerd.specs.declared.command.Command.TheVariants.{Serve}

-- `--listen ADDR`, which is required
abbrev pub listen_rule : Rule
listen_rule =
    record (new_rule (codes "listen")) { long = Some (codes "listen"); value_names = 1; required = true }

-- `--db FILE`
abbrev pub db_rule : Rule
db_rule = record (new_rule (codes "db")) { long = Some (codes "db"); value_names = 1 }

-- `--db FILE`, which is required
abbrev pub checked_rule : Rule
checked_rule = record (new_rule (codes "db")) { long = Some (codes "db"); value_names = 1; required = true }

-- `--to FOLDER`, which is required
abbrev pub to_rule : Rule
to_rule = record (new_rule (codes "to")) { long = Some (codes "to"); value_names = 1; required = true }

-- `--keep N`, from 1 to 100,000
abbrev pub keep_rule : Rule
keep_rule =
    record (new_rule (codes "keep")) {
      long = Some (codes "keep");
      value_names = 1;
      parser = Some (Signed (pos 1) (pos 100000));
    }

-- `--connections N`, from 1 to 4,294,967,295
abbrev pub connections_rule : Rule
connections_rule =
    record (new_rule (codes "connections")) {
      long = Some (codes "connections");
      value_names = 1;
      parser = Some (Signed (pos 1) (pos 4294967295));
    }

-- `--at-once M`, from 1 to 10,000
abbrev pub at_once_rule : Rule
at_once_rule =
    record (new_rule (codes "at-once")) {
      long = Some (codes "at-once");
      value_names = 1;
      parser = Some (Signed (pos 1) (pos 10000));
    }

-- `--until-stopped`
abbrev pub until_stopped_rule : Rule
until_stopped_rule =
    record (new_rule (codes "until-stopped")) { long = Some (codes "until-stopped"); action = Some SetTrue }

-- `--stop-on-input`
abbrev pub stop_on_input_rule : Rule
stop_on_input_rule =
    record (new_rule (codes "stop-on-input")) { long = Some (codes "stop-on-input"); action = Some SetTrue }

-- `--log`
abbrev pub log_rule : Rule
log_rule = record (new_rule (codes "log")) { long = Some (codes "log"); action = Some SetTrue }

-- `--log-format FORMAT`
abbrev pub log_format_rule : Rule
log_format_rule = record (new_rule (codes "log-format")) { long = Some (codes "log-format"); value_names = 1 }

-- `--log-file FILE`
abbrev pub log_file_rule : Rule
log_file_rule = record (new_rule (codes "log-file")) { long = Some (codes "log-file"); value_names = 1 }

-- `--status ADDR`
abbrev pub status_rule : Rule
status_rule = record (new_rule (codes "status")) { long = Some (codes "status"); value_names = 1 }

-- `--check`
abbrev pub check_rule : Rule
check_rule = record (new_rule (codes "check")) { long = Some (codes "check"); action = Some SetTrue }

-- `--unchecked`
abbrev pub unchecked_rule : Rule
unchecked_rule = record (new_rule (codes "unchecked")) { long = Some (codes "unchecked"); action = Some SetTrue }

-- `--all`
abbrev pub all_rule : Rule
all_rule = record (new_rule (codes "all")) { long = Some (codes "all"); action = Some SetTrue }

-- `--revoke-others`
abbrev pub revoke_others_rule : Rule
revoke_others_rule =
    record (new_rule (codes "revoke-others")) { long = Some (codes "revoke-others"); action = Some SetTrue }

-- `--tokens`
abbrev pub tokens_rule : Rule
tokens_rule = record (new_rule (codes "tokens")) { long = Some (codes "tokens"); action = Some SetTrue }

-- `--salvage`
abbrev pub salvage_rule : Rule
salvage_rule = record (new_rule (codes "salvage")) { long = Some (codes "salvage"); action = Some SetTrue }

-- `brokerd replay`
abbrev pub replay_app : App
replay_app = new_app (codes "replay")

-- `brokerd check --db FILE [--all]`
abbrev pub check_app : App
check_app = with_rule (with_rule (new_app (codes "check")) checked_rule) all_rule

-- `brokerd backup --db FILE --to FOLDER [--keep N]`
abbrev pub backup_app : App
backup_app = with_rule (with_rule (with_rule (new_app (codes "backup")) checked_rule) to_rule) keep_rule

-- `brokerd new-root --db FILE [--revoke-others]`
abbrev pub new_root_app : App
new_root_app = with_rule (with_rule (new_app (codes "new-root")) checked_rule) revoke_others_rule

-- `brokerd after-restore --db FILE [--tokens]`
abbrev pub after_restore_app : App
after_restore_app = with_rule (with_rule (new_app (codes "after-restore")) checked_rule) tokens_rule

-- `brokerd export --db FILE`
abbrev pub export_app : App
export_app = with_rule (new_app (codes "export")) checked_rule

-- `brokerd import --db NEW [--salvage]`
abbrev pub import_app : App
import_app = with_rule (with_rule (new_app (codes "import")) checked_rule) salvage_rule

-- `brokerd serve --listen ADDR [--db FILE [--check | --unchecked]] [--connections N] [--at-once M] [--until-stopped]
-- [--stop-on-input] [--log] [--log-format FORMAT] [--log-file FILE] [--status ADDR]`
abbrev pub serve_app : App
serve_app =
    with_rule
    (with_rule
    (with_rule
    (with_rule
    (with_rule
    (with_rule
    (with_rule
    (with_rule
    (with_rule
    (with_rule (with_rule (with_rule (new_app (codes "serve")) listen_rule) db_rule) connections_rule)
    at_once_rule)
    until_stopped_rule)
    stop_on_input_rule)
    log_rule)
    log_format_rule)
    log_file_rule)
    status_rule)
    check_rule)
    unchecked_rule

-- `brokerd`, which has a version and requires a subcommand
abbrev pub top_app : App
top_app =
    record (new_app (codes "brokerd")) {
      top = record (new_app (codes "brokerd")).top { has_version = true; subcommand_required = true };
    }

-- the whole command line
unfoldable pub program_app : App
program_app =
    with_subcommand
    (with_subcommand
    (with_subcommand
    (with_subcommand
    (with_subcommand
    (with_subcommand (with_subcommand (with_subcommand top_app replay_app.top) check_app.top) backup_app.top)
    new_root_app.top)
    after_restore_app.top)
    export_app.top)
    import_app.top)
    serve_app.top

-- the text is a number below 2^32
abbrev pub IsNumber : Text → Type 0
IsNumber text =
    IsNumeral 10 (without_leading_plus text) × (digits_value 10 (without_leading_plus text) < 2 ^ 32)

-- the number that the text is, or the usual one if there is none
abbrev pub IsNumberOr : ℕ → Option Text → ℕ → Type 0
IsNumberOr usual None count = count ≡ usual
IsNumberOr usual (Some text) count = IsNumber text × (count ≡ digits_value 10 (without_leading_plus text))

-- a flag is set; `clap` gives it the text "true" or "false"
abbrev pub IsSet : Option Text → Type 0
IsSet text = (text ≢ None) × (text ≢ Some (codes "false"))

abbrev pub IsNotSet : Option Text → Type 0
IsNotSet text = text ≢ Some (codes "true")

-- whether a flag is set
abbrev pub IsFlag : Bool → Option Text → Type 0
IsFlag true text = IsSet text
IsFlag false text = IsNotSet text

-- how many connections to serve: without an end if that alone is asked for, else the number, or 1,000
abbrev pub IsCount : List Row → Option ℕ → Type 0
IsCount rows None =
    IsSet (one_of (codes "until-stopped") rows) × (one_of (codes "connections") rows ≡ None)
IsCount rows (Some count) =
    IsNotSet (one_of (codes "until-stopped") rows) × IsNumberOr 1000 (one_of (codes "connections") rows) count

-- how many connections to serve at once: the number, or 1,024
abbrev pub IsPlaces : List Row → ℕ → Type 0
IsPlaces rows places = IsNumberOr 1024 (one_of (codes "at-once") rows) places

-- the text for that is no number, which `clap` does not let through
abbrev pub LacksPlaces : List Row → Type 0
LacksPlaces rows = (text : Text) × (one_of (codes "at-once") rows ≡ Some text) × (¬ IsNumber text)

-- both a number of connections and no end are asked for, or a text for the connections is no number; `clap` does not
-- let the second through
abbrev pub LacksCount : List Row → Type 0
LacksCount rows =
    (text : Text) × (one_of (codes "connections") rows ≡ Some text)
    × (IsSet (one_of (codes "until-stopped") rows) ⊎ (¬ IsNumber text))

-- whether requests are logged: that is asked for, or a format or a file of the log is
abbrev pub IsLogged : List Row → Bool → Type 0
IsLogged rows logs =
    (flag : Bool) × IsFlag flag (one_of (codes "log") rows)
    × (logs ≡ (flag || is_some (first_of (codes "log-format") rows) || is_some (first_of (codes "log-file") rows)))

-- how requests are written in the log; as text if that is not said
abbrev pub IsFormatOf : Option Text → LogFormat → Type 0
IsFormatOf None format = format ≡ AsText
IsFormatOf (Some word) AsText = word ≡ codes "text"
IsFormatOf (Some word) Json = word ≡ codes "json"

abbrev pub IsFormat : List Row → LogFormat → Type 0
IsFormat rows format = IsFormatOf (first_of (codes "log-format") rows) format

-- another format is asked for
abbrev pub LacksFormat : List Row → Type 0
LacksFormat rows =
    (word : Text) × (first_of (codes "log-format") rows ≡ Some word) × (word ≢ codes "text") × (word ≢ codes "json")

-- the number that the text is, if there is one
abbrev pub IsNumberIf : Option Text → Option ℕ → Type 0
IsNumberIf None count = count ≡ None
IsNumberIf (Some text) count = IsNumber text × (count ≡ Some (digits_value 10 (without_leading_plus text)))

-- how many backups are kept: as many as asked for, or all
abbrev pub IsKept : List Row → Option ℕ → Type 0
IsKept rows keep = IsNumberIf (one_of (codes "keep") rows) keep

-- the text for that is no number, which `clap` does not let through
abbrev pub LacksKept : List Row → Type 0
LacksKept rows = (text : Text) × (one_of (codes "keep") rows ≡ Some text) × (¬ IsNumber text)

-- ---- what the values of a subcommand mean: none without a value that `clap` does not let be absent

-- a check
abbrev pub IsCheck : List Row → Option Command → Type 0
IsCheck rows None = first_of (codes "db") rows ≡ None
IsCheck rows (Some (Check db lists_all)) =
    (first_of (codes "db") rows ≡ Some db.now) × IsFlag lists_all (one_of (codes "all") rows)
IsCheck rows _ = ⊥

-- a backup; none also for a number that is none, which `clap` does not let through
abbrev pub IsBackup : List Row → Option Command → Type 0
IsBackup rows None = (first_of (codes "db") rows ≡ None) ⊎ ((first_of (codes "to") rows ≡ None) ⊎ LacksKept rows)
IsBackup rows (Some (Backup db to keep)) =
    (first_of (codes "db") rows ≡ Some db.now)
    × (first_of (codes "to") rows ≡ Some to.now)
    × IsKept rows keep
IsBackup rows _ = ⊥

-- one more root token
abbrev pub IsNewRoot : List Row → Option Command → Type 0
IsNewRoot rows None = first_of (codes "db") rows ≡ None
IsNewRoot rows (Some (NewRoot db revokes_others)) =
    (first_of (codes "db") rows ≡ Some db.now) × IsFlag revokes_others (one_of (codes "revoke-others") rows)
IsNewRoot rows _ = ⊥

-- what goes after a restore
abbrev pub IsAfterRestore : List Row → Option Command → Type 0
IsAfterRestore rows None = first_of (codes "db") rows ≡ None
IsAfterRestore rows (Some (AfterRestore db revokes_tokens)) =
    (first_of (codes "db") rows ≡ Some db.now) × IsFlag revokes_tokens (one_of (codes "tokens") rows)
IsAfterRestore rows _ = ⊥

-- an export
abbrev pub IsExport : List Row → Option Command → Type 0
IsExport rows None = first_of (codes "db") rows ≡ None
IsExport rows (Some (Export db)) = first_of (codes "db") rows ≡ Some db.now
IsExport rows _ = ⊥

-- an import
abbrev pub IsImport : List Row → Option Command → Type 0
IsImport rows None = first_of (codes "db") rows ≡ None
IsImport rows (Some (Import db salvages)) =
    (first_of (codes "db") rows ≡ Some db.now) × IsFlag salvages (one_of (codes "salvage") rows)
IsImport rows _ = ⊥

-- whether a check of the database is asked for, or none; nothing if the line says neither
abbrev pub IsCheckAsked : List Row → Option Bool → Type 0
IsCheckAsked rows None = IsNotSet (one_of (codes "check") rows) × IsNotSet (one_of (codes "unchecked") rows)
IsCheckAsked rows (Some true) = IsSet (one_of (codes "check") rows) × IsNotSet (one_of (codes "unchecked") rows)
IsCheckAsked rows (Some false) = IsNotSet (one_of (codes "check") rows) × IsSet (one_of (codes "unchecked") rows)

-- both are asked for
abbrev pub AsksBoth : List Row → Type 0
AsksBoth rows = IsSet (one_of (codes "check") rows) × IsSet (one_of (codes "unchecked") rows)

-- the values have no address, which `clap` does not let through, or no count, or no places, or no format of the log, or
-- ask both for a check and for none
abbrev pub LacksValues : List Row → Type 0
LacksValues rows =
    (first_of (codes "listen") rows ≡ None)
    ⊎ (LacksCount rows ⊎ (LacksPlaces rows ⊎ (LacksFormat rows ⊎ AsksBoth rows)))

-- a broker that is served; a file is checked first unless the line says otherwise
abbrev pub IsServe : List Row → Option Command → Type 0
IsServe rows None = LacksValues rows
IsServe rows (Some (Serve db settings check)) =
    (option_map (λ path. path.now) db ≡ first_of (codes "db") rows)
    × (first_of (codes "listen") rows ≡ Some settings.address.now)
    × IsCount rows settings.connections
    × (settings.is_number_given ≡ is_some (first_of (codes "connections") rows))
    × IsPlaces rows settings.at_once
    × IsFlag settings.stops_on_input (one_of (codes "stop-on-input") rows)
    × IsLogged rows settings.logs
    × IsFormat rows settings.log_format
    × (option_map (λ path. path.now) settings.log_file ≡ first_of (codes "log-file") rows)
    × (option_map (λ address. address.now) settings.status ≡ first_of (codes "status") rows)
    × IsCheckAsked rows check
    × (settings.checks ≡ unwrap_or check true)
IsServe rows _ = ⊥

-- what the values mean after each name of a subcommand
abbrev pub meanings : List Row → List (Text × (Option Command → Type 0))
meanings rows =
    (codes "replay", λ command. command ≡ Some Replay)
    ∷ (codes "check", IsCheck rows)
    ∷ (codes "backup", IsBackup rows)
    ∷ (codes "new-root", IsNewRoot rows)
    ∷ (codes "after-restore", IsAfterRestore rows)
    ∷ (codes "export", IsExport rows)
    ∷ (codes "import", IsImport rows)
    ∷ (codes "serve", IsServe rows)
    ∷ []

-- the first meaning of that name; no command if there is none
abbrev pub IsMeantBy : List (Text × (Option Command → Type 0)) → Text → Option Command → Type 0
IsMeantBy [] name command = command ≡ None
IsMeantBy (meaning ∷ others) name command =
    (name ≡ meaning.0 → meaning.1 command) × (name ≢ meaning.0 → IsMeantBy others name command)

-- the command that a subcommand's name and the values of its matches mean
abbrev pub IsMeant : Text → List Row → Option Command → Type 0
IsMeant name rows command = IsMeantBy (meanings rows) name command

-- the command that the words of a line name, by the subcommand that they enter
abbrev pub IsCommandOf : Option (Text × List Row) → Option Command → Type 0
IsCommandOf None None = ⊤
IsCommandOf None (Some command) = ⊥
IsCommandOf (Some entered) command = IsMeant entered.0 entered.1 command
