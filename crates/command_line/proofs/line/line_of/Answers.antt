use Rattle.std.specs.Prelude.{◌≡◌, ◌∷◌, List, [], None, Some, Ok, Err, Result, IsErrAnd, MatchResult, Option, map, refl}
use Rattle.std.specs.Prelude.{true}
use Rattle.broker_types.specs.Words.{◌∙◌, string_bytes, sym, ap, ap₂, subst, inl, inr}
use Rattle.clap.specs.Words.{App, HasKind, IsAmong, Kinds, Row, Text, fault_of, found_of, is_simple, is_simple_and_free}
use Rattle.clap.specs.Words.{kind_of, matches_of, rows_of, subcommand_of, subcommand_rows_of}
use Rattle.clap.specs.declared.error.Error.{Error}
use Rattle.clap.specs.declared.error.kind.ErrorKind.{ErrorKind}
use Rattle.clap.proofs.OnLiterals.{clap_on_literals}
use Rattle.command_line.specs.CommandLine.{client_app}
use Rattle.command_line.specs.Found.{Found}
use Rattle.command_line.specs.Meaning.{IsNoLine, line_read, unless_refused}
use Rattle.command_line.specs.Refusing.{Tells}
use Rattle.command_line.specs.declared.no_command.NoCommand.{NoCommand}
use Rattle.command_line.specs.declared.no_command.NoCommand.TheVariants.{Usage, Fault}
use Rattle.command_line.proofs.line.line_of.Goals as goal

free : (a : App) → a ≡ client_app → is_simple_and_free a ≡ true
unfolding clap_on_literals client_app
free a e = rw e refl

simple : (a : App) → a ≡ client_app → is_simple a ≡ true
unfolding clap_on_literals client_app
simple a e = rw e refl

-- `clap` refuses the words
refused : (kinds : Kinds) (k : ErrorKind) (found : Found) → IsAmong k kinds → unless_refused kinds found ≡ None
refused [] k found among = absurd among
refused (x ∷ xs) k found among = refl

no_line : (words : List Text) (error : Error) (told : NoCommand) → Tells error told
    → HasKind (fault_of client_app words) error → IsNoLine words told
no_line words error (Fault fault) tells kind = tells.0
no_line words error (Usage usage) tells (inl memory) = absurd (tells.1 memory)
no_line words error (Usage usage) tells (inr among) =
    (refused (fault_of client_app words) (kind_of error) _ among, λ memory. tells.1 (ap kind_of (sym tells.0) ∙ memory))

-- what `clap` makes of the words
read : (words : List Text) (rows : List Row) (entered : Option (Text × List Row))
    → fault_of client_app words ≡ [] → rows ≡ matches_of client_app words
    → entered ≡ subcommand_of client_app words → line_read words ≡ Some (rows, entered)
read words rows entered taken own sub =
    ap (λ (kinds : Kinds). unless_refused kinds (matches_of client_app words, subcommand_of client_app words)) taken
    ∙ ap₂ (λ (a : List Row) (b : Option (Text × List Row)). Some (a, b)) (sym own) (sym sub)

told_as : {A E : Type 0} (r : Result A E) (P : A → Type 0) (Q R : E → Type 0) → IsErrAnd r Q → ((e : E) → Q e → R e)
    → MatchResult r P R
told_as (Ok x) P Q R h next = absurd h
told_as (Err e) P Q R h next = next e h

pub returns-in_err-matches : goal.returns-in_err-matches
returns-in_err-matches c =
    let words : List Text = map string_bytes c.args.words.now in
    let kinds = c.in_err-matches.ensures.kinds (free _ c.in_ok-parser.ensures) in
    told_as c.from_residual-in_err-matches.result _ (Tells c.in_err-matches.field-0.0)
    (IsNoLine words) c.from_residual-in_err-matches.ensures.1
    (λ told tells. no_line words c.in_err-matches.field-0.0 told tells
    (subst (λ (ks : Kinds). HasKind ks c.in_err-matches.field-0.0)
    (ap (λ (a : App). fault_of a words) c.in_ok-parser.ensures) kinds))

pub returns : goal.returns
returns c =
    let m = c.in_ok-matches.matches in
    let words : List Text = map string_bytes c.args.words.now in
    let parser = c.in_ok-parser.ensures in
    let taken = c.in_ok-matches.ensures.kinds (free _ parser) in
    let found = c.in_ok-matches.ensures.matches (simple _ parser) in
    read words (rows_of (found_of m)) (subcommand_rows_of m)
    (ap (λ (a : App). fault_of a words) (sym parser) ∙ taken)
    (found.0 ∙ ap (λ (a : App). matches_of a words) parser)
    (found.1 ∙ ap (λ (a : App). subcommand_of a words) parser)
