use Rattle.std.proofs.Common.{◌≡◌, ◌∙◌, Bool, true, false, not, ap, ap₂, refl}
use Rattle.std.proofs.lemmas.Bool.{and_parts}
use Rattle.std.proofs.lemmas.Result.{IfOk-weaker}
use Rattle.clap.specs.Simple.{app_of_fields}
use Rattle.clap.specs.Words.{App, app_of, new_app, with_subcommand}
use Rattle.clap.specs.declared.builder.command.Command.{Command}
use Rattle.clap.specs.declared.builder.command.Command.TheViews.{out-Command}
use Rattle.brokerd.specs.CommandLine.{program_app, top_app}
use Rattle.brokerd.proofs.command.program.Goals as goal

-- a plain command has no global argument
local : (c : Command) (a : App) → app_of c ≡ a → a.top.is_plain ≡ true → (out-Command c).has_globals ≡ false
local c a same plain =
    let fields = and_parts _ _ (ap (λ (b : App). b.top.is_plain) same ∙ plain) in
    let rest = and_parts _ _ fields.1 in
    no ((out-Command c).has_globals) (and_parts _ _ rest.1).0
  where
    no : (b : Bool) → not b ≡ true → b ≡ false
    no false e = refl
    no true e = cc

-- the same commands have the same shape
top : {a b : App} → a ≡ b → a.top ≡ b.top
top e = ap (λ (a : App). a.top) e

abbrev has_a_version : App → App
has_a_version a = record a { top = record a.top { has_version = true } }

abbrev wants_subcommand : App → App
wants_subcommand a = record a { top = record a.top { subcommand_required = true } }

pub returns : goal.returns
unfolding program_app
returns c =
    let told : app_of c.about.result ≡ new_app _ = ap app_of_fields c.about.ensures ∙ c.new.ensures.app in
    let versioned : app_of c.version.result ≡ has_a_version (new_app _) = ap app_of_fields c.version.ensures
    ∙ ap has_a_version told in
    let begun : app_of c.subcommand_required.result ≡ top_app = ap app_of_fields c.subcommand_required.ensures
    ∙ ap wants_subcommand versioned in
    let one = c.in_ok-subcommand.ensures.shape (local _ _ c.replay.ensures refl)
    ∙ ap₂ with_subcommand begun (top c.replay.ensures) in
    let two = c.in_ok-subcommand-2.ensures.shape (local _ _ c.in_ok-check.ensures refl)
    ∙ ap₂ with_subcommand one (top c.in_ok-check.ensures) in
    let three = c.in_ok-subcommand-3.ensures.shape (local _ _ c.in_ok-backup.ensures refl)
    ∙ ap₂ with_subcommand two (top c.in_ok-backup.ensures) in
    let four = c.in_ok-subcommand-4.ensures.shape (local _ _ c.in_ok-new_root.ensures refl)
    ∙ ap₂ with_subcommand three (top c.in_ok-new_root.ensures) in
    let five = c.in_ok-subcommand-5.ensures.shape (local _ _ c.in_ok-after_restore.ensures refl)
    ∙ ap₂ with_subcommand four (top c.in_ok-after_restore.ensures) in
    let six = c.in_ok-subcommand-6.ensures.shape (local _ _ c.in_ok-export.ensures refl)
    ∙ ap₂ with_subcommand five (top c.in_ok-export.ensures) in
    let seven = c.in_ok-subcommand-7.ensures.shape (local _ _ c.in_ok-import.ensures refl)
    ∙ ap₂ with_subcommand six (top c.in_ok-import.ensures) in
    IfOk-weaker c.subcommand-8.result _ _
    (λ d h. h.shape (local _ _ c.in_ok-serve.ensures refl) ∙ ap₂ with_subcommand seven (top c.in_ok-serve.ensures))
    c.subcommand-8.ensures
