-- Commands with subcommands.
use Rattle.std.proofs.Common.{◌≡◌, ◌∙◌, Bool, true, false, not, ap, ap₂, refl}
use Rattle.std.specs.Prelude.{IfOk, Result, Ok, Err}
use Rattle.std.specs.Result.{IsOkAnd}
use Rattle.std.specs.declared.alloc.AllocError.{AllocError}
use Rattle.broker_types.specs.Words.{and_parts}
use Rattle.clap.specs.Words.{AddsArg, AddsSubcommand, App, Rule, app_of, rule_of, with_rule, with_subcommand}
use Rattle.clap.specs.declared.builder.arg.Arg.{Arg}
use Rattle.clap.specs.declared.builder.command.Command.{Command}
use Rattle.clap.specs.declared.builder.command.Command.TheViews.{out-Command}

-- a plain command has no global argument
local : (c : Command) (a : App) → app_of c ≡ a → a.top.is_plain ≡ true → (out-Command c).has_globals ≡ false
local c a same plain =
    let fields = and_parts _ _ (ap (λ (b : App). b.top.is_plain) same ∙ plain) in
    let rest = and_parts _ _ fields.1 in
    no ((out-Command c).has_globals) (and_parts _ _ rest.1).0
  where
    no : (b : Bool) → not b ≡ true → b ≡ false
    no false e = refl
    no true e = cc

-- the shape of a command with one more subcommand
added : (old sub new : Command) (a b : App) → AddsSubcommand old sub new → app_of old ≡ a → app_of sub ≡ b
    → b.top.is_plain ≡ true → app_of new ≡ with_subcommand a b.top
added old sub new a b adds one two plain =
    adds.shape (local sub b two plain) ∙ ap₂ with_subcommand one (ap (λ (c : App). c.top) two)

-- the shape of a command with one more argument
with_arg : (old new : Command) (arg : Arg) (a : App) (r : Rule) → AddsArg old arg new → app_of old ≡ a
    → arg.global ≡ false → rule_of arg ≡ r → app_of new ≡ with_rule a r
with_arg old new arg a r adds one local rule = adds.shape local ∙ ap₂ with_rule one rule

-- the same, where a command may not have been made
pub taken : (r new : Result Command AllocError) (arg : Arg) (a : App) (rule : Rule)
    → IfOk new (λ c. IsOkAnd r (λ o. AddsArg o arg c)) → IfOk r (λ o. app_of o ≡ a) → arg.global ≡ false
    → rule_of arg ≡ rule → IfOk new (λ c. app_of c ≡ with_rule a rule)
taken (Ok o) (Ok c) arg a rule adds one local same = with_arg o c arg a rule adds one local same
taken (Err e) (Ok c) arg a rule adds one local same = absurd adds
taken r (Err e) arg a rule adds one local same = tt

pub extended : (r w new : Result Command AllocError) (a b : App)
    → IfOk new (λ c. IsOkAnd r (λ o. IsOkAnd w (λ s. AddsSubcommand o s c))) → IfOk r (λ o. app_of o ≡ a)
    → IfOk w (λ s. app_of s ≡ b) → b.top.is_plain ≡ true → IfOk new (λ c. app_of c ≡ with_subcommand a b.top)
extended (Ok o) (Ok s) (Ok c) a b adds one two plain = added o s c a b adds one two plain
extended (Ok o) (Err e) (Ok c) a b adds one two plain = absurd adds
extended (Err e) w (Ok c) a b adds one two plain = absurd adds
extended r w (Err e) a b adds one two plain = tt
