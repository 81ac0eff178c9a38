use Rattle.std.proofs.Common.{◌≡◌, ◌∙◌, Option, Some, None, Box, Global, option_map, refl}
use Rattle.broker_types.specs.Words.{box_value}
use Rattle.clap.specs.Simple.{subcommand_rows}
use Rattle.clap.specs.declared.parser.matches.ArgMatches.TheViews.{out-ArgMatches, out-SubCommand}
use Rattle.clap.specs.declared.parser.matches.SubCommand.{SubCommand}
use Rattle.command_line.proofs.line.entered.Goals as goal

name_of : (o : Option (Box SubCommand Global))
    → option_map (λ b. (out-SubCommand (box_value b)).name.now) o ≡ option_map (λ p. p.0) (subcommand_rows o)
name_of None = refl
name_of (Some b) = refl

both : {X A B : Type 0} (f : X → A) (g : X → B) (r : Option X) (o : Option (A × B))
    → option_map f r ≡ option_map (λ p. p.0) o → option_map g r ≡ option_map (λ p. p.1) o
    → option_map (λ x. (f x, g x)) r ≡ o
both f g None None first second = refl
both f g None (Some p) first second = cc
both f g (Some x) None first second = cc
both f g (Some x) (Some p) first second = let a : f x ≡ p.0 = cc in let b : g x ≡ p.1 = cc in rw (a, b) refl

pub returns : goal.returns
returns c = both _ _ c.subcommand.result _
    (c.subcommand.ensures.name ∙ name_of (out-ArgMatches c.args.matches.now).subcommand) c.subcommand.ensures.rows
