use Rattle.std.proofs.Common.{lit<}
use Rattle.broker_types.specs.Words.{strip_prefix_char}
use Rattle.command_line.proofs.WordLemmas.{stripped_at}
use Rattle.command_line.proofs.body_words.after_at.Goals as goal

pub returns : goal.returns
returns c = stripped_at c.args.text.now c.strip_prefix.result
    (strip_prefix_char 64 c.args.text.now c.strip_prefix.result c.strip_prefix.ensures.cases (lit< tt))
