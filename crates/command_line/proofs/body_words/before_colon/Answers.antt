use Rattle.std.proofs.Common.{lit<}
use Rattle.broker_types.specs.Words.{strip_suffix_char}
use Rattle.command_line.proofs.WordLemmas.{stripped_colon}
use Rattle.command_line.proofs.body_words.before_colon.Goals as goal

pub returns : goal.returns
returns c = stripped_colon c.args.text.now c.strip_suffix.result
    (strip_suffix_char 58 c.args.text.now c.strip_suffix.result c.strip_suffix.ensures.cases (lit< tt))
