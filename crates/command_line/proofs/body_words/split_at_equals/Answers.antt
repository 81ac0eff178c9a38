use Rattle.std.proofs.Common.{lit<}
use Rattle.std.proofs.lemmas.Str.Pattern.{split_once_first}
use Rattle.command_line.proofs.WordLemmas.{split_at}
use Rattle.command_line.proofs.body_words.split_at_equals.Goals as goal

pub returns : goal.returns
returns c = split_at c.args.word.now c.split_once.result
    (split_once_first 61 c.args.word.now c.split_once.result c.split_once.ensures.cases (lit< tt))
