use Rattle.token_tree.specs.Words.{create_sound, renew_sound}
use Rattle.token_tree.proofs.laws.edits_keep_soundness.Goals as goal

pub returns-clause-created : goal.returns-clause-created
returns-clause-created c forms who b t x sound made = create_sound b t x forms who sound made

pub returns-clause-renewed : goal.returns-clause-renewed
returns-clause-renewed c forms who b t ends sound good = renew_sound forms who b t ends sound good
