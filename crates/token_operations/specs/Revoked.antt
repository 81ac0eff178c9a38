-- What a revocation does: of a token with all below it, or of one alone (this project's definition).
use Rattle.broker_model.specs.Words.{Broker, without_descendants, without_parent, Done, nothing, plainly, drop_waiting}
use Rattle.broker_model.specs.Words.{Text, Tokens}
use Rattle.token_operations.specs.declared.revocation.Descent.{Descent}
use Rattle.token_operations.specs.declared.revocation.Descent.TheVariants.{Ends, Stays}

-- the tokens that are left
abbrev pub left_by : Descent → Tokens → Text → Tokens
left_by Ends = without_descendants
left_by Stays = without_parent

-- these tokens are left, and the response that waits under t, if one does, goes
abbrev pub revoked : Descent → Broker → Text → Done
revoked descent b t = plainly nothing (drop_waiting (record b { tokens = left_by descent b.tokens t }) t)
