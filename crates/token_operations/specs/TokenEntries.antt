-- The tokens of rows: what a row tells of a token, and the row of a new one (this project's definition).
use Rattle.broker_model.specs.Words.{ℕ, List, Option, from_entries, Text, empty, Token, TokenEntry, token_entry}
use Rattle.broker_model.specs.Words.{TokenCreation, new_token}

-- the token that a row tells, without a cubbyhole and leases
abbrev pub token_told : TokenEntry → Token
token_told e =
    record {
      parent = e.parent;
      accessor = e.accessor;
      policies = e.policies;
      issued = e.issued;
      ends = e.ends;
      ttl = e.ttl;
      explicit_max_ttl = e.explicit_max_ttl;
      period = e.period;
      uses_left = e.uses_left;
      meta = from_entries e.meta;
      cubbyhole = empty;
      leases = empty;
    }

-- what the row of a new token tells
abbrev pub new_entry : ℕ → Option Text → Text → List Text → TokenCreation → TokenEntry
new_entry now parent accessor policies asked =
    record (token_entry (new_token now parent accessor policies asked)) { meta = asked.meta }
