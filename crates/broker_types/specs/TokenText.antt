-- The texts of tokens (Vault's documentation, "Tokens", token prefixes).
use Rattle.std.specs.Prelude.{◌++◌, codes}
use Rattle.broker_types.specs.Text.{Text}

-- the token of an identifier
abbrev pub token_text : Text → Text
token_text identifier = codes "hvs." ++ identifier
