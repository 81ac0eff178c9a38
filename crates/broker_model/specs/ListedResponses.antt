-- What the broker answers, listed (Vault's documentation, "HTTP API", status codes).
use Rattle.std.specs.Prelude.{◌≡◌, ◌⊎◌}
use Rattle.records.specs.Words.{Response, IsRefused, Reply}
use Rattle.broker_types.specs.declared.status.Status.TheVariants as status
use Rattle.api_json.specs.Words.{reply_text}
use Rattle.broker_model.specs.Responses.{not_found}

-- a 404 with a reply, as for a version of a secret that was deleted
abbrev pub IsMissing : Response → Type 0
IsMissing r = (why : Reply) × (r ≡ not_found (reply_text why))

-- a success, the answer to a refused request, or a 404 with a reply
abbrev pub IsListed : Response → Type 0
IsListed r = ((r.status ≡ status.Success) ⊎ (r.status ≡ status.NoContent)) ⊎ (IsRefused r ⊎ IsMissing r)
