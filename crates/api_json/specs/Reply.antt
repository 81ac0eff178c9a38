-- The bodies of replies (Vault's documentation, "HTTP API").
use Rattle.std.specs.Prelude.{◌∷◌, ◌++◌, ℕ, [], List, true, false, Option, Some, None}
use Rattle.broker_types.specs.Words.{Text}
use Rattle.broker_types.specs.declared.reply.Reply.{Reply}
use Rattle.api_json.specs.Names.{◌⟼◌}
use Rattle.api_json.specs.Printing.{object_of, quoted, whole_number, bool_text, or_null, null_text}
use Rattle.api_json.specs.declared.name.Name.TheVariants as name

-- the members by name
abbrev pub reply_members : Reply → List (Text × Text)
reply_members r =
    name.Auth ⟼ or_null r.auth
    ∷ name.Payload ⟼ or_null r.payload
    ∷ name.LeaseDuration ⟼ whole_number r.lease_duration
    ∷ name.LeaseId ⟼ quoted r.lease_id
    ∷ name.Renewable ⟼ bool_text r.renewable
    ∷ name.RequestId ⟼ quoted r.request_id
    ∷ name.Warnings ⟼ null_text
    ∷ name.WrapInfo ⟼ or_null r.wrap_info
    ∷ []

-- the body of a reply: compact JSON with the members by name, and a line feed (Vault's documentation, "HTTP API"; the
-- order is this project's)
unfoldable pub reply_text : Reply → Text
reply_text r = object_of (reply_members r) ++ 10 ∷ []

-- a reply with no more than what was asked for
abbrev pub plain_reply : Text → Text → Reply
plain_reply request payload =
    record {
      auth = None;
      payload = Some payload;
      lease_duration = 0;
      lease_id = [];
      renewable = false;
      request_id = request;
      wrap_info = None;
    }

-- a reply with no more than a wrapping token
abbrev pub wrap_reply : Text → Text → Reply
wrap_reply request info =
    record {
      auth = None;
      payload = None;
      lease_duration = 0;
      lease_id = [];
      renewable = false;
      request_id = request;
      wrap_info = Some info;
    }

-- a reply with a lease, which can be renewed, by its id and the seconds to its end
abbrev pub lease_reply : Text → Text → ℕ → Option Text → Reply
lease_reply request lease_id seconds payload =
    record {
      auth = None;
      payload = payload;
      lease_duration = seconds;
      lease_id = lease_id;
      renewable = true;
      request_id = request;
      wrap_info = None;
    }
