-- The part of responses that wait: what the commands of the routes under `sys/wrapping/` do to the maps (Vault's
-- documentation, "Response wrapping", "/sys/wrapping").
use Rattle.records.specs.Words.{[], Option, Some, None, Result, Ok, option_map, Text, get, Names, token_text, Broker}
use Rattle.records.specs.Words.{Waiting, reply, kept_text, plainly, Done, ◌>>=◌, some_or, drop_waiting, Refusal, Reply}
use Rattle.broker_types.specs.declared.refusal.Refusal.TheVariants as refusal
use Rattle.broker_types.specs.declared.refusal.Reason.TheVariants as reason
use Rattle.wrapping.specs.Wrapping as wrapping
use Rattle.wrapping.specs.Words.{moved}
use Rattle.api_json.specs.Words.{waiting_object, plain_reply, wrap_reply}
use Rattle.broker_model.specs.Order.{wrap_info}
use Rattle.broker_model.specs.Traits.{wrapping_names}
use Rattle.broker_model.specs.declared.commands.WrappingCommand.{WrappingCommand}
use Rattle.broker_model.specs.declared.commands.WrappingCommand.TheVariants as command

-- ---- the response that is meant

-- a response that waits, and its wrapping token
pub record FoundResponse : Type 0 where
  pub token : Text
  pub response : Waiting

-- the response under its wrapping token
abbrev pub found_under : Text → Waiting → FoundResponse
found_under t w = record { token = t; response = w }

-- what waits under the wrapping token that is meant, if one is
abbrev pub found_at : Broker → Option Text → Option FoundResponse
found_at b None = None
found_at b (Some t) = option_map (found_under t) (get b.waiting t)

-- the response that is meant; if there is none, 400 `wrapping token is not valid or does not exist`
abbrev pub found : Broker → Option Text → Result FoundResponse Refusal
found b meant = some_or (refusal.BadRequest reason.InvalidWrappingToken) (found_at b meant)

-- ---- the part

-- the reply that shows the response without its text
abbrev pub shown_response : Names → FoundResponse → Reply
shown_response names f = plain_reply names.request (waiting_object f.response.path f.response.created f.response.ttl)

-- the response moves to the wrapping token of the request's words, which is made at the clock
abbrev pub rewrapped : Broker → Names → FoundResponse → Done
rewrapped b names f =
    let token = token_text names.wrapping_token in
    record {
      answered =
          reply
          (wrap_reply names.request (wrap_info token (moved names.wrapping_accessor b.clock f.response) None)) None;
      next = wrapping.rewrap b f.token token names.wrapping_accessor b.clock;
      taken = wrapping_names names;
      handed = None;
    }

-- the response is handed out, byte for byte, and is gone
abbrev pub handed_out : Broker → FoundResponse → Done
handed_out b f =
    record {
      answered = kept_text f.response.reply;
      next = drop_waiting b f.token;
      taken = [];
      handed = Some f.response.origin;
    }

-- what a command does, with a caller or without
abbrev pub act_on_wrappings : Broker → Names → WrappingCommand → Result Done Refusal
act_on_wrappings b names (command.Wrap text) = Ok (plainly (reply (plain_reply names.request text) None) b)
act_on_wrappings b names (command.LookUp meant) = do
  f ← found b meant
  Ok (plainly (reply (shown_response names f) None) b)
act_on_wrappings b names (command.Rewrap meant) = do
  f ← found b meant
  Ok (rewrapped b names f)
act_on_wrappings b names (command.Unwrap meant) = do
  f ← found b meant
  Ok (handed_out b f)
