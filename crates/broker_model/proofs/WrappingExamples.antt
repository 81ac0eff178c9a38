-- The part of responses that wait, computed.
use Rattle.std.proofs.Common.{◌≡◌, [], Bool, true, false, Option, Some, None, Ok, Err, codes, refl}
use Rattle.broker_model.specs.Words.{Text, same, Verb, operation_at, optional, unwrap_meant, token_meant, is_own, opens}
use Rattle.broker_model.specs.Words.{found, Broker}
use Rattle.broker_types.specs.declared.ask.Verb.TheVariants as verb
use Rattle.broker_types.specs.declared.refusal.Refusal.TheVariants as refusal
use Rattle.broker_types.specs.declared.refusal.Reason.TheVariants as reason
use Rattle.api_json.specs.Readers as reader
use Rattle.broker_model.specs.declared.commands.WrappingCommand.TheVariants as command

-- ---- which wrapping token is meant

-- without a body, or with an empty text, the client token
client_meant : unwrap_meant (Some (codes "hvs.t")) [] ≡ Ok (command.Unwrap (Some (codes "hvs.t")))
unfolding reader.wrapping_token optional
client_meant = refl

empty_named : token_meant (Some (codes "hvs.t")) (Some []) ≡ Some (codes "hvs.t")
empty_named = refl

other_named : token_meant (Some (codes "hvs.t")) (Some (codes "hvs.u")) ≡ Some (codes "hvs.u")
other_named = refl

-- without a client token either, none; and then no response is found
none_meant : unwrap_meant None [] ≡ Ok (command.Unwrap None)
unfolding reader.wrapping_token optional
none_meant = refl

none_found : (b : Broker) → found b None ≡ Err (refusal.BadRequest reason.InvalidWrappingToken)
none_found b = refl

-- ---- which requests are open

-- by verb, path and client token, without a body
asks : Verb → Text → Option Text → Bool
asks v path token = opens v path token []

look_up_is_open : asks verb.Write (codes "sys/wrapping/lookup") None ≡ true
unfolding asks operation_at same
look_up_is_open = refl

unwrap_is_open : asks verb.Write (codes "sys/wrapping/unwrap") (Some (codes "hvs.t")) ≡ true
unfolding asks operation_at same reader.wrapping_token optional
unwrap_is_open = refl

rewrap_is_open : asks verb.Write (codes "sys/wrapping/rewrap") None ≡ true
unfolding asks operation_at same reader.wrapping_token optional
rewrap_is_open = refl

wrap_is_not : asks verb.Write (codes "sys/wrapping/wrap") (Some (codes "hvs.t")) ≡ false
unfolding asks operation_at same
wrap_is_not = refl

get_is_not : asks verb.Get (codes "sys/wrapping/unwrap") (Some (codes "hvs.t")) ≡ false
unfolding asks operation_at same
get_is_not = refl

-- an unwrap is open if its body names the client token, and not if it names another
own_named : is_own (Some (codes "hvs.t")) (Some (codes "hvs.t")) ≡ true
unfolding same
own_named = refl

another_named : is_own (Some (codes "hvs.t")) (Some (codes "hvs.u")) ≡ false
unfolding same
another_named = refl

named_without_client : is_own None (Some (codes "hvs.u")) ≡ false
named_without_client = refl
