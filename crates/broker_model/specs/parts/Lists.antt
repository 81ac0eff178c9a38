-- Lists of names, as replies (Vault's documentation, the requests by the method LIST).
use Rattle.std.specs.Prelude.{◌∷◌, List, [], Bool, true, false, not, None, Result, Ok}
use Rattle.records.specs.Words.{Text, Broker, Names, reply, plainly, Done, ◌>>=◌, unless, Refusal, Reply}
use Rattle.broker_types.specs.declared.refusal.Refusal.TheVariants as refusal
use Rattle.api_json.specs.Words.{keys_object, plain_reply}

-- whether there are none
abbrev pub are_none : List Text → Bool
are_none [] = true
are_none (name ∷ names) = false

-- the reply that lists names
abbrev pub list_reply : Text → List Text → Reply
list_reply request names = plain_reply request (keys_object names)

-- what the list of a folder does to the broker, which stays: the children are shown, and none is 404
abbrev pub listed : Broker → Names → List Text → Result Done Refusal
listed b names children = do
  some ← unless (not (are_none children)) refusal.NotFound
  Ok (plainly (reply (list_reply names.request children) None) b)
