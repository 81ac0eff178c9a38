-- What is noticed of a request (this project's definition).
use Rattle.std.specs.Prelude.{◌≡◌, Option, Some, IfSome, option_map}
use Rattle.broker_model.specs.Words.{Text, Broker, Token, get, Outcome, for_caller}
use Rattle.broker.specs.declared.aids.Aids.{Aids}
use Rattle.broker.specs.declared.noticed.Noticed.{Noticed}

-- what was noticed of the last request
abbrev pub noticed_by : Aids → Noticed
noticed_by aids = aids.noticed

-- the caller of an ask with this client token, whose accessor is a
abbrev pub HasAccessor : Broker → Option Text → Text → Type 0
HasAccessor b token a =
    (c : Text) × ((go : Text → Outcome) → for_caller b token go ≡ go c)
    × (option_map (λ (x : Token). x.accessor) (get b.tokens c) ≡ Some a)

-- an accessor that was noticed is that of the caller, and of nobody else
abbrev pub NoticesCaller : Broker → Option Text → Noticed → Type 0
NoticesCaller b token noticed = IfSome noticed.accessor (HasAccessor b token)
