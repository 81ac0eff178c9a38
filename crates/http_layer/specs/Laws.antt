-- Laws of the definitions (this project's). Each is a clause of a function of `src/laws.rt` that does nothing.
use Rattle.std.specs.Prelude.{◌≡◌, ◌≢◌, ◌<◌, ◌≤◌, ◌∷◌, ◌++◌, ℕ, Bool, List, [], length, decimal, Ok, IfErr}
use Rattle.httparse.specs.Grammar.{Field, print_request}
use Rattle.broker_types.specs.Words.{longest_body, Response}
use Rattle.broker_types.specs.declared.status.Status.{Status}
use Rattle.http_layer.specs.Asked.{asked}
use Rattle.http_layer.specs.Front.{Front, need, refused_with, whole, IsFront, content_length}
use Rattle.http_layer.specs.HeadParts.{HeadParts, parts_of}
use Rattle.http_layer.specs.ListedRefusals.{IsFrontRefusal, IsAskRefusal}
use Rattle.http_layer.specs.Printed.{printed_head, CanBeSent}
use Rattle.http_layer.specs.Reply.{IsReply}

-- ---- fronts

-- a stream has at most one front
abbrev pub FrontIsUnique : Type 0
FrontIsUnique = (s : List ℕ) (f g : Front) → IsFront s f → IsFront s g → f ≡ g

-- more bytes do not change a front that is known
abbrev pub KnownFrontStays : Type 0
KnownFrontStays = (s t : List ℕ) (f : Front) → IsFront s f → f ≢ need → IsFront (s ++ t) f

-- a whole request takes at least one byte, and no more than there are
abbrev pub WholeRequestIsWithin : Type 0
WholeRequestIsWithin =
    (s : List ℕ) (len : ℕ) (head : HeadParts) (body : List ℕ)
    → IsFront s (whole len head body) → (0 < len) × (len ≤ length s)

-- the body of a whole request is at most 1,048,576 bytes long
abbrev pub WholeRequestHasShortBody : Type 0
WholeRequestHasShortBody =
    (s : List ℕ) (len : ℕ) (head : HeadParts) (body : List ℕ)
    → IsFront s (whole len head body) → length body ≤ longest_body

-- The printed head and the body after it are a whole request of exactly these bytes, with these parts and this body.
abbrev pub PrintedRequestIsFront : Type 0
PrintedRequestIsFront =
    (method target : List ℕ) (fields : List Field) (body : List ℕ)
    → CanBeSent (printed_head method target fields) body
    → IsFront (print_request (printed_head method target fields) ++ body)
    (whole (length (print_request (printed_head method target fields) ++ body))
    (parts_of (printed_head method target fields)) body)

-- the length of a body, printed in decimal digits, is read again
abbrev pub PrintedLengthIsRead : Type 0
PrintedLengthIsRead = (n : ℕ) → n ≤ longest_body → content_length (decimal n ∷ []) ≡ Ok n

-- ---- replies

-- a response at a moment has one reply
abbrev pub ReplyIsUnique : Type 0
ReplyIsUnique =
    (r : Response) (moment : ℕ) (close : Bool) (x y : List ℕ)
    → IsReply r moment close x → IsReply r moment close y → x ≡ y

-- a reply has at least one byte
abbrev pub ReplyIsNotEmpty : Type 0
ReplyIsNotEmpty =
    (r : Response) (moment : ℕ) (close : Bool) (bytes : List ℕ) → IsReply r moment close bytes → 0 < length bytes

-- ---- refusals

-- the status that refuses a front is listed
abbrev pub FrontRefusalIsListed : Type 0
FrontRefusalIsListed = (s : List ℕ) (status : Status) → IsFront s (refused_with status) → IsFrontRefusal status

-- the refusal of a request that asks nothing is listed
abbrev pub AskRefusalIsListed : Type 0
AskRefusalIsListed = (head : HeadParts) (body : List ℕ) → IfErr (asked head body) IsAskRefusal
