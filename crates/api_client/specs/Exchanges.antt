-- What an exchange with a server sends, prints and answers (this project's definition).
use Rattle.std.specs.Prelude.{◌≡◌, ◌⊎◌, ◌∷◌, ◌++◌, ℕ, Bool, true, false, IsTrue, List, [], codes, Option}
use Rattle.broker_types.specs.Words.{Some, Result, Ok, Err, ⊤, Appends, Text}
use Rattle.api_client.specs.Replies.{BeginsWithReply}
use Rattle.api_client.specs.ReplyReads.{HasNoReply}
use Rattle.api_client.specs.Requests.{sent}
use Rattle.api_client.specs.Shows.{IsShown}
use Rattle.api_client.specs.declared.command.Command.{Command}
use Rattle.api_client.specs.declared.failure.Failure.{Failure}
use Rattle.api_client.specs.declared.failure.Failure.TheVariants.{Memory, Unreached, Unwritten, BadReply}
use Rattle.api_client.specs.declared.manner.Manner.{Manner}
use Rattle.api_client.specs.declared.reply.Reply.{Reply}
use Rattle.api_client.specs.declared.shown.Shown.{Shown}

-- the line that tells a failure
abbrev pub failure_line : Failure → Text
failure_line Memory = codes "fault 1" ++ 10 ∷ []
failure_line Unreached = codes "fault 5" ++ 10 ∷ []
failure_line Unwritten = codes "fault 6" ++ 10 ∷ []
failure_line BadReply = codes "bad reply" ++ 10 ∷ []

-- the exit status after a failure: 3 if the server is not reached, where exit codes are asked for, else 1
abbrev pub failure_status : Bool → Failure → ℕ
failure_status true Unreached = 3
failure_status exit_codes failure = 1

-- if it is known what is left to read, it begins with the reply
abbrev pub HasReply : Option (List ℕ) → Reply → Type 0
HasReply left reply = (input : List ℕ) → left ≡ Some input → BeginsWithReply input reply

-- The answer of a server, by what was written to it before and after, whether a write failed, what was left to read,
-- and whether a read failed: the reply to the command's bytes, or why there is none.
abbrev pub IsAnswer : Command → Option (List ℕ) → Option (List ℕ) → Bool → Option (List ℕ) → Bool
    → Result Reply Failure → Type 0
IsAnswer command before after write_failed left read_failed (Ok reply) =
    Appends before after (sent command) × HasReply left reply
IsAnswer command before after write_failed left read_failed (Err BadReply) =
    Appends before after (sent command) × (IsTrue read_failed ⊎ HasNoReply left)
IsAnswer command before after write_failed left read_failed (Err Unwritten) = IsTrue write_failed
IsAnswer command before after write_failed left read_failed (Err Memory) = ⊤
IsAnswer command before after write_failed left read_failed (Err Unreached) = ⊥

-- the line of the failure was written, or a write failed
abbrev pub IsTold : Failure → Option (List ℕ) → Option (List ℕ) → Bool → Type 0
IsTold failure before after failed = Appends before after (failure_line failure) ⊎ IsTrue failed

-- the text was written, or a write failed
abbrev pub IsWritten : Text → Option (List ℕ) → Option (List ℕ) → Bool → Type 0
IsWritten text before after failed = Appends before after text ⊎ IsTrue failed

-- what the definition says is printed, with its exit status
abbrev pub IsShownAs : Manner → Reply → Option (List ℕ) → Option (List ℕ)
    → Option (List ℕ) → Option (List ℕ) → Bool → ℕ → Type 0
IsShownAs manner reply out_before out err_before err err_failed status =
    (shown : Shown) × IsShown manner reply shown × Appends out_before out shown.out
    × IsWritten shown.err err_before err err_failed × (status ≡ shown.status)

-- What is printed of an answer, on standard output and on standard error, each by what was written there before and
-- after and whether a write failed; and the exit status. In the plain manner memory does not run out.
abbrev pub IsReport : Manner → Result Reply Failure → Option (List ℕ) → Option (List ℕ) → Bool
    → Option (List ℕ) → Option (List ℕ) → Bool → ℕ → Type 0
IsReport manner (Ok reply) out_before out out_failed err_before err err_failed status =
    IsShownAs manner reply out_before out err_before err err_failed status
    ⊎ (IsTrue out_failed × IsTold Unwritten err_before err err_failed × (status ≡ 1))
    ⊎ ((manner.plain ≡ false) × Appends out_before out [] × IsTold Memory err_before err err_failed × (status ≡ 1))
IsReport manner (Err failure) out_before out out_failed err_before err err_failed status =
    Appends out_before out [] × IsTold failure err_before err err_failed
    × (status ≡ failure_status manner.exit_codes failure)
