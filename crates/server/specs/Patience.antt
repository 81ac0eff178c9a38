-- How long a peer may keep its place, in milliseconds (this project's limits).
use Rattle.std.specs.Prelude.{◌||◌, if◌then◌else◌, ℕ, Bool, false, nat_lt, not, true}
use Rattle.server.specs.declared.waiting.Claim.{Claim}
use Rattle.server.specs.declared.waiting.Claim.TheVariants.{Idle, Stays, Unfinished}
use Rattle.server.specs.declared.waiting.Wait.{Wait}
use Rattle.server.specs.declared.waiting.Wait.TheVariants.{NextRequest, Progress, Farewell}

-- how long it may take to ask again where its place is wanted, or to end after its last reply: a quarter of a second
abbrev pub short_pause : ℕ
short_pause = 250

-- how long it may take to ask again: a minute and a half
abbrev pub long_pause : ℕ
long_pause = 90000

-- how long it may take within a request or a reply where its place is wanted: a second
abbrev pub short_exchange : ℕ
short_exchange = 1000

-- how long it may neither send nor take a byte: five seconds
abbrev pub longest_silence : ℕ
longest_silence = 5000

-- how long it may take to send one request, or to take one reply: twenty seconds
abbrev pub longest_exchange : ℕ
longest_exchange = 20000

-- whether what comes is passed over
abbrev pub is_farewell : Wait → Bool
is_farewell NextRequest = false
is_farewell Progress = false
is_farewell Farewell = true

-- Whether its time is over, by the time since the last byte, and the age of what is waited for.
abbrev pub is_over : Wait → ℕ → ℕ → Bool → Bool
is_over NextRequest silence age is_pressed = not (nat_lt age (if is_pressed then short_pause else long_pause))
is_over Progress silence age is_pressed = not (nat_lt silence longest_silence) || not (nat_lt age longest_exchange)
is_over Farewell silence age is_pressed = not (nat_lt age short_pause)

-- Whether it may have to leave its place to one that waits, by whether something that it sent is still to be read, and
-- the age of what is waited for: once it has been idle for a quarter of a second, or within a request for a second.
abbrev pub claim_of : Wait → Bool → ℕ → Claim
claim_of NextRequest true age = Stays
claim_of NextRequest false age = if nat_lt age short_pause then Stays else Idle age
claim_of Progress has_more age = if nat_lt age short_exchange then Stays else Unfinished age
claim_of Farewell has_more age = Stays

-- Whether one has to leave before another: who is idle before who is within a request, and of two alike the one that
-- has been so longer.
abbrev pub goes_before : Claim → Claim → Bool
goes_before Stays other = false
goes_before (Unfinished age) Stays = true
goes_before (Unfinished age) (Unfinished other) = nat_lt other age
goes_before (Unfinished age) (Idle other) = false
goes_before (Idle age) Stays = true
goes_before (Idle age) (Unfinished other) = true
goes_before (Idle age) (Idle other) = nat_lt other age
