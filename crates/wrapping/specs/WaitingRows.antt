-- What the rows of responses that wait say, whatever they are, and how calls on one response change them (this
-- project's row format).
use Rattle.std.specs.Prelude.{◌≡◌, ℕ, Bool, Option, Some, None, option_map, is_some}
use Rattle.records.specs.Words.{Text, Broker, Waiting, OnePlaceEach, SoundWaiting, of_waiting, Tells, IsWaitingInRange}
use Rattle.records.specs.Words.{IsRowOf, waiting_row, accessor_row, Table, with_row, without_row}
use Rattle.records.specs.declared.holder.Holder.TheVariants as holder
use Rattle.records.specs.declared.kind.Kind.TheVariants as kind
use Rattle.wrapping.specs.Wrapping.{moved}

-- The rows of waiting responses and of accessors are those of the broker b, whose waiting responses are sound, and
-- which has each identifier in one place. This holds within a request too, where a caller may have spent its last use.
pub record RepresentsWaiting (rows : Table) (b : Broker) : Type 0 where
  pub sound : SoundWaiting b.waiting
  pub one_place : OnePlaceEach b
  pub tells : Tells of_waiting rows b

-- ---- the row of one response

-- the row of t is that of the response, or there is none
abbrev pub IsWaitingAt : Table → Text → Option Waiting → Type 0
IsWaitingAt rows t w = IsRowOf IsWaitingInRange waiting_row (rows kind.Waiting t) w

-- the row of t is that of some response, or there is none
abbrev pub IsReadableWaiting : Table → Text → Type 0
IsReadableWaiting rows t = (w : Option Waiting) × IsWaitingAt rows t w

-- the row of t is no row of a response
abbrev pub IsDamagedWaiting : Table → Text → Type 0
IsDamagedWaiting rows t = (w : Option Waiting) → IsWaitingAt rows t w → ⊥

-- ---- a response put in, and taken out

-- the table with the row of the response under t, and that of its accessor
abbrev pub with_response : Table → Text → Waiting → Table
with_response rows t w =
    with_row (with_row rows kind.Waiting t (waiting_row w)) kind.Accessor w.accessor
    (accessor_row t holder.WrappingToken)

-- the table without the row of t, and without that of the accessor
abbrev pub without_response : Table → Text → Text → Table
without_response rows t accessor = without_row (without_row rows kind.Accessor accessor) kind.Waiting t

-- the table without the rows of the response under t, if there is one
abbrev pub without_entry : Table → Text → Option Waiting → Table
without_entry rows t None = rows
without_entry rows t (Some w) = without_response rows t w.accessor

-- The response of t was w, or there was none. Its rows are gone, and no other row has changed.
pub record TakesOut (t : Text) (old : Table) (w : Option Waiting) (new : Table) : Type 0 where
  pub was : IsWaitingAt old t w
  pub is : new ≡ without_entry old t w

-- the same of a response of which the text of the reply is known
abbrev pub TakesText : Text → Table → Option Text → Table → Type 0
TakesText t old text new =
    (w : Option Waiting) × TakesOut t old w new × (text ≡ option_map (λ (w : Waiting). w.reply) w)

-- and of one of which nothing is known but whether it was there
abbrev pub Drops : Text → Table → Bool → Table → Type 0
Drops t old dropped new = (w : Option Waiting) × TakesOut t old w new × (dropped ≡ is_some w)

-- ---- a response moved

-- the table in which the response w of t, if there is one, has its rows under u
abbrev pub with_moved : Table → Text → Text → Text → ℕ → Option Waiting → Table
with_moved rows t u accessor now None = rows
with_moved rows t u accessor now (Some w) =
    with_response (without_response rows t w.accessor) u (moved accessor now w)

-- The response of t was some w, or there was none. It has its rows under u, moved, and no other row has changed.
pub record Rewraps (t u accessor : Text) (now : ℕ) (old : Table) (found : Option Waiting) (new : Table) : Type 0 where
  pub response : Option Waiting
  pub was : IsWaitingAt old t response
  pub is_moved : found ≡ option_map (moved accessor now) response
  pub is : new ≡ with_moved old t u accessor now response
