-- What a listener hands out (this project's definition).
use Rattle.std.specs.Prelude.{◌≡◌, List, [], Option, None, Some}
use Rattle.hub.specs.Supplies.{GivesInTurn}
use Rattle.server.specs.declared.ends.Arrival.{Arrival}
use Rattle.server.specs.declared.ends.Arrival.TheVariants.{Came, Failed, Interrupted, Lost, NoneWaits, Scarce}

-- two ends were handed out, or the listener is as before
abbrev pub Accepts : {L R W : Type 0} → (L → (R × W) → L → Type 0) → L → Arrival R W → L → Type 0
Accepts may_accept old (Came reader writer address) new = may_accept old (reader, writer) new
Accepts may_accept old Lost new = new ≡ old
Accepts may_accept old NoneWaits new = new ≡ old
Accepts may_accept old Interrupted new = new ≡ old
Accepts may_accept old Scarce new = new ≡ old
Accepts may_accept old Failed new = new ≡ old

-- these ends were handed out, in their order, by a listener that may have been dropped since
abbrev pub HandsOut : {L R W : Type 0} → (L → (R × W) → L → Type 0) → Option L → Option L → List (R × W) → Type 0
HandsOut may_accept None None ends = ends ≡ []
HandsOut may_accept None (Some after) ends = ⊥
HandsOut {L} may_accept (Some before) None ends = (after : L) × GivesInTurn may_accept before after ends
HandsOut may_accept (Some before) (Some after) ends = GivesInTurn may_accept before after ends
