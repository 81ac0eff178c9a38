-- Under which numbers a server has its connections (this project's definition).
use Rattle.std.specs.Prelude.{◌≡◌, ◌<◌, ◌≤◌, ℕ, Option, Some}
use Rattle.std.specs.BTreeMap.{BTreeMap, get}
use Rattle.std.specs.Option.{option_map}
use Rattle.std.specs.Ordering.{nat_cmp}
use Rattle.hub.specs.Links.{number_of, unsent}
use Rattle.server.specs.Accepted.{Connection}
use Rattle.server.specs.Patience.{is_farewell}
use Rattle.server.specs.declared.peer.Peer.{Peer}

-- the connection of a peer
abbrev pub connection_of : {R W : Type 0} → Peer R W → Connection R W
connection_of peer = record {
  reader = peer.reader.source;
  writer = peer.writer.sink;
  unsent = unsent peer.link;
  ended = is_farewell peer.wait;
}

-- a peer keeps its ends and its link
abbrev pub KeepsEnds : {R W : Type 0} → Peer R W → Peer R W → Type 0
KeepsEnds old new = (new.reader.source ≡ old.reader.source) × (new.writer.sink ≡ old.writer.sink)
    × (new.link ≡ old.link)

-- that of the number, if it is open
abbrev pub connection_at : {R W : Type 0} → BTreeMap ℕ (Peer R W) → ℕ → Option (Connection R W)
connection_at peers k = option_map connection_of (get nat_cmp peers k)

-- each has the number that it is kept under, from the first on and below the next
abbrev pub AreNumbered : {R W : Type 0} → ℕ → ℕ → BTreeMap ℕ (Peer R W) → Type 0
AreNumbered {R} {W} first next peers = (k : ℕ) (peer : Peer R W) → get nat_cmp peers k ≡ Some peer
    → (first ≤ k) × (k < next) × (number_of peer.link ≡ k)
