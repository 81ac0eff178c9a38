-- What a store that tells the log shows (this project's definition).
use Rattle.server.specs.declared.noting.Noting.{Noting}

-- the store below
abbrev pub store_of : {S : Type 0} → Noting S → S
store_of noting = noting.store
