-- The names that specs and proofs cite most, passed on from one place. Declares nothing.
-- types of this crate, for its proofs alone
pub use Rattle.soundness.specs.declared.trouble.Rule.{Rule}
pub use Rattle.soundness.specs.declared.trouble.Trouble.{Trouble}
pub use Rattle.soundness.specs.declared.visiting.Notes.{Notes}
pub use Rattle.soundness.specs.declared.visiting.Walk.{Walk}
-- definitions
pub use Rattle.soundness.specs.Broken.{Breaks, BreaksAccessor, BreaksAt, BreaksChain, BreaksCredential, BreaksMark}
pub use Rattle.soundness.specs.Broken.{BreaksNumber, BreaksOrigin, BreaksOwner, BreaksParent, BreaksPlace, BreaksText}
pub use Rattle.soundness.specs.Broken.{BreaksUses, HasIdentifier, IsInFormat, IsKeyOf, IsKeyRow, IsVersionKey, RootedIn}
pub use Rattle.soundness.specs.Broken.{Shows}
pub use Rattle.soundness.specs.Chains.{AreQueued, HasEachRooted, HasWordOf, OnlyAdds}
pub use Rattle.soundness.specs.Notes.{AddsOnly, AreApart, AreNotedIdentifiers, AreNotedOrigins, AreTrue}
pub use Rattle.soundness.specs.Notes.{GoesOnFrom, HasOrigin, IsEntry, IsFresh, IsNotNoted, Spares}
pub use Rattle.soundness.specs.Notes.{StopsNoting}
pub use Rattle.soundness.specs.RowRules.{Held, IsClock, IsCredentialOf, IsKeyAt, IsLeaseAt, IsNamedBy, IsObjectAt, IsOf}
pub use Rattle.soundness.specs.RowRules.{IsSoundAt, IsTokenAt, IsVersionAt, IsWaitingAt, Named, Owned}
pub use Rattle.soundness.specs.SoundRows.{AreOfOneOrigin, AreSound, Ends, EndsIn, HasItsIdentifier, IsHad, Places}
pub use Rattle.soundness.specs.Texts.{are_fit, is_fit, IsRoleName}
pub use Rattle.soundness.specs.Visiting.{EachEnds, Finds, Grows, HasItsEnd, HasItsOrigin, IsAbove, IsPassed}
pub use Rattle.soundness.specs.Visiting.{noted}
pub use Rattle.soundness.specs.Walks.{CanBeWalked, IsApartFrom, IsListed, IsNumbered, IsOfKind, IsOfKinds, Tells}
pub use Rattle.soundness.specs.Walks.{Walked}
pub use Rattle.soundness.specs.Walks.{WasPassed, number_of}
-- laws
pub use Rattle.soundness.specs.Laws.{AreOfABroker, RowsOfABrokerAreSound, SoundRowsAreOfABroker}
