-- The names that specs and proofs cite most, passed on from one place. Declares nothing.
-- of the crates below
pub use Rattle.broker_model.specs.Words.{counted}
-- definitions
pub use Rattle.broker_rows.specs.Caller.{AreItsRules, AreRulesAt, Asker, Caller, IsCallerOf}
pub use Rattle.broker_rows.specs.ClockRow.{HasClock, HasNoClock, NeedsClock}
pub use Rattle.broker_rows.specs.Context.{Context}
pub use Rattle.broker_rows.specs.Done.{answered_of, IsDone}
pub use Rattle.broker_rows.specs.Ending.{AreTokenLong, has_no_uses, LeavesNothing, LosesObjects, of_belongings}
pub use Rattle.broker_rows.specs.Left.{HaveEnded}
pub use Rattle.broker_rows.specs.Marks.{are_unmarked}
pub use Rattle.broker_rows.specs.Operating.{ActsAs, ArePrinted, Begins, BeginsBy, is_of_engine, IsWellFormed, Performs}
pub use Rattle.broker_rows.specs.Representing.{Gives, Represents}
-- laws
pub use Rattle.broker_rows.specs.EndingLaws.{is_elsewhere, is_lease, is_object, leaves_others, no_token, other_tokens}
pub use Rattle.broker_rows.specs.EndingLaws.{others_kept}
pub use Rattle.broker_rows.specs.LeftLaws.{revoked_left}
pub use Rattle.broker_rows.specs.MarkLaws.{marked, marks_joined}
pub use Rattle.broker_rows.specs.OperatingLaws.{acts_absent, acts_found}
pub use Rattle.broker_rows.specs.RepresentingLaws.{caller_len, changed_leases, everything, leases_still, mounts_there}
pub use Rattle.broker_rows.specs.RepresentingLaws.{named_policies_there, one_kind, policies_there, represents_dropped}
pub use Rattle.broker_rows.specs.RepresentingLaws.{represents_leases, represents_next, represents_tokens}
pub use Rattle.broker_rows.specs.RepresentingLaws.{represents_waiting, still_represented, tells_part, tokens_long}
pub use Rattle.broker_rows.specs.SpendingLaws.{represents-spend}
