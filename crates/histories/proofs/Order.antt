-- What the laws cite of the order of one request: its cases, what it keeps, and when it is served. Declares nothing.
pub use Rattle.histories.proofs.OrderCases.{IsCaller, IsServed, IsTurnedAway, IsTurnedDown, order_cases, some_ok, spent}
pub use Rattle.histories.proofs.OrderCases.{with_caller}
pub use Rattle.histories.proofs.OrderKeeps.{end_spent_same, end_spent_waiting, first_new, IsWrapped, own_new}
pub use Rattle.histories.proofs.OrderKeeps.{spent_clock, spent_used, spent_waiting, was_kept, wrapped_cases}
pub use Rattle.histories.proofs.Requests.{acts_same, answers_plainly, asked_at, command_plain, history_keeps}
pub use Rattle.histories.proofs.Requests.{is_wrap_of, means_at_clock, spent_mounts, tells_body}
pub use Rattle.histories.proofs.Served.{cases, nothing_is_no_reply, refused_code, refused_or_served, Served, served}
