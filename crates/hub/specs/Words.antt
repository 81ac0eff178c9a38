-- The names that specs and proofs cite most, passed on from one place. Declares nothing.
-- types of this crate, for its proofs alone
pub use Rattle.hub.specs.declared.connection.Connection.{Connection}
pub use Rattle.hub.specs.declared.connection.Connection.TheVariants.{Closed, Open}
pub use Rattle.hub.specs.declared.entry.Entry.{Entry}
pub use Rattle.hub.specs.declared.entry.Entry.TheVariants.{ClosedRun, One}
pub use Rattle.hub.specs.declared.event.Event.{Event}
pub use Rattle.hub.specs.declared.front.Served.{Served}
pub use Rattle.hub.specs.declared.hub.Hub.{Hub}
pub use Rattle.hub.specs.declared.link.Link.{Link}
pub use Rattle.hub.specs.declared.serve.ConnectionFault.{ConnectionFault}
pub use Rattle.hub.specs.declared.serve.ConnectionFault.TheVariants.{Broker, Read, Write}
pub use Rattle.hub.specs.declared.turn.Turn.{Turn}
pub use Rattle.hub.specs.declared.turn.Turn.TheVariants.{NeedsRoom}
-- definitions
pub use Rattle.hub.specs.AnyRows.{close_history, EventGives, EventNeedsClock, FaultsAt, FrontNeedsClock, IsFrontReply}
pub use Rattle.hub.specs.AnyRows.{IsRequestReply, NextConnections, RunConnections, TurnsOpen}
pub use Rattle.hub.specs.Asking.{AskingIsAStep, EachEventAsks, EachPlaceAsks, EventAsks, IsReplyTo, OneAsking, OpenAsks}
pub use Rattle.hub.specs.Asking.{PrefixesRun, WholeRequestsAsk}
pub use Rattle.hub.specs.Entries.{connection_at, connection_in, connections_in, IsClosedRun, IsLastUpTo, IsNextIn}
pub use Rattle.hub.specs.Entries.{last_in}
unfoldable pub use Rattle.hub.specs.Entries.{search_down}
pub use Rattle.hub.specs.Feeding.{Feeds, IsLater, IsServed, Keeps, request_len, ServesFront, TookTurn}
pub use Rattle.hub.specs.Histories.{EventAsked, EventsAsked, RunKeeps}
pub use Rattle.hub.specs.Links.{number_of, unsent}
pub use Rattle.hub.specs.ListedReplies.{IsListedReply}
pub use Rattle.hub.specs.Numbers.{IsNext, IsNextNumber}
pub use Rattle.hub.specs.Pending.{closed_at, ConnectionRepresents, EntryRepresents, is_closed, OpenedAs, Unanswered}
pub use Rattle.hub.specs.Representing.{ConnectionsRepresent, hub_connections, hub_store, hub_waiting, HubRepresents}
pub use Rattle.hub.specs.Representing.{waiting}
pub use Rattle.hub.specs.Requests.{HasNoRequest}
pub use Rattle.hub.specs.Runs.{Answers, AnswersOne, bytes_of, HadNoRoom, StopsAt, StopsTurns, TookTurns}
pub use Rattle.hub.specs.ServedConnection.{Exchange, HasEnded, IsAllowed, IsAnswered, IsEventOf, IsGone, IsUnanswered}
pub use Rattle.hub.specs.ServedConnection.{KeepsStore, LeavesClosed, LeavesOthers, longest_piece, pieces_in, Proceeds}
pub use Rattle.hub.specs.ServedConnection.{RunsBefore, sent_in, Serves, Stops}
pub use Rattle.hub.specs.Steps.{answered, answers_of, AreKnown, before_fault, closed, conn_of, faulted, fed_by, fed_in}
pub use Rattle.hub.specs.Steps.{IsStepOf, replies_in, reply_by, Step, steps_of, StepsBetween, StepsFrom, StepsTaken}
pub use Rattle.hub.specs.Steps.{stop_of}
pub use Rattle.hub.specs.Supplies.{Supplies}
pub use Rattle.hub.specs.Turning.{Passes, Says, TakesTurn, TurnsLink, TurnStops}
pub use Rattle.hub.specs.World.{AreReplyBytes, Connections, FollowsRequests, front_closes, front_effect, History}
pub use Rattle.hub.specs.World.{history_after, history_at, new_history, new_world, Next, put_history, request_closes}
pub use Rattle.hub.specs.World.{request_count, request_effect, Run, Turns, World}
-- laws
pub use Rattle.hub.specs.HistoriesLaws.{asked_on, run_left}
pub use Rattle.hub.specs.StepsLaws.{answers_each, fed_answers, fed_stopped, known_open, steps_close, steps_none}
pub use Rattle.hub.specs.StepsLaws.{steps_on, steps_proceeding, steps_stopping, steps_turned, stops_each}
pub use Rattle.hub.specs.SuppliesLaws.{Supplies-append, Supplies-nil, Supplies-one}
