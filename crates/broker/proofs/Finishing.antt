-- The end of a request: from what was served or refused to the outcome.
use Rattle.std.proofs.Common.{◌≡◌, Option, Some, None, Result, Ok, Err, ◌∙◌, ap}
use Rattle.broker_model.specs.Words.{Text, response_of, refused, Broker, end_spent, Answer, Refusal, Rows, Wrapped}
use Rattle.broker_model.specs.Words.{finish, response_to}
use Rattle.broker_rows.specs.Words.{Represents, Gives, answered_of, counted}
use Rattle.broker_rows.specs.declared.answered.Answered.{Answered}
use Rattle.broker.specs.Stages.{HasServed}

module _ (c : Text) (who : Option Text) (old new : Rows) (b : Broker)
    (ends : (next : Broker) → Represents who old next → Represents None new (end_spent next (Some c))) where
  -- a caller that was served
  pub finish_served : (x : Answered) (m : Result Wrapped Refusal) (a : Answer) → HasServed who old b (Ok x) m
      → response_of a ≡ response_to (answered_of x) → Gives a new (finish b (Some c) m)
  finish_served x (Ok w) a h is = record { response = is ∙ ap response_to h.0; represents = ends (counted w.done) h.1 }
  finish_served x (Err e) a h is = absurd h

  -- one that was refused
  pub finish_refused : (r : Refusal) (m : Result Wrapped Refusal) (a : Answer) → HasServed who old b (Err r) m
      → response_of a ≡ refused r → Gives a new (finish b (Some c) m)
  finish_refused r (Ok w) a h is = absurd h
  finish_refused r (Err e) a h is = record { response = is ∙ ap refused h.0; represents = ends b h.1 }

module _ (rows : Rows) (b : Broker) where
  -- an open ask that was served
  pub openly_served : (x : Answered) (m : Result Wrapped Refusal) (a : Answer) → HasServed None rows b (Ok x) m
      → response_of a ≡ response_to (answered_of x) → Gives a rows (finish b None m)
  openly_served x (Ok w) a h is = record { response = is ∙ ap response_to h.0; represents = h.1 }
  openly_served x (Err e) a h is = absurd h

  -- one that was refused
  pub openly_refused : (r : Refusal) (m : Result Wrapped Refusal) (a : Answer) → HasServed None rows b (Err r) m
      → response_of a ≡ refused r → Gives a rows (finish b None m)
  openly_refused r (Ok w) a h is = absurd h
  openly_refused r (Err e) a h is = record { response = is ∙ ap refused h.0; represents = h.1 }
