use Rattle.status.proofs.replying.reply.Goals as goal

pub returns : goal.returns
returns c = record {
  asks = c.read_asked-asked.result;
  is_asked = c.read_asked-asked.ensures;
  date = c.date_of-date.result;
  at_moment = c.date_of-date.ensures;
  reply_is = c.in_ok-reply.ensures;
}
