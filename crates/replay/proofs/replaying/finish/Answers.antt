use Rattle.replay.proofs.WritingLemmas.{Appends-more}
use Rattle.replay.proofs.replaying.finish.Goals as goal

pub loop-reply-preserved : goal.loop-reply-preserved
loop-reply-preserved g c =
    Appends-more (g.W.Sink.written c.args.writer.now) (g.W.Sink.written c.loop-reply.writer)
    (g.W.Sink.written c.push.new.self) c.args.replies.now
    c.loop-reply.reply-index c.reply-item.result c.as_slice.result.now c.loop-reply-test.true c.reply-item.is
    c.as_slice.ensures.value
    c.loop-reply.invariant c.in_default.ensures.ok
