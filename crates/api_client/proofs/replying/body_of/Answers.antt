use Rattle.api_client.specs.Words.{◌++◌, ◌<◌, length, arith, Consumes-trans}
use Rattle.api_client.proofs.ReplyLemmas.{body_more}
use Rattle.api_client.proofs.replying.body_of.Goals as goal

pub loop-reader-preserved : goal.loop-reader-preserved
loop-reader-preserved g c =
    let i = c.loop-reader.invariant in
    let r = c.in_ok-read_some.ensures.ok in
    let short : length c.loop-reader.body.items < c.args.len = omega (arith, c.loop-reader.body.ok.0) in (
      i.0 ++ r.more,
      Consumes-trans _ _ _ i.0 r.more i.1 r.consumed,
      body_more c.args.len c.args.begun.now i.0 r.more c.loop-reader.body.items c.read_some.new.bytes.items i.2 short
          r.added r.fits,
    )
