use Rattle.status.specs.Page.{with_start}
use Rattle.status.proofs.page.put_start.Goals as goal

pub returns : goal.returns
unfolding with_start
returns c =
    let begun = c.in_ok-put.ensures in
    let timed = c.in_ok-put_time.ensures in
    let comma = c.in_ok-put-2.ensures in
    let ago = c.uptime.ensures in
    let counted = c.in_ok-put_whole.ensures in
    let ended = c.in_ok-put-3.ensures in
    cc
