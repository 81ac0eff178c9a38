use Rattle.broker_model.specs.Words.{None, Err, sym, ap, ◌∙◌, err_from_is_err_and, honest_before, on_answer_weaker}
use Rattle.broker_model.specs.Words.{names_of, Route, command_for}
use Rattle.broker_rows.specs.Words.{Begins, IsWellFormed, mounts_there, still_represented}
use Rattle.broker.specs.Meant.{meant}
use Rattle.broker.proofs.Routes.{allowed_openly, found_is, is_meant, not_meant, not_routed, served_allowed, served_by}
use Rattle.broker.proofs.EngineRoutes.{mount_named}
use Rattle.broker.proofs.order.opening.serve_openly.Goals as goal

-- ---- the route

pub returns-in_err-found-clause-told : goal.returns-in_err-found-clause-told
returns-in_err-found-clause-told g c opens honest b starts =
    let seen = g.T.RecordsTx.seen in
    let old = (seen c.args.tx.now).rows in
    let new = (seen c.route.new.tx).rows in
    let ask = c.args.ask.now in
    let names = names_of c.args.context.now.words in
    let e = c.in_err-found.field-0.0 in
    let p = err_from_is_err_and c.from_residual.result c.from_residual.ensures.1 in
    rw (p.1 ∙ ap Err p.2)
    (served_allowed b None names ask new (Err e) (allowed_openly b None ask opens)
    (not_routed b None names ask new e c.as_str-path.result.now c.as_str-path.ensures.text
    (c.in_err-found.ensures.told honest b.mounts (mounts_there b old starts.represents))
    (on_answer_weaker {A = Route} (Err e) (λ same. still_represented b old new same starts.represents)
    (c.in_err-found.ensures.call.same honest))))

-- ---- the body is read

pub returns-in_err-command-clause-told : goal.returns-in_err-command-clause-told
returns-in_err-command-clause-told g c opens honest b starts =
    let seen = g.T.RecordsTx.seen in
    let old = (seen c.args.tx.now).rows in
    let new = (seen c.route.new.tx).rows in
    let ask = c.args.ask.now in
    let names = names_of c.args.context.now.words in
    let route = c.in_ok-found.found in
    let e = c.in_err-command.field-0.0 in
    let routed = c.in_ok-found.ensures.told honest b.mounts (mounts_there b old starts.represents) in
    let p = err_from_is_err_and c.from_residual-in_err-command.result c.from_residual-in_err-command.ensures.1 in
    rw (p.1 ∙ ap Err p.2)
    (served_allowed b None names ask new (Err e) (allowed_openly b None ask opens)
    (served_by b None names ask new (Err e) route c.as_str-path.result.now c.as_str-path.ensures.text
    (found_is _ route routed)
    (not_meant b None names ask new (command_for route ask) e c.in_err-command.ensures.reads
    (still_represented b old new (c.in_ok-found.ensures.call.same honest) starts.represents))))

-- ---- the command leads to what it does

pub operate-requires : goal.operate-requires
operate-requires g c = record { in_range = c.in_ok-command.ensures.in_range; known = λ x e. absurd (cc) }

pub returns-clause-told : goal.returns-clause-told
returns-clause-told g c opens honest b starts =
    let seen = g.T.RecordsTx.seen in
    let old = (seen c.args.tx.now).rows in
    let mid = (seen c.route.new.tx).rows in
    let new = (seen c.operate.new.tx).rows in
    let path = c.as_str-path.result.now in
    let ask = c.args.ask.now in
    let names = names_of c.args.context.now.words in
    let route = c.in_ok-found.found in
    let before = honest_before (seen c.route.new.tx)
    (seen c.operate.new.tx) _ c.operate.ensures.call.goes_on honest in
    let then = still_represented b old mid (c.in_ok-found.ensures.call.same before) starts.represents in
    let found = found_is _ route (c.in_ok-found.ensures.told before b.mounts (mounts_there b old starts.represents)) in
    let formed : IsWellFormed route = record {
      parameter = c.in_ok-found.ensures.parameter c.as_str-path.ensures.good;
      mount = λ is. mount_named b ask.verb path route starts.represents.sound.mounts (sym found) is;
    } in
    let begins : Begins None c.args.context.now mid b =
    record { represents = then; here = starts.here; clock = starts.clock } in
    served_allowed b None names ask new c.operate.result (allowed_openly b None ask opens)
    (served_by b None names ask new c.operate.result route path c.as_str-path.ensures.text found
    (is_meant b None names ask new (command_for route ask)
    (meant c.in_ok-command.command) c.operate.result c.in_ok-command.ensures.reads
    (c.operate.ensures.told (c.in_ok-command.ensures.placed formed) honest b begins)))
