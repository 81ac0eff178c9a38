use Rattle.std.proofs.Common.{◌≡◌, is_some, Some, Err, true, false, sym, ap, ◌∙◌, subst}
use Rattle.broker_model.specs.Words.{same_Some, err_from_is_err_and, IsTokenInRange, honest_before, Rows, none_of}
use Rattle.broker_model.specs.Words.{ok_inj, Refused, names_of, is_path, Route, route_of, takes_parameter, command_for}
use Rattle.broker_model.specs.Words.{permits}
use Rattle.broker_rows.specs.Words.{Asker, AreRulesAt, BeginsBy, IsWellFormed, mounts_there, still_represented}
use Rattle.broker.specs.Meant.{meant}
use Rattle.broker.proofs.Routes.{allowed_to, found_is, is_meant, not_meant, not_served, refused_is, served_allowed}
use Rattle.broker.proofs.Routes.{served_by, served_nowhere}
use Rattle.broker.proofs.EngineRoutes.{mount_named}
use Rattle.broker.proofs.order.serving.serve.Goals.{in-Ok, in-Err-Refused}
use Rattle.broker.proofs.order.serving.serve.Goals as goal

-- ---- it cannot be told where it goes

pub returns-in-Err-Fault-clause-told : goal.returns-in-Err-Fault-clause-told
returns-in-Err-Fault-clause-told g c shut honest b starts =
    rw c.in-Err-Fault.field-0-is at (c.in-Err-Fault.ensures.told honest b.mounts
    (mounts_there b (g.T.RecordsTx.seen c.args.tx.now).rows starts.begins.represents))

-- ---- the caller may not ask

pub returns-in_default-clause-told : goal.returns-in_default-clause-told
returns-in_default-clause-told g c shut honest b starts =
    let seen = g.T.RecordsTx.seen in
    let old = (seen c.args.tx.now).rows in
    let caller = c.args.caller.token in
    let ask = c.args.ask.now in
    let mid = honest_before (seen c.route.new.tx)
    (seen c.permitted.new.tx) _ c.in_ok-rules.ensures.call.goes_on honest in
    let there = mounts_there b old starts.begins.represents in
    let same : (seen c.route.new.tx).rows ≡ old = elim c.match-route.branch [
      | in-Ok w ↦ w.in-Ok.ensures.call.same mid
      | in-Err-Refused w ↦ rw w.in-Err-Refused.field-0-is at (w.in-Err-Refused.ensures.call.same mid)
    ] in
    let routed : c.match-route.found ≡ route_of b.mounts ask.verb c.as_str.result.now = elim c.match-route.branch [
      | in-Ok w ↦ w.found-is ∙ found_is _ _ (w.in-Ok.ensures.told mid b.mounts there)
      | in-Err-Refused w ↦ w.found-is
          ∙ refused_is _ _ (rw w.in-Err-Refused.field-0-is at (w.in-Err-Refused.ensures.told mid b.mounts there))
    ] in
    let still = still_represented b old (seen c.route.new.tx).rows same starts.begins.represents in
    let told = c.in_ok-rules.ensures.told honest b still starts.caller
    (routed ∙ ap (route_of b.mounts ask.verb) c.as_str.ensures.text) in
    let forbidden : permits b (Some caller) ask.verb ask.path ≡ false = sym told
    ∙ ap is_some (none_of _ c.in_default.not-Some) in
    not_served b (Some caller) (names_of c.args.context.now.words) ask (seen c.permitted.new.tx).rows
    (allowed_to b (Some caller) ask false shut forbidden)
    (still_represented b (seen c.route.new.tx).rows (seen c.permitted.new.tx).rows
    (c.in_ok-rules.ensures.call.same honest) still)

-- ---- there is no route

pub returns-in_err-found-clause-told : goal.returns-in_err-found-clause-told
returns-in_err-found-clause-told g c shut honest b starts =
    let seen = g.T.RecordsTx.seen in
    let old = (seen c.args.tx.now).rows in
    let caller = c.args.caller.token in
    let ask = c.args.ask.now in
    let names = names_of c.args.context.now.words in
    let p = err_from_is_err_and c.from_residual-in_err-found.result c.from_residual-in_err-found.ensures.1 in
    let mid = honest_before (seen c.route.new.tx)
    (seen c.permitted.new.tx) _ c.in_ok-rules.ensures.call.goes_on honest in
    let there = mounts_there b old starts.begins.represents in
    let same : (seen c.route.new.tx).rows ≡ old = elim c.match-route.branch [
      | in-Ok w ↦ w.in-Ok.ensures.call.same mid
      | in-Err-Refused w ↦ rw w.in-Err-Refused.field-0-is at (w.in-Err-Refused.ensures.call.same mid)
    ] in
    let routed : c.match-route.found ≡ route_of b.mounts ask.verb c.as_str.result.now = elim c.match-route.branch [
      | in-Ok w ↦ w.found-is ∙ found_is _ _ (w.in-Ok.ensures.told mid b.mounts there)
      | in-Err-Refused w ↦ w.found-is
          ∙ refused_is _ _ (rw w.in-Err-Refused.field-0-is at (w.in-Err-Refused.ensures.told mid b.mounts there))
    ] in
    let still = still_represented b old (seen c.route.new.tx).rows same starts.begins.represents in
    let told = c.in_ok-rules.ensures.told honest b still starts.caller
    (routed ∙ ap (route_of b.mounts ask.verb) c.as_str.ensures.text) in
    let permitted : permits b (Some caller) ask.verb ask.path ≡ true = sym told ∙ ap is_some c.in-Some.is in
    rw (p.1 ∙ ap Err p.2)
    (served_allowed b (Some caller) names ask (seen c.permitted.new.tx).rows (Err (Refused c.in_err-found.field-0.0))
    (allowed_to b (Some caller) ask true shut permitted)
    (served_nowhere b (Some caller) names ask
    (seen c.permitted.new.tx).rows c.in_err-found.field-0.0 c.as_str.result.now
    c.as_str.ensures.text (sym c.in_err-found.was ∙ routed)
    (still_represented b (seen c.route.new.tx).rows (seen c.permitted.new.tx).rows
    (c.in_ok-rules.ensures.call.same honest) still)))

-- ---- the body is read

pub operate-requires : goal.operate-requires
operate-requires g c = record {
  in_range = c.in_ok-command.ensures.in_range;
  known = λ x is. subst (λ (a : Asker). IsTokenInRange a.caller.known) (same_Some _ _ is) c.requires;
}

pub returns-in_err-command-clause-told : goal.returns-in_err-command-clause-told
returns-in_err-command-clause-told g c shut honest b starts =
    let seen = g.T.RecordsTx.seen in
    let old = (seen c.args.tx.now).rows in
    let caller = c.args.caller.token in
    let ask = c.args.ask.now in
    let new = (seen c.permitted.new.tx).rows in
    let names = names_of c.args.context.now.words in
    let mid = honest_before (seen c.route.new.tx)
    (seen c.permitted.new.tx) _ c.in_ok-rules.ensures.call.goes_on honest in
    let there = mounts_there b old starts.begins.represents in
    let same : (seen c.route.new.tx).rows ≡ old = elim c.match-route.branch [
      | in-Ok w ↦ w.in-Ok.ensures.call.same mid
      | in-Err-Refused w ↦ rw w.in-Err-Refused.field-0-is at (w.in-Err-Refused.ensures.call.same mid)
    ] in
    let routed : c.match-route.found ≡ route_of b.mounts ask.verb c.as_str.result.now = elim c.match-route.branch [
      | in-Ok w ↦ w.found-is ∙ found_is _ _ (w.in-Ok.ensures.told mid b.mounts there)
      | in-Err-Refused w ↦ w.found-is
          ∙ refused_is _ _ (rw w.in-Err-Refused.field-0-is at (w.in-Err-Refused.ensures.told mid b.mounts there))
    ] in
    let still = still_represented b old (seen c.route.new.tx).rows same starts.begins.represents in
    let told = c.in_ok-rules.ensures.told honest b still starts.caller
    (routed ∙ ap (route_of b.mounts ask.verb) c.as_str.ensures.text) in
    let permitted : permits b (Some caller) ask.verb ask.path ≡ true = sym told ∙ ap is_some c.in-Some.is in
    let then = still_represented b (seen c.route.new.tx).rows new (c.in_ok-rules.ensures.call.same honest) still in
    let p = err_from_is_err_and c.from_residual-in_err-command.result c.from_residual-in_err-command.ensures.1 in
    rw (p.1 ∙ ap Err p.2)
    (served_allowed b (Some caller) names ask new (Err c.in_err-command.field-0.0)
    (allowed_to b (Some caller) ask true shut permitted)
    (served_by b (Some caller) names ask new (Err c.in_err-command.field-0.0) c.in_ok-found.field-0
    c.as_str.result.now c.as_str.ensures.text
    (sym c.in_ok-found.was ∙ routed)
    (not_meant b (Some caller) names ask new (command_for c.in_ok-found.field-0 ask) c.in_err-command.field-0.0
    c.in_err-command.ensures.reads then)))

pub returns-clause-told : goal.returns-clause-told
returns-clause-told g c shut honest b starts =
    let seen = g.T.RecordsTx.seen in
    let old = (seen c.args.tx.now).rows in
    let caller = c.args.caller.token in
    let ask = c.args.ask.now in
    let path = c.as_str.result.now in
    let names = names_of c.args.context.now.words in
    let route = c.in_ok-found.field-0 in
    let later = honest_before (seen c.permitted.new.tx)
    (seen c.operate.new.tx) _ c.operate.ensures.call.goes_on honest in
    let mid = honest_before (seen c.route.new.tx)
    (seen c.permitted.new.tx) _ c.in_ok-rules.ensures.call.goes_on later in
    let there = mounts_there b old starts.begins.represents in
    let same : (seen c.route.new.tx).rows ≡ old = elim c.match-route.branch [
      | in-Ok w ↦ w.in-Ok.ensures.call.same mid
      | in-Err-Refused w ↦ rw w.in-Err-Refused.field-0-is at (w.in-Err-Refused.ensures.call.same mid)
    ] in
    let routed : c.match-route.found ≡ route_of b.mounts ask.verb c.as_str.result.now = elim c.match-route.branch [
      | in-Ok w ↦ w.found-is ∙ found_is _ _ (w.in-Ok.ensures.told mid b.mounts there)
      | in-Err-Refused w ↦ w.found-is
          ∙ refused_is _ _ (rw w.in-Err-Refused.field-0-is at (w.in-Err-Refused.ensures.told mid b.mounts there))
    ] in
    let still = still_represented b old (seen c.route.new.tx).rows same starts.begins.represents in
    let then = still_represented b (seen c.route.new.tx).rows (seen c.permitted.new.tx).rows
    (c.in_ok-rules.ensures.call.same later) still in
    let told = c.in_ok-rules.ensures.told later b still starts.caller
    (routed ∙ ap (route_of b.mounts ask.verb) c.as_str.ensures.text) in
    let permitted : permits b (Some caller) ask.verb ask.path ≡ true = sym told ∙ ap is_some c.in-Some.is in
    let found = sym c.in_ok-found.was ∙ routed in
    let parameter : takes_parameter route.operation ≡ true → is_path route.parameter ≡ true =
    elim c.match-route.branch [
      | in-Ok w ↦ subst (λ (r : Route). takes_parameter r.operation ≡ true → is_path r.parameter ≡ true)
          (ok_inj (sym w.found-is ∙ c.in_ok-found.was)) (w.in-Ok.ensures.parameter c.as_str.ensures.good)
      | in-Err-Refused w ↦ absurd (let e = sym w.found-is ∙ c.in_ok-found.was in cc)
    ] in
    let formed : IsWellFormed route = record {
      parameter = parameter;
      mount = λ is. mount_named b ask.verb path route starts.begins.represents.sound.mounts (sym found) is;
    } in
    let begins : BeginsBy c.args.caller c.args.context.now (seen c.permitted.new.tx).rows b =
    record {
      begins = record { represents = then; here = starts.begins.here; clock = starts.begins.clock };
      caller = starts.caller;
    } in
    let are = subst (λ (rows : Rows). AreRulesAt rows c.args.caller.known.policies ask.verb c.in-Some.rules)
    (sym (c.in_ok-rules.ensures.call.same later)) (c.in_ok-rules.ensures.rules later c.in-Some.rules c.in-Some.is) in
    served_allowed b (Some caller) names ask (seen c.operate.new.tx).rows c.operate.result
    (allowed_to b (Some caller) ask true shut permitted)
    (served_by b (Some caller) names ask (seen c.operate.new.tx).rows c.operate.result route path
    c.as_str.ensures.text found
    (is_meant b (Some caller) names ask (seen c.operate.new.tx).rows (command_for route ask)
    (meant c.in_ok-command.command) c.operate.result c.in_ok-command.ensures.reads
    (c.operate.ensures.told (c.in_ok-command.ensures.placed formed) honest b ((ask.verb, are), begins))))
