use Rattle.std.proofs.Common.{◌≡◌, arith, sym, ap, subst, ◌∙◌, Err, true, option_map, rules}
use Rattle.records.specs.Words.{err_from_is_err_and, get, fault_then, not_damaged, table, none_of}
use Rattle.mounts.specs.Words.{bytes_of_rest, are_bytes, IsKnownAt, cut, route_by, route_rows}
use Rattle.mounts.proofs.RouteSteps.{ends_refused, ends_found, route_none, route_some, within_none, within_some}
use Rattle.mounts.proofs.Parameters.{parameter_is_path, are_bytes_from}
use Rattle.mounts.proofs.PathParts.{IsRest, rest_of}
use Rattle.mounts.proofs.Tables.{in_order}
use Rattle.mounts.proofs.routing.route.Goals as goal

pub returns-in_err-mount_type-clause-found : goal.returns-in_err-mount_type-clause-found
returns-in_err-mount_type-clause-found g c honest mount at =
    let rows = table (g.T.RecordsTx.seen c.args.tx.now) in
    let here = subst (λ n. IsKnownAt rows n mount) (sym c.cut.ensures.name) at in
    let p = err_from_is_err_and c.from_residual.result c.from_residual.ensures.1 in
    rw (p.1 ∙ ap Err p.2) (not_damaged (λ damaged. damaged honest mount here) _ c.in_err-mount_type.ensures.call.faults)

pub returns-in_err-mount_type-clause-told : goal.returns-in_err-mount_type-clause-told
returns-in_err-mount_type-clause-told g c honest mounts are =
    returns-in_err-mount_type-clause-found g c honest (get mounts (cut c.args.path.now).0)
    (λ _. are (cut c.args.path.now).0)

pub returns-in_err-mount_type-clause-call : goal.returns-in_err-mount_type-clause-call
returns-in_err-mount_type-clause-call g c =
    let rows = table (g.T.RecordsTx.seen c.args.tx.now) in
    let p = err_from_is_err_and c.from_residual.result c.from_residual.ensures.1 in
    record {
      same = search rules;
      faults = rw (p.1 ∙ ap Err p.2) (fault_then (λ damaged honest mount at.
          damaged honest mount (subst (λ n. IsKnownAt rows n mount) (sym c.cut.ensures.name) at))
          c.in_err-mount_type.field-0.0 c.in_err-mount_type.ensures.call.faults);
      goes_on = search rules;
    }

pub returns-in_default-clause-found : goal.returns-in_default-clause-found
returns-in_default-clause-found g c honest mount at =
    let path = c.args.path.now in
    let rows = table (g.T.RecordsTx.seen c.args.tx.now) in
    let here = subst (λ n. IsKnownAt rows n mount) (sym c.cut.ensures.name) at in
    ends_refused _ _ (route_none mount c.args.verb path c.cut.result.0.now c.cut.result.1.now c.cut.ensures.name
    (sym (c.in_ok-mount_type.ensures.found honest mount here) ∙ none_of _ c.in_default.not-Some))

pub returns-in_default-clause-told : goal.returns-in_default-clause-told
returns-in_default-clause-told g c honest mounts are =
    returns-in_default-clause-found g c honest (get mounts (cut c.args.path.now).0) (λ _. are (cut c.args.path.now).0)

pub returns-in_default-pattern_found-clause-found : goal.returns-in_default-pattern_found-clause-found
returns-in_default-pattern_found-clause-found g c honest mount at =
    let path = c.args.path.now in
    let rows = table (g.T.RecordsTx.seen c.args.tx.now) in
    let here = subst (λ n. IsKnownAt rows n mount) (sym c.cut.ensures.name) at in
    let type = c.in-Some.mount_type in
    let name = c.cut.result.0.now in
    let rest = c.cut.result.1.now in
    ends_refused _ _ (route_some mount c.args.verb path name rest type c.cut.ensures.name c.cut.ensures.rest
    (sym (c.in_ok-mount_type.ensures.found honest mount here) ∙ c.in-Some.is)
    ∙ within_none (route_rows type) c.args.verb name rest
    (sym c.pattern_found.ensures ∙ ap (option_map (λ s. s.now)) (none_of _ c.in_default-pattern_found.not-Some)))

pub returns-in_default-pattern_found-clause-told : goal.returns-in_default-pattern_found-clause-told
returns-in_default-pattern_found-clause-told g c honest mounts are =
    returns-in_default-pattern_found-clause-found g c honest (get mounts (cut c.args.path.now).0)
    (λ _. are (cut c.args.path.now).0)

pub returns-in_err-route_by-clause-found : goal.returns-in_err-route_by-clause-found
returns-in_err-route_by-clause-found g c honest mount at =
    let path = c.args.path.now in
    let rows = table (g.T.RecordsTx.seen c.args.tx.now) in
    let here = subst (λ n. IsKnownAt rows n mount) (sym c.cut.ensures.name) at in
    let type = c.in-Some.mount_type in
    let name = c.cut.result.0.now in
    let rest = c.cut.result.1.now in
    let p = err_from_is_err_and c.from_residual-in_err-route_by.result c.from_residual-in_err-route_by.ensures.1 in
    rw (p.1 ∙ ap Err p.2)
    (ends_refused _ _ (route_some mount c.args.verb path name rest type c.cut.ensures.name c.cut.ensures.rest
    (sym (c.in_ok-mount_type.ensures.found honest mount here) ∙ c.in-Some.is)
    ∙ within_some (route_rows type) c.args.verb name rest c.in-Some-pattern_found.pattern.now
    (sym c.pattern_found.ensures ∙ ap (option_map (λ s. s.now)) c.in-Some-pattern_found.is)
    ∙ sym (ap (λ rs. route_by rs c.args.verb name rest c.in-Some-pattern_found.pattern.now) c.route_rows.ensures)
    ∙ sym c.in_err-route_by.ensures))

pub returns-in_err-route_by-clause-told : goal.returns-in_err-route_by-clause-told
returns-in_err-route_by-clause-told g c honest mounts are =
    returns-in_err-route_by-clause-found g c honest (get mounts (cut c.args.path.now).0)
    (λ _. are (cut c.args.path.now).0)

pub returns-clause-found : goal.returns-clause-found
returns-clause-found g c honest mount at =
    let path = c.args.path.now in
    let rows = table (g.T.RecordsTx.seen c.args.tx.now) in
    let here = subst (λ n. IsKnownAt rows n mount) (sym c.cut.ensures.name) at in
    let type = c.in-Some.mount_type in
    let name = c.cut.result.0.now in
    let rest = c.cut.result.1.now in
    ends_found _ _ (route_some mount c.args.verb path name rest type c.cut.ensures.name c.cut.ensures.rest
    (sym (c.in_ok-mount_type.ensures.found honest mount here) ∙ c.in-Some.is)
    ∙ within_some (route_rows type) c.args.verb name rest c.in-Some-pattern_found.pattern.now
    (sym c.pattern_found.ensures ∙ ap (option_map (λ s. s.now)) c.in-Some-pattern_found.is)
    ∙ sym (ap (λ rs. route_by rs c.args.verb name rest c.in-Some-pattern_found.pattern.now) c.route_rows.ensures)
    ∙ sym c.in_ok-route_by.ensures)

pub returns-clause-told : goal.returns-clause-told
returns-clause-told g c honest mounts are =
    returns-clause-found g c honest (get mounts (cut c.args.path.now).0) (λ _. are (cut c.args.path.now).0)

pub returns-clause-parameter : goal.returns-clause-parameter
returns-clause-parameter g c good takes =
    let path = c.args.path.now in
    let type = c.in-Some.mount_type in
    let rest = c.cut.result.1.now in
    parameter_is_path (route_rows type) (in_order type) c.args.verb c.cut.result.0.now rest
    c.in-Some-pattern_found.pattern.now c.in_ok-route_by.field-0
    (subst IsRest (sym c.cut.ensures.rest) (rest_of path good))
    (subst (λ t. are_bytes t ≡ true) (sym c.cut.ensures.rest)
    (bytes_of_rest path (are_bytes_from path (λ k. omega (arith, c.type_inv.path k)))))
    (sym c.pattern_found.ensures ∙ ap (option_map (λ s. s.now)) c.in-Some-pattern_found.is)
    (sym (ap (λ rs. route_by rs c.args.verb c.cut.result.0.now rest c.in-Some-pattern_found.pattern.now)
    c.route_rows.ensures) ∙ sym c.in_ok-route_by.ensures)
    takes
