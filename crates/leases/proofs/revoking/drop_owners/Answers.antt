use Rattle.std.proofs.Common.{◌≡◌, ◌+◌, ◌∷◌, [], false, drop, sym, ap, subst, ◌∙◌}
use Rattle.records.specs.Words.{or_left, or_right, drop_more, drop_all, err_from_is_err_and, honest_before}
use Rattle.records.specs.Words.{goes_further, fault_then, not_damaged, IsHonest, is_storage, table}
use Rattle.leases.specs.Words.{EndsLeases, AreReadable, is_owned, are_owned, all_readable, ends_added, nothing_ends}
use Rattle.leases.specs.Words.{readable_after}
use Rattle.leases.proofs.revoking.drop_owners.Goals as goal

pub loop-token-preserved : goal.loop-token-preserved
loop-token-preserved g c =
    let seen = g.T.RecordsTx.seen in
    let i = c.loop-token.token-index in
    let tokens = c.args.tokens.now in
    let t = c.token-item.result in
    let now = table (seen c.loop-token.tx) in
    let new = table (seen c.drop_owner.new.tx) in
    let one : drop i tokens ≡ t ∷ drop (i + 1) tokens =
    drop_more tokens i t c.loop-token-test.true ∙ ap (λ x. x ∷ drop (i + 1) tokens) (sym c.token-item.is) in
    record {
      rows = λ honest last rest.
          let before = honest_before (seen c.loop-token.tx)
          (seen c.drop_owner.new.tx) false c.in_ok-drop_owner.ensures.call.goes_on honest in
          let owned = subst (λ t. EndsLeases (is_owned t) now new) c.as_str.ensures
          (c.in_ok-drop_owner.ensures.rows honest) in
          c.loop-token.invariant.rows before last (subst (λ ts. EndsLeases (are_owned ts) now last) (sym one)
          (ends_added (is_owned t) (are_owned (drop (i + 1) tokens)) now new last owned rest));
      readable = λ honest all.
          let before = honest_before (seen c.loop-token.tx)
          (seen c.drop_owner.new.tx) false c.in_ok-drop_owner.ensures.call.goes_on honest in
          let owned = subst (λ t. EndsLeases (is_owned t) now new) c.as_str.ensures
          (c.in_ok-drop_owner.ensures.rows honest) in
          let these = subst (λ ts. AreReadable (are_owned ts) now) one (c.loop-token.invariant.readable before all) in
          readable_after (is_owned t) (are_owned (drop (i + 1) tokens)) now new owned
          (λ q row is goes. these q row is (or_right _ _ goes));
      goes_on = goes_further (seen c.args.tx.now) (seen c.loop-token.tx)
          (seen c.drop_owner.new.tx) false c.loop-token.invariant.goes_on c.in_ok-drop_owner.ensures.call.goes_on;
    }

pub returns-clause-rows : goal.returns-clause-rows
returns-clause-rows g c honest =
    let now = table (g.T.RecordsTx.seen c.loop-token.tx) in
    let none : drop c.loop-token.token-index c.args.tokens.now ≡ [] = drop_all _ _ c.loop-token-test.false in
    c.loop-token.invariant.rows honest now
    (subst (λ ts. EndsLeases (are_owned ts) now now) (sym none) (nothing_ends now))

pub returns-clause-call : goal.returns-clause-call
unfolding returns-clause-rows
returns-clause-call g c = record {
  others = λ honest. (returns-clause-rows g c honest).others;
  faults = tt;
  goes_on = c.loop-token.invariant.goes_on;
}

pub returns-in_err-drop_owner-clause-call : goal.returns-in_err-drop_owner-clause-call
returns-in_err-drop_owner-clause-call g c =
    let seen = g.T.RecordsTx.seen in
    let i = c.loop-token.token-index in
    let tokens = c.args.tokens.now in
    let t = c.token-item.result in
    let now = table (seen c.loop-token.tx) in
    let one : drop i tokens ≡ t ∷ drop (i + 1) tokens =
    drop_more tokens i t c.loop-token-test.true ∙ ap (λ x. x ∷ drop (i + 1) tokens) (sym c.token-item.is) in
    let p = err_from_is_err_and c.from_residual.result c.from_residual.ensures.1 in
    let worse : (IsHonest (seen c.drop_owner.new.tx) → AreReadable (is_owned c.as_str.result.now) now → ⊥)
    → IsHonest (seen c.drop_owner.new.tx) → AreReadable (are_owned tokens) (table (seen c.args.tx.now)) → ⊥ =
    λ damage honest all.
    let before = honest_before (seen c.loop-token.tx) (seen c.drop_owner.new.tx) (is_storage c.drop_owner.result)
    c.drop_owner.ensures.call.goes_on honest in
    let these = subst (λ ts. AreReadable (are_owned ts) now) one (c.loop-token.invariant.readable before all) in
    damage honest (subst (λ t. AreReadable (is_owned t) now) (sym c.as_str.ensures)
    (λ q row is goes. these q row is (or_left _ _ goes))) in
    rw (p.1, p.2) (record {
      others = λ _. tt;
      faults = fault_then worse _ c.in_err-drop_owner.ensures.call.faults;
      goes_on = goes_further _ _ _ _ c.loop-token.invariant.goes_on c.in_err-drop_owner.ensures.call.goes_on;
    })

pub returns-in_err-drop_owner-clause-wants : goal.returns-in_err-drop_owner-clause-wants
returns-in_err-drop_owner-clause-wants g c honest forms b represents =
    let seen = g.T.RecordsTx.seen in
    let i = c.loop-token.token-index in
    let tokens = c.args.tokens.now in
    let t = c.token-item.result in
    let now = table (seen c.loop-token.tx) in
    let one : drop i tokens ≡ t ∷ drop (i + 1) tokens =
    drop_more tokens i t c.loop-token-test.true ∙ ap (λ x. x ∷ drop (i + 1) tokens) (sym c.token-item.is) in
    let p = err_from_is_err_and c.from_residual.result c.from_residual.ensures.1 in
    let before = honest_before (seen c.loop-token.tx) (seen c.drop_owner.new.tx) (is_storage c.drop_owner.result)
    c.drop_owner.ensures.call.goes_on honest in
    let these = subst (λ ts. AreReadable (are_owned ts) now) one (c.loop-token.invariant.readable before
    (all_readable (are_owned tokens) (table (seen c.args.tx.now)) b represents)) in
    let undamaged : (IsHonest (seen c.drop_owner.new.tx) → AreReadable (is_owned c.as_str.result.now) now → ⊥) → ⊥ =
    λ damage. damage honest (subst (λ t. AreReadable (is_owned t) now) (sym c.as_str.ensures)
    (λ q row is goes. these q row is (or_left _ _ goes))) in
    rw (p.1, p.2) (not_damaged undamaged _ c.in_err-drop_owner.ensures.call.faults)
