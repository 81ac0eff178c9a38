use Rattle.std.proofs.Common.{◌≡◌, ◌∷◌, [], ap, sym, ◌∙◌, refl, subst, Some}
use Rattle.std.specs.FinMap as map
use Rattle.records.specs.Words.{none-some, err_from_is_err_and, of_tokens, KeepsOthers, table_of, honest_before}
use Rattle.records.specs.Words.{goes_further, fault_then, not_damaged, read_fault, none_of, IsHonest, rows_under}
use Rattle.records.specs.Words.{rows_owned}
use Rattle.records.specs.declared.kind.Kind.TheVariants as kind
use Rattle.token_tree.specs.Words.{without_parent, IsDamagedToken, without_token, IsTokenRow}
use Rattle.token_tree.proofs.Ends.{readable}
use Rattle.token_tree.proofs.Found.{lone_without, lone_readable, readable_lone, owned_orphans}
use Rattle.token_tree.proofs.Orphans.{revoked_one, revoked_one_each, orphaned_unknown, orphaned_none, is_token}
use Rattle.token_tree.proofs.Orphans.{parents_keep}
use Rattle.token_tree.proofs.Removals.{others_stay}
use Rattle.token_tree.proofs.Taken.{without_ended}
use Rattle.token_tree.proofs.TokenEnds.{ends_alone, damage_alone}
use Rattle.token_tree.proofs.orphaning.revoke_one.Goals as goal
use Rattle.token_tree.proofs.orphaning.revoke_one.Goals.{After-remove_token, After-vec}

-- ---- what several ways out share, if the storage is honest afterwards

-- the row of the token was found
found : (g : _) (c : goal.After-remove_token g) → IsHonest (g.T.RecordsTx.seen c.remove_token.new.tx)
    → map.get (g.T.RecordsTx.seen c.args.tx.now).rows (kind.Token, c.args.token.now) ≡ Some c.in-Some.row
found g c honest =
    let seen = g.T.RecordsTx.seen in
    let early = honest_before (seen c.by_owner.new.self)
    (seen c.remove_token.new.tx) _ c.remove_token.ensures.call.goes_on honest in
    let first = honest_before (seen c.get.new.self)
    (seen c.by_owner.new.self) _ c.in_ok-children.ensures.call.goes_on early in
    sym (c.in_ok-row.ensures.found first) ∙ c.in-Some.is

-- it was found and removed, and then its children have no parent
ended : (g : _) (c : goal.After-vec g) → IsHonest (g.T.RecordsTx.seen c.orphan_children.new.tx)
    → (map.get (g.T.RecordsTx.seen c.args.tx.now).rows (kind.Token, c.args.token.now) ≡ Some c.in-Some.row)
    × ((g.T.RecordsTx.seen c.remove_token.new.tx).rows
    ≡ without_ended (c.args.token.now ∷ []) (rows_under (g.T.RecordsTx.seen c.args.tx.now).rows kind.Token [])
    (g.T.RecordsTx.seen c.args.tx.now).rows)
    × ((g.T.RecordsTx.seen c.orphan_children.new.tx).rows
    ≡ without_parent c.args.token.now (rows_under (g.T.RecordsTx.seen c.args.tx.now).rows kind.Token [])
    (g.T.RecordsTx.seen c.remove_token.new.tx).rows)
ended g c honest =
    let seen = g.T.RecordsTx.seen in
    let rows = (seen c.args.tx.now).rows in
    let t = c.args.token.now in
    let mid = honest_before (seen c.remove_token.new.tx)
    (seen c.orphan_children.new.tx) _ c.orphan_children.ensures.call.goes_on honest in
    let early = honest_before (seen c.by_owner.new.self)
    (seen c.remove_token.new.tx) _ c.in_ok-remove_token.ensures.call.goes_on mid in
    let first = honest_before (seen c.get.new.self)
    (seen c.by_owner.new.self) _ c.in_ok-children.ensures.call.goes_on early in
    let is = sym (c.in_ok-row.ensures.found first) ∙ c.in-Some.is in
    let was = c.in_ok-children.ensures.call.same early ∙ c.in_ok-row.ensures.call.same first in (
      is,
      c.in_ok-remove_token.ensures.rows mid
          ∙ (λ i. without_token (was i) ((kind.Token, c.in_ok-copied.ensures i), c.in-Some.row))
          ∙ lone_without rows t c.in-Some.row is,
      c.in_ok-orphan_children.ensures.rows honest
          ∙ (λ i. without_parent t ((c.deref.ensures.value ∙ c.in_ok-children.ensures.entries early
          ∙ ap (λ m. rows_owned m kind.Token t) (c.in_ok-row.ensures.call.same first)) i)
          (seen c.remove_token.new.tx).rows)
          ∙ owned_orphans t rows (seen c.remove_token.new.tx).rows,
    )

-- ---- an unknown text

pub returns-in_default-clause-told : goal.returns-in_default-clause-told
returns-in_default-clause-told g c honest forms b stands =
    let rows = (g.T.RecordsTx.seen c.args.tx.now).rows in
    let none = sym (c.in_ok-row.ensures.found honest) ∙ none_of _ c.in_default.not-Some in
    orphaned_unknown forms b rows stands c.args.token.now none _ (c.in_ok-row.ensures.call.same honest)

pub returns-in_default-clause-ended : goal.returns-in_default-clause-ended
returns-in_default-clause-ended g c honest forms b stands =
    let rows = (g.T.RecordsTx.seen c.args.tx.now).rows in
    let none = sym (c.in_ok-row.ensures.found honest) ∙ none_of _ c.in_default.not-Some in
    rw c.new.ensures.items (orphaned_none forms b rows stands c.args.token.now none)

-- ---- a token

pub returns-in_err-remove_token-clause-wants : goal.returns-in_err-remove_token-clause-wants
returns-in_err-remove_token-clause-wants g c honest forms b stands =
    let seen = g.T.RecordsTx.seen in
    let rows = (seen c.args.tx.now).rows in
    let t = c.args.token.now in
    let is = found g (goal.at.returns-in_err-remove_token-clause-wants g c).After-remove_token honest in
    let p = err_from_is_err_and c.from_residual-in_err-remove_token.result
    c.from_residual-in_err-remove_token.ensures.1 in
    rw (p.1, p.2) (not_damaged (λ damage. damage
    (subst (λ key. IsTokenRow ((kind.Token, key), c.in-Some.row)) (sym c.in_ok-copied.ensures)
    (readable_lone rows t c.in-Some.row is
    (readable forms b rows stands (t ∷ []) (rows_under rows kind.Token []) refl))))
    _ c.in_err-remove_token.ensures.call.faults)

pub returns-clause-told : goal.returns-clause-told
returns-clause-told g c honest forms b stands =
    let seen = g.T.RecordsTx.seen in
    let rows = (seen c.args.tx.now).rows in
    let t = c.args.token.now in
    let done = ended g (goal.at.returns-clause-told g c).After-vec honest in
    revoked_one forms b rows stands t (rows_under rows kind.Token []) (rows_under rows kind.Token [])
    (t ∷ []) refl refl refl
    (seen c.remove_token.new.tx).rows done.1 (seen c.orphan_children.new.tx).rows done.2

pub returns-clause-ended : goal.returns-clause-ended
returns-clause-ended g c honest forms b stands =
    let seen = g.T.RecordsTx.seen in
    let rows = (seen c.args.tx.now).rows in
    let t = c.args.token.now in
    let done = ended g (goal.at.returns-clause-ended g c).After-vec honest in
    revoked_one_each forms b rows stands t c.in-Some.row done.0 c.in_ok-vec.field-0.items
    (c.in_ok-vec.ensures.items ∙ ap (λ key. key ∷ []) c.in_ok-copied.ensures)

pub returns-clause-unknown : goal.returns-clause-unknown
returns-clause-unknown g c honest forms b stands none =
    let seen = g.T.RecordsTx.seen in
    let rows = (seen c.args.tx.now).rows in
    let t = c.args.token.now in
    let done = ended g (goal.at.returns-clause-unknown g c).After-vec honest in
    let x = is_token forms b rows stands t c.in-Some.row done.0 in
    absurd (none-some _ (sym none ∙ x.1))

pub returns-clause-call : goal.returns-clause-call
returns-clause-call g c =
    record {
      others = λ honest.
          let seen = g.T.RecordsTx.seen in
          let rows = (seen c.args.tx.now).rows in
          let t = c.args.token.now in
          let done = ended g (goal.at.returns-clause-call g c).After-vec honest in
          subst (λ m. KeepsOthers of_tokens (table_of rows) (table_of m)) (sym done.2) (λ k q h.
          parents_keep t (rows_under rows kind.Token []) (seen c.remove_token.new.tx).rows k q h
          ∙ ap (λ m. table_of m k q) done.1 ∙ others_stay (t ∷ []) (rows_under rows kind.Token []) rows k q h);
      faults = tt;
      goes_on = goes_further _ _ _ _ (goes_further _ _ _ _
          (goes_further _ _ _ _ c.in_ok-row.ensures.call.goes_on c.in_ok-children.ensures.call.goes_on)
          c.in_ok-remove_token.ensures.call.goes_on) c.in_ok-orphan_children.ensures.call.goes_on;
    }

pub returns-clause-rows : goal.returns-clause-rows
returns-clause-rows g c honest =
    let seen = g.T.RecordsTx.seen in
    let rows = (seen c.args.tx.now).rows in
    let t = c.args.token.now in
    let done = ended g (goal.at.returns-clause-rows g c).After-vec honest in
    ends_alone rows t c.in-Some.row done.0 (rows_under rows kind.Token []) (t ∷ []) refl refl
    (lone_readable rows t c.in-Some.row done.0
    (subst (λ key. IsTokenRow ((kind.Token, key), c.in-Some.row)) c.in_ok-copied.ensures
    c.in_ok-remove_token.ensures.readable))
    (rows_under rows kind.Token []) refl (seen c.remove_token.new.tx).rows
    (seen c.orphan_children.new.tx).rows done.1 done.2
    c.in_ok-vec.field-0.items (c.in_ok-vec.ensures.items ∙ ap (λ key. key ∷ []) c.in_ok-copied.ensures)

pub returns-in_err-remove_token-clause-call : goal.returns-in_err-remove_token-clause-call
returns-in_err-remove_token-clause-call g c =
    let seen = g.T.RecordsTx.seen in
    let rows = (seen c.args.tx.now).rows in
    let t = c.args.token.now in
    let p = err_from_is_err_and c.from_residual-in_err-remove_token.result
    c.from_residual-in_err-remove_token.ensures.1 in
    let worse : (IsTokenRow ((kind.Token, c.in_ok-copied.field-0), c.in-Some.row) → ⊥)
    → IsHonest (seen c.remove_token.new.tx)
    → IsDamagedToken (table_of rows) t =
    λ damage honest.
    let is = found g (goal.at.returns-in_err-remove_token-clause-call g c).After-remove_token honest in
    damage_alone rows t c.in-Some.row is (rows_under rows kind.Token []) (t ∷ []) refl refl (λ all. damage
    (subst (λ key. IsTokenRow ((kind.Token, key), c.in-Some.row)) (sym c.in_ok-copied.ensures)
    (readable_lone rows t c.in-Some.row is all))) in
    rw (p.1, p.2) (record {
      others = λ _. tt;
      faults = fault_then worse _ c.in_err-remove_token.ensures.call.faults;
      goes_on = goes_further _ _ _ _
          (goes_further _ _ _ _ c.in_ok-row.ensures.call.goes_on c.in_ok-children.ensures.call.goes_on)
          c.in_err-remove_token.ensures.call.goes_on;
    })

pub returns-in_err-children-clause-call : goal.returns-in_err-children-clause-call
returns-in_err-children-clause-call g c =
    let p = err_from_is_err_and c.from_residual-in_err-children.result c.from_residual-in_err-children.ensures.1 in
    rw (p.1, p.2) (record {
      others = λ _. tt;
      faults = read_fault _ _ c.in_err-children.ensures.call.faults;
      goes_on = goes_further _ _ _ _ c.in_ok-row.ensures.call.goes_on c.in_err-children.ensures.call.goes_on;
    })

pub returns-in_err-copied-clause-call : goal.returns-in_err-copied-clause-call
returns-in_err-copied-clause-call g c =
    let p = err_from_is_err_and c.from_residual-in_err-copied.result c.from_residual-in_err-copied.ensures.1 in
    rw (p.1, p.2) (record {
      others = λ _. tt;
      faults = tt;
      goes_on = goes_further _ _ _ _ c.in_ok-row.ensures.call.goes_on c.in_ok-children.ensures.call.goes_on;
    })

pub returns-in_err-orphan_children-clause-call : goal.returns-in_err-orphan_children-clause-call
returns-in_err-orphan_children-clause-call g c =
    let p = err_from_is_err_and c.from_residual-in_err-orphan_children.result
    c.from_residual-in_err-orphan_children.ensures.1 in
    let read = goes_further _ _ _ _ c.in_ok-row.ensures.call.goes_on c.in_ok-children.ensures.call.goes_on in
    let removed = goes_further _ _ _ _ read c.in_ok-remove_token.ensures.call.goes_on in
    rw (p.1, p.2) (record {
      others = λ _. tt;
      faults = read_fault _ _ c.in_err-orphan_children.ensures.call.faults;
      goes_on = goes_further _ _ _ _ removed c.in_err-orphan_children.ensures.call.goes_on;
    })

pub returns-in_err-vec-clause-call : goal.returns-in_err-vec-clause-call
returns-in_err-vec-clause-call g c =
    let p = err_from_is_err_and c.from_residual-in_err-vec.result c.from_residual-in_err-vec.ensures.1 in
    let read = goes_further _ _ _ _ c.in_ok-row.ensures.call.goes_on c.in_ok-children.ensures.call.goes_on in
    let removed = goes_further _ _ _ _ read c.in_ok-remove_token.ensures.call.goes_on in
    rw (p.1, p.2) (record {
      others = λ _. tt;
      faults = tt;
      goes_on = goes_further _ _ _ _ removed c.in_ok-orphan_children.ensures.call.goes_on;
    })
