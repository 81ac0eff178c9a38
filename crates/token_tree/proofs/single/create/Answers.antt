use Rattle.std.proofs.Common.{◌≡◌, rules, sym, ap, ◌∙◌, subst}
use Rattle.records.specs.declared.kind.Kind.TheVariants as kind
use Rattle.records.specs.Words.{of_tokens, Tells, entry_row, Table, table_of, with_row, TokenEntry, on_ok_weaker}
use Rattle.records.specs.Words.{honest_before, table_of-insert}
use Rattle.token_tree.specs.Words.{with_token}
use Rattle.token_tree.proofs.Singles.{tells_created, put_keeps, accessor_keeps}
use Rattle.token_tree.proofs.single.create.Goals as goal

pub returns-clause-told : goal.returns-clause-told
returns-clause-told g c honest forms b stands x is all_used new_token new_accessor =
    let seen = g.T.RecordsTx.seen in
    let mid = honest_before (seen c.put_token.new.tx) (seen c.put.new.self) _ c.put.ensures.call.goes_on honest in
    let rows = (seen c.args.tx.now).rows in
    let t = c.args.token.now in
    let first : table_of (seen c.put_token.new.tx).rows
    ≡ with_row (table_of rows) kind.Token t (entry_row c.args.entry.now) =
    ap table_of (c.in_ok-put_token.ensures.rows mid) ∙ table_of-insert rows kind.Token t (entry_row c.args.entry.now) in
    let accessor : c.as_str.result.now ≡ x.accessor = c.as_str.ensures
    ∙ ap (λ (e : TokenEntry). e.accessor) (c.entry.view_is ∙ sym is) in
    on_ok_weaker c.put.result (λ put.
    subst (λ (table : Table). Tells of_tokens table (with_token b t x))
    (sym (ap table_of put
    ∙ table_of-insert (seen c.put_token.new.tx).rows kind.Accessor c.as_str.result.now c.in_ok-row.row
    ∙ (λ i. with_row ((first ∙ ap (λ e. with_row (table_of rows) kind.Token t (entry_row e)) (sym is)) i) kind.Accessor
    (accessor i) (c.in_ok-row.ensures i))))
    (tells_created b stands.one_place all_used t x new_token new_accessor (table_of rows) stands.tells))
    (c.put.ensures.rows honest)

pub returns-clause-call : goal.returns-clause-call
returns-clause-call g c =
    record {
      others = λ honest.
          let seen = g.T.RecordsTx.seen in
          let mid = honest_before (seen c.put_token.new.tx) (seen c.put.new.self) _ c.put.ensures.call.goes_on honest in
          let rows = (seen c.args.tx.now).rows in
          let t = c.args.token.now in
          let r = entry_row c.args.entry.now in
          on_ok_weaker c.put.result (λ put k q h.
          ap (λ (table : Table). table k q) (ap table_of put
          ∙ table_of-insert (seen c.put_token.new.tx).rows kind.Accessor c.as_str.result.now c.in_ok-row.row)
          ∙ accessor_keeps (table_of (seen c.put_token.new.tx).rows) c.as_str.result.now c.in_ok-row.row k q h
          ∙ ap (λ (table : Table). table k q)
          (ap table_of (c.in_ok-put_token.ensures.rows mid) ∙ table_of-insert rows kind.Token t r)
          ∙ put_keeps (table_of rows) t r k q h) (c.put.ensures.rows honest);
      faults = c.put.ensures.call.faults;
      goes_on = search rules;
    }

pub returns-clause-rows : goal.returns-clause-rows
returns-clause-rows g c honest =
    let seen = g.T.RecordsTx.seen in
    let mid = honest_before (seen c.put_token.new.tx) (seen c.put.new.self) _ c.put.ensures.call.goes_on honest in
    let rows = (seen c.args.tx.now).rows in
    let t = c.args.token.now in
    let first : table_of (seen c.put_token.new.tx).rows
    ≡ with_row (table_of rows) kind.Token t (entry_row c.args.entry.now) =
    ap table_of (c.in_ok-put_token.ensures.rows mid) ∙ table_of-insert rows kind.Token t (entry_row c.args.entry.now) in
    let accessor : c.as_str.result.now ≡ c.args.entry.now.accessor = c.as_str.ensures
    ∙ ap (λ (e : TokenEntry). e.accessor) c.entry.view_is in
    on_ok_weaker c.put.result (λ put.
    ap table_of put ∙ table_of-insert (seen c.put_token.new.tx).rows kind.Accessor c.as_str.result.now c.in_ok-row.row
    ∙ (λ i. with_row (first i) kind.Accessor (accessor i) (c.in_ok-row.ensures i))) (c.put.ensures.rows honest)
