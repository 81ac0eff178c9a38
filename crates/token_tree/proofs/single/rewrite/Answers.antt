use Rattle.records.specs.Words.{rules, sym, ap, ◌∙◌, subst, of_tokens, Tells, entry_row, Table, table_of, with_row}
use Rattle.records.specs.Words.{on_ok_weaker, table_of-insert, change}
use Rattle.records.specs.declared.kind.Kind.TheVariants as kind
use Rattle.token_tree.proofs.Singles.{tells_changed_at, put_keeps}
use Rattle.token_tree.proofs.single.rewrite.Goals as goal

pub returns-clause-told : goal.returns-clause-told
returns-clause-told g c honest b x f tells here is keeps =
    let rows = (g.T.RecordsTx.seen c.args.tx.now).rows in
    let t = c.args.token.now in
    on_ok_weaker c.put_token.result (λ put.
    subst (λ (table : Table). Tells of_tokens table (record b { tokens = change b.tokens t f }))
    (sym (ap table_of put ∙ table_of-insert rows kind.Token t (entry_row c.args.entry.now)
    ∙ ap (λ e. with_row (table_of rows) kind.Token t (entry_row e)) (sym is)))
    (tells_changed_at b t x f here keeps (table_of rows) tells)) (c.put_token.ensures.rows honest)

pub returns-clause-call : goal.returns-clause-call
returns-clause-call g c =
    record {
      others = λ honest.
          let rows = (g.T.RecordsTx.seen c.args.tx.now).rows in
          let t = c.args.token.now in
          let r = entry_row c.args.entry.now in
          on_ok_weaker c.put_token.result
          (λ put k q h. ap (λ (table : Table). table k q) (ap table_of put ∙ table_of-insert rows kind.Token t r)
          ∙ put_keeps (table_of rows) t r k q h)
          (c.put_token.ensures.rows honest);
      faults = c.put_token.ensures.call.faults;
      goes_on = search rules;
    }

pub returns-clause-rows : goal.returns-clause-rows
returns-clause-rows g c honest =
    on_ok_weaker c.put_token.result
    (λ put. ap table_of put ∙ table_of-insert (g.T.RecordsTx.seen c.args.tx.now).rows kind.Token c.args.token.now
    (entry_row c.args.entry.now))
    (c.put_token.ensures.rows honest)
