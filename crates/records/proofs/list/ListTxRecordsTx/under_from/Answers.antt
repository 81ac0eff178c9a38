use Rattle.std.proofs.Common.{◌&&◌, take, filter, nat_eq, sym, ap, ◌∙◌}
use Rattle.records.specs.Words.{starts_with, is_ge, text_cmp, RowKey, is_of_kind, Row}
use Rattle.records.proofs.MapLemmas.{lists}
use Rattle.records.proofs.list.ListTxRecordsTx.under_from.Goals as goal

pub returns-clause-entries : goal.returns-clause-entries
returns-clause-entries c honest =
    let es = c.args.self.now.entries.items in
    c.keep_from.ensures
    ∙ ap (λ list. take c.args.count (filter (λ (e : RowKey × Row). is_ge (text_cmp e.0.1 c.args.from.now)) list))
    (c.in_ok-list.ensures.ok
    ∙ ap (filter (λ (e : RowKey × Row). is_of_kind c.args.kind e.0 && starts_with nat_eq e.0.1 c.args.prefix.now))
    (c.deref.ensures.value ∙ sym (lists es c.args.self.now.in_order)))
