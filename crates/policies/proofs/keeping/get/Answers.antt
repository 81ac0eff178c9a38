use Rattle.records.specs.Words.{sym, ◌∙◌, Option, get, Text, not_damaged, fault_then, each_fault, table}
use Rattle.policies.proofs.PolicyTold.{text_told, short_texts, each_ok}
use Rattle.policies.proofs.keeping.get.Goals as goal

pub returns-clause-told : goal.returns-clause-told
returns-clause-told g c honest policies are =
    let old = table (g.T.RecordsTx.seen c.args.tx.now) in
    each_ok (λ (text : Option Text) at. text_told old policies c.args.name.now text
    (sym c.is_root.ensures ∙ c.if-is_root.false) are at)
    c.kept_text.result (c.kept_text.ensures.found honest)

pub returns-clause-wants : goal.returns-clause-wants
returns-clause-wants g c honest is_object policies sound are =
    let name = c.args.name.now in
    each_fault (not_damaged
    (λ damaged. damaged honest (get policies name) (short_texts is_object policies sound name) (are name)))
    c.kept_text.result c.kept_text.ensures.call.faults

pub returns-clause-call : goal.returns-clause-call
returns-clause-call g c =
    let call = c.kept_text.ensures.call in
    record {
      same = call.same;
      faults = each_fault (fault_then (λ damaged honest text short at.
          damaged honest text short (at (sym c.is_root.ensures ∙ c.if-is_root.false)))) c.kept_text.result call.faults;
      goes_on = call.goes_on;
    }
