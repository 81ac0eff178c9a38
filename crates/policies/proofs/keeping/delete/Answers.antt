use Rattle.std.proofs.Common.{◌≡◌, sym, ap, ◌∙◌, not, Ok, rules}
use Rattle.records.specs.Words.{without, unless, table_of, without_row, table_of-remove}
use Rattle.records.specs.declared.kind.Kind.TheVariants as kind
use Rattle.policies.specs.Words.{fixed, may_delete, ArePolicies}
use Rattle.policies.proofs.PolicyEdits.{ends_then, others_gone, policies_gone}
use Rattle.policies.proofs.keeping.delete.Goals as goal

pub returns-clause-rows : goal.returns-clause-rows
returns-clause-rows g c honest =
    let old = (g.T.RecordsTx.seen c.args.tx.now).rows in
    let new = (g.T.RecordsTx.seen c.remove.new.self).rows in
    let name = c.args.name.now in
    let free : may_delete name ≡ Ok tt = ap (λ v. unless (not v) fixed)
    (sym c.is_fixed.ensures ∙ c.if-is_fixed.false) in
    ends_then {X = Unit {0}} (may_delete name) tt (λ _ next. table_of new ≡ next) (new ≡ old) tt
    (without_row (table_of old) kind.Policy name) free
    (ap table_of (c.in_ok-remove.ensures.rows honest) ∙ table_of-remove old kind.Policy name)

pub returns-clause-call : goal.returns-clause-call
returns-clause-call g c =
    let old = (g.T.RecordsTx.seen c.args.tx.now).rows in
    let new = (g.T.RecordsTx.seen c.remove.new.self).rows in
    let name = c.args.name.now in
    record {
      others = λ honest.
          others_gone (table_of old) (table_of new) name
          (ap table_of (c.in_ok-remove.ensures.rows honest) ∙ table_of-remove old kind.Policy name);
      faults = tt;
      goes_on = search rules;
    }

pub returns-clause-told : goal.returns-clause-told
returns-clause-told g c honest policies are =
    let old = (g.T.RecordsTx.seen c.args.tx.now).rows in
    let new = (g.T.RecordsTx.seen c.remove.new.self).rows in
    let name = c.args.name.now in
    let free : may_delete name ≡ Ok tt = ap (λ v. unless (not v) fixed)
    (sym c.is_fixed.ensures ∙ c.if-is_fixed.false) in
    ends_then {X = Unit {0}} (may_delete name) tt (λ _ next. ArePolicies (table_of new) next) (new ≡ old) tt
    (without policies name) free
    (policies_gone (table_of old) (table_of new) name policies
    (ap table_of (c.in_ok-remove.ensures.rows honest) ∙ table_of-remove old kind.Policy name) are)
