use Rattle.std.proofs.Common.{◌≡◌, true, sym, ◌∙◌, ap}
use Rattle.broker_model.specs.Words.{list_all, MatchOption-at_some, MatchOption-at_none, is_name, honest_before}
use Rattle.broker_model.specs.Words.{IsTokenInRange, entry_row, table_of, TokenEntry, false≢true, err_from_is_err_and}
use Rattle.soundness.proofs.AnswerLemmas.{from_true, all_from}
use Rattle.soundness.proofs.BrokenLemmas.{list_all_from}
use Rattle.soundness.proofs.ReadLemmas.{fails}
use Rattle.records.specs.declared.kind.Kind.TheVariants as kind
use Rattle.soundness.proofs.Readings.{read_both, read_fails}
use Rattle.soundness.proofs.tokens.token.Goals as goal

pub returns-clause-sound : goal.returns-clause-sound
returns-clause-sound g c honest =
    let seen = g.T.RecordsTx.seen in
    let mid = honest_before (seen c.has_parent.new.tx)
    (seen c.is_named.new.tx) _ c.in_ok-is_named.ensures.call.goes_on honest in
    let x = c.in-Some.token in
    let read = MatchOption-at_some _ (λ (x : TokenEntry). IsTokenInRange x × (c.args.row.now ≡ entry_row x)) x
    c.in-Some.is
    c.in_ok-token.ensures.found in
    let names : list_all is_name x.policies ≡ true =
    ap (λ (x : TokenEntry). list_all is_name x.policies) (sym c.token.view_is)
    ∙ ap (list_all is_name) (sym c.deref.ensures.value) ∙ sym c.are_names.ensures ∙ c.if-not-are_names.false in
    let same = c.in_ok-has_parent.ensures.call.same mid in
    let accessor = c.as_str.ensures ∙ ap (λ (x : TokenEntry). x.accessor) c.token.view_is in
    let named = from_true c.in_ok-is_named.field-0 c.if-not-branch-2.false (c.in_ok-is_named.ensures.found honest) in (
      x,
      record {
        in_range = read.0;
        policy_names = all_from is_name x.policies names;
        unspent = λ spent. c.is_spent.ensures.sound c.if-is_spent.false
            (ap (λ (x : TokenEntry). x.uses_left) c.token.view_is ∙ spent);
        parent = λ p is. from_true c.in_ok-has_parent.field-0 c.if-not-branch.false
            (c.in_ok-has_parent.ensures.found mid) p
            (ap (λ (x : TokenEntry). x.parent) c.token.view_is ∙ is);
        accessor = (λ i. table_of (sym same i) kind.Accessor (sym accessor i)) ∙ named;
      },
      read.1,
    )

pub returns-in_default-clause-broken : goal.returns-in_default-clause-broken
returns-in_default-clause-broken g c honest =
    MatchOption-at_none _ _ c.in_default.is c.in_ok-token.ensures.whole

pub returns-then-not-are_names-clause-broken : goal.returns-then-not-are_names-clause-broken
returns-then-not-are_names-clause-broken g c honest =
    let x = c.in-Some.token in
    let read = MatchOption-at_some _ (λ (x : TokenEntry). IsTokenInRange x × (c.args.row.now ≡ entry_row x)) x
    c.in-Some.is
    c.in_ok-token.ensures.found in
    let names : c.are_names.result ≡ list_all is_name x.policies =
    c.are_names.ensures ∙ ap (list_all is_name) c.deref.ensures.value
    ∙ ap (λ (x : TokenEntry). list_all is_name x.policies) c.token.view_is in (
      x,
      (read.0, λ all. false≢true (sym c.if-not-are_names.true ∙ names ∙ list_all_from is_name x.policies all)),
      read.1,
    )

pub returns-then-is_spent-clause-broken : goal.returns-then-is_spent-clause-broken
returns-then-is_spent-clause-broken g c honest =
    let x = c.in-Some.token in
    let read = MatchOption-at_some _ (λ (x : TokenEntry). IsTokenInRange x × (c.args.row.now ≡ entry_row x)) x
    c.in-Some.is
    c.in_ok-token.ensures.found in (
      x,
      (
        read.0,
        sym (ap (λ (x : TokenEntry). x.uses_left) c.token.view_is)
            ∙ c.is_spent.ensures.spent c.if-is_spent.true,
      ),
      read.1,
    )

pub returns-then-not-branch-clause-broken : goal.returns-then-not-branch-clause-broken
returns-then-not-branch-clause-broken g c honest =
    let x = c.in-Some.token in
    let read = MatchOption-at_some _ (λ (x : TokenEntry). IsTokenInRange x × (c.args.row.now ≡ entry_row x)) x
    c.in-Some.is
    c.in_ok-token.ensures.found in
    let p = c.in_ok-has_parent.ensures.whole honest c.if-not-branch.true in
    (x, (read.0, (p.0, sym (ap (λ (x : TokenEntry). x.parent) c.token.view_is) ∙ p.1, p.2)), read.1)

pub returns-then-not-branch-2-clause-broken : goal.returns-then-not-branch-2-clause-broken
returns-then-not-branch-2-clause-broken g c honest =
    let seen = g.T.RecordsTx.seen in
    let mid = honest_before (seen c.has_parent.new.tx)
    (seen c.is_named.new.tx) _ c.in_ok-is_named.ensures.call.goes_on honest in
    let x = c.in-Some.token in
    let read = MatchOption-at_some _ (λ (x : TokenEntry). IsTokenInRange x × (c.args.row.now ≡ entry_row x)) x
    c.in-Some.is
    c.in_ok-token.ensures.found in
    let same = c.in_ok-has_parent.ensures.call.same mid in
    let accessor = c.as_str.ensures ∙ ap (λ (x : TokenEntry). x.accessor) c.token.view_is in (
      x,
      (
        read.0,
        λ row. fails c.in_ok-is_named.field-0 c.if-not-branch-2.true (c.in_ok-is_named.ensures.whole honest)
            ((λ i. table_of (same i) kind.Accessor (accessor i)) ∙ row),
      ),
      read.1,
    )

pub returns-in_err-is_named-clause-call : goal.returns-in_err-is_named-clause-call
returns-in_err-is_named-clause-call g c =
    let p = err_from_is_err_and c.from_residual-in_err-is_named.result c.from_residual-in_err-is_named.ensures.1 in
    rw (p.1, p.2) (read_fails c.in_ok-has_parent.ensures.call c.in_err-is_named.ensures.call)

pub returns-then-not-branch-2-clause-call : goal.returns-then-not-branch-2-clause-call
returns-then-not-branch-2-clause-call g c =
    read_both c.in_ok-has_parent.ensures.call c.in_ok-is_named.ensures.call

pub returns-clause-call : goal.returns-clause-call
returns-clause-call g c =
    read_both c.in_ok-has_parent.ensures.call c.in_ok-is_named.ensures.call
