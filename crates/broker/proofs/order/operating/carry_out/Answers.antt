use Rattle.std.proofs.Common.{◌≡◌, List, drop, nat_lt, take, true, Err, sym, ap, ◌∙◌, subst, get_or, ltb-true}
use Rattle.broker_model.specs.Words.{take-length, and_parts, length-drop, err_from_is_err_and, names_of, Done}
use Rattle.broker_model.specs.Words.{IsIdentifier, Text, are_new, honest_before, wrap_200, is_wrapped, traits}
use Rattle.broker_rows.specs.Words.{ArePrinted}
use Rattle.broker.specs.Askers.{who_of}
use Rattle.broker.specs.Meant.{meant}
use Rattle.broker.specs.Stages.{IsServed}
use Rattle.broker.proofs.Asked.{begins_clock}
use Rattle.broker.proofs.NeededIdentifiers.{accessor_good, needed_is, own_new, own_printed, printed_is, token_good}
use Rattle.broker.proofs.Routes.{acted_not, acted_wrapped}
use Rattle.broker.proofs.order.operating.carry_out.Goals as goal

pub act-requires-2-clause-own : goal.act-requires-2-clause-own
act-requires-2-clause-own g c =
    let command = meant c.args.command in
    let ask = c.args.ask.now in
    let names = names_of c.args.context.now.words in
    let wraps : is_wrapped ask command ≡ true = sym c.is_wrapped.ensures ∙ c.if-not-is_wrapped.false in
    let needed = c.args.needed.now in
    let rest = ap (λ n. take n (drop 2 needed)) (sym (length-drop 2 needed)) ∙ take-length (drop 2 needed) in
    subst (λ (own : List Text). ArePrinted own ((traits command).own names)) (sym rest)
    (own_printed ask names command wraps needed c.requires.needed)

pub returns-in_err-answered-clause-told : goal.returns-in_err-answered-clause-told
returns-in_err-answered-clause-told g c placed honest b begins fresh =
    let seen = g.T.RecordsTx.seen in
    let command = meant c.args.command in
    let ask = c.args.ask.now in
    let names = names_of c.args.context.now.words in
    let wraps : is_wrapped ask command ≡ true = sym c.is_wrapped.ensures ∙ c.if-not-is_wrapped.false in
    let own : are_new b.used ((traits command).own names) ≡ true =
    own_new b.used names.wrapping_token names.wrapping_accessor _
    (ap (are_new b.used) (sym (needed_is ask names command wraps)) ∙ fresh) in
    let p = err_from_is_err_and c.from_residual.result c.from_residual.ensures.1 in
    rw (p.1 ∙ ap Err p.2)
    (acted_not b (who_of c.args.asker.now) names ask command (seen c.act-2.new.tx).rows c.in_err-answered.field-0.0
    (c.in_err-answered.ensures.told placed honest b begins own))

pub wrap-requires : goal.wrap-requires
wrap-requires g c =
    let command = meant c.args.command in
    let ask = c.args.ask.now in
    let names = names_of c.args.context.now.words in
    let needed = c.args.needed.now in
    let wraps : is_wrapped ask command ≡ true = sym c.is_wrapped.ensures ∙ c.if-not-is_wrapped.false in
    let printed = printed_is ask names command wraps needed c.requires.needed in
    let token = c.as_str-2.ensures ∙ c.index-needed-0.is
    ∙ ap (λ (needed : List Text). get_or needed 0 c.index-needed-0.result) printed in
    let accessor = c.as_str-3.ensures ∙ c.index-needed-1.is
    ∙ ap (λ (needed : List Text). get_or needed 1 c.index-needed-1.result) printed in
    record {
      path = c.as_str.ensures.good;
      waits = ltb-true 0 ask.wrap_ttl (and_parts (nat_lt 0 ask.wrap_ttl) (traits command).may_wrap wraps).0;
      token = subst IsIdentifier (sym token) (token_good ask names command wraps needed c.requires.needed);
      accessor = subst IsIdentifier (sym accessor) (accessor_good ask names command wraps needed c.requires.needed);
    }

pub returns-clause-told : goal.returns-clause-told
returns-clause-told g c placed honest b begins fresh =
    let seen = g.T.RecordsTx.seen in
    let who = who_of c.args.asker.now in
    let command = meant c.args.command in
    let ask = c.args.ask.now in
    let names = names_of c.args.context.now.words in
    let needed = c.args.needed.now in
    let old = (seen c.args.tx.now).rows in
    let mid = (seen c.act-2.new.tx).rows in
    let new = (seen c.wrap.new.tx).rows in
    let wraps : is_wrapped ask command ≡ true = sym c.is_wrapped.ensures ∙ c.if-not-is_wrapped.false in
    let printed = printed_is ask names command wraps needed c.requires.needed in
    let all_new = ap (are_new b.used) (sym (needed_is ask names command wraps)) ∙ fresh in
    let own : are_new b.used ((traits command).own names) ≡ true =
    own_new b.used names.wrapping_token names.wrapping_accessor _ all_new in
    let before = honest_before (seen c.act-2.new.tx) (seen c.wrap.new.tx) _ c.in_ok-wrap.ensures.call.goes_on honest in
    acted_wrapped b who names ask command new mid c.in_ok-answered.answered c.in_ok-wrap.field-0 wraps
    (c.in_ok-answered.ensures.told placed before b begins own)
    (λ (d : Done) does done.
    subst (λ (path : Text). IsServed who new c.in_ok-wrap.field-0 (wrap_200 b path ask.wrap_ttl names d d.answered))
    c.as_str.ensures.text
    (c.in_ok-wrap.ensures.told honest who b ((traits command).own names) d
    (record {
      clock = begins_clock c.args.asker.now c.args.context.now old b begins;
      token = c.as_str-2.ensures ∙ c.index-needed-0.is
          ∙ ap (λ (needed : List Text). get_or needed 0 c.index-needed-0.result) printed;
      accessor = c.as_str-3.ensures ∙ c.index-needed-1.is
          ∙ ap (λ (needed : List Text). get_or needed 1 c.index-needed-1.result) printed;
      new = all_new;
      proper = c.operations_are_proper.ensures b who c.args.context.now.words command d own does;
    }) done))
