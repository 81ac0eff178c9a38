use Rattle.std.proofs.Common.{◌≡◌, rules, [], max, None, sym, ap, subst, ◌∙◌}
use Rattle.std.specs.FinMap as map
use Rattle.broker_model.specs.Words.{clock_row, same_Some, with_clock, ok_inj, honest_before}
use Rattle.records.specs.declared.kind.Kind.TheVariants as kind
use Rattle.broker_rows.specs.Words.{Represents, still_represented}
use Rattle.broker_rows.proofs.ClockCalls.{clock_found, clock_put}
use Rattle.broker_rows.proofs.expiry.advance_clock.Goals as goal

pub returns-in_default-clause-wants : goal.returns-in_default-clause-wants
returns-in_default-clause-wants g c honest b st =
    c.in_default.not-Some (clock_row b.clock)
    (c.in_ok-kept.ensures.found honest ∙ clock_found b (g.T.RecordsTx.seen c.args.tx.now).rows st)

pub returns-in_err-clock-clause-wants : goal.returns-in_err-clock-clause-wants
returns-in_err-clock-clause-wants g c honest b st =
    let is : c.in-Some.kept ≡ clock_row b.clock = same_Some _ _ (sym c.in-Some.is ∙ c.in_ok-kept.ensures.found honest
    ∙ clock_found b (g.T.RecordsTx.seen c.args.tx.now).rows st) in
    absurd (let e = c.in_err-clock.ensures.again b.clock st.sound.clock is in cc)

-- ---- the clock does not move

pub returns-then-seconds-clause-told : goal.returns-then-seconds-clause-told
returns-then-seconds-clause-told g c honest b st =
    let seen = g.T.RecordsTx.seen in
    let old = (seen c.args.tx.now).rows in
    let is : c.in-Some.kept ≡ clock_row b.clock =
    same_Some _ _ (sym c.in-Some.is ∙ c.in_ok-kept.ensures.found honest ∙ clock_found b old st) in
    let clock : c.in_ok-clock.clock ≡ b.clock = ok_inj (c.in_ok-clock.ensures.again b.clock st.sound.clock is) in
    let stays : c.later-now.result ≡ c.in_ok-clock.clock = search rules in (
      c.later-now.ensures.value ∙ ap (λ n. max n c.args.moment) clock,
      subst (λ n. Represents None (seen c.get.new.self).rows (with_clock b n)) (sym clock ∙ sym stays)
          (still_represented b old (seen c.get.new.self).rows (c.in_ok-kept.ensures.call.same honest) st),
    )

-- ---- it moves

pub returns-clause-told : goal.returns-clause-told
returns-clause-told g c honest b st =
    let seen = g.T.RecordsTx.seen in
    let mid = honest_before (seen c.get.new.self) (seen c.put.new.self) _ c.put.ensures.call.goes_on honest in
    let is : c.in-Some.kept ≡ clock_row b.clock = same_Some _ _ (sym c.in-Some.is ∙ c.in_ok-kept.ensures.found mid
    ∙ clock_found b (seen c.args.tx.now).rows st) in
    let clock : c.in_ok-clock.clock ≡ b.clock = ok_inj (c.in_ok-clock.ensures.again b.clock st.sound.clock is) in
    let later : c.later-now.result ≡ max b.clock c.args.moment = c.later-now.ensures.value
    ∙ ap (λ n. max n c.args.moment) clock in (
      later,
      clock_put b (seen c.args.tx.now).rows (seen c.put.new.self).rows c.later-now.result c.in_ok-row.row st
          c.later-now.ensures.within c.in_ok-row.ensures
          (c.in_ok-put.ensures.rows honest ∙ ap (λ rows. map.insert rows (kind.Clock, []) c.in_ok-row.row)
          (c.in_ok-kept.ensures.call.same mid)),
    )
