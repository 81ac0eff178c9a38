use Rattle.std.proofs.Common.{◌≡◌, ℕ, List, None, length, ap, arith, get_or, subst, sym, ◌∙◌}
use Rattle.broker_model.specs.Words.{id-length, get, names_of, mapped, mapped_none, token_identifier, Text, first_new}
use Rattle.broker_model.specs.Words.{honest_before, Tells, of_waiting, used_row, table_of, with_row, table_of-injective}
use Rattle.broker_model.specs.Words.{none_of, with_moved, moved, rewrap}
use Rattle.records.specs.declared.kind.Kind.TheVariants as kind
use Rattle.broker_rows.specs.Words.{Context, represents_waiting, still_represented}
use Rattle.system_operations.proofs.ResponseRows.{printed, represents_moved, second_new}
use Rattle.system_operations.proofs.responses.move_response.Goals as goal

pub rewrap-requires : goal.rewrap-requires
rewrap-requires g c =
    let good = (printed c.args.own.now (names_of c.args.context.now.words) c.requires.own).accessor in
    let accessor = c.as_str-accessor.ensures ∙ c.index-own-1.is
    ∙ ap (λ (own : List Text). get_or own 1 c.index-own-1.result) c.requires.own.are in
    let long : length c.as_str-accessor.result.now ≡ 36 =
    ap length (accessor ∙ good.2) ∙ id-length good.0 in
    omega (arith, long)

pub returns-in_default-clause-told : goal.returns-in_default-clause-told
returns-in_default-clause-told g c who honest b starts fresh =
    let seen = g.T.RecordsTx.seen in
    let old = (seen c.args.tx.now).rows in
    let new = (seen c.rewrap.new.tx).rows in
    let st = starts.represents in
    let there = represents_waiting b old st in
    let none = mapped_none (moved c.as_str-accessor.result.now c.context.inside.clock) (get b.waiting c.args.token.now)
    (sym (c.in_ok-response.ensures.moved honest b there) ∙ none_of _ c.in_default.not-Some) in
    (none, still_represented b old new (c.in_ok-response.ensures.unknown honest b there none).1 st)

pub returns-clause-told : goal.returns-clause-told
unfolding names_of
returns-clause-told g c who honest b starts fresh =
    let seen = g.T.RecordsTx.seen in
    let old = (seen c.args.tx.now).rows in
    let mid = (seen c.rewrap.new.tx).rows in
    let new = (seen c.use_up-2.new.tx).rows in
    let once =
    honest_before (seen c.use_up.new.tx) (seen c.use_up-2.new.tx) _ c.in_ok-use_up-2.ensures.call.goes_on honest in
    let first =
    honest_before (seen c.rewrap.new.tx) (seen c.use_up.new.tx) _ c.in_ok-use_up.ensures.call.goes_on once in
    let names = names_of c.args.context.now.words in
    let t = c.args.token.now in
    let a = c.as_str-accessor.result.now in
    let st = starts.represents in
    let there = represents_waiting b old st in
    let clock : c.context.inside.clock ≡ b.clock = ap (λ (x : Context). x.clock) c.context.view_is ∙ sym starts.clock in
    let identifier : c.as_str-identifier.result.now ≡ names.wrapping_token =
    c.as_str-identifier.ensures ∙ c.index-own-0.is
    ∙ ap (λ (own : List Text). get_or own 0 c.index-own-0.result) c.requires.own.are in
    let accessor : a ≡ names.wrapping_accessor =
    c.as_str-accessor.ensures ∙ c.index-own-1.is
    ∙ ap (λ (own : List Text). get_or own 1 c.index-own-1.result) c.requires.own.are in
    let token_new = subst (λ z. get b.used (token_identifier z) ≡ None) (sym c.requires.named)
    (first_new b.used names.wrapping_token names.wrapping_accessor fresh) in
    let accessor_new = subst (λ z. get b.used z ≡ None) (sym accessor)
    (second_new b.used names.wrapping_token names.wrapping_accessor fresh) in
    let w = mapped (moved a c.context.inside.clock) (get b.waiting t) c.in-Some.response
    (sym (c.in_ok-response.ensures.moved first b there) ∙ c.in-Some.is) in
    let tells = subst (λ (p : Text × Text × ℕ). Tells of_waiting (table_of mid) (rewrap b t p.0 p.1 p.2))
    (λ i. (c.requires.named i, accessor i, clock i))
    (c.in_ok-response.ensures.told first b there st.sound.identifiers.all_used token_new accessor_new) in
    let marks = c.in_ok-use_up-2.ensures.rows honest
    ∙ (λ i. with_row (c.in_ok-use_up.ensures.rows once i) kind.Used (identifier i) used_row)
    ∙ (λ i. with_row (with_row (table_of mid) kind.Used (accessor i) used_row) kind.Used names.wrapping_token
    used_row) in (
      w.0,
      w.1,
      w.2 ∙ (λ i. moved (accessor i) (clock i) w.0),
      represents_moved b names t w.0 w.1 old mid new st c.wrapping_commands_are_proper.ensures.sound
          (printed c.args.own.now names c.requires.own) fresh tells (c.in_ok-response.ensures.call.others first) marks,
    )

pub returns-in_default-clause-unknown : goal.returns-in_default-clause-unknown
returns-in_default-clause-unknown g c honest none =
    let seen = g.T.RecordsTx.seen in
    let old = (seen c.args.tx.now).rows in
    let new = (seen c.rewrap.new.tx).rows in
    let t = c.args.token.now in
    let a = c.as_str-accessor.result.now in
    let moves = c.in_ok-response.ensures.rows honest in
    let absent = mapped_none (moved a c.context.inside.clock) moves.response (sym moves.is_moved
    ∙ none_of _ c.in_default.not-Some) in
    table_of-injective new old
    (moves.is ∙ ap (with_moved (table_of old) t c.args.new_token.now a c.context.inside.clock) absent)
