use Rattle.std.proofs.Common.{◌≡◌, ◌<◌, ◌^◌, ◌-◌, ℕ, Some, None, sym, ap, ◌∙◌, subst, arith, refl, option_map}
use Rattle.records.specs.Words.{err_from_is_err_and, get, Token, of_tokens, Tells, rows_of, entry_row, table_of}
use Rattle.records.specs.Words.{with_row, TokenEntry, token_entry, IsTokenInRange, none-some, same_Some, mapped}
use Rattle.records.specs.Words.{mapped_none, none_of, honest_before, one_less}
use Rattle.records.specs.declared.kind.Kind.TheVariants as kind
use Rattle.token_tree.specs.Words.{spent_entry, left_entry}
use Rattle.token_tree.proofs.Singles.{change_same, row_again}
use Rattle.token_tree.proofs.single.spend.Goals as goal

pub returns-in_default-clause-told : goal.returns-in_default-clause-told
returns-in_default-clause-told g c honest forms b stands k q h =
    let t = c.args.token.now in
    let none : get b.tokens t ≡ None = mapped_none token_entry (get b.tokens t)
    (sym (c.in_ok-record.ensures.told honest forms b stands) ∙ none_of _ c.in_default.not-Some) in
    let still = change_same b.tokens t one_less (λ x is. absurd (none-some _ (sym none ∙ is))) in
    ap (λ rows. table_of rows k q) (c.in_ok-record.ensures.call.same honest) ∙ stands.tells k q h
    ∙ ap (λ ts. rows_of (record b { tokens = ts }) k q) (sym still)

unlimited : (x : Token) → x.uses_left ≡ None → one_less x ≡ x
unlimited x none = λ i. record x { uses_left = (ap (option_map (λ (n : ℕ). n - 1)) none ∙ sym none) i }

pub returns-in_default-uses_left-clause-told : goal.returns-in_default-uses_left-clause-told
returns-in_default-uses_left-clause-told g c honest forms b stands k q h =
    let t = c.args.token.now in
    let x = mapped token_entry (get b.tokens t) c.in-Some.record
    (sym (c.in_ok-record.ensures.told honest forms b stands) ∙ c.in-Some.is) in
    let none : x.0.uses_left ≡ None = ap (λ (e : TokenEntry). e.uses_left) (sym (c.record.view_is ∙ x.2))
    ∙ none_of _ c.in_default-uses_left.not-Some in
    let still = change_same b.tokens t one_less
    (λ y is. unlimited y (ap (λ (z : Token). z.uses_left) ((same_Some _ _ (sym is ∙ x.1))) ∙ none)) in
    ap (λ rows. table_of rows k q) (c.in_ok-record.ensures.call.same honest) ∙ stands.tells k q h
    ∙ ap (λ ts. rows_of (record b { tokens = ts }) k q) (sym still)

pub rewrite-requires : goal.rewrite-requires
rewrite-requires g c =
    let told : IsTokenInRange c.in-Some.record = c.in_ok-record.ensures.in_range c.in-Some.record c.in-Some.is in
    let here = subst IsTokenInRange (sym c.record.view_is) told in
    let wide : c.in-Some-uses_left.uses < 2 ^ 64 = here.uses_left c.in-Some-uses_left.uses c.in-Some-uses_left.is in
    let less : c.saturating_sub.result ≡ c.in-Some-uses_left.uses - 1 = c.saturating_sub.ensures in
    record {
      parent = here.parent;
      accessor = here.accessor;
      policies = here.policies;
      issued = here.issued;
      ends = here.ends;
      ttl = here.ttl;
      explicit_max_ttl = here.explicit_max_ttl;
      period = here.period;
      uses_left = λ n e. let is : c.saturating_sub.result ≡ n = (same_Some _ _ e) in omega (arith, wide, less, is);
      meta = here.meta;
    }

pub returns-clause-told : goal.returns-clause-told
returns-clause-told g c honest forms b stands =
    let seen = g.T.RecordsTx.seen in
    let mid = honest_before (seen c.find.new.tx) (seen c.rewrite.new.tx) _ c.rewrite.ensures.call.goes_on honest in
    let t = c.args.token.now in
    let x = mapped token_entry (get b.tokens t) c.in-Some.record
    (sym (c.in_ok-record.ensures.told mid forms b stands) ∙ c.in-Some.is) in
    let whole = c.record.view_is ∙ x.2 in
    let uses : x.0.uses_left ≡ Some c.in-Some-uses_left.uses = ap (λ (e : TokenEntry). e.uses_left) (sym whole)
    ∙ c.in-Some-uses_left.is in
    let less : option_map (λ (n : ℕ). n - 1) x.0.uses_left ≡ Some c.saturating_sub.result =
    ap (option_map (λ (n : ℕ). n - 1)) uses
    ∙ ap Some (sym c.saturating_sub.ensures) in
    c.in_ok-rewrite.ensures.told honest b x.0 one_less (subst (λ rows. Tells of_tokens (table_of rows) b)
    (sym (c.in_ok-record.ensures.call.same mid)) stands.tells) x.1
    (λ i. record (sym whole i) { uses_left = less i }) (λ y. refl)

pub returns-in_err-record-clause-wants : goal.returns-in_err-record-clause-wants
returns-in_err-record-clause-wants g c honest forms b stands =
    let p = err_from_is_err_and c.from_residual.result c.from_residual.ensures.1 in
    rw (p.1, p.2) (c.in_err-record.ensures.wants honest forms b stands)

unlimited_entry : (x : TokenEntry) → x.uses_left ≡ None → spent_entry x ≡ x
unlimited_entry x none = λ i. record x { uses_left = (ap (option_map (λ (n : ℕ). n - 1)) none ∙ sym none) i }

pub returns-in_default-clause-rows : goal.returns-in_default-clause-rows
returns-in_default-clause-rows g c honest =
    record {
      changes = record {
        entry = None;
        in_range = λ y e. absurd (none-some _ e);
        was = c.in_ok-record.ensures.found honest ∙ ap (option_map entry_row) (none_of _ c.in_default.not-Some);
        is = ap table_of (c.in_ok-record.ensures.call.same honest);
      };
      told = refl;
    }

pub returns-in_default-clause-left : goal.returns-in_default-clause-left
returns-in_default-clause-left g c honest forms b stands =
    ap (option_map spent_entry) (sym (none_of _ c.in_default.not-Some)
    ∙ c.in_ok-record.ensures.told honest forms b stands)
    ∙ left_entry b c.args.token.now

pub returns-in_default-uses_left-clause-rows : goal.returns-in_default-uses_left-clause-rows
returns-in_default-uses_left-clause-rows g c honest =
    let old = table_of (g.T.RecordsTx.seen c.args.tx.now).rows in
    let t = c.args.token.now in
    let x = c.in-Some.record in
    let here = c.in_ok-record.ensures.found honest ∙ ap (option_map entry_row) c.in-Some.is in
    let none : x.uses_left ≡ None = ap (λ (e : TokenEntry). e.uses_left) (sym c.record.view_is)
    ∙ none_of _ c.in_default-uses_left.not-Some in
    record {
      changes = record {
        entry = Some x;
        in_range = λ y e. c.in_ok-record.ensures.in_range y (c.in-Some.is ∙ e);
        was = here;
        is = ap table_of (c.in_ok-record.ensures.call.same honest) ∙ sym (row_again old t (entry_row x) here)
            ∙ ap (λ (e : TokenEntry). with_row old kind.Token t (entry_row e)) (sym (unlimited_entry x none));
      };
      told = ap Some (sym (unlimited_entry x none));
    }

pub returns-in_default-uses_left-clause-left : goal.returns-in_default-uses_left-clause-left
returns-in_default-uses_left-clause-left g c honest forms b stands =
    let none : c.in-Some.record.uses_left ≡ None = ap (λ (e : TokenEntry). e.uses_left) (sym c.record.view_is)
    ∙ none_of _ c.in_default-uses_left.not-Some in
    ap Some (sym (unlimited_entry c.in-Some.record none))
    ∙ ap (option_map spent_entry) (sym c.in-Some.is ∙ c.in_ok-record.ensures.told honest forms b stands)
    ∙ left_entry b c.args.token.now

less_entry : (x y : TokenEntry) (uses less : ℕ) → y ≡ x → y.uses_left ≡ Some uses → less ≡ uses - 1
    → record y { uses_left = Some less } ≡ spent_entry x
less_entry x y uses less same limited is =
    let left : Some less ≡ option_map (λ (n : ℕ). n - 1) x.uses_left =
    ap Some is ∙ ap (option_map (λ (n : ℕ). n - 1)) (sym limited ∙ ap (λ (e : TokenEntry). e.uses_left) same) in
    λ i. record (same i) { uses_left = left i }

pub returns-clause-rows : goal.returns-clause-rows
returns-clause-rows g c honest =
    let seen = g.T.RecordsTx.seen in
    let t = c.args.token.now in
    let x = c.in-Some.record in
    let mid = honest_before (seen c.find.new.tx) (seen c.rewrite.new.tx) _ c.rewrite.ensures.call.goes_on honest in
    let left = less_entry x _ c.in-Some-uses_left.uses c.saturating_sub.result c.record.view_is c.in-Some-uses_left.is
    c.saturating_sub.ensures in
    record {
      changes = record {
        entry = Some x;
        in_range = λ y e. c.in_ok-record.ensures.in_range y (c.in-Some.is ∙ e);
        was = c.in_ok-record.ensures.found mid ∙ ap (option_map entry_row) c.in-Some.is;
        is = c.in_ok-rewrite.ensures.rows honest
            ∙ (λ i. with_row (table_of (c.in_ok-record.ensures.call.same mid i)) kind.Token t (entry_row (left i)));
      };
      told = ap Some left;
    }

pub returns-clause-left : goal.returns-clause-left
returns-clause-left g c honest forms b stands =
    let seen = g.T.RecordsTx.seen in
    let x = c.in-Some.record in
    let mid = honest_before (seen c.find.new.tx) (seen c.rewrite.new.tx) _ c.rewrite.ensures.call.goes_on honest in
    let left = less_entry x _ c.in-Some-uses_left.uses c.saturating_sub.result c.record.view_is c.in-Some-uses_left.is
    c.saturating_sub.ensures in
    ap Some left ∙ ap (option_map spent_entry) (sym c.in-Some.is ∙ c.in_ok-record.ensures.told mid forms b stands)
    ∙ left_entry b c.args.token.now
