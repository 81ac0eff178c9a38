use Rattle.std.proofs.Common.{◌≡◌, ◌≤◌, refl, sym, ℕ, Some, Bor, ap, ◌∙◌, subst}
use Rattle.broker_model.specs.Words.{MatchOption-at_some, MatchOption-at_none, Version, Text, KeyEntry, IsKeyInRange}
use Rattle.broker_model.specs.Words.{IsVersionInRange, key_entry_row, version_row, table_of}
use Rattle.records.specs.declared.kind.Kind.TheVariants as kind
use Rattle.soundness.specs.Words.{IsVersionKey}
use Rattle.soundness.proofs.AnswerLemmas.{from_true, positive}
use Rattle.soundness.proofs.ReadLemmas.{unread, fails}
use Rattle.soundness.proofs.secrets.version.Goals as goal

pub returns-clause-sound : goal.returns-clause-sound
returns-clause-sound g c honest =
    let rows = table_of (g.T.RecordsTx.seen c.args.tx.now).rows in
    let read = c.in-Ok.ensures.exact in
    let name = c.in-Some.name.now in
    let version = MatchOption-at_some _ (λ (p : Bor Text × ℕ). IsVersionKey c.args.key.now p.0.now p.1)
    (c.in-Some.name, c.in-Some.number) c.in-Some.is c.in_ok-name.ensures.sound in
    let at = MatchOption-at_some _
    (λ (n : ℕ). (k : KeyEntry) × IsKeyInRange k × (rows kind.KvKey name ≡ Some (key_entry_row k)) × (n ≡ k.current))
    c.in-Some-2.current c.in-Some-2.is (c.in_ok-current.ensures.found honest) in
    let objects = from_true c.in_ok-is_secret.field-0 c.if-not-branch.false c.in_ok-is_secret.ensures.sound in (
      c.in-Ok.version,
      record {
        in_range = read.0;
        object = λ t is. record {
          object = objects t (ap (λ (v : Version). v.secret) c.version.view_is ∙ is);
          short = read.0.secret t is;
        };
        name = name;
        number = c.in-Some.number;
        key = at.0;
        key_in_range = at.1;
        key_row = at.2;
        is_key = version.is_key;
        first = positive c.in-Some.number c.if-number-eq0.false;
        last = subst (λ n. c.in-Some.number ≤ n) at.3 c.if-number-current.false;
      },
      read.1,
    )

pub returns-in_default-clause-broken : goal.returns-in_default-clause-broken
returns-in_default-clause-broken g c honest =
    unread IsVersionInRange version_row c.args.row.now _ c.in_default.ensures _ refl

pub returns-then-not-branch-clause-broken : goal.returns-then-not-branch-clause-broken
returns-then-not-branch-clause-broken g c honest =
    let read = c.in-Ok.ensures.exact in (
      c.in-Ok.version,
      (
        read.0,
        λ good. fails c.in_ok-is_secret.field-0 c.if-not-branch.true c.in_ok-is_secret.ensures.whole
            (λ t is. good t (ap (λ (v : Version). v.secret) (sym c.version.view_is) ∙ is)),
      ),
      read.1,
    )

pub returns-in_default-2-clause-broken : goal.returns-in_default-2-clause-broken
returns-in_default-2-clause-broken g c honest = λ k.
    MatchOption-at_none _ _ c.in_default-2.is c.in_ok-name.ensures.whole k.0 k.1 k.2

pub returns-in_default-3-clause-broken : goal.returns-in_default-3-clause-broken
returns-in_default-3-clause-broken g c honest =
    let version = MatchOption-at_some _ (λ (p : Bor Text × ℕ). IsVersionKey c.args.key.now p.0.now p.1)
    (c.in-Some.name, c.in-Some.number) c.in-Some.is c.in_ok-name.ensures.sound in (
      c.in-Some.name.now,
      c.in-Some.number,
      version,
      MatchOption-at_none _ _ c.in_default-3.is (c.in_ok-current.ensures.whole honest),
    )
