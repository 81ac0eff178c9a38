use Rattle.std.proofs.Common.{◌≡◌, ◌++◌, ◌∷◌, None, ap, ◌∙◌, subst, refl, sym}
use Rattle.broker_model.specs.Words.{Text, slash, table_of, IsPathText}
use Rattle.soundness.proofs.AnswerLemmas.{from_true}
use Rattle.soundness.proofs.TextLemmas.{path_at}
use Rattle.soundness.proofs.TextWhole.{same_rest}
use Rattle.soundness.proofs.ReadLemmas.{object_unread, fails}
use Rattle.records.specs.declared.kind.Kind.TheVariants as kind
use Rattle.soundness.proofs.tokens.object.Goals as goal

pub returns-clause-sound : goal.returns-clause-sound
returns-clause-sound g c honest =
    let rows = (g.T.RecordsTx.seen c.args.tx.now).rows in
    let read = c.in-Ok.ensures.exact in (
      (c.args.row.now.owner, c.in-Ok.text.now),
      record {
        path = c.in-Some.path.now;
        key = path_at c.args.key.now c.as_str.result.now c.path_of.result c.in-Some.path c.in-Some.is
            c.path_of.ensures.sound
            ∙ ap (λ (t : Text). t ++ slash ∷ c.in-Some.path.now) c.as_str.ensures;
        owner = subst (λ (t : Text). table_of rows kind.Token t ≡ None → ⊥) c.as_str-2.ensures
            (from_true c.in_ok-has_row.field-0 c.if-not-branch-2.false (c.in_ok-has_row.ensures.found honest));
        is_path_text = from_true c.is_path.result c.if-not-is_path.false c.is_path.ensures.sound;
        object = record {
          object = from_true c.in_ok-is_object.field-0 c.if-not-branch.false c.in_ok-is_object.ensures.sound;
          short = read.0;
        };
      },
      read.1,
    )

pub returns-in_default-clause-broken : goal.returns-in_default-clause-broken
returns-in_default-clause-broken g c honest = object_unread c.args.row.now _ c.in_default.ensures _ refl

pub returns-in_default-path_of-clause-broken : goal.returns-in_default-path_of-clause-broken
returns-in_default-path_of-clause-broken g c honest = λ k.
    c.in_default-path_of.ensures.whole k.0 (k.1 ∙ ap (λ (t : Text). t ++ slash ∷ k.0) (sym c.as_str.ensures))

pub returns-then-not-is_path-clause-broken : goal.returns-then-not-is_path-clause-broken
returns-then-not-is_path-clause-broken g c honest = λ k.
    let is = path_at c.args.key.now c.as_str.result.now c.path_of.result c.in-Some.path c.in-Some.is
    c.path_of.ensures.sound
    ∙ ap (λ (t : Text). t ++ slash ∷ c.in-Some.path.now) c.as_str.ensures in
    fails c.is_path.result c.if-not-is_path.true c.is_path.ensures.whole
    (subst IsPathText (same_rest c.args.row.now.owner k.0 c.in-Some.path.now (sym k.1 ∙ is)) k.2)

pub returns-then-not-branch-clause-broken : goal.returns-then-not-branch-clause-broken
returns-then-not-branch-clause-broken g c honest =
    let read = c.in-Ok.ensures.exact in (
      (c.args.row.now.owner, c.in-Ok.text.now),
      (read.0, fails c.in_ok-is_object.field-0 c.if-not-branch.true c.in_ok-is_object.ensures.whole),
      read.1,
    )

pub returns-then-not-branch-2-clause-broken : goal.returns-then-not-branch-2-clause-broken
returns-then-not-branch-2-clause-broken g c honest =
    let rows = (g.T.RecordsTx.seen c.args.tx.now).rows in
    let read = c.in-Ok.ensures.exact in (
      (c.args.row.now.owner, c.in-Ok.text.now),
      (
        read.0,
        ap (table_of rows kind.Token) (sym c.as_str-2.ensures)
            ∙ c.in_ok-has_row.ensures.whole honest c.if-not-branch-2.true,
      ),
      read.1,
    )
