use Rattle.broker_model.specs.Words.{sym, ◌∙◌, ap, subst, is_mount_name, IsPathText, false≢true, mount_no_slash}
use Rattle.soundness.proofs.AnswerLemmas.{on_true, from_true}
use Rattle.soundness.proofs.TextLemmas.{name_parts}
use Rattle.soundness.proofs.TextWhole.{cut_somewhere, cut_there, secret_parts}
use Rattle.soundness.proofs.texts.is_secret_name.Goals as goal

pub returns-clause-sound : goal.returns-clause-sound
returns-clause-sound c = on_true c.is_path.result (λ good. record {
  mount = c.in-Some.mount.now;
  path = c.in-Some.path.now;
  mount_name = sym c.is_mount_name.ensures ∙ c.if-not-is_mount_name.false;
  is_path_text = from_true c.is_path.result good c.is_path.ensures.sound;
  parts = name_parts c.args.text.now c.cut.result (c.in-Some.mount, c.in-Some.path) c.in-Some.is c.cut.ensures.sound;
})

pub returns-in_default-clause-whole : goal.returns-in_default-clause-whole
returns-in_default-clause-whole c = λ s.
    absurd (cut_somewhere c.args.text.now s.mount s.path c.cut.result c.in_default.is c.cut.ensures.exact
    (mount_no_slash s.mount s.mount_name) (secret_parts c.args.text.now s))

pub returns-then-not-is_mount_name-clause-whole : goal.returns-then-not-is_mount_name-clause-whole
returns-then-not-is_mount_name-clause-whole c = λ s.
    let parts = cut_there c.args.text.now s.mount s.path c.cut.result (c.in-Some.mount, c.in-Some.path) c.in-Some.is
    c.cut.ensures.exact (mount_no_slash s.mount s.mount_name) (secret_parts c.args.text.now s) in
    absurd (false≢true (sym c.if-not-is_mount_name.true ∙ c.is_mount_name.ensures ∙ ap is_mount_name (sym parts.0)
    ∙ s.mount_name))

pub returns-clause-whole : goal.returns-clause-whole
returns-clause-whole c = λ s.
    let parts = cut_there c.args.text.now s.mount s.path c.cut.result (c.in-Some.mount, c.in-Some.path) c.in-Some.is
    c.cut.ensures.exact (mount_no_slash s.mount s.mount_name) (secret_parts c.args.text.now s) in
    c.is_path.ensures.whole (subst IsPathText parts.1 s.is_path_text)
