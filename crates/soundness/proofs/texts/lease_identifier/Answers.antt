use Rattle.std.proofs.Common.{◌≡◌, sym, ◌∙◌, ap, subst}
use Rattle.soundness.proofs.AnswerLemmas.{from_true}
use Rattle.soundness.proofs.TextLemmas.{parts_of, issued_parts, lease_id_of}
use Rattle.broker_model.specs.Words.{false≢true, none-some, same_Some, name_no_slash, mount_no_slash, is_name}
use Rattle.broker_model.specs.Words.{is_mount_name, IsIdentifier, Text}
use Rattle.soundness.proofs.TextWhole.{cut_somewhere, cut_there, lease_parts}
use Rattle.soundness.proofs.texts.lease_identifier.Goals as goal

pub returns-clause-sound : goal.returns-clause-sound
returns-clause-sound c =
    lease_id_of c.args.text.now c.in-Some.mount.now c.in-Some.rest.now c.in-Some-issued.role.now
    c.in-Some-issued.identifier.now
    (parts_of c.args.text.now c.cut.result (c.in-Some.mount, c.in-Some.rest) c.in-Some.is c.cut.ensures.sound)
    (issued_parts c.in-Some.rest.now c.issued.result
    (c.in-Some-issued.role, c.in-Some-issued.identifier) c.in-Some-issued.is
    c.issued.ensures.sound)
    (from_true c.are_parts_of_id.result c.if-not-are_parts_of_id.false c.are_parts_of_id.ensures.sound)

pub returns-in_default-clause-whole : goal.returns-in_default-clause-whole
returns-in_default-clause-whole c = λ s.
    cut_somewhere c.args.text.now s.mount _ c.cut.result c.in_default.is c.cut.ensures.exact
    (mount_no_slash s.mount s.mount_name) (lease_parts c.args.text.now s)

pub returns-in_default-issued-clause-whole : goal.returns-in_default-issued-clause-whole
returns-in_default-issued-clause-whole c = λ s.
    let parts = cut_there c.args.text.now s.mount _ c.cut.result (c.in-Some.mount, c.in-Some.rest) c.in-Some.is
    c.cut.ensures.exact (mount_no_slash s.mount s.mount_name) (lease_parts c.args.text.now s) in
    none-some _ (c.in_default-issued.ensures.whole s.role s.identifier (sym parts.1) (name_no_slash s.role s.role_name))

pub returns-then-not-are_parts_of_id-clause-whole : goal.returns-then-not-are_parts_of_id-clause-whole
returns-then-not-are_parts_of_id-clause-whole c = λ s.
    let parts = cut_there c.args.text.now s.mount _ c.cut.result (c.in-Some.mount, c.in-Some.rest) c.in-Some.is
    c.cut.ensures.exact (mount_no_slash s.mount s.mount_name) (lease_parts c.args.text.now s) in
    let issued : ◌≡◌ {A = Text × Text} (c.in-Some-issued.role.now, c.in-Some-issued.identifier.now)
    (s.role, s.identifier) =
    same_Some _ _ (c.in-Some-issued.ensures.whole s.role s.identifier (sym parts.1)
    (name_no_slash s.role s.role_name)) in
    false≢true (sym c.if-not-are_parts_of_id.true
    ∙ c.are_parts_of_id.ensures.whole (ap is_mount_name (sym parts.0) ∙ s.mount_name)
    (ap (λ (p : Text × Text). is_name p.0) issued ∙ s.role_name)
    (subst (λ (p : Text × Text). IsIdentifier p.1) (sym issued) s.is_identifier))
