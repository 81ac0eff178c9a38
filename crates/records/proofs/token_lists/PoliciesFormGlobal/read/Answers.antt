use Rattle.records.specs.Words.{refl, sym, ap, ◌∙◌, false≢true, is_ascending, policies_way}
use Rattle.records.proofs.FieldReads.{reads_taken, reads_refused}
use Rattle.records.proofs.token_lists.PoliciesFormGlobal.read.Goals as goal

pub returns-then-not-ascends : goal.returns-then-not-ascends
returns-then-not-ascends c =
    let tested = ap is_ascending (sym c.as_slice.ensures.value) ∙ sym c.ascends.ensures ∙ c.if-not-ascends.true in
    reads_refused policies_way c.in_ok-names.ensures
    (λ xs h e. false≢true (sym tested ∙ ap is_ascending (sym e) ∙ h.ascend))

pub returns : goal.returns
returns c =
    let tested = ap is_ascending (sym c.as_slice.ensures.value) ∙ sym c.ascends.ensures ∙ c.if-not-ascends.false in
    reads_taken policies_way c.in_ok-names.ensures c.in_ok-names.names.items refl
    (record { names = c.in_ok-names.ensures.exact.0; ascend = tested })
