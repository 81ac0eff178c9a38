use Rattle.records.specs.Words.{List, Bool, refl, sym, ap, ◌∙◌, map, false≢true, Text, is_ascending, meta_way}
use Rattle.records.proofs.FieldReads.{reads_taken, reads_refused}
use Rattle.records.proofs.token_lists.MetaFormGlobal.read.Goals as goal

abbrev in_order : List (Text × Text) → Bool
in_order es = is_ascending (map (λ e. e.0) es)

pub returns-then-not-names_ascend : goal.returns-then-not-names_ascend
returns-then-not-names_ascend c =
    let tested = ap in_order (sym c.as_slice.ensures.value) ∙ sym c.names_ascend.ensures ∙ c.if-not-names_ascend.true in
    reads_refused meta_way c.in_ok-members.ensures (λ es h e. false≢true (sym tested ∙ ap in_order (sym e) ∙ h.ascend))

pub returns : goal.returns
returns c =
    let tested = ap in_order (sym c.as_slice.ensures.value) ∙ sym c.names_ascend.ensures
    ∙ c.if-not-names_ascend.false in
    reads_taken meta_way c.in_ok-members.ensures c.in_ok-members.members.items refl
    (record { members = c.in_ok-members.ensures.exact.0; ascend = tested })
