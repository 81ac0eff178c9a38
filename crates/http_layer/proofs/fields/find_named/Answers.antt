use Rattle.std.proofs.Common.{◌≡◌, ◌++◌, ◌∷◌, ◌∙◌, [], sym, ap, subst, map, take, get_or, List, ℕ}
use Rattle.broker_types.specs.Words.{map_more}
use Rattle.httparse.specs.Spans.{header_bytes}
use Rattle.httparse.specs.declared.spans.HeaderSpan.{HeaderSpan}
use Rattle.http_layer.specs.Words.{values_named, is_named, same_in_any_case, Named, Several, AreNamed}
use Rattle.http_layer.proofs.NamedLemmas.{values_named-hit, values_named-miss, AreNamed-several}
use Rattle.http_layer.proofs.fields.find_named.Goals as goal
use Rattle.http_layer.proofs.fields.find_named.Goals.{then-same_in_any_case+in-Absent, then-same_in_any_case+in_default}
use Rattle.http_layer.proofs.fields.find_named.Goals.{else-same_in_any_case}

abbrev none : HeaderSpan
none = record { name = record { start = 0; end = 0 }; value = record { start = 0; end = 0 } }

pub loop-header-preserved : goal.loop-header-preserved
loop-header-preserved c =
    let text = c.args.text.now in
    let name = c.args.name.now in
    let xs = c.args.headers.now in
    let i = c.loop-header.header-index in
    let f = header_bytes text (get_or xs i none) in
    let so_far = map (header_bytes text) (take i xs) in
    let test : is_named name f ≡ c.same_in_any_case.result =
    ap (λ (t : List ℕ). same_in_any_case t name) (sym c.of.ensures) ∙ sym c.same_in_any_case.ensures in
    rw (map_more (header_bytes text) xs i none c.loop-header-test.true)
    (elim c.if-same_in_any_case.branch [
      | then-same_in_any_case+in-Absent w ↦
          rw w.named-is
          (values_named-hit name so_far f (test ∙ w.if-same_in_any_case.true)
          ∙ ap (λ (l : List (List ℕ)). l ++ f.1 ∷ [])
          (subst (λ (n : Named). AreNamed (values_named name so_far) n) w.in-Absent.is c.loop-header.invariant)
          ∙ ap (λ (v : List ℕ). v ∷ []) (sym w.of-in-Absent.ensures))
      | then-same_in_any_case+in_default w ↦
          rw w.named-is
          (subst (λ (l : List (List ℕ)). AreNamed l Several)
          (sym (values_named-hit name so_far f (test ∙ w.if-same_in_any_case.true)))
          (AreNamed-several (values_named name so_far) c.loop-header.named f.1 c.loop-header.invariant
          w.in_default.not-Absent))
      | else-same_in_any_case w ↦
          rw w.named-is
          (subst (λ (l : List (List ℕ)). AreNamed l c.loop-header.named)
          (sym (values_named-miss name so_far f (test ∙ w.if-same_in_any_case.false)))
          c.loop-header.invariant)
    ])
