use Rattle.std.proofs.Common.{◌≡◌, ◌++◌, ◌∙◌, List, ℕ, Option, ap, append_assoc, codes, sym}
use Rattle.server.specs.LogLine.{path_member}
use Rattle.server.specs.declared.log_line.Asked.{Asked}
use Rattle.server.proofs.LogLemmas.{more}
use Rattle.server.proofs.log_line.push_path_member.Goals as goal

pub returns : goal.returns
returns c =
    let old = c.args.line.now.items in
    let head = codes ",\"path\":\"/v1/" in
    let path = c.in-Some.asked.path.items in
    let end = codes "\"" in
    let whole : c.extend_from_slice-4.new.self.items ≡ old ++ head ++ path ++ end =
    more end c.in_ok-extend_from_slice-3.ensures.items
    (more path (c.in_ok-extend_from_slice-2.ensures.items
    ∙ ap (λ (l : List ℕ). c.extend_from_slice-2.new.self.items ++ l) c.deref.ensures.value)
    c.in_ok-extend_from_slice.ensures.items) in
    whole ∙ append_assoc (old ++ head) path end ∙ append_assoc old head (path ++ end)
    ∙ ap (λ (l : List ℕ). old ++ l) (sym (append_assoc head path end))
    ∙ ap (λ (asked : Option Asked). old ++ path_member asked) (sym c.in-Some.is)
