use Rattle.std.proofs.Common.{◌≡◌, ◌≤◌, ◌∙◌, arith, rules, codes, string_bytes, sym, ap, Ok, Some}
use Rattle.std.proofs.lemmas.Str.{IsUtf8-string_bytes}
use Rattle.broker_types.specs.Words.{is_utf8-from_IsUtf8}
use Rattle.hex.specs.Hex.{decode_of, encode_lower}
use Rattle.serde_json.specs.Data.{object, string, no_members, put, depth}
use Rattle.serde_json.specs.Read.{max_depth}
use Rattle.serde_json.specs.View.{view}
use Rattle.serde_json.specs.Written.{compact_text, has_float}
use Rattle.row_lines.specs.Lines.{framed}
use Rattle.row_lines.proofs.Damaged.{damaged_members, damaged_reads, damaged_no_float, damaged_flat}
use Rattle.row_lines.proofs.line.damaged_line.Goals as goal

pub returns : goal.returns
returns c =
    let e = c.args.entry.now in
    let text = c.in_ok-to_string.field-0 in
    let body : c.as_slice.result.now ≡ e.1.body = search rules in
    let decodes : decode_of (encode_lower e.1.body) ≡ Ok e.1.body =
    rw (sym body) c.in_ok-members.ensures.decodes in
    let is : view c.in_ok-line.line ≡ object (damaged_members e) =
    c.in_ok-line.ensures.data
    ∙ ap (λ ms. object (framed e ms))
    (c.in_ok-members.ensures.members
    ∙ ap (λ b. put (codes "damaged") (string (encode_lower b)) no_members) body) in
    let flat : depth (view c.in_ok-line.line) ≤ max_depth = rw (is, damaged_flat e) (omega arith) in
    let whole = ap has_float is ∙ damaged_no_float e in
    rw (c.new.ensures)
    (damaged_reads e (string_bytes text) c.in_ok-line.ensures.within decodes
    (is_utf8-from_IsUtf8 (string_bytes text) (IsUtf8-string_bytes text))
    (c.in_ok-to_string.ensures.reads_back flat ∙ ap Some is)
    (c.in_ok-to_string.ensures.text whole ∙ ap compact_text is))
