-- The compact text of the object that a body is, is no longer than the body.
use Rattle.std.proofs.Common.{◌≡◌, ◌+◌, ◌^◌, ◌<◌, ◌≤◌, ◌∷◌, ℕ, false, List, [], length, Some, option_and_then, ap, ◌∙◌}
use Rattle.broker_types.specs.Words.{subst, arith, same_Some, longest_body}
use Rattle.json.specs.Token.{Token}
use Rattle.json.specs.Lex.{tokens}
use Rattle.json.specs.Json as json
use Rattle.json.proofs.Unique.Spelling.{value-json_tokens_back}
use Rattle.serde_json.specs.Data.{Data, null, boolean, number, string, array, object, Members}
use Rattle.serde_json.specs.Read.{of_json, read, max_depth}
use Rattle.serde_json.specs.Written.{compact_text}
use Rattle.api_json.specs.Words.{tree, members_in, read_body, CompactIsNoLonger}
use Rattle.api_json.proofs.Bodies.{tree_read}
use Rattle.api_json.proofs.LengthsTokens.{printed_length, length-tokens}
use Rattle.api_json.proofs.LengthsPrinted.{value_below, length-value}
use Rattle.api_json.proofs.ReadCanonical.{via_then}

whole : (j k : json.Json) (ts : List Token) → json.if_last j ts ≡ Some k → j ≡ k
whole j k [] e = same_Some _ _ e
whole j k (t ∷ ts) e = cc

pub length-read : (text : List ℕ) (d : Data) → read text ≡ Some d → length (compact_text d) ≤ length text
length-read text d e =
    let j = via_then (option_and_then (λ (p : json.Json × List Token). json.if_last p.0 p.1)
    (json.value max_depth (tokens text))) of_json d e in
    let p = via_then (json.value max_depth (tokens text))
    (λ (p : json.Json × List Token). json.if_last p.0 p.1) j.0 j.1 in
    let same = whole p.0.0 j.0 p.0.1 p.2 in
    let spelled = value-json_tokens_back max_depth (tokens text) p.0.1 p.0.0 p.1 in
    omega (
      arith,
      length-value p.0.0 d (ap of_json same ∙ j.2),
      value_below p.0.0 p.0.1,
      ap (printed_length false) spelled,
      length-tokens text,
    )

-- `null` is an empty object, whose text is shorter
object_length : (d : Data) (ms : Members) → members_in d ≡ Some ms
    → length (compact_text (object ms)) ≤ length (compact_text d)
object_length null ms e = subst (λ (x : Members). length (compact_text (object x)) ≤ 4) (same_Some _ _ e) (omega arith)
object_length (boolean b) ms e = cc
object_length (number n) ms e = cc
object_length (string s) ms e = cc
object_length (array ds) ms e = cc
object_length (object ns) ms e =
    subst (λ (x : Members). length (compact_text (object x)) ≤ length (compact_text (object ns))) (same_Some _ _ e)
    (omega arith)

pub no_longer : CompactIsNoLonger
no_longer [] ms some e = omega arith
no_longer (x ∷ xs) ms some e =
    let d = via_then (tree (x ∷ xs)) members_in ms e in
    omega (arith, object_length d.0 ms d.2, length-read (x ∷ xs) d.0 (tree_read (x ∷ xs) d.0 d.1).0)

-- no bytes are an empty object, whose text has two
pub length-body : (body : List ℕ) (ms : Members) → read_body body ≡ Some ms
    → length (compact_text (object ms)) ≤ length body + 2
length-body [] ms e = subst (λ (x : Members). length (compact_text (object x)) ≤ 2) (same_Some _ _ e) (omega arith)
length-body (x ∷ xs) ms e = omega (arith, no_longer (x ∷ xs) ms (omega arith) e)

pub short_object : (body : List ℕ) (ms : Members) → read_body body ≡ Some ms → length body ≤ longest_body
    → length (compact_text (object ms)) < 2 ^ 32
short_object body ms e h = omega (arith, length-body body ms e)
