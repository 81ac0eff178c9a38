-- The objects of bodies are kept as compact texts, which are read again as what they were.
use Rattle.std.proofs.Common.{◌≡◌, ◌≤◌, ◌∷◌, if◌then◌else◌, ℕ, List, [], length, false, Option, Some, None, Ok, codes}
use Rattle.broker_types.specs.Words.{option_and_then, option_map_or, refl, ◌∙◌, ap, subst, lit≤, arith, true, same_Some}
use Rattle.broker_types.specs.Words.{Text, same, longest_body, some_or}
use Rattle.serde_json.specs.Data.{Data, null, boolean, number, string, array, object, Members, no_members, depth}
use Rattle.serde_json.specs.Read.{read, max_depth}
use Rattle.serde_json.specs.Find.{get_member}
use Rattle.serde_json.specs.Written.{has_float, members_have_float, compact_text}
use Rattle.serde_json.proofs.Nesting.{depth-read}
use Rattle.broker_types.specs.TextLaws.{same_self}
use Rattle.api_json.specs.Words.{tree, members_in, without_floats, read_body, body_members, no_object, as_object_text}
use Rattle.api_json.specs.Words.{payload, is_object, IsKept, BodiesReadBack, BodiesAreKept, PayloadsAreKept}
use Rattle.api_json.specs.Words.{IsCanonical}
use Rattle.api_json.proofs.Bodies.{tree_read}
use Rattle.api_json.proofs.TextsReadBack.{read-compact_text}
use Rattle.api_json.proofs.ReadCanonical.{read-canonical, via_then}
use Rattle.api_json.proofs.Lengths.{short_object}
use Rattle.api_json.proofs.Nested.{member_canonical, member_depth, member_length}
use Rattle.api_json.proofs.Whole.{member_whole}

-- what a body brings
pub given_members : (body : List ℕ) (ms : Members) → body_members body ≡ Ok ms → read_body body ≡ Some ms
given_members body ms e = by (read_body body) e
  where
    by : (o : Option Members) → some_or no_object o ≡ Ok ms → o ≡ Some ms
    by None f = cc
    by (Some ns) f = cc

-- an object that can be printed and read again
pub record Stays (ms : Members) : Type 0 where
  pub canonical : IsCanonical (object ms)
  pub shallow : depth (object ms) ≤ max_depth
  pub whole : members_have_float ms ≡ false

none_stays : Stays no_members
none_stays = record { canonical = (tt, tt); shallow = lit≤ tt; whole = refl }

in_value : (d : Data) (ms : Members) → members_in d ≡ Some ms → IsCanonical d → depth d ≤ max_depth
    → has_float d ≡ false → Stays ms
in_value null ms e c s w = subst Stays (same_Some _ _ e) none_stays
in_value (boolean b) ms e c s w = cc
in_value (number n) ms e c s w = cc
in_value (string t) ms e c s w = cc
in_value (array ds) ms e c s w = cc
in_value (object ns) ms e c s w = subst Stays (same_Some _ _ e) (record { canonical = c; shallow = s; whole = w })

pub body_stays : (body : List ℕ) (ms : Members) → read_body body ≡ Some ms → Stays ms
body_stays [] ms e = subst Stays (same_Some _ _ e) none_stays
body_stays (x ∷ xs) ms e =
    let d = via_then (tree (x ∷ xs)) members_in ms e in
    let r = tree_read (x ∷ xs) d.0 d.1 in
    in_value d.0 ms d.2 (read-canonical (x ∷ xs) d.0 r.0 r.1) (depth-read (x ∷ xs) d.0 r.0) r.1

reads_back : (ms : Members) → Stays ms → read (compact_text (object ms)) ≡ Some (object ms)
reads_back ms stays = read-compact_text (object ms) stays.canonical stays.shallow

pub bodies_back : BodiesReadBack
bodies_back body ms e = reads_back ms (body_stays body ms e)

passes : (ms : Members) → Stays ms → is_object (compact_text (object ms)) ≡ true
unfolding is_object
passes ms stays =
    let t : Text = compact_text (object ms) in
    let here : option_and_then members_in (option_and_then without_floats (read t)) ≡ Some ms =
    ap (λ o. option_and_then members_in (option_and_then without_floats o)) (reads_back ms stays)
    ∙ ap (λ v. option_and_then members_in (if v then None else Some (object ms))) stays.whole in
    ap (λ o. option_map_or (λ ns. same (compact_text (object ns)) t) o false) here ∙ same_self t

pub bodies_kept : BodiesAreKept
bodies_kept body ms fits e = record { object = passes ms (body_stays body ms e); short = short_object body ms e fits }

-- a member that is an object
member_kept : (body : List ℕ) (ms : Members) (k : List ℕ) (d : Data) (t : Text) → length body ≤ longest_body
    → read_body body ≡ Some ms
    → get_member k ms ≡ Some d → as_object_text d ≡ Some t → IsKept t
member_kept body ms k null t fits e g o = cc
member_kept body ms k (boolean b) t fits e g o = cc
member_kept body ms k (number n) t fits e g o = cc
member_kept body ms k (string s) t fits e g o = cc
member_kept body ms k (array ds) t fits e g o = cc
member_kept body ms k (object ns) t fits e g o =
    let stays = body_stays body ms e in
    let inner : Stays ns =
    record {
      canonical = member_canonical k ms (object ns) stays.canonical.0 g;
      shallow = omega (arith, member_depth k ms (object ns) g, stays.shallow);
      whole = member_whole k ms (object ns) g stays.whole;
    } in
    subst IsKept (same_Some _ _ o) (record {
      object = passes ns inner;
      short = omega (arith, member_length k ms (object ns) g, short_object body ms e fits);
    })

pub payloads_kept : PayloadsAreKept
unfolding payload
payloads_kept body ms t fits e p =
    let d = via_then (get_member (codes "data") ms) as_object_text t p in
    member_kept body ms (codes "data") d.0 t fits e d.1 d.2
