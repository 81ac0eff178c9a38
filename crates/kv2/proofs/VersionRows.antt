-- Rows of versions by the two parts of their keys: edits of a table as edits at these parts.
use Rattle.std.proofs.Common.{◌≡◌, ◌&&◌, ◌∷◌, ◌++◌, if◌then◌else◌, [], nat_eq, Bool, true, false, Option, Some, None}
use Rattle.records.specs.Words.{option_and_then, is_le, starts_with, refl, sym, ◌∙◌, ap, Text, text_cmp, same}
use Rattle.records.specs.Words.{same_true, false_from_ne_true, none-some, split_once, line_feed, lacks, split-lacking}
use Rattle.records.specs.Words.{lacking_split, after_prefix}
use Rattle.kv2.specs.Words.{Row}
use Rattle.kv2.proofs.VersionNames.{starts-name, starts-front, same-parts}

-- rows by a name and digits
abbrev pub ByParts : Type 0
ByParts = Text × Text → Option Row

abbrev pub at_parts : ByParts → Text → Option Row
at_parts rows q = option_and_then rows (split_once line_feed q)

abbrev pub with_part : ByParts → Text → Text → Row → ByParts
with_part rows name digits row = λ p. if same p.0 name && same p.1 digits then Some row else rows p

abbrev pub without_parts_to : ByParts → Text → Text → ByParts
without_parts_to rows name last = λ p. if same p.0 name && is_le (text_cmp p.1 last) then None else rows p

abbrev pub without_name : ByParts → Text → ByParts
without_name rows name = λ p. if same p.0 name then None else rows p

abbrev pub without_folder : ByParts → Text → ByParts
without_folder rows folder = λ p. if starts_with nat_eq p.0 folder then None else rows p

-- by cases on the parts
pub by_parts : (q : Text) (P : Option (Text × Text) → Type 0) → (split_once line_feed q ≡ None → P None)
    → ((p : Text × Text) → split_once line_feed q ≡ Some p → q ≡ p.0 ++ line_feed ∷ p.1 → lacks line_feed p.0 ≡ true
    → P (Some p)) → P (split_once line_feed q)
by_parts q P none some =
    elim (split_once line_feed q) as (λ o. split_once line_feed q ≡ o → P o) [
      | None ↦ none
      | Some p ↦ λ e. let parts = lacking_split line_feed q p e in some p e parts.0 parts.1
    ] refl

module _ (rows : ByParts) (name : Text) (h : lacks line_feed name ≡ true) where
  pub at_parts-with_part : (digits : Text) (row : Row) (q : Text)
      → (if same q (name ++ line_feed ∷ digits) then Some row else at_parts rows q)
      ≡ at_parts (with_part rows name digits row) q
  at_parts-with_part digits row q =
      by_parts q (λ o. (if same q (name ++ line_feed ∷ digits) then Some row else option_and_then rows o)
      ≡ option_and_then (with_part rows name digits row) o)
      (λ none. ap (λ b. if b then Some row else None) (false_from_ne_true _ (λ e.
      absurd (none-some _ (sym none ∙ ap (split_once line_feed) (same_true q (name ++ line_feed ∷ digits) e)
      ∙ split-lacking line_feed name digits h)))))
      (λ p _ is front. ap (λ b. if b then Some row else rows p) (ap (λ z. same z (name ++ line_feed ∷ digits)) is
      ∙ same-parts line_feed p.0 p.1 name digits front h))

  pub at_parts-without_to : (last : Text) (q : Text)
      → (if starts_with nat_eq q (name ++ line_feed ∷ [])
      && is_le (text_cmp q (name ++ line_feed ∷ last)) then None else at_parts rows q)
      ≡ at_parts (without_parts_to rows name last) q
  at_parts-without_to last q =
      by_parts q (λ o. (if starts_with nat_eq q (name ++ line_feed ∷ []) && is_le (text_cmp q
      (name ++ line_feed ∷ last)) then None else option_and_then rows o)
      ≡ option_and_then (without_parts_to rows name last) o)
      (λ none. neither (starts_with nat_eq q (name ++ line_feed ∷ []) && is_le (text_cmp q (name ++ line_feed ∷ last))))
      (λ p _ is front. ap (λ b. if b then None else rows p) (
      ap (λ z. starts_with nat_eq z (name ++ line_feed ∷ []) && is_le (text_cmp z (name ++ line_feed ∷ last))) is
      ∙ ap (λ b. b && is_le (text_cmp (p.0 ++ line_feed ∷ p.1) (name ++ line_feed ∷ last)))
      (starts-name line_feed p.0 p.1 name front h)
      ∙ elim (same p.0 name) as (λ b. same p.0 name ≡ b
      → (b && is_le (text_cmp (p.0 ++ line_feed ∷ p.1) (name ++ line_feed ∷ last)))
      ≡ (b && is_le (text_cmp p.1 last))) [
        | true ↦ λ e. ap is_le
            (ap (λ z. text_cmp (z ++ line_feed ∷ p.1) (name ++ line_feed ∷ last)) (same_true p.0 name e)
            ∙ after_prefix name (line_feed ∷ p.1) (line_feed ∷ last))
        | false ↦ λ _. refl
      ] refl))
    where
      neither : (b : Bool) → (if b then None else option_and_then rows None) ≡ None
      neither true = refl
      neither false = refl

  pub at_parts-without_name : (q : Text)
      → (if starts_with nat_eq q (name ++ line_feed ∷ []) then None else at_parts rows q)
      ≡ at_parts (without_name rows name) q
  at_parts-without_name q =
      by_parts q (λ o. (if starts_with nat_eq q (name ++ line_feed ∷ []) then None else option_and_then rows o)
      ≡ option_and_then (without_name rows name) o)
      (λ none. neither (starts_with nat_eq q (name ++ line_feed ∷ [])))
      (λ p _ is front. ap (λ b. if b then None else rows p) (ap (λ z. starts_with nat_eq z (name ++ line_feed ∷ [])) is
      ∙ starts-name line_feed p.0 p.1 name front h))
    where
      neither : (b : Bool) → (if b then None else option_and_then rows None) ≡ None
      neither true = refl
      neither false = refl

  -- the name as the front of names
  pub at_parts-without_folder : (q : Text) → (if starts_with nat_eq q name then None else at_parts rows q)
      ≡ at_parts (without_folder rows name) q
  at_parts-without_folder q =
      by_parts q (λ o. (if starts_with nat_eq q name then None else option_and_then rows o)
      ≡ option_and_then (without_folder rows name) o)
      (λ none. neither (starts_with nat_eq q name))
      (λ p _ is front. ap (λ b. if b then None else rows p)
      (ap (λ z. starts_with nat_eq z name) is ∙ starts-front line_feed p.0 p.1 name h))
    where
      neither : (b : Bool) → (if b then None else option_and_then rows None) ≡ None
      neither true = refl
      neither false = refl
