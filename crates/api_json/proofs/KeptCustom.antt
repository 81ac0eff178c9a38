-- What a body brings as custom metadata of a secret can be kept.
use Rattle.std.proofs.Common.{◌≡◌, ◌≤◌, ℕ, List, [], length, nat_le, true, Option, Some, Ok, unwrap_or, sym, ap, ◌∙◌}
use Rattle.broker_types.specs.Words.{AllByRecursion, list_all, subst, and_parts, leb-true, All-from_recursion}
use Rattle.broker_types.specs.Words.{longest_body, most_custom_metadata, IsCustomPair, Text}
use Rattle.serde_json.specs.Data.{Members}
use Rattle.api_json.specs.Words.{Field, read_body, IsKeptMeta, IsKeptCustom, optional, is_custom, is_custom_pair}
use Rattle.api_json.specs.Kinds as kind
use Rattle.api_json.proofs.KeptMeta.{meta_kept}

-- accepted custom metadata are few, and their names ascend as those of all metadata that a body brings
pub custom_kept : (body : List ℕ) (ms : Members) (f : Field) (o : Option (List (Text × Text))) (es : List (Text × Text))
    → length body ≤ longest_body → read_body body ≡ Some ms → optional kind.as_pairs f ms ≡ Ok o → o ≡ Some es
    → is_custom o ≡ true
    → AllByRecursion (λ e. IsCustomPair e.0 e.1) es → IsKeptCustom es
custom_kept body ms f o es fit e h is passes each =
    let kept = subst (λ (x : Option (List (Text × Text))). IsKeptMeta (unwrap_or x [])) is
    (meta_kept body ms f o fit e h) in
    let two = and_parts (nat_le (length es) most_custom_metadata) (list_all is_custom_pair es)
    (ap is_custom (sym is) ∙ passes) in
    record {
      few = leb-true (length es) most_custom_metadata two.0;
      each = All-from_recursion (λ (e : Text × Text). IsCustomPair e.0 e.1) es each;
      ascend = kept.ascend;
    }
