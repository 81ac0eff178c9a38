use Rattle.api_client.specs.Words.{◌≡◌, ◌<◌, ℕ, List, true, subst, All, IsUtf8, ◌∙◌, is_path}
use Rattle.api_client.proofs.asking.is_path_text.Goals as goal

pub returns : goal.returns
returns c =
    record {
      good = subst (λ (p : List ℕ). is_path p ≡ true) c.as_str.ensures.text c.as_str.ensures.good;
      text = subst IsUtf8 c.as_str.ensures.text c.as_str.utf8;
      bytes = subst (All (λ b. b < 256)) (c.as_bytes.ensures.value ∙ c.as_str.ensures.text) c.are_bytes.ensures;
    }
