-- Keys of versions, as code cuts them.
use Rattle.std.proofs.Common.{◌≡◌, ℕ, Option, Some, None, option_map, true, Bor, sym, ◌∙◌, ap, arith}
use Rattle.broker_model.specs.Words.{none-some, same_Some, IsSplitOnceResult, Text, padded, line_feed, split_once}
use Rattle.broker_model.specs.Words.{lacks, split-lacking, lacking_split, cut_some}
use Rattle.soundness.specs.Words.{IsVersionKey}
use Rattle.soundness.proofs.TextLemmas.{cut_exact}

abbrev halves : Bor Text × Bor Text → Text × Text
halves p = (p.0.now, p.1.now)

module _ (q : Text) (r : Option (Bor Text × Bor Text)) (split : IsSplitOnceResult line_feed q r) where
  version_cut : (name : Text) (number : ℕ) → IsVersionKey q name number
      → option_map {U = Text × Text} halves r ≡ Some (name, padded number)
  version_cut name number k =
      cut_exact line_feed (omega arith) q r split ∙ ap (split_once line_feed) k.is_key
      ∙ split-lacking line_feed name (padded number) k.name_lacks

  -- what is cut nowhere is no such key
  pub no_version : r ≡ None → (name : Text) (number : ℕ) → IsVersionKey q name number → ⊥
  no_version none name number k =
      none-some _ (sym (ap (option_map {U = Text × Text} halves) none) ∙ version_cut name number k)

  -- and a key of a version is cut at its line feed
  pub version_halves : (x : Bor Text × Bor Text) → r ≡ Some x → (name : Text) (number : ℕ)
      → IsVersionKey q name number → (x.0.now ≡ name) × (x.1.now ≡ padded number)
  version_halves x is name number k =
      let pair : ◌≡◌ {A = Text × Text} (x.0.now, x.1.now) (name, padded number) =
      same_Some _ _
      (sym (ap (option_map {U = Text × Text} halves) is) ∙ version_cut name number k) in
      (ap (λ (p : Text × Text). p.0) pair, ap (λ (p : Text × Text). p.1) pair)

  -- no line feed is before it
  pub half_lacks : (x : Bor Text × Bor Text) → r ≡ Some x → lacks line_feed x.0.now ≡ true
  half_lacks x is = (lacking_split line_feed q (x.0.now, x.1.now) (cut_some line_feed (omega arith) q r split x is)).1
