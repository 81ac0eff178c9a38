-- The numbers that the keys of versions tell, read as texts.
use Rattle.std.proofs.Common.{◌≡◌, ◌∷◌, ◌++◌, [], ℕ, length, drop, sym, ◌∙◌, ap, append_assoc}
use Rattle.records.specs.Words.{drop-append_seam, Text, padded, version_key, line_feed}
use Rattle.kv2.specs.Words.{versions_prefix}

-- ---- the digits behind a prefix

module _ (name prefix key : Text) (n : ℕ) (begins : prefix ≡ versions_prefix name) (is : key ≡ version_key name n) where
  pub key_is : prefix ++ padded n ≡ key
  key_is = ap (λ p. p ++ padded n) begins ∙ append_assoc name (line_feed ∷ []) (padded n) ∙ sym is

  pub digits_are : (k : ℕ) (digits : Text) → k ≡ length prefix → digits ≡ drop k key → digits ≡ padded n
  digits_are k digits long rest = rest ∙ (λ i. drop (long i) (sym key_is i)) ∙ drop-append_seam prefix (padded n)
