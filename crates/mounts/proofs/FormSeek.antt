-- The search of `matchit` among the tokens of forms is a search among the forms.
use Rattle.std.proofs.Common.{◌≡◌, ◌-◌, ◌==◌, ◌&&◌, ◌∷◌, ◌++◌, ℕ, zero, suc, List, [], length, Bool, true, false, cond}
use Rattle.records.specs.Words.{nat_lt, Some, None, refl, sym, ◌∙◌, ap, arith, and_parts, and_from, false_from_ne_true}
use Rattle.records.specs.Words.{false≢true, eqb-true, Text}
use Rattle.matchit.specs.Rows.{RowsOf, param_token, catch_all_token}
use Rattle.matchit.specs.Seek.{own, step, or_else, seek, param_step, has_slash, segment, longest_suffix}
use Rattle.mounts.specs.Words.{Ending, nothing, segment as one_segment, segments, are_bytes, ending_tokens}
use Rattle.mounts.proofs.FormSearch.{is_nothing, is_segment, is_segments, behind, FormOf, go_on, after, with_key}
use Rattle.mounts.proofs.FormSearch.{is_end, keys_at, first_of_keys, segment_key, search}

-- a byte is neither of the two tokens of parameters
apart : (b n : ℕ) → nat_lt b 256 ≡ true → nat_lt n 256 ≡ false → (n == b) ≡ false
apart b n small great =
    false_from_ne_true (n == b) (λ e. false≢true (sym great ∙ ap (λ m. nat_lt m 256) (eqb-true n b e) ∙ small))

apart_back : (b n : ℕ) → nat_lt b 256 ≡ true → nat_lt n 256 ≡ false → (b == n) ≡ false
apart_back b n small great =
    false_from_ne_true (b == n) (λ e. false≢true (sym great ∙ ap (λ m. nat_lt m 256) (sym (eqb-true b n e)) ∙ small))

module _ {K : Type 0} where
  -- the forms as rows of tokens
  abbrev pub rows : List (FormOf K) → RowsOf K
  rows [] = []
  rows (e ∷ es) = (e.0 ++ ending_tokens e.1, e.2) ∷ rows es

  -- whether the texts are of bytes
  abbrev pub all_bytes : List (FormOf K) → Bool
  all_bytes [] = true
  all_bytes (e ∷ es) = are_bytes e.0 && all_bytes es

  -- rows of which nothing is left
  abbrev bare : List K → RowsOf K
  bare [] = []
  bare (k ∷ ks) = ([], k) ∷ bare ks

  -- ---- one step

  step_one : (b : ℕ) → nat_lt b 256 ≡ true → (l : Text) (g : Ending) (k : K) (rest : RowsOf K) (es : List (FormOf K))
      → step b rest ≡ rows es
      → step b ((l ++ ending_tokens g, k) ∷ rest) ≡ rows (go_on (behind b l) g k es)
  step_one b small [] nothing k rest es h = h
  step_one b small [] one_segment k rest es h =
      ap (λ v. cond v (([], k) ∷ step b rest) (step b rest)) (apart b param_token small refl) ∙ h
  step_one b small [] segments k rest es h =
      ap (λ v. cond v (([], k) ∷ step b rest) (step b rest)) (apart b catch_all_token small refl) ∙ h
  step_one b small (x ∷ l) g k rest es h =
      elim (x == b) as (λ v. cond v ((l ++ ending_tokens g, k) ∷ step b rest) (step b rest)
      ≡ rows (go_on (cond v (Some l) None) g k es)) [
        | true ↦ ap (λ rs. (l ++ ending_tokens g, k) ∷ rs) h
        | false ↦ h
      ]

  step_rows : (b : ℕ) → nat_lt b 256 ≡ true → (es : List (FormOf K)) → step b (rows es) ≡ rows (after b es)
  step_rows b small [] = refl
  step_rows b small (e ∷ es) = step_one b small e.0 e.1 e.2 (rows es) (after b es) (step_rows b small es)

  bytes_after : (b : ℕ) (es : List (FormOf K)) → all_bytes es ≡ true → all_bytes (after b es) ≡ true
  bytes_after b [] h = refl
  bytes_after b (e ∷ es) h =
      let parts = and_parts _ _ h in
      one e.0 e.1 e.2 (after b es) parts.0 (bytes_after b es parts.1)
    where
      one : (l : Text) (g : Ending) (k : K) (fs : List (FormOf K)) → are_bytes l ≡ true → all_bytes fs ≡ true
          → all_bytes (go_on (behind b l) g k fs) ≡ true
      one [] g k fs good more = more
      one (x ∷ l) g k fs good more =
          elim (x == b) as (λ v. all_bytes (go_on (cond v (Some l) None) g k fs) ≡ true) [
            | true ↦ and_from _ _ (and_parts _ _ good).1 more
            | false ↦ more
          ]

  -- ---- what ends here

  own_rows : (es : List (FormOf K)) → own (rows es) ≡ first_of_keys (keys_at is_nothing es)
  own_rows [] = refl
  own_rows (e ∷ es) = one e.0 e.1 e.2 (rows es) (keys_at is_nothing es) (own_rows es)
    where
      one : (l : Text) (g : Ending) (k : K) (rest : RowsOf K) (ks : List K) → own rest ≡ first_of_keys ks
          → own ((l ++ ending_tokens g, k) ∷ rest) ≡ first_of_keys (with_key (is_end is_nothing l g) k ks)
      one [] nothing k rest ks h = refl
      one [] one_segment k rest ks h = h
      one [] segments k rest ks h = h
      one (x ∷ l) g k rest ks h = h

  own_bare : (ks : List K) → own (bare ks) ≡ first_of_keys ks
  own_bare [] = refl
  own_bare (k ∷ ks) = refl

  -- the rows of a token of parameters
  segment_rows : (es : List (FormOf K)) → all_bytes es ≡ true
      → step param_token (rows es) ≡ bare (keys_at is_segment es)
  segment_rows [] h = refl
  segment_rows (e ∷ es) h =
      let parts = and_parts _ _ h in
      one e.0 e.1 e.2 (rows es) (keys_at is_segment es) parts.0 (segment_rows es parts.1)
    where
      one : (l : Text) (g : Ending) (k : K) (rest : RowsOf K) (ks : List K) → are_bytes l ≡ true
          → step param_token rest ≡ bare ks
          → step param_token ((l ++ ending_tokens g, k) ∷ rest) ≡ bare (with_key (is_end is_segment l g) k ks)
      one [] nothing k rest ks good z = z
      one [] one_segment k rest ks good z = ap (λ rs. ([], k) ∷ rs) z
      one [] segments k rest ks good z = z
      one (x ∷ l) g k rest ks good z =
          ap (λ v. cond v ((l ++ ending_tokens g, k) ∷ step param_token rest) (step param_token rest))
          (apart_back x param_token (and_parts _ _ good).0 refl) ∙ z

  segments_rows : (es : List (FormOf K)) → all_bytes es ≡ true
      → step catch_all_token (rows es) ≡ bare (keys_at is_segments es)
  segments_rows [] h = refl
  segments_rows (e ∷ es) h =
      let parts = and_parts _ _ h in
      one e.0 e.1 e.2 (rows es) (keys_at is_segments es) parts.0 (segments_rows es parts.1)
    where
      one : (l : Text) (g : Ending) (k : K) (rest : RowsOf K) (ks : List K) → are_bytes l ≡ true
          → step catch_all_token rest ≡ bare ks
          → step catch_all_token ((l ++ ending_tokens g, k) ∷ rest) ≡ bare (with_key (is_end is_segments l g) k ks)
      one [] nothing k rest ks good z = z
      one [] one_segment k rest ks good z = z
      one [] segments k rest ks good z = ap (λ rs. ([], k) ∷ rs) z
      one (x ∷ l) g k rest ks good z =
          ap (λ v. cond v ((l ++ ending_tokens g, k) ∷ step catch_all_token rest) (step catch_all_token rest))
          (apart_back x catch_all_token (and_parts _ _ good).0 refl) ∙ z

  -- ---- one segment

  no_suffix : (seg : List ℕ) (ks : List K) → longest_suffix seg (bare ks) ≡ []
  no_suffix seg [] = refl
  no_suffix seg (k ∷ ks) = no_suffix seg ks

  param_step_none : (p : List ℕ) → (param_step {K = K} [] p).1 ≡ []
  unfolding param_step
  param_step_none p =
      elim (has_slash p) as (λ v. (cond {A = ℕ × RowsOf K} v (0, []) (length p, [])).1 ≡ []) [
        | true ↦ refl
        | false ↦ refl
      ]

  seek_none : (k : ℕ) (p : List ℕ) → seek {K = K} k [] p ≡ None
  unfolding seek
  seek_none k [] = refl
  seek_none (suc k) (b ∷ p) = seek_none k p
  seek_none zero (b ∷ p) =
      simp (seek_none 0 p, param_step_none (b ∷ p), seek_none (((param_step {K = K} [] (b ∷ p)).0) - 1) p)

  seek_all : (rs : RowsOf K) (p : List ℕ) → seek (length p) rs p ≡ own rs
  unfolding seek
  seek_all rs [] = refl
  seek_all rs (b ∷ p) = seek_all rs p

  param_step_bare : (ks : List K) (p : List ℕ)
      → param_step (bare ks) p ≡ cond {A = ℕ × RowsOf K} (has_slash p) (0, []) (length p, bare ks)
  unfolding param_step
  param_step_bare ks p = rw (no_suffix (segment p) ks) refl

  one_segment_key : (ks : List K) (b : ℕ) (path : Text)
      → seek ((param_step (bare ks) (b ∷ path)).0 - 1) (param_step (bare ks) (b ∷ path)).1 path
      ≡ segment_key (has_slash (b ∷ path)) ks
  one_segment_key ks b path =
      ap (λ (z : ℕ × RowsOf K). seek (z.0 - 1) z.1 path) (param_step_bare ks (b ∷ path))
      ∙ elim (has_slash (b ∷ path)) as (λ v.
      (let z = cond {A = ℕ × RowsOf K} v (0, []) (length (b ∷ path), bare ks) in seek (z.0 - 1) z.1 path)
      ≡ segment_key v ks) [
        | true ↦ seek_none (0 - 1) path
        | false ↦
            let short : length (b ∷ path) - 1 ≡ length path = omega arith in
            ap (λ n. seek n (bare ks) path) short ∙ seek_all (bare ks) path ∙ own_bare ks
      ]

  -- ---- the whole search

  pub seek_search : (es : List (FormOf K)) (path : Text) → all_bytes es ≡ true → are_bytes path ≡ true
      → seek 0 (rows es) path ≡ search es path
  unfolding seek
  seek_search es [] h good = own_rows es
  seek_search es (b ∷ path) h good =
      let parts = and_parts _ _ good in
      let literal : seek 0 (step b (rows es)) path ≡ search (after b es) path =
      ap (λ rs. seek 0 rs path) (step_rows b parts.0 es) ∙ seek_search (after b es) path (bytes_after b es h) parts.1 in
      let param =
      ap (λ rs. seek ((param_step rs (b ∷ path)).0 - 1) (param_step rs (b ∷ path)).1 path) (segment_rows es h)
      ∙ one_segment_key (keys_at is_segment es) b path in
      let rest = ap own (segments_rows es h) ∙ own_bare (keys_at is_segments es) in
      λ i. or_else (literal i) (or_else (param i) (rest i))
