-- Paths as they are sent in a target.
use Rattle.percent_encoding.proofs.PercentLemmas.{All-percent_encode_byte, IsEscapeByte, percent_decode-nil}
use Rattle.percent_encoding.proofs.PercentLemmas.{percent_decode_not_percent, percent_decode-percent_encode_byte}
use Rattle.broker_types.specs.Words.{position_or_len, drop_of_length-le, false≢true, is_path_byte, is_segment, segments}
use Rattle.broker_types.specs.Words.{list_any, option_map_or, slice_split}
use Rattle.http_layer.specs.Words.{is_list_part, is_query_mark, is_version_part, target_path, target_query}
use Rattle.api_client.specs.Words.{◌≡◌, ◌≢◌, ◌+◌, ◌-◌, ◌*◌, ◌^◌, ◌<◌, ◌≤◌, ◌==◌, ◌&&◌, ◌∷◌, ◌++◌, ℕ, suc, Bool, true}
use Rattle.api_client.specs.Words.{false, not, cond, List, [], length, take, drop, All, refl, ap, ◌∙◌, subst, arith}
use Rattle.api_client.specs.Words.{length-append, nat_lt, nat_le, list_all, and_parts, leb-true, ltb-true, nat_tests}
use Rattle.api_client.specs.Words.{take_all, All-append, All-cons, All-head, All-nil, All-tail, All-weaker, is_path}
use Rattle.api_client.specs.Words.{without_slash, percent_decode, percent_encode_byte, slash_not_last, take-append_seam}
use Rattle.api_client.specs.Words.{slice_split_none, find, Option, Some, None, IfSome, codes, decimal, digit_value}
use Rattle.api_client.specs.Words.{AllDigits, append-nil, decimal_is_IsNumeral, lists, version_asked, version_text}
use Rattle.api_client.specs.Words.{query_line, is_visible, escaped, escaped_byte, is_plain}
use Rattle.api_client.proofs.TextLemmas.{AreVisible}

-- ---- a path has no slash at its end

-- what a path is
pub path_parts : (p : List ℕ) → is_path p ≡ true → (0 < length p) × (length p ≤ 512)
    × (list_all is_segment (segments [] p) ≡ true)
path_parts p good =
    let a = and_parts ((nat_lt 0 (length p) && nat_le (length p) 512) && list_all is_path_byte p)
    (list_all is_segment (segments [] p)) good in
    let b = and_parts (nat_lt 0 (length p) && nat_le (length p) 512) (list_all is_path_byte p) a.0 in
    let c = and_parts (nat_lt 0 (length p)) (nat_le (length p) 512) b.0 in
    (ltb-true 0 (length p) c.0, leb-true (length p) 512 c.1, a.1)

pub without_slash-path : (p : List ℕ) → is_path p ≡ true → without_slash p ≡ p
without_slash-path p good =
    let parts = path_parts p good in
    ap (λ (b : Bool). cond b (take (length p - 1) p) p) (slash_not_last p [] parts.0 parts.2)

-- ---- an escaped path

escape_visible : (b : ℕ) → IsEscapeByte b → (is_visible b ≡ true) × (is_query_mark b ≡ false)
escape_visible b h = (visible b h, other b h)
  where
    visible : (b : ℕ) → IsEscapeByte b → is_visible b ≡ true
    visible b h = grind (arith, nat_tests)

    other : (b : ℕ) → IsEscapeByte b → is_query_mark b ≡ false
    other b h = grind (arith, nat_tests)

plain_visible : (b : ℕ) → is_plain b ≡ true → is_visible b ≡ true
plain_visible b plain = grind (arith, nat_tests)

plain_other : (b : ℕ) → is_plain b ≡ true → is_query_mark b ≡ false
plain_other b plain = grind (arith, nat_tests)

plain_no_percent : (b : ℕ) → is_plain b ≡ true → b ≢ 37
plain_no_percent b plain = λ e. false≢true (subst (λ (c : ℕ). is_plain c ≡ true) e plain)

-- what holds of each plain byte and of each byte of an escape holds of an escaped path
All-escaped : (P : ℕ → Type 0) (bs : List ℕ) → ((b : ℕ) → is_plain b ≡ true → P b) → ((b : ℕ) → IsEscapeByte b → P b)
    → All P (escaped bs)
unfolding escaped
All-escaped P [] plain escape = All-nil P
All-escaped P (b ∷ bs) plain escape = All-append P (escaped_byte b) (escaped bs) (by (is_plain b) refl)
    (All-escaped P bs plain escape)
  where
    by : (t : Bool) → is_plain b ≡ t → All P (cond t (b ∷ []) (percent_encode_byte b))
    by true e = All-cons P b [] (plain b e) (All-nil P)
    by false e = All-weaker IsEscapeByte P escape (percent_encode_byte b) (All-percent_encode_byte b)

pub escaped_visible : (bs : List ℕ) → AreVisible (escaped bs)
escaped_visible bs = All-escaped (λ b. is_visible b ≡ true) bs plain_visible (λ b h. (escape_visible b h).0)

escaped_no_query : (bs : List ℕ) → All (λ b. is_query_mark b ≡ false) (escaped bs)
escaped_no_query bs = All-escaped (λ b. is_query_mark b ≡ false) bs plain_other (λ b h. (escape_visible b h).1)

pub length-escaped : (bs : List ℕ) → length (escaped bs) ≤ 3 * length bs
unfolding escaped percent_encode_byte
length-escaped [] = omega arith
length-escaped (b ∷ bs) = omega (arith, length-append (escaped_byte b) (escaped bs), by (is_plain b), length-escaped bs)
  where
    by : (t : Bool) → length (cond t (b ∷ []) (percent_encode_byte b)) ≤ 3
    by true = omega arith
    by false = omega arith

-- an escaped path is read again
pub percent_decode-escaped : (bs : List ℕ) → All (λ b. b < 256) bs → percent_decode (escaped bs) ≡ bs
unfolding escaped
percent_decode-escaped [] small = percent_decode-nil
percent_decode-escaped (b ∷ bs) small =
    by (is_plain b) refl (percent_decode-escaped bs (All-tail (λ c. c < 256) b bs small))
  where
    by : (t : Bool) → is_plain b ≡ t → percent_decode (escaped bs) ≡ bs
        → percent_decode (cond t (b ∷ []) (percent_encode_byte b) ++ escaped bs) ≡ b ∷ bs
    by true e rest = percent_decode_not_percent b (escaped bs) (plain_no_percent b e) ∙ ap (λ (l : List ℕ). b ∷ l) rest
    by false e rest = percent_decode-percent_encode_byte b (escaped bs) (All-head (λ c. c < 256) b bs small)
        ∙ ap (λ (l : List ℕ). b ∷ l) rest

-- ---- a target without a query

all_before : (t : List ℕ) → All (λ b. is_query_mark b ≡ false) t → position_or_len is_query_mark t ≡ length t
all_before [] none = refl
all_before (b ∷ bs) none =
    ap (λ (q : Bool). cond (not q) (1 + position_or_len is_query_mark bs) 0)
    (All-head (λ c. is_query_mark c ≡ false) b bs none)
    ∙ ap (λ (n : ℕ). 1 + n) (all_before bs (All-tail (λ c. is_query_mark c ≡ false) b bs none)) ∙ one_more (length bs)
  where
    one_more : (n : ℕ) → 1 + n ≡ suc n
    one_more n = omega arith

-- before a `?` that none precedes
mark_at : (t rest : List ℕ) → All (λ b. is_query_mark b ≡ false) t
    → position_or_len is_query_mark (t ++ 63 ∷ rest) ≡ length t
mark_at [] rest none = refl
mark_at (b ∷ bs) rest none =
    ap (λ (q : Bool). cond (not q) (1 + position_or_len is_query_mark (bs ++ 63 ∷ rest)) 0)
    (All-head (λ c. is_query_mark c ≡ false) b bs none)
    ∙ ap (λ (n : ℕ). 1 + n) (mark_at bs rest (All-tail (λ c. is_query_mark c ≡ false) b bs none)) ∙ one_more (length bs)
  where
    one_more : (n : ℕ) → 1 + n ≡ suc n
    one_more n = omega arith

-- ---- the target of a path, and of a version of it

-- the target up to the query
abbrev pub target_of : List ℕ → List ℕ
target_of path = 47 ∷ 118 ∷ 49 ∷ 47 ∷ escaped path

-- the target, with the query that asks for a version
abbrev pub target_to : List ℕ → Option ℕ → List ℕ
target_to path version = 47 ∷ 118 ∷ 49 ∷ 47 ∷ (escaped path ++ query_line version)

-- the query
abbrev pub query_text : Option ℕ → List ℕ
query_text None = []
query_text (Some version) = codes "version=" ++ decimal version

no_query : (path : List ℕ) → All (λ b. is_query_mark b ≡ false) (target_of path)
no_query path =
    more 47 (118 ∷ 49 ∷ 47 ∷ escaped path) refl (more 118 (49 ∷ 47 ∷ escaped path) refl
    (more 49 (47 ∷ escaped path) refl (more 47 (escaped path) refl (escaped_no_query path))))
  where
    more : (b : ℕ) (bs : List ℕ) → is_query_mark b ≡ false → All (λ c. is_query_mark c ≡ false) bs
        → All (λ c. is_query_mark c ≡ false) (b ∷ bs)
    more b bs is rest = All-cons (λ c. is_query_mark c ≡ false) b bs is rest

-- without a version it ends with the path
ends : (path : List ℕ) → target_to path None ≡ target_of path
ends path = ap (λ (e : List ℕ). 47 ∷ 118 ∷ 49 ∷ 47 ∷ e) (append-nil (escaped path))

pub target_path-target : (path : List ℕ) (version : Option ℕ) → target_path (target_to path version) ≡ target_of path
target_path-target path None =
    let t = target_of path in
    ap target_path (ends path) ∙ ap (λ (n : ℕ). take n t) (all_before t (no_query path))
    ∙ take_all (length t) t (omega arith)
target_path-target path (Some version) =
    let t = target_of path in
    let query = query_text (Some version) in
    ap (λ (n : ℕ). take n (t ++ 63 ∷ query)) (mark_at t query (no_query path)) ∙ take-append_seam t (63 ∷ query)

pub target_query-target : (path : List ℕ) (version : Option ℕ)
    → target_query (target_to path version) ≡ query_text version
target_query-target path None =
    let t = target_of path in
    ap target_query (ends path) ∙ ap (λ (n : ℕ). drop (n + 1) t) (all_before t (no_query path))
    ∙ drop_of_length-le t (omega arith)
target_query-target path (Some version) =
    let t = target_of path in
    let query = query_text (Some version) in
    ap (λ (n : ℕ). drop (n + 1) (t ++ 63 ∷ query)) (mark_at t query (no_query path)) ∙ drop_past t 63 query
  where
    one_more : (n : ℕ) → suc n + 1 ≡ suc (n + 1)
    one_more n = omega arith

    drop_past : (t : List ℕ) (b : ℕ) (rest : List ℕ) → drop (length t + 1) (t ++ b ∷ rest) ≡ rest
    drop_past [] b rest = refl
    drop_past (c ∷ cs) b rest =
        ap (λ (n : ℕ). drop n (c ∷ (cs ++ b ∷ rest))) (one_more (length cs)) ∙ drop_past cs b rest

-- ---- what the query asks for

abbrev is_and : ℕ → Bool
is_and b = b == 38

digit_no_and : (c : ℕ) → digit_value c < 10 → is_and c ≡ false
digit_no_and c small = grind (arith, nat_tests)

digits_no_and : (ds : List ℕ) → AllDigits 10 ds → All (λ b. is_and b ≡ false) ds
digits_no_and [] h = All-nil (λ b. is_and b ≡ false)
digits_no_and (c ∷ cs) h = All-cons (λ b. is_and b ≡ false) c cs (digit_no_and c h.0) (digits_no_and cs h.1)

-- the query of a version is one part
one_part : (version : ℕ) → version < 2 ^ 64
    → slice_split (λ b. b == 38) (query_text (Some version)) ≡ query_text (Some version) ∷ []
one_part version small =
    rw (slice_split_none (λ b. b == 38) (decimal version)
    (digits_no_and (decimal version) (decimal_is_IsNumeral version small).0.1)) refl

pub lists_no_version : (version : Option ℕ) → IfSome version (λ n. n < 2 ^ 64) → lists (query_text version) ≡ false
lists_no_version None small = refl
lists_no_version (Some version) small = ap (list_any is_list_part) (one_part version small)

pub version_asked-query : (version : Option ℕ) → IfSome version (λ n. n < 2 ^ 64)
    → version_asked (query_text version) ≡ version_text version
version_asked-query None small = refl
version_asked-query (Some version) small =
    ap (λ (parts : List (List ℕ)). option_map_or (drop 8) (find is_version_part parts) []) (one_part version small)
