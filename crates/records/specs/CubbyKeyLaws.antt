-- The key of a cubbyhole's row says which token and which path it is of.
use Rattle.std.proofs.Common.{◌≡◌, ◌+◌, ◌==◌, ◌∷◌, ◌++◌, length, take, drop, codes, true, ap, subst, get_or, ◌∙◌}
use Rattle.broker_types.specs.Words.{length-append, take-append_seam, drop-append-add, get_or-append_seam, Text}
use Rattle.broker_types.specs.Words.{IsTokenText}
use Rattle.broker_types.specs.IdentifierLaws.{id-length}
use Rattle.records.specs.Rows.{token_len, has_slash}
use Rattle.records.specs.Splits.{slash}

-- there is a slash after the token
pub key_has_slash : (t path : Text) → length t ≡ token_len → has_slash (t ++ slash ∷ path) ≡ true
key_has_slash t path e =
    subst (λ n. (get_or (t ++ slash ∷ path) n 0 == slash) ≡ true) e
    (ap (λ v. v == slash) (get_or-append_seam t slash path 0))

-- the token is in front of it
pub key_token : (t path : Text) → length t ≡ token_len → take token_len (t ++ slash ∷ path) ≡ t
key_token t path e = subst (λ n. take n (t ++ slash ∷ path) ≡ t) e (take-append_seam t (slash ∷ path))

-- the path is behind it
pub key_path : (t path : Text) → length t ≡ token_len → drop (token_len + 1) (t ++ slash ∷ path) ≡ path
key_path t path e =
    subst (λ n. drop (n + 1) (t ++ slash ∷ path) ≡ path) e (drop-append-add t (slash ∷ path) 1)

-- the text of a token has forty bytes
pub length-token : (t : Text) → IsTokenText t → length t ≡ token_len
length-token t h =
    let i = h.0 in
    let long : length i ≡ 36 = ap length (h.1.2) ∙ id-length (h.1.0) in
    ap length h.2 ∙ length-append (codes "hvs.") i ∙ ap (λ n. 4 + n) long
