-- The keys of the objects of a token and a path.
use Rattle.std.proofs.Common.{◌≡◌, ◌+◌, ◌&&◌, ◌∷◌, ◌++◌, [], length, take, drop, true, false, nat_eq, refl, sym, ◌∙◌}
use Rattle.records.specs.Words.{starts_with, ap, append_assoc, take-append_seam, and_parts, false_from_ne_true}
use Rattle.records.specs.Words.{false≢true, take-append-drop, Text, same, same_self, same_true, key_token, key_path}
use Rattle.records.specs.Words.{token_len, has_slash, slash}
use Rattle.cubbyhole.specs.Words.{key_parts, object_key}

-- a key is that of a token and a path where its token and its path are
pub key_met : (t path q : Text) → length t ≡ token_len → has_slash q ≡ true
    → same q (object_key t path) ≡ (same (take token_len q) t && same (drop (token_len + 1) q) path)
key_met t path q len is =
    elim (same (take token_len q) t && same (drop (token_len + 1) q) path) as
    (λ v. (same (take token_len q) t && same (drop (token_len + 1) q) path) ≡ v → same q (object_key t path) ≡ v) [
      | true ↦ λ h.
          let parts = and_parts _ _ h in
          let one : q ≡ object_key t path = key_parts q is
          ∙ (λ i. object_key (same_true (take token_len q) t parts.0 i)
          (same_true (drop (token_len + 1) q) path parts.1 i)) in
          ap (λ z. same z (object_key t path)) one ∙ same_self (object_key t path)
      | false ↦ λ apart. false_from_ne_true _ (λ h.
          let one : q ≡ object_key t path = same_true q (object_key t path) h in
          let token : same (take token_len q) t ≡ true = ap (λ z. same (take token_len z) t) one
          ∙ ap (λ u. same u t) (key_token t path len) ∙ same_self t in
          let rest : same (drop (token_len + 1) q) path ≡ true = ap (λ z. same (drop (token_len + 1) z) path) one
          ∙ ap (λ u. same u path) (key_path t path len) ∙ same_self path in
          false≢true (sym apart ∙ (λ i. token i && rest i)))
    ] refl

-- a text that goes on after the token and a slash begins with them, and the other way round
pub begins : (t path : Text) → starts_with nat_eq (object_key t path) (object_key t []) ≡ true
unfolding same
begins t path =
    let prefix = object_key t [] in
    ap (λ q. same prefix (take (length prefix) q)) (sym (append_assoc t (slash ∷ []) path))
    ∙ ap (same prefix) (take-append_seam prefix path)
    ∙ same_self prefix

-- the key of a path is among the token's
pub key_under : (t path q : Text) → same q (object_key t path) ≡ true → starts_with nat_eq q (object_key t []) ≡ true
key_under t path q is = ap (λ z. starts_with nat_eq z (object_key t [])) (same_true q (object_key t path) is)
    ∙ begins t path

follows : (t q : Text) → starts_with nat_eq q (object_key t []) ≡ true
    → q ≡ object_key t (drop (length (object_key t [])) q)
unfolding same
follows t q h =
    let prefix = object_key t [] in
    sym (take-append-drop (length prefix) q)
    ∙ ap (λ u. u ++ drop (length prefix) q) (sym (same_true prefix (take (length prefix) q) h))
    ∙ append_assoc t (slash ∷ []) (drop (length prefix) q)

-- the keys of a token's cubbyhole are those that begin with the token and a slash
pub key_owner : (t q : Text) → length t ≡ token_len → has_slash q ≡ true
    → starts_with nat_eq q (object_key t []) ≡ same (take token_len q) t
key_owner t q len is =
    elim (same (take token_len q) t) as (λ v. same (take token_len q) t ≡ v
    → starts_with nat_eq q (object_key t []) ≡ v) [
      | true ↦ λ of.
          ap (λ k. starts_with nat_eq k (object_key t []))
          (key_parts q is ∙ ap (λ u. object_key u (drop (token_len + 1) q)) (same_true (take token_len q) t of))
          ∙ begins t (drop (token_len + 1) q)
      | false ↦ λ apart. false_from_ne_true _ (λ h.
          false≢true (sym apart ∙ ap (λ u. same u t) (ap (take token_len) (follows t q h)
          ∙ key_token t (drop (length (object_key t [])) q) len) ∙ same_self t))
    ] refl
