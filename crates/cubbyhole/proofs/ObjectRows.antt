-- The rows of cubbyholes, from what each cubbyhole has at each path.
use Rattle.std.proofs.Common.{◌≡◌, ◌≢◌, ◌+◌, ◌&&◌, if◌then◌else◌, [], take, drop, length, nat_eq, Bool, true, false, ap}
use Rattle.records.specs.Words.{Option, Some, None, option_map, option_and_then, starts_with, refl, sym, ◌∙◌, and_parts}
use Rattle.records.specs.Words.{false≢true, Text, same, get, Token, Broker, same_true, cubby_row, rows_of, token_len}
use Rattle.records.specs.Words.{has_slash, key_has_slash, key_token, key_path}
use Rattle.records.specs.declared.kind.Kind.TheVariants as kind
use Rattle.cubbyhole.specs.Words.{Row, object_at, write, delete, drop_owner, object_at-write, object_at-delete}
use Rattle.cubbyhole.specs.Words.{object_at-drop_owner, object_key}
use Rattle.cubbyhole.proofs.ObjectKeys.{key_met, key_owner}

-- what each token has at each path
abbrev pub Objects : Type 0
Objects = Text → Text → Option Text

abbrev pub objects_row : Objects → Text → Option Row
objects_row at q =
    if has_slash q then option_map (cubby_row (take token_len q))
    (at (take token_len q) (drop (token_len + 1) q)) else None

pub rows_of-objects : (b : Broker) (q : Text) → rows_of b kind.Cubby q ≡ objects_row (object_at b) q
unfolding rows_of
rows_of-objects b q = ap (λ o. if has_slash q then o else None) (inner (get b.tokens (take token_len q)))
  where
    inner : (o : Option Token) → option_and_then
        (λ (x : Token). option_map (cubby_row (take token_len q)) (get x.cubbyhole (drop (token_len + 1) q))) o
        ≡ option_map (cubby_row (take token_len q))
        (option_and_then (λ (x : Token). get x.cubbyhole (drop (token_len + 1) q)) o)
    inner None = refl
    inner (Some x) = refl

-- the row at the key of a token and a path
pub row_at : (b : Broker) (t path : Text) → length t ≡ token_len
    → rows_of b kind.Cubby (object_key t path) ≡ option_map (cubby_row t) (object_at b t path)
row_at b t path len =
    rows_of-objects b (object_key t path)
    ∙ (λ i. if key_has_slash t path len i then option_map (cubby_row (key_token t path len i))
    (object_at b (key_token t path len i) (key_path t path len i)) else None)

-- objects of t replaced where they are hit, as rows replaced where their keys are met
module _ (at next : Objects) (t : Text) (hit : Text → Text → Bool) (object : Option Text) (met : Text → Bool) where
  pub objects_row-replaced : ((u p : Text) → next u p ≡ (if hit u p then object else at u p))
      → ((u p : Text) → hit u p ≡ true → u ≡ t)
      → ((q : Text) → has_slash q ≡ true → met q ≡ hit (take token_len q) (drop (token_len + 1) q))
      → ((q : Text) → has_slash q ≡ false → met q ≡ true → object ≡ None)
      → (q : Text) → objects_row next q ≡ (if met q then option_map (cubby_row t) object else objects_row at q)
  objects_row-replaced replaced own slashed plain q =
      elim (has_slash q) as (λ v. has_slash q ≡ v
      → of_key v next ≡ (if met q then option_map (cubby_row t) object else of_key v at)) [
        | true ↦ λ is.
            ap (option_map (cubby_row (take token_len q))) (replaced (take token_len q) (drop (token_len + 1) q))
            ∙ hits (hit (take token_len q) (drop (token_len + 1) q)) refl
            ∙ ap (λ v. if v then option_map (cubby_row t) object else of_key true at) (sym (slashed q is))
        | false ↦ λ is. misses (met q) (plain q is)
      ] refl
    where
      of_key : Bool → Objects → Option Row
      of_key v o = if v then option_map (cubby_row (take token_len q))
          (o (take token_len q) (drop (token_len + 1) q)) else None

      hits : (v : Bool) → hit (take token_len q) (drop (token_len + 1) q) ≡ v
          → option_map (cubby_row (take token_len q))
          (if v then object else at (take token_len q) (drop (token_len + 1) q))
          ≡ (if v then option_map (cubby_row t) object else of_key true at)
      hits true is = ap (λ u. option_map (cubby_row u) object) (own (take token_len q) (drop (token_len + 1) q) is)
      hits false is = refl

      misses : (v : Bool) → (v ≡ true → object ≡ None) → None ≡ (if v then option_map (cubby_row t) object else None)
      misses true none = sym (ap (option_map (cubby_row t)) (none refl))
      misses false none = refl

own_path : (t path u p : Text) → (same u t && same p path) ≡ true → u ≡ t
own_path t path u p h = same_true u t (and_parts _ _ h).0

-- a text without a slash in its place is no key
no_key : {A : Type 0} (t path q : Text) → length t ≡ token_len → has_slash q ≡ false → same q (object_key t path) ≡ true
    → A
no_key t path q len plain is =
    absurd (false≢true (sym plain ∙ ap has_slash (same_true q (object_key t path) is) ∙ key_has_slash t path len))

module _ (b : Broker) (t : Text) (len : length t ≡ token_len) where
  pub cubby-write : (path object : Text) → get b.tokens t ≢ None → (q : Text)
      → rows_of (write b t path object) kind.Cubby q
      ≡ (if same q (object_key t path) then Some (cubby_row t object) else rows_of b kind.Cubby q)
  cubby-write path object here q =
      rows_of-objects (write b t path object) q
      ∙ objects_row-replaced (object_at b) (object_at (write b t path object)) t (λ u p. same u t && same p path)
      (Some object)
      (λ q. same q (object_key t path))
      (λ u p. object_at-write b t path object u p here) (own_path t path) (λ q is. key_met t path q len is)
      (λ q plain is. no_key t path q len plain is) q
      ∙ ap (λ o. if same q (object_key t path) then Some (cubby_row t object) else o) (sym (rows_of-objects b q))

  pub cubby-delete : (path q : Text)
      → rows_of (delete b t path) kind.Cubby q ≡ (if same q (object_key t path) then None else rows_of b kind.Cubby q)
  cubby-delete path q =
      rows_of-objects (delete b t path) q
      ∙ objects_row-replaced (object_at b) (object_at (delete b t path)) t (λ u p. same u t && same p path) None
      (λ q. same q (object_key t path))
      (λ u p. object_at-delete b t path u p) (own_path t path) (λ q is. key_met t path q len is) (λ q plain is. refl) q
      ∙ ap (λ o. if same q (object_key t path) then None else o) (sym (rows_of-objects b q))

  pub cubby-drop_owner : (q : Text)
      → rows_of (drop_owner b t) kind.Cubby q
      ≡ (if starts_with nat_eq q (object_key t []) then None else rows_of b kind.Cubby q)
  cubby-drop_owner q =
      rows_of-objects (drop_owner b t) q
      ∙ objects_row-replaced (object_at b) (object_at (drop_owner b t)) t (λ u p. same u t) None
      (λ q. starts_with nat_eq q (object_key t []))
      (λ u p. object_at-drop_owner b t u p) (λ u p is. same_true u t is) (λ q is. key_owner t q len is)
      (λ q plain is. refl) q
      ∙ ap (λ o. if starts_with nat_eq q (object_key t []) then None else o) (sym (rows_of-objects b q))
