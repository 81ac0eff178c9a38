-- Rows filed under their owners: those of a broker are, edits leave them so, and one owner's are one cubbyhole.
use Rattle.std.proofs.Common.{◌≡◌, ◌+◌, if◌then◌else◌, [], length, take, drop, nat_eq, Bool, true, false, Some, None}
use Rattle.records.specs.Words.{option_map, starts_with, refl, sym, ◌∙◌, ap, inl, inr, none-some, same_Some, Text, same}
use Rattle.records.specs.Words.{same_true, found_or_not, mapped, Broker, of_cubbyholes, Tells, cubby_row, token_len}
use Rattle.records.specs.Words.{has_slash, Table, has_prefix, with_row, without_row, without_under, without_owned}
use Rattle.cubbyhole.specs.Words.{Kind, Row, object_at, HaveOneCubbyhole, if_owned, key_parts, token_whole, object_key}
use Rattle.cubbyhole.specs.Words.{IsFiled, AreFiled, KeepsOtherOwners}
use Rattle.records.specs.declared.kind.Kind.TheVariants as kind
use Rattle.cubbyhole.proofs.Filed.{key_tells, under_owned}
use Rattle.cubbyhole.proofs.ObjectRows.{rows_of-objects}

-- the rows that tell a broker's cubbyholes
pub brokers_filed : (rows : Table) (b : Broker) → Tells of_cubbyholes rows b → AreFiled rows
brokers_filed rows b told q row at = by (has_slash q) refl (sym at ∙ told kind.Cubby q refl ∙ rows_of-objects b q)
  where
    t : Text
    t = take token_len q

    path : Text
    path = drop (token_len + 1) q

    by : (v : Bool) → has_slash q ≡ v → Some row ≡ (if v then option_map (cubby_row t) (object_at b t path) else None)
        → IsFiled q row
    by true is e =
        let of = mapped (cubby_row t) (object_at b t path) row (sym e) in
        record {
          path = path;
          owner = ap (λ (r : Row). length r.owner) of.2 ∙ token_whole q is;
          key = key_parts q is ∙ ap (λ (r : Row). object_key r.owner path) (sym of.2);
        }
    by false is e = absurd (none-some _ (sym e))

module _ (rows : Table) (t : Text) (filed : AreFiled rows) where
  -- rows stay filed if one of the owner comes
  pub written_filed : (path object : Text) → length t ≡ token_len
      → AreFiled (with_row rows kind.Cubby (object_key t path) (cubby_row t object))
  written_filed path object len q row at = by (same q (object_key t path)) refl at
    where
      by : (v : Bool) → same q (object_key t path) ≡ v
          → (if v then Some (cubby_row t object) else rows kind.Cubby q) ≡ Some row → IsFiled q row
      by true is e =
          let one : cubby_row t object ≡ row = same_Some _ _ e in
          record {
            path = path;
            owner = ap (λ (r : Row). length r.owner) (sym one) ∙ len;
            key = same_true q (object_key t path) is ∙ ap (λ (r : Row). object_key r.owner path) one;
          }
      by false is e = filed q row e

  -- and if some go
  left_filed : (q : Text) (row : Row) (v : Bool) → (if v then None else rows kind.Cubby q) ≡ Some row → IsFiled q row
  left_filed q row true e = absurd (none-some _ e)
  left_filed q row false e = filed q row e

  pub deleted_filed : (path : Text) → AreFiled (without_row rows kind.Cubby (object_key t path))
  deleted_filed path q row at = left_filed q row (same q (object_key t path)) at

  pub dropped_filed : AreFiled (without_under rows kind.Cubby (object_key t []))
  dropped_filed q row at = left_filed q row (starts_with nat_eq q (object_key t [])) at

-- a row at a key that begins with the token and a slash is the token's
all_owned : (rows : Table) (t q : Text) → AreFiled rows → length t ≡ token_len
    → starts_with nat_eq q (object_key t []) ≡ true
    → if_owned t (rows kind.Cubby q) ≡ rows kind.Cubby q
all_owned rows t q filed len under = elim (found_or_not (rows kind.Cubby q)) [
  | inl none ↦ ap (if_owned t) none ∙ sym none
  | inr r ↦
      let own : same r.0.owner t ≡ true = sym (key_tells rows t filed len q r.0 r.1) ∙ under in
      ap (if_owned t) r.1 ∙ ap (λ v. if v then Some r.0 else None) own ∙ sym r.1
]

-- the rows of an owner are one cubbyhole
pub owned_alike : (rows others : Table) (t : Text) → AreFiled rows → AreFiled others → length t ≡ token_len
    → ((q : Text) → if_owned t (rows kind.Cubby q) ≡ if_owned t (others kind.Cubby q)) → HaveOneCubbyhole t rows others
owned_alike rows others t filed also len alike q under =
    sym (all_owned rows t q filed len under) ∙ alike q ∙ all_owned others t q also len under

-- what keeps the rows at other keys keeps the rows of other owners
pub others_stay : (old new : Table) (t : Text) → AreFiled old → AreFiled new → length t ≡ token_len
    → KeepsOtherOwners t old new
    → without_owned new kind.Cubby t ≡ without_owned old kind.Cubby t
others_stay old new t filed also len keeps = sym (under_owned new t also len) ∙ (λ i k q. at k q i)
    ∙ under_owned old t filed len
  where
    at : (k : Kind) (q : Text) → without_under new kind.Cubby (object_key t []) k q
        ≡ without_under old kind.Cubby (object_key t []) k q
    at k q = elim (has_prefix kind.Cubby (object_key t []) k q) as (λ v. has_prefix kind.Cubby (object_key t []) k q ≡ v
        → (if v then None else new k q) ≡ (if v then None else old k q)) [
          | true ↦ λ _. refl
          | false ↦ λ apart. keeps k q apart
        ] refl
