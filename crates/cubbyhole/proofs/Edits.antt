-- Rows of one cubbyhole replaced: other rows stay, and a broker's rows are those of the broker with that cubbyhole
-- edited.
use Rattle.std.proofs.Common.{◌≡◌, ◌&&◌, ◌==◌, if◌then◌else◌, [], not, nat_eq, Bool, true, false, Option, option_map}
use Rattle.records.specs.Words.{option_and_then, is_none, starts_with, refl, sym, ◌∙◌, ap, and_parts, and_from}
use Rattle.records.specs.Words.{false≢true, Text, same, Map, get, first_where, Token, Broker, Waiting, get-change}
use Rattle.records.specs.Words.{first_where-map_values, kind_number, Part, Tells, token_row, accessor_row, lease_row}
use Rattle.records.specs.Words.{credential_row, rows_of, has_lease, lease_of_credential, or_else, Table, same_kind}
use Rattle.records.specs.Words.{mapped_unseen, then_unseen, unseen}
use Rattle.cubbyhole.specs.Words.{Kind, Row, with_cubbyhole, edited, object_key, KeepsOtherOwners}
use Rattle.records.specs.declared.kind.Kind.TheVariants as kind
use Rattle.records.specs.declared.holder.Holder.TheVariants as holder

-- the table with r at the keys of cubbyholes that are met
abbrev pub replaced : (Text → Bool) → Option Row → Table → Table
replaced met r old = λ k q. if (kind_number k == kind_number kind.Cubby) && met q then r else old k q

-- where only keys of t are met, other rows stay
pub others_kept : (t : Text) (met : Text → Bool) (r : Option Row) (old new : Table) → new ≡ replaced met r old
    → ((q : Text) → met q ≡ true → starts_with nat_eq q (object_key t []) ≡ true) → KeepsOtherOwners t old new
others_kept t met r old new e own k q apart =
    (λ i. e i k q)
    ∙ elim ((kind_number k == kind_number kind.Cubby) && met q) as
    (λ v. ((kind_number k == kind_number kind.Cubby) && met q) ≡ v → (if v then r else old k q) ≡ old k q) [
      | true ↦ λ is.
          let parts = and_parts _ _ is in
          absurd (false≢true (sym apart ∙ and_from _ _ parts.0 (own q parts.1)))
      | false ↦ λ _. refl
    ] refl

module _ (b : Broker) (t : Text) (edit : Map Text → Map Text) where
  -- the rows of other kinds do not tell what the cubbyhole has
  kept_at : (k : Kind) (q : Text) → (kind_number k == kind_number kind.Cubby) ≡ false
      → rows_of (edited b t edit) k q ≡ rows_of b k q
  unfolding rows_of
  kept_at kind.Token q h =
      ap (option_map token_row) (get-change b.tokens t (with_cubbyhole edit) q)
      ∙ mapped_unseen token_row _ (unseen token_row (with_cubbyhole edit) (λ x. refl) (same q t)) (get b.tokens q)
  kept_at kind.Accessor q h =
      ap (λ o. or_else o (option_map (λ e. accessor_row e.0 holder.WrappingToken)
      (first_where (λ t (w : Waiting). same w.accessor q) b.waiting))) (
      ap (option_map (λ e. accessor_row e.0 holder.Token))
      (first_where-map_values _ (λ t (x : Token). same x.accessor q) (λ t (x : Token). same x.accessor q) b.tokens
      (λ u x. unseen (λ (x : Token). same x.accessor q) (with_cubbyhole edit) (λ x. refl) (same u t) x))
      ∙ mapped_unseen (λ e. accessor_row e.0 holder.Token) _ (λ e. refl)
      (first_where (λ t (x : Token). same x.accessor q) b.tokens))
  kept_at kind.Cubby q h = absurd (false≢true (sym h))
  kept_at kind.Lease q h =
      ap (option_and_then (λ e. option_map (λ l. lease_row e.0 l) (get e.1.leases q)))
      (first_where-map_values _ (λ t x. has_lease q x) (λ t x. has_lease q x) b.tokens
      (λ u x. unseen (has_lease q) (with_cubbyhole edit) (λ x. refl) (same u t) x))
      ∙ then_unseen (λ e. option_map (λ l. lease_row e.0 l) (get e.1.leases q)) _
      (λ e. unseen (λ (x : Token). option_map (λ l. lease_row e.0 l) (get x.leases q)) (with_cubbyhole edit) (λ x. refl)
      (same e.0 t) e.1)
      (first_where (λ t x. has_lease q x) b.tokens)
  kept_at kind.Credential q h =
      ap (option_and_then (λ e. option_map (λ l. credential_row l.0) (lease_of_credential q e.1)))
      (first_where-map_values _ (λ t x. not (is_none (lease_of_credential q x)))
      (λ t x. not (is_none (lease_of_credential q x))) b.tokens
      (λ u x. unseen (λ x. not (is_none (lease_of_credential q x))) (with_cubbyhole edit) (λ x. refl) (same u t) x))
      ∙ then_unseen (λ e. option_map (λ l. credential_row l.0) (lease_of_credential q e.1)) _
      (λ e. unseen (λ x. option_map (λ l. credential_row l.0) (lease_of_credential q x)) (with_cubbyhole edit)
      (λ x. refl) (same e.0 t) e.1)
      (first_where (λ t x. not (is_none (lease_of_credential q x))) b.tokens)
  kept_at _ q h = refl

  pub tells_edited : (met : Text → Bool) (r : Option Row) (old new : Table) → new ≡ replaced met r old
      → ((q : Text) → rows_of (edited b t edit) kind.Cubby q ≡ (if met q then r else rows_of b kind.Cubby q))
      → (part : Part) → Tells part old b → Tells part new (edited b t edit)
  tells_edited met r old new e cubby part told k q h =
      (λ i. e i k q)
      ∙ elim (kind_number k == kind_number kind.Cubby) as
      (λ v. (kind_number k == kind_number kind.Cubby) ≡ v
      → (if v && met q then r else old k q) ≡ rows_of (edited b t edit) k q) [
        | true ↦ λ is.
            let one : k ≡ kind.Cubby = same_kind k kind.Cubby is in
            ap (λ o. if met q then r else o) (told k q h ∙ ap (λ k. rows_of b k q) one) ∙ sym (cubby q)
            ∙ ap (λ k. rows_of (edited b t edit) k q) (sym one)
        | false ↦ λ other. told k q h ∙ sym (kept_at k q other)
      ] refl
