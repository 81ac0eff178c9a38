-- The rows of one owner's cubbyhole, by their keys.
use Rattle.std.proofs.Common.{◌≡◌, ◌==◌, ◌&&◌, if◌then◌else◌, [], length, nat_eq, take, Bool, true, false, Option, Some}
use Rattle.records.specs.Words.{None, starts_with, refl, sym, ◌∙◌, ap, subst, inl, inr, Text, same, found_or_not}
use Rattle.records.specs.Words.{kind_number, token_len, has_slash, Table, without_under, without_owned, unless_owned}
use Rattle.records.specs.Words.{same_kind, key_has_slash, key_token}
use Rattle.cubbyhole.specs.Words.{Kind, Row, object_key, AreFiled}
use Rattle.records.specs.declared.kind.Kind.TheVariants as kind
use Rattle.cubbyhole.proofs.ObjectKeys.{key_owner}

module _ (rows : Table) (t : Text) (filed : AreFiled rows) (len : length t ≡ token_len) where
  -- a key begins with the token and a slash if the token owns the row, and only then
  pub key_tells : (q : Text) (row : Row) → rows kind.Cubby q ≡ Some row
      → starts_with nat_eq q (object_key t []) ≡ same row.owner t
  key_tells q row at =
      let f = filed q row at in
      key_owner t q len (ap has_slash f.key ∙ key_has_slash row.owner f.path f.owner)
      ∙ ap (λ u. same u t) (ap (take token_len) f.key ∙ key_token row.owner f.path f.owner)

  at_cubby : (q : Text) → (if starts_with nat_eq q (object_key t []) then None else rows kind.Cubby q)
      ≡ unless_owned t (rows kind.Cubby q)
  at_cubby q = elim (found_or_not (rows kind.Cubby q)) [
    | inl none ↦ ap (λ o. if starts_with nat_eq q (object_key t []) then None else o) none
        ∙ nothing (starts_with nat_eq q (object_key t []))
        ∙ sym (ap (unless_owned t) none)
    | inr r ↦
        let by = key_tells q r.0 r.1 in
        (λ i. if by i then None else r.1 i) ∙ sym (ap (unless_owned t) r.1)
  ]
    where
      nothing : (v : Bool) → ◌≡◌ {A = Option Row} (if v then None else None) None
      nothing true = refl
      nothing false = refl

  pub under_owned : without_under rows kind.Cubby (object_key t []) ≡ without_owned rows kind.Cubby t
  under_owned = λ i k q. at k q i
    where
      at : (k : Kind) (q : Text) → without_under rows kind.Cubby (object_key t []) k q
          ≡ without_owned rows kind.Cubby t k q
      at k q = elim (kind_number k == kind_number kind.Cubby) as (λ v. (kind_number k == kind_number kind.Cubby) ≡ v
          → (if v && starts_with nat_eq q (object_key t []) then None else rows k q)
          ≡ (if v then unless_owned t (rows k q) else rows k q)) [
            | true ↦ λ is. subst (λ k. (if starts_with nat_eq q (object_key t []) then None else rows k q)
                ≡ unless_owned t (rows k q))
                (sym (same_kind k kind.Cubby is))
                (at_cubby q)
            | false ↦ λ _. refl
          ] refl
