-- The identifiers of the broker that is read off sound rows are each in one place.
use Rattle.std.proofs.Common.{◌≡◌, ◌≢◌, if◌then◌else◌, codes, unwrap_or, Some, None, option_map, refl, sym, ◌∙◌, ap}
use Rattle.broker_model.specs.Words.{⊤, subst, inl, inr, drop-append-add, Text, same, same_self, token_text, get}
use Rattle.broker_model.specs.Words.{found_or_not, mapped, identifier_at, token_identifier, lease_identifier, lease_of}
use Rattle.broker_model.specs.Words.{SoundIdentifiers, Token, Lease, Broker, Waiting, Kind, Row, RowKey, used_row}
use Rattle.broker_model.specs.Words.{entry_row, accessor_row, lease_row, Table, table_of, Rows, token_of, names_of_row}
use Rattle.broker_model.specs.Words.{names_token}
use Rattle.broker_types.specs.IdentifierPlaces as places
use Rattle.broker_types.specs.IdentifierPlaces.{Place}
use Rattle.records.specs.declared.holder.Holder.TheVariants as holder
use Rattle.records.specs.declared.kind.Kind.TheVariants as kind
use Rattle.soundness.specs.Words.{Held, AreSound, IsHad}
use Rattle.soundness.proofs.ReadBack as read
use Rattle.soundness.proofs.TokenFacts.{token_is, entry_row_at}
use Rattle.soundness.proofs.TokenTells.{accessor_of_token, accessor_of_waiting, lease_held, credential_of}
use Rattle.soundness.proofs.OthersSound.{one_row, origin_had, waiting_row_at}

-- the row that has the identifier i in a place
abbrev pub key_of : Place → Text → RowKey
key_of (places.token t) i = (kind.Token, t)
key_of (places.accessor t) i = (kind.Accessor, i)
key_of (places.lease t lease_id) i = (kind.Lease, lease_id)
key_of (places.credential t lease_id) i = (kind.Credential, i)
key_of (places.wrapping_token t) i = (kind.Waiting, t)
key_of (places.wrapping_accessor t) i = (kind.Accessor, i)

-- the row at a key, if there is one
abbrev row_at : Table → RowKey → Row
row_at table key = unwrap_or (table key.0 key.1) used_row

-- the place of an accessor, by whether its row names a token
abbrev accessor_place : Row → Place
accessor_place row = if names_token row then places.accessor row.owner else places.wrapping_accessor row.owner

-- the place of a credential, by the row of its lease
abbrev credential_place : Table → Text → Place
credential_place table lease_id = places.credential (row_at table (kind.Lease, lease_id)).owner lease_id

-- the place of the identifier that a row has
abbrev place_of : Table → RowKey → Place
place_of table (kind.Token, q) = places.token q
place_of table (kind.Waiting, q) = places.wrapping_token q
place_of table (kind.Accessor, q) = accessor_place (row_at table (kind.Accessor, q))
place_of table (kind.Lease, q) = places.lease (row_at table (kind.Lease, q)).owner q
place_of table (kind.Credential, q) = credential_place table (row_at table (kind.Credential, q)).owner
place_of table (_, q) = places.token q

-- what follows `hvs.`
pub after_prefix : (i : Text) → token_identifier (token_text i) ≡ i
after_prefix i = drop-append-add (codes "hvs.") i 0

module _ (rows : Rows) (s : AreSound (table_of rows)) where
  abbrev at : Table
  at = table_of rows

  abbrev b : Broker
  b = read.broker rows s

  -- the row that has the identifier in the place has it, and is of the place
  abbrev IsRowOfPlace : Place → Text → Type 0
  IsRowOfPlace p i = IsHad at s.identifiers.0 (key_of p i) i × (place_of at (key_of p i) ≡ p)

  row_is : (k : Kind) (q : Text) (row : Row) → at k q ≡ Some row → row_at at (k, q) ≡ row
  row_is k q row is = ap (λ o. unwrap_or o used_row) is

  owner_is : (k : Kind) (q : Text) (row : Row) → at k q ≡ Some row → (row_at at (k, q)).owner ≡ row.owner
  owner_is k q row is = ap (λ (r : Row). r.owner) (row_is k q row is)

  -- the identifier in a key that begins with `hvs.`
  prefixed : (key : RowKey) (t i j : Text) → i ≡ token_identifier t → t ≡ token_text j → IsHad at s.identifiers.0 key j
      → IsHad at s.identifiers.0 key i
  prefixed key t i j is text had =
      subst (IsHad at s.identifiers.0 key) (sym (is ∙ ap token_identifier text ∙ after_prefix j)) had

  held_row_at : (q : Text) (h : Held) → get (read.held_map rows s) q ≡ Some h
      → at kind.Lease q ≡ Some (lease_row h.0 h.1)
  held_row_at q h is = read.held_told rows s q ∙ ap (option_map (read.held_row rows s)) is

  at_place : (p : Place) (i : Text) → identifier_at b p ≡ Some i → IsRowOfPlace p i
  at_place (places.token t) i e =
      let y = mapped (λ (_ : Token). token_identifier t) (get b.tokens t) i e in
      let x = token_is rows s t y.0 y.1 in
      let had = s.identifiers.1 kind.Token t (entry_row x.0) (entry_row_at rows s t x.0 x.1) in
      (prefixed (kind.Token, t) t i had.0 y.2 had.1 had.2, refl)
  at_place (places.accessor t) i e =
      let y = mapped (λ (x : Token). x.accessor) (get b.tokens t) i e in
      let row = accessor_of_token rows s i t y.0 y.1 (ap (λ a. same a i) (sym y.2) ∙ same_self i) in (
        s.identifiers.1 kind.Accessor i _ row,
        ap accessor_place (row_is kind.Accessor i _ row)
            ∙ ap (λ v. if v then places.accessor t else places.wrapping_accessor t)
            (names_of_row (accessor_row t holder.Token) holder.Token refl),
      )
  at_place (places.lease t lease_id) i e =
      let l = mapped (λ (_ : Lease). lease_identifier lease_id) (lease_of b t lease_id) i e in
      let y = token_of b t lease_id l.0 l.1 in
      let row = held_row_at lease_id (t, l.0) (lease_held rows s t lease_id y.0 l.0 y.1 y.2) in (
        subst (IsHad at s.identifiers.0 (kind.Lease, lease_id)) (sym l.2) (s.identifiers.1 kind.Lease lease_id _ row),
        ap (λ u. places.lease u lease_id) (owner_is kind.Lease lease_id _ row),
      )
  at_place (places.credential t lease_id) i e =
      let l = mapped (λ (x : Lease). x.credential) (lease_of b t lease_id) i e in
      let y = token_of b t lease_id l.0 l.1 in
      let held = lease_held rows s t lease_id y.0 l.0 y.1 y.2 in
      let row = held_row_at lease_id (t, l.0) held in
      let own = credential_of rows s i lease_id (t, l.0) held (ap (λ c. same c i) (sym l.2) ∙ same_self i) in (
        s.identifiers.1 kind.Credential i _ own,
        ap (credential_place at) (owner_is kind.Credential i _ own)
            ∙ ap (λ u. places.credential u lease_id) (owner_is kind.Lease lease_id _ row),
      )
  at_place (places.wrapping_token t) i e =
      let w = mapped (λ (_ : Waiting). token_identifier t) (get b.waiting t) i e in
      let had = s.identifiers.1 kind.Waiting t _ (waiting_row_at rows s t w.0 w.1) in
      (prefixed (kind.Waiting, t) t i had.0 w.2 had.1 had.2, refl)
  at_place (places.wrapping_accessor t) i e =
      let w = mapped (λ (x : Waiting). x.accessor) (get b.waiting t) i e in
      let row = accessor_of_waiting rows s i t w.0 w.1 (ap (λ a. same a i) (sym w.2) ∙ same_self i) in (
        s.identifiers.1 kind.Accessor i _ row,
        ap accessor_place (row_is kind.Accessor i _ row)
            ∙ ap (λ v. if v then places.accessor t else places.wrapping_accessor t)
            (names_of_row (accessor_row t holder.WrappingToken) holder.WrappingToken refl),
      )

  -- what has a row was given out
  marked : (i : Text) → at kind.Used i ≢ None → get b.used i ≢ None
  marked i here none = here (read.used_told rows s i ∙ ap (option_map (λ (_ : ⊤). used_row)) none)

  pub identifiers_sound : SoundIdentifiers b
  identifiers_sound =
      record {
        used = λ i here. elim (found_or_not (get b.used i)) [
          | inl none ↦ absurd (here none)
          | inr u ↦ read.used_good rows s i u.0 u.1
        ];
        one_place = λ p q i in_p in_q.
            let of_p = at_place p i in_p in
            let of_q = at_place q i in_q in
            sym of_p.1 ∙ ap (place_of at) (one_row at s.identifiers.0 (key_of p i) (key_of q i) i of_p.0 of_q.0)
            ∙ of_q.1;
        all_used = λ p i e. marked i (at_place p i e).0.3;
        origins_used = λ t w is. marked w.origin (origin_had rows s t w is).3;
      }
