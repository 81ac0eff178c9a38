-- What the broker that is read off sound rows knows of its tokens, leases and responses.
use Rattle.std.proofs.Common.{◌≡◌, ◌≢◌, if◌then◌else◌, length, true, false, Option, Some, None, option_map, refl, sym}
use Rattle.broker_model.specs.Words.{option_and_then, ◌∙◌, ap, inl, inr, none-some, same_Some, Text, same, same_true}
use Rattle.broker_model.specs.Words.{same_self, get, get-map_values, valued_is, found_or_not, mapped, Token, Lease}
use Rattle.broker_model.specs.Words.{Waiting, IsIdentifier, IsTokenText, Row, length-token, listed_entries, RowKey}
use Rattle.broker_model.specs.Words.{KeyEntry, IsTokenInRange, IsLeaseInRange, IsWaitingInRange, IsKeyInRange}
use Rattle.broker_model.specs.Words.{entry_row, token_row, lease_row, waiting_row, key_entry_row, entry_row-injective}
use Rattle.broker_model.specs.Words.{lease_row-injective, waiting_row-injective, key_entry_row-injective, token_len}
use Rattle.broker_model.specs.Words.{Table, table_of, TokenEntry, token_entry, Rows}
use Rattle.records.specs.declared.kind.Kind.TheVariants as kind
use Rattle.soundness.specs.Words.{Held, AreSound, Places, IsHad}
use Rattle.soundness.proofs.ReadBack as read

-- rows of one record where there is one, and of another
pub mapped_alike : {X Y : Type 0} (f : X → Row) (g : Y → Row) (v : X → Y) (o : Option X)
    → ((x : X) → o ≡ Some x → f x ≡ g (v x)) → option_map f o ≡ option_map g (option_map v o)
mapped_alike f g v None h = refl
mapped_alike f g v (Some x) h = ap Some (h x refl)

-- rows that are in one table where they are in the other
pub both_ways : (o p : Option Row) → ((r : Row) → o ≡ Some r → p ≡ Some r) → ((r : Row) → p ≡ Some r → o ≡ Some r)
    → o ≡ p
both_ways None None f g = refl
both_ways None (Some r) f g = g r refl
both_ways (Some r) p f g = sym (f r refl)

-- what a row has is an identifier
pub had_identifier : (table : Table) (places : Places) (key : RowKey) (i : Text) → IsHad table places key i
    → IsIdentifier i
had_identifier table places key i had = (had.0, had.1, had.2)

module _ (rows : Rows) (s : AreSound (table_of rows)) where
  abbrev at : Table
  at = table_of rows

  -- ---- tokens

  -- the key of a token's row is the text of a token
  pub token_name : (t : Text) (row : Row) → at kind.Token t ≡ Some row → IsTokenText t
  token_name t row is =
      let i = s.identifiers.1 kind.Token t row is in
      (i.0, had_identifier at s.identifiers.0 (kind.Token, t) i.0 i.2, i.1)

  pub token_long : (t : Text) (row : Row) → at kind.Token t ≡ Some row → length t ≡ token_len
  token_long t row is = length-token t (token_name t row is)

  pub get-tokens : (t : Text) → get (read.tokens rows s) t
      ≡ option_map (read.token_of rows s t) (get (read.entry_map rows s) t)
  get-tokens t = get-map_values (read.token_of rows s) (read.entry_map rows s) t

  -- a token is that of its entry
  pub token_is : (t : Text) (y : Token) → get (read.tokens rows s) t ≡ Some y
      → (x : TokenEntry) × (get (read.entry_map rows s) t ≡ Some x) × (y ≡ read.token_of rows s t x)
  token_is t y is = valued_is (read.token_of rows s) (read.entry_map rows s) t y is

  pub entry_row_at : (t : Text) (x : TokenEntry) → get (read.entry_map rows s) t ≡ Some x
      → at kind.Token t ≡ Some (entry_row x)
  entry_row_at t x is = read.entry_told rows s t ∙ ap (option_map entry_row) is

  -- a row of a token is that of a token of the broker
  pub token_here : (t : Text) → at kind.Token t ≢ None
      → (x : TokenEntry) × (get (read.entry_map rows s) t ≡ Some x)
      × (get (read.tokens rows s) t ≡ Some (read.token_of rows s t x))
  token_here t filled = elim (found_or_not (get (read.entry_map rows s) t)) [
    | inl none ↦ absurd (filled (read.entry_told rows s t ∙ ap (option_map entry_row) none))
    | inr x ↦ (x.0, x.1, get-tokens t ∙ ap (option_map (read.token_of rows s t)) x.1)
  ]

  -- the entry of a token that is read back is the one that its row has
  pub entry_back : (t : Text) (x : TokenEntry) → IsTokenInRange x → token_entry (read.token_of rows s t x) ≡ x
  entry_back t x range = λ i. record x { meta = listed_entries x.meta range.meta.ascend i }

  pub token_told : (t : Text) → at kind.Token t ≡ option_map token_row (get (read.tokens rows s) t)
  token_told t =
      read.entry_told rows s t
      ∙ mapped_alike entry_row token_row (read.token_of rows s t) (get (read.entry_map rows s) t)
      (λ x is. ap entry_row (sym (entry_back t x ((read.entry_good rows s t x is).in_range))))
      ∙ ap (option_map token_row) (sym (get-tokens t))

  -- ---- records that rows tell

  pub same_entry : (t : Text) (x : TokenEntry) → IsTokenInRange x → at kind.Token t ≡ Some (entry_row x)
      → get (read.entry_map rows s) t ≡ Some x
  same_entry t x range is =
      let y = mapped entry_row (get (read.entry_map rows s) t) (entry_row x) (sym (read.entry_told rows s t) ∙ is) in
      y.1 ∙ ap Some (sym (entry_row-injective x y.0 range ((read.entry_good rows s t y.0 y.1).in_range) y.2))

  pub same_waiting : (t : Text) (w : Waiting) → IsWaitingInRange w → at kind.Waiting t ≡ Some (waiting_row w)
      → get (read.waiting rows s) t ≡ Some w
  same_waiting t w range is =
      let y = mapped waiting_row (get (read.waiting rows s) t) (waiting_row w)
      (sym (read.waiting_told rows s t) ∙ is) in
      y.1 ∙ ap Some (sym (waiting_row-injective w y.0 range ((read.waiting_good rows s t y.0 y.1).in_range) y.2))

  pub same_held : (q : Text) (h : Held) → IsLeaseInRange h.1 → at kind.Lease q ≡ Some (lease_row h.0 h.1)
      → get (read.held_map rows s) q ≡ Some h
  same_held q h range is =
      let y = mapped (read.held_row rows s) (get (read.held_map rows s) q) (lease_row h.0 h.1)
      (sym (read.held_told rows s q) ∙ is) in
      let one = lease_row-injective h.0 y.0.0 h.1 y.0.1 range ((read.held_good rows s q y.0 y.1).in_range) y.2 in
      y.1 ∙ (λ i. Some (sym one.0 i, sym one.1 i))

  pub same_key : (q : Text) (k : KeyEntry) → IsKeyInRange k → at kind.KvKey q ≡ Some (key_entry_row k)
      → get (read.key_map rows s) q ≡ Some k
  same_key q k range is =
      let y = mapped key_entry_row (get (read.key_map rows s) q) (key_entry_row k)
      (sym (read.key_told rows s q) ∙ is) in
      y.1 ∙ ap Some (sym (key_entry_row-injective k y.0 range ((read.key_good rows s q y.0 y.1).in_range) y.2))

  -- ---- leases

  -- the lease of a token is held by it
  pub held_by : (t q : Text) (l : Lease) → get (read.leases rows s t) q ≡ Some l
      → get (read.held_map rows s) q ≡ Some (t, l)
  held_by t q l is = by (get (read.held_map rows s) q) (sym (read.get-leases rows s t q) ∙ is)
    where
      by : (o : Option Held)
          → option_and_then (read.of_owner rows s t) o ≡ Some l
          → o ≡ Some (t, l)
      by None e = absurd (none-some _ e)
      by (Some h) e = elim (same h.0 t) as (λ v. same h.0 t ≡ v → (if v then Some h.1 else None) ≡ Some l
          → Some h ≡ Some (t, l)) [
            | true ↦ λ own is. (λ i. Some (same_true h.0 t own i, same_Some _ _ is i))
            | false ↦ λ _ none. absurd (none-some _ none)
          ] refl e

  -- and what is held is a lease of its token
  pub holder_has : (q : Text) (h : Held) → get (read.held_map rows s) q ≡ Some h
      → get (read.leases rows s h.0) q ≡ Some h.1
  holder_has q h is =
      read.get-leases rows s h.0 q
      ∙ ap (option_and_then (read.of_owner rows s h.0)) is
      ∙ ap (λ v. if v then Some h.1 else None) (same_self h.0)
