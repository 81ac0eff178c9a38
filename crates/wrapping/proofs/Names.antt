-- The rows of accessors, and the wrapping tokens that they name.
use Rattle.std.proofs.Common.{◌≡◌, ◌⊎◌, true, Option, Some, None, option_map, sym, ◌∙◌, ap, subst, inl, inr}
use Rattle.records.specs.Words.{false≢true, none-some, same_Some, Text, same, first_where, Token, Broker, Waiting}
use Rattle.records.specs.Words.{OnePlaceEach, found_or_not, first_where_is, same_true, of_waiting, Tells, accessor_row}
use Rattle.records.specs.Words.{or_else, number, Table}
use Rattle.records.specs.declared.holder.Holder.{Holder}
use Rattle.records.specs.declared.holder.Holder.TheVariants as holder
use Rattle.records.specs.declared.kind.Kind.TheVariants as kind
use Rattle.wrapping.specs.Words.{Row, NamesAt, IsDamagedName, IsWaitingAt, IsDamagedWaiting, has_accessor}
use Rattle.wrapping.specs.Words.{find_accessor}
use Rattle.wrapping.proofs.Responses.{joined, accessor_told, not_both}

-- the row of a token's accessor is not that of a wrapping token's
pub holders_differ : (t u : Text) → accessor_row t holder.WrappingToken ≡ accessor_row u holder.Token → ⊥
unfolding same number
holders_differ t u e =
    let one : same (accessor_row t holder.WrappingToken).body (accessor_row t holder.Token).body ≡ true =
    ap (λ (r : Row). same r.body (accessor_row t holder.Token).body) e in
    false≢true one

-- a row of an accessor tells its holder
pub same_owner : (t u : Text) (h g : Holder) → accessor_row t h ≡ accessor_row u g → t ≡ u
same_owner t u h g e = ap (λ (r : Row). r.owner) e

-- a row that can be read with no holder names nothing
pub unnamed : (rows : Table) (q : Text) (kept : Row) → rows kind.Accessor q ≡ Some kept
    → ((h : Holder) → kept ≡ accessor_row kept.owner h → ⊥) → (found : Option Text) → NamesAt rows q found → ⊥
unnamed rows q kept is not None (inl none) = none-some _ (sym none ∙ is)
unnamed rows q kept is not None (inr t) = of_row rows q kept is not t.0 holder.Token t.1
  where
    of_row : (rows : Table) (q : Text) (kept : Row) → rows kind.Accessor q ≡ Some kept
        → ((h : Holder) → kept ≡ accessor_row kept.owner h → ⊥) → (t : Text) (h : Holder)
        → rows kind.Accessor q ≡ Some (accessor_row t h) → ⊥
    of_row rows q kept is not t h e =
        let one : kept ≡ accessor_row t h = same_Some _ _ (sym is ∙ e) in
        not h (one ∙ ap (λ o. accessor_row o h) (sym (ap (λ (r : Row). r.owner) one)))
unnamed rows q kept is not (Some t) named =
    let one : kept ≡ accessor_row t holder.WrappingToken = same_Some _ _ (sym is ∙ named) in
    not holder.WrappingToken (one ∙ ap (λ o. accessor_row o holder.WrappingToken) (sym (ap (λ (r : Row). r.owner) one)))

module _ (b : Broker) (q : Text) where
  abbrev token_with : Option (Text × Token)
  token_with = first_where (λ t (x : Token). same x.accessor q) b.tokens

  abbrev waiting_with : Option (Text × Waiting)
  waiting_with = first_where (has_accessor q) b.waiting

  abbrev row_of : Option (Text × Token) → Option (Text × Waiting) → Option Row
  row_of o s = or_else (option_map (λ e. accessor_row e.0 holder.Token) o)
      (option_map (λ e. accessor_row e.0 holder.WrappingToken) s)

  -- each row of an accessor of the broker can be read
  pub readable_accessor : (kept : Row) → joined b q waiting_with ≡ Some kept
      → (h : Holder) × (kept ≡ accessor_row kept.owner h)
  readable_accessor kept e = by token_with waiting_with e
    where
      by : (o : Option (Text × Token)) (s : Option (Text × Waiting)) → row_of o s ≡ Some kept
          → (h : Holder) × (kept ≡ accessor_row kept.owner h)
      by None None e = absurd (none-some _ e)
      by None (Some w) e = (
        holder.WrappingToken,
        sym (same_Some _ _ e)
            ∙ ap (λ o. accessor_row o holder.WrappingToken) (ap (λ (r : Row). r.owner) (same_Some _ _ e)),
      )
      by (Some x) s e = (
        holder.Token,
        sym (same_Some _ _ e)
            ∙ ap (λ o. accessor_row o holder.Token) (ap (λ (r : Row). r.owner) (same_Some _ _ e)),
      )

  -- no two kinds of tokens have the accessor
  alone : OnePlaceEach b → (x : Text × Token) → token_with ≡ Some x → find_accessor b q ≡ None
  alone one_place x at = elim (found_or_not waiting_with) [
    | inl none ↦ ap (option_map (λ e. e.0)) none
    | inr w ↦
        let is = first_where_is (λ t (x : Token). same x.accessor q) b.tokens x at in
        let js = first_where_is (has_accessor q) b.waiting w.0 w.1 in
        absurd (not_both b one_place q x.0 w.0.0 x.1 w.0.1 is.0 js.0 is.1 (same_true w.0.1.accessor q js.1))
  ]

  -- what its row names is what it names
  pub names_told : OnePlaceEach b → (rows : Table) → Tells of_waiting rows b → (found : Option Text)
      → NamesAt rows q found → found ≡ find_accessor b q
  names_told one_place rows tells found named = by found named (found_or_not token_with) (found_or_not waiting_with)
    where
      row : (o : Option (Text × Token)) (s : Option (Text × Waiting)) → token_with ≡ o → waiting_with ≡ s
          → rows kind.Accessor q ≡ row_of o s
      row o s at as_w = accessor_told b rows tells q ∙ (λ i. row_of (at i) (as_w i))

      by : (found : Option Text) → NamesAt rows q found
          → (token_with ≡ None) ⊎ ((x : Text × Token) × (token_with ≡ Some x))
          → (waiting_with ≡ None) ⊎ ((w : Text × Waiting) × (waiting_with ≡ Some w)) → found ≡ find_accessor b q
      by None named (inr x) s = sym (alone one_place x.0 x.1)
      by None named (inl none) (inl nothing) = sym (ap (option_map (λ e. e.0)) nothing)
      by None (inl empty) (inl none) (inr w) = absurd (none-some _ (sym empty ∙ row None (Some w.0) none w.1))
      by None (inr t) (inl none) (inr w) =
          absurd (holders_differ w.0.0 t.0 (same_Some _ _ (sym (row None (Some w.0) none w.1) ∙ t.1)))
      by (Some t) named (inr x) s =
          absurd (holders_differ t x.0.0 (same_Some _ _
          (sym named ∙ accessor_told b rows tells q ∙ (λ i. row_of (x.1 i) waiting_with))))
      by (Some t) named (inl none) (inl nothing) = absurd (none-some _ (sym (row None None none nothing) ∙ named))
      by (Some t) named (inl none) (inr w) =
          ap Some (same_owner t w.0.0 holder.WrappingToken holder.WrappingToken
          (same_Some _ _ (sym named ∙ row None (Some w.0) none w.1)))
          ∙ sym (ap (option_map (λ e. e.0)) w.1)

-- if the row of the wrapping token that the accessor names is damaged, one of the two is
pub named_damaged : (rows : Table) (q t : Text) → NamesAt rows q (Some t) → IsDamagedWaiting rows t
    → IsDamagedName rows q
named_damaged rows q t named damaged (None, inl none, readable) = none-some _ (sym none ∙ named)
named_damaged rows q t named damaged (None, inr u, readable) =
    holders_differ t u.0 (same_Some _ _ (sym named ∙ u.1))
named_damaged rows q t named damaged (Some u, is, readable) =
    let one : u ≡ t = same_owner u t holder.WrappingToken holder.WrappingToken (same_Some _ _ (sym is ∙ named)) in
    damaged readable.0 (subst (λ z. IsWaitingAt rows z readable.0) one readable.1)
