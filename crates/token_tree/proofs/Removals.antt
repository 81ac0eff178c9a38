-- The table without the rows of tokens that ended.
use Rattle.std.proofs.Common.{◌≡◌, ◌∷◌, ◌&&◌, ◌||◌, if◌then◌else◌, List, [], Bool, true, false, not, cond, Option, Some}
use Rattle.records.specs.Words.{None, option_map, is_some, map, list_any, refl, sym, ◌∙◌, ap, inl, inr, Text, same, get}
use Rattle.records.specs.Words.{entries, keep, first_where, map_values, Token, Tokens, Broker, Waiting, Forms}
use Rattle.records.specs.Words.{SoundTokens, accessor, wrapping_accessor, place_token, OnePlaceEach, or-false}
use Rattle.records.specs.Words.{false≢true, and_parts, found_or_not, taken_out_twice, get-keep, get-map_values}
use Rattle.records.specs.Words.{first_where-map_values, OnePasses, first_where_is, first_where_none, first_where-keep}
use Rattle.records.specs.Words.{if_kept, same_self, same_true, token_tells, accessor_in, RowKey, of_tokens, Tells}
use Rattle.records.specs.Words.{KeepsOthers, token_row, accessor_row, rows_of, or_else, table_of, is_at, without_row}
use Rattle.records.specs.Words.{token_entry, Rows, table_of-remove, token_in_range, has}
use Rattle.std.specs.List.{find}
use Rattle.std.specs.FinMap as fin
use Rattle.records.specs.declared.holder.Holder.TheVariants as holder
use Rattle.token_tree.specs.Words.{Kind, Row, without_token, has_accessor}
use Rattle.records.specs.declared.kind.Kind.TheVariants as kind
use Rattle.token_tree.proofs.Taken.{without_ended}
use Rattle.token_tree.proofs.ListedTokens.{node, listing}

-- ---- which rows are taken out

nested : {X : Type 0} (a b : Bool) (o : Option X)
    → (if a then None else (if b then None else o)) ≡ (if (a || b) then None else o)
nested true b o = refl
nested false b o = refl

module _ (ended : List Text) where
  -- the removal of the entry takes the row out
  abbrev pub takes : Kind → Text → RowKey × Row → Bool
  takes k q e = has ended e.0.1 && (is_at kind.Token e.0.1 k q || is_at kind.Accessor (accessor_in e.1) k q)

  one : (e : RowKey × Row) (rows : Rows) (k : Kind) (q : Text)
      → table_of (if has ended e.0.1 then without_token rows e else rows) k q
      ≡ (if takes k q e then None else table_of rows k q)
  one e rows k q =
      elim (has ended e.0.1) as (λ v. table_of (if v then without_token rows e else rows) k q
      ≡ (if (v && (is_at kind.Token e.0.1 k q || is_at kind.Accessor (accessor_in e.1) k q)) then None else table_of
      rows k q)) [
        | true ↦
            (λ i. table_of-remove (fin.remove rows (kind.Accessor, accessor_in e.1)) kind.Token e.0.1 i k q)
            ∙ (λ i. without_row (table_of-remove rows kind.Accessor (accessor_in e.1) i) kind.Token e.0.1 k q)
            ∙ nested (is_at kind.Token e.0.1 k q) (is_at kind.Accessor (accessor_in e.1) k q) (table_of rows k q)
        | false ↦ refl
      ]

  pub table_of-without_ended : (es : List (RowKey × Row)) (rows : Rows) (k : Kind) (q : Text)
      → table_of (without_ended ended es rows) k q ≡ (if list_any (takes k q) es then None else table_of rows k q)
  table_of-without_ended [] rows k q = refl
  table_of-without_ended (e ∷ es) rows k q =
      table_of-without_ended es (if has ended e.0.1 then without_token rows e else rows) k q
      ∙ ap (λ o. if list_any (takes k q) es then None else o) (one e rows k q)
      ∙ taken_out_twice (list_any (takes k q) es) (takes k q e) (table_of rows k q)

  other_kind : (k : Kind) (q : Text) (e : RowKey × Row) → of_tokens k ≡ false → takes k q e ≡ false
  other_kind k q e h = ap (λ v. has ended e.0.1 && v) (none k h) ∙ never (has ended e.0.1)
    where
      never : (b : Bool) → (b && false) ≡ false
      never true = refl
      never false = refl

      none : (k : Kind) → of_tokens k ≡ false
          → (is_at kind.Token e.0.1 k q || is_at kind.Accessor (accessor_in e.1) k q) ≡ false
      none kind.Token h = absurd (false≢true (sym h))
      none kind.Accessor h = absurd (false≢true (sym h))
      none _ h = refl

  -- rows of other kinds stay, whatever the entries are
  pub others_stay : (es : List (RowKey × Row)) (rows : Rows)
      → KeepsOthers of_tokens (table_of rows) (table_of (without_ended ended es rows))
  others_stay es rows k q h = table_of-without_ended es rows k q
      ∙ ap (λ v. if v then None else table_of rows k q) (none es)
    where
      none : (es : List (RowKey × Row)) → list_any (takes k q) es ≡ false
      none [] = refl
      none (e ∷ es) = (λ i. other_kind k q e h i || list_any (takes k q) es) ∙ none es

  taken-first : (k : Kind) (q : Text) (ts : Tokens)
      → list_any (takes k q) (listing ts) ≡ is_some (first_where (λ t x. takes k q (node t x)) ts)
  taken-first k q ts = walk (entries ts)
    where
      walk : (es : List (Text × Token)) → list_any (takes k q) (map (λ e. node e.0 e.1) es)
          ≡ is_some (find (λ e. takes k q (node e.0 e.1)) es)
      walk [] = refl
      walk (e ∷ es) = elim (takes k q (node e.0 e.1)) as (λ v. (v || list_any (takes k q) (map (λ e. node e.0 e.1) es))
          ≡ is_some (cond v (Some e) (find (λ e. takes k q (node e.0 e.1)) es))) [
            | true ↦ refl
            | false ↦ walk es
          ]

-- ---- the rows that are left are those of the tokens that are kept

-- no two tokens of a sound broker have one accessor
pub one_accessor : (b : Broker) → OnePlaceEach b → (q : Text) → OnePasses (has_accessor q) b.tokens
one_accessor b one_place q t u x y is js f g =
    ap place_token (one_place (accessor t) (accessor u) q
    (ap (option_map (λ (x : Token). x.accessor)) is ∙ ap Some (same_true x.accessor q f))
    (ap (option_map (λ (x : Token). x.accessor)) js ∙ ap Some (same_true y.accessor q g)))

module _ (forms : Forms) (b : Broker) (sound : SoundTokens forms b.tokens) (one_place : OnePlaceEach b)
    (ended : List Text) (p : Text → Bool)
    (exact : (q : Text) → has ended q ≡ not (p q)) where
  abbrev kept : Broker
  kept = record b { tokens = keep p b.tokens }

  abbrev search : Kind → Text → Option (Text × Token)
  search k q = first_where (λ t x. takes ended k q (node t x)) b.tokens

  abbrev left : Kind → Text → Option Row
  left k q = if is_some (search k q) then None else rows_of b k q

  token_left : (q : Text) → left kind.Token q ≡ rows_of kept kind.Token q
  unfolding rows_of
  token_left q =
      elim (found_or_not (search kind.Token q)) [
        | inr found ↦
            let is = first_where_is (λ t x. takes ended kind.Token q (node t x)) b.tokens found.0 found.1 in
            let two = and_parts (has ended found.0.0) (same q found.0.0 || false) is.1 in
            let at : q ≡ found.0.0 = same_true q found.0.0 (sym (or-false _) ∙ two.1) in
            let gone : not (p q) ≡ true = sym (exact q) ∙ ap (has ended) at ∙ two.0 in
            ap (λ o. if is_some o then None else rows_of b kind.Token q) found.1
            ∙ sym (ap (option_map token_row) (get-keep p b.tokens q ∙ out (p q) (get b.tokens q) gone))
        | inl none ↦
            ap (λ o. if is_some o then None else rows_of b kind.Token q) none
            ∙ stays none (get b.tokens q) refl
            ∙ sym (ap (option_map token_row) (get-keep p b.tokens q))
      ]
    where
      out : (v : Bool) (o : Option Token) → not v ≡ true → cond v o None ≡ None
      out true o h = absurd (false≢true h)
      out false o h = refl

      stays : search kind.Token q ≡ None → (o : Option Token) → get b.tokens q ≡ o
          → option_map token_row (get b.tokens q) ≡ option_map token_row (cond (p q) (get b.tokens q) None)
      stays none None is = ap (option_map token_row) is
          ∙ sym (ap (λ o. option_map token_row (cond (p q) o None)) is ∙ nothing (p q))
        where
          nothing : (v : Bool) → option_map token_row (cond v None None) ≡ None
          nothing true = refl
          nothing false = refl
      stays none (Some x) is =
          elim (p q) as (λ v. p q ≡ v → option_map token_row (get b.tokens q)
          ≡ option_map token_row (cond v (get b.tokens q) None)) [
            | true ↦ λ _. refl
            | false ↦ λ out.
                let fails = first_where_none (λ t x. takes ended kind.Token q (node t x)) b.tokens q x none is in
                absurd (false≢true (sym fails ∙ (λ i. (exact q ∙ ap not out) i && (same_self q i || false))))
          ] refl

  accessor_is : (t : Text) (x : Token) → get b.tokens t ≡ Some x → accessor_in (token_row x) ≡ x.accessor
  accessor_is t x is = token_tells (token_entry x) (token_in_range forms b.tokens sound t x is)

  abbrev waits : Text → Option Row
  waits q = option_map (λ e. accessor_row e.0 holder.WrappingToken)
      (first_where (λ t (w : Waiting). same w.accessor q) b.waiting)

  abbrev joined : Text → Option (Text × Token) → Option Row
  joined q o = or_else (option_map (λ e. accessor_row e.0 holder.Token) o) (waits q)

  -- no wrapping token has the accessor of a token
  none_waits : (q u : Text) (y : Token) → get b.tokens u ≡ Some y → y.accessor ≡ q → waits q ≡ None
  none_waits q u y is named = elim (found_or_not (first_where (λ t (w : Waiting). same w.accessor q) b.waiting)) [
    | inl none ↦ ap (option_map (λ e. accessor_row e.0 holder.WrappingToken)) none
    | inr found ↦
        let e = first_where_is (λ t (w : Waiting). same w.accessor q) b.waiting found.0 found.1 in
        let one : accessor u ≡ wrapping_accessor found.0.0 =
        one_place (accessor u) (wrapping_accessor found.0.0) q
        (ap (option_map (λ (x : Token). x.accessor)) is ∙ ap Some named)
        (ap (option_map (λ (w : Waiting). w.accessor)) e.0 ∙ ap Some (same_true _ q e.1)) in
        absurd (cc)
  ]

  kept_search : (q : Text) → first_where (has_accessor q) (keep p b.tokens)
      ≡ if_kept p (first_where (has_accessor q) b.tokens)
  kept_search q = first_where-keep (has_accessor q) p b.tokens (one_accessor b one_place q)

  -- the entry that takes an accessor's row is that of its token
  taker : (q : Text) (e : Text × Token) → search kind.Accessor q ≡ Some e → (get b.tokens e.0 ≡ Some e.1)
      × (has ended e.0 ≡ true) × (e.1.accessor ≡ q)
  taker q e found =
      let is = first_where_is (λ t x. takes ended kind.Accessor q (node t x)) b.tokens e found in
      let two = and_parts (has ended e.0) (same q (accessor_in (token_row e.1))) is.1 in
      (is.0, two.0, sym (same_true q (accessor_in (token_row e.1)) two.1 ∙ accessor_is e.0 e.1 is.0))

  accessor_left : (q : Text) → left kind.Accessor q ≡ rows_of kept kind.Accessor q
  unfolding rows_of
  accessor_left q =
      elim (found_or_not (first_where (has_accessor q) b.tokens)) [
        | inl none ↦
            elim (found_or_not (search kind.Accessor q)) [
              | inl still ↦
                  ap (λ o. if is_some o then None else rows_of b kind.Accessor q) still
                  ∙ ap (joined q) (none ∙ sym (kept_search q ∙ ap (if_kept p) none))
              | inr found ↦
                  let is = taker q found.0 found.1 in
                  absurd (false≢true (sym (first_where_none (has_accessor q) b.tokens found.0.0 found.0.1 none is.0)
                  ∙ ap (λ a. same a q) is.2 ∙ same_self q))
            ]
        | inr u ↦
            let is = first_where_is (has_accessor q) b.tokens u.0 u.1 in
            let named : u.0.1.accessor ≡ q = same_true u.0.1.accessor q is.1 in
            elim (found_or_not (search kind.Accessor q)) [
              | inr found ↦
                  let by = taker q found.0 found.1 in
                  let one : found.0.0 ≡ u.0.0 = one_accessor b one_place q found.0.0 u.0.0 found.0.1 u.0.1 by.0 is.0
                  (ap (λ a. same a q) by.2 ∙ same_self q) is.1 in
                  let gone : not (p u.0.0) ≡ true = sym (exact u.0.0) ∙ ap (has ended) (sym one) ∙ by.1 in
                  ap (λ o. if is_some o then None else rows_of b kind.Accessor q) found.1
                  ∙ sym (ap (joined q) (kept_search q ∙ ap (if_kept p) u.1 ∙ out (p u.0.0) u.0 gone)
                  ∙ none_waits q u.0.0 u.0.1 is.0 named)
              | inl still ↦
                  ap (λ o. if is_some o then None else rows_of b kind.Accessor q) still
                  ∙ ap (joined q) u.1
                  ∙ sym (ap (joined q) (kept_search q ∙ ap (if_kept p) u.1 ∙ stays u.0 is.0 named still))
            ]
      ]
    where
      out : (v : Bool) (e : Text × Token) → not v ≡ true → (if v then Some e else None) ≡ None
      out true e h = absurd (false≢true h)
      out false e h = refl

      stays : (e : Text × Token) → get b.tokens e.0 ≡ Some e.1 → e.1.accessor ≡ q → search kind.Accessor q ≡ None
          → (if p e.0 then Some e else None) ≡ Some e
      stays e is named still =
          elim (p e.0) as (λ v. p e.0 ≡ v → (if v then Some e else None) ≡ Some e) [
            | true ↦ λ _. refl
            | false ↦ λ out.
                let fails = first_where_none (λ t x. takes ended kind.Accessor q (node t x)) b.tokens e.0 e.1 still
                is in
                absurd (false≢true (sym fails
                ∙ (λ i. (exact e.0 ∙ ap not out) i && same q ((accessor_is e.0 e.1 is ∙ named) i)) ∙ same_self q))
          ] refl

  pub tells_kept : (rows : Rows) → Tells of_tokens (table_of rows) b
      → Tells of_tokens (table_of (without_ended ended (listing b.tokens) rows)) kept
  tells_kept rows tells k q h =
      table_of-without_ended ended (listing b.tokens) rows k q
      ∙ (λ i. if taken-first ended k q b.tokens i then None else tells k q h i)
      ∙ at k h
    where
      at : (k : Kind) → of_tokens k ≡ true → left k q ≡ rows_of kept k q
      at kind.Token h = token_left q
      at kind.Accessor h = accessor_left q
      at _ h = absurd (false≢true h)

-- ---- changes that rows of tokens do not show

pub tells_changed : (b : Broker) (f : Token → Token) → ((x : Token) → token_row (f x) ≡ token_row x)
    → ((x : Token) → (f x).accessor ≡ x.accessor)
    → (k : Kind) (q : Text) → of_tokens k ≡ true
    → rows_of b k q ≡ rows_of (record b { tokens = map_values (λ t. f) b.tokens }) k q
unfolding rows_of
tells_changed b f rows accessors kind.Token q h =
    sym (ap (option_map token_row) (get-map_values (λ t. f) b.tokens q) ∙ at (get b.tokens q))
  where
    at : (o : Option Token) → option_map token_row (option_map f o) ≡ option_map token_row o
    at None = refl
    at (Some x) = ap Some (rows x)
tells_changed b f rows accessors kind.Accessor q h =
    sym (ap (λ o. or_else o (option_map (λ e. accessor_row e.0 holder.WrappingToken)
    (first_where (λ t (w : Waiting). same w.accessor q) b.waiting))) (
    ap (option_map (λ e. accessor_row e.0 holder.Token))
    (first_where-map_values (λ t. f) (λ t (x : Token). same x.accessor q) (λ t (x : Token). same x.accessor q) b.tokens
    (λ u x. ap (λ a. same a q) (accessors x)))
    ∙ at (first_where (λ t (x : Token). same x.accessor q) b.tokens)))
  where
    at : (o : Option (Text × Token)) → option_map (λ (e : Text × Token). accessor_row e.0 holder.Token)
        (option_map (λ (e : Text × Token). (e.0, f e.1)) o)
        ≡ option_map (λ (e : Text × Token). accessor_row e.0 holder.Token) o
    at None = refl
    at (Some e) = refl
tells_changed b f rows accessors _ q h = absurd (false≢true h)
