-- The rows of tokens after one is made or changed.
use Rattle.std.proofs.Common.{◌≡◌, ◌≢◌, if◌then◌else◌, Bool, true, false, cond, Option, Some, None, option_map, refl}
use Rattle.std.specs.FinMap as fin
use Rattle.records.specs.Words.{sym, ◌∙◌, ap, inl, inr, Text, same, get, put, change, first_where, Token, Tokens}
use Rattle.records.specs.Words.{Broker, Waiting, IsNew, token, accessor, token_identifier, OnePlaceEach, AllUsed}
use Rattle.records.specs.Words.{false≢true, none-some, same_Some, found_or_not, mapped_unseen, unseen, get-put}
use Rattle.records.specs.Words.{get-change, first_where-map_values, same_map, OnePasses, first_where_is}
use Rattle.records.specs.Words.{first_where_none, first_where_only, same_self, same_true, of_tokens, Tells, KeepsOthers}
use Rattle.records.specs.Words.{token_row, accessor_row, rows_of, or_else, Table, table_of, with_row, Rows}
use Rattle.records.specs.Words.{by_token_kind}
use Rattle.records.specs.declared.holder.Holder.TheVariants as holder
use Rattle.token_tree.specs.Words.{Kind, Row, has_accessor, with_token}
use Rattle.records.specs.declared.kind.Kind.TheVariants as kind
use Rattle.token_tree.proofs.Removals.{one_accessor}

abbrev pub waits : Broker → Text → Option Row
waits b q = option_map (λ e. accessor_row e.0 holder.WrappingToken)
    (first_where (λ t (w : Waiting). same w.accessor q) b.waiting)

abbrev pub joined : Broker → Text → Option (Text × Token) → Option Row
joined b q o = or_else (option_map (λ e. accessor_row e.0 holder.Token) o) (waits b q)

-- the row of a token
pub row_told : (b : Broker) (table : Table) → Tells of_tokens table b → (t : Text)
    → table kind.Token t ≡ option_map token_row (get b.tokens t)
unfolding rows_of
row_told b table tells t = tells kind.Token t refl

pub token_row_at : (b : Broker) (rows : Rows) → Tells of_tokens (table_of rows) b → (t : Text)
    → fin.get rows (kind.Token, t) ≡ option_map token_row (get b.tokens t)
token_row_at b rows tells t = row_told b (table_of rows) tells t

-- rows of tokens and accessors put in leave the others
pub put_keeps : (table : Table) (t : Text) (r : Row) → KeepsOthers of_tokens table (with_row table kind.Token t r)
put_keeps table t r kind.Token q h = absurd (false≢true (sym h))
put_keeps table t r _ q h = refl

pub accessor_keeps : (table : Table) (t : Text) (r : Row)
    → KeepsOthers of_tokens table (with_row table kind.Accessor t r)
accessor_keeps table t r kind.Accessor q h = absurd (false≢true (sym h))
accessor_keeps table t r _ q h = refl

-- ---- a new token

module _ (b : Broker) (one_place : OnePlaceEach b) (all_used : AllUsed b) (t : Text) (x : Token)
    (new_token : IsNew b (token_identifier t))
    (new_accessor : IsNew b x.accessor) where
  absent : get b.tokens t ≡ None
  absent = elim (found_or_not (get b.tokens t)) [
    | inl none ↦ none
    | inr y ↦ absurd (all_used (token t) (token_identifier t)
        (ap (option_map (λ (z : Token). token_identifier t)) y.1) new_token)
  ]

  apart : (u : Text) (y : Token) → get b.tokens u ≡ Some y → y.accessor ≢ x.accessor
  apart u y is e = all_used (accessor u) x.accessor
      (ap (option_map (λ (z : Token). z.accessor)) is ∙ ap Some e) new_accessor

  -- what stands afterwards
  after : (u : Text) (y : Token) → get (put b.tokens t x) u ≡ Some y → (P : Type 0) → (u ≡ t → y ≡ x → P)
      → (get b.tokens u ≡ Some y → P) → P
  after u y is P first rest =
      elim (same u t) as (λ v. same u t ≡ v → cond v (Some x) (get b.tokens u) ≡ Some y → P) [
        | true ↦ λ at e. first (same_true u t at) (sym ((same_Some _ _ e)))
        | false ↦ λ _ e. rest e
      ] refl (sym (get-put b.tokens t x u) ∙ is)

  still : (u : Text) (y : Token) → get b.tokens u ≡ Some y → get (put b.tokens t x) u ≡ Some y
  still u y is =
      get-put b.tokens t x u ∙ elim (same u t) as (λ v. same u t ≡ v → cond v (Some x) (get b.tokens u) ≡ Some y) [
        | true ↦ λ at. absurd (none-some _ (sym absent ∙ ap (get b.tokens) (sym (same_true u t at)) ∙ is))
        | false ↦ λ _. is
      ] refl

  here : get (put b.tokens t x) t ≡ Some x
  here = get-put b.tokens t x t ∙ ap (λ v. cond v (Some x) (get b.tokens t)) (same_self t)

  one_each : (q : Text) → OnePasses (has_accessor q) (put b.tokens t x)
  one_each q u v y z is js f g =
      after u y is (u ≡ v)
      (λ ut yx. after v z js (u ≡ v) (λ vt zx. ut ∙ sym vt)
      (λ old. absurd (apart v z old (same_true z.accessor q g ∙ sym (same_true y.accessor q f)
      ∙ ap (λ (w : Token). w.accessor) yx))))
      (λ old. after v z js (u ≡ v) (λ vt zx. absurd
      (apart u y old (same_true y.accessor q f ∙ sym (same_true z.accessor q g) ∙ ap (λ (w : Token). w.accessor) zx)))
      (λ other. one_accessor b one_place q u v y z old other f g))

  searched : (q : Text) → first_where (has_accessor q) (put b.tokens t x)
      ≡ (if same q x.accessor then Some (t, x) else first_where (has_accessor q) b.tokens)
  searched q =
      elim (same q x.accessor) as (λ v. same q x.accessor ≡ v → first_where (has_accessor q) (put b.tokens t x)
      ≡ (if v then Some (t, x) else first_where (has_accessor q) b.tokens)) [
        | true ↦ λ at. first_where_only (has_accessor q) (put b.tokens t x) t x (one_each q) here
            (ap (λ a. same a q) (sym (same_true q x.accessor at)) ∙ same_self q)
        | false ↦ λ other. elim (found_or_not (first_where (has_accessor q) b.tokens)) [
          | inr found ↦
              let is = first_where_is (has_accessor q) b.tokens found.0 found.1 in
              first_where_only (has_accessor q) (put b.tokens t x) found.0.0 found.0.1 (one_each q)
              (still found.0.0 found.0.1 is.0) is.1 ∙ sym found.1
          | inl none ↦ elim (found_or_not (first_where (has_accessor q) (put b.tokens t x))) [
            | inl nothing ↦ nothing ∙ sym none
            | inr found ↦
                let is = first_where_is (has_accessor q) (put b.tokens t x) found.0 found.1 in
                after found.0.0 found.0.1 is.0
                (first_where (has_accessor q) (put b.tokens t x) ≡ first_where (has_accessor q) b.tokens)
                (λ ut yx. absurd (false≢true (sym other
                ∙ ap (same q) (sym (ap (λ (w : Token). w.accessor) yx) ∙ same_true _ q is.1) ∙ same_self q)))
                (λ old. absurd (false≢true
                (sym (first_where_none (has_accessor q) b.tokens found.0.0 found.0.1 none old) ∙ is.1)))
          ]
        ]
      ] refl

  pub tells_created : (table : Table) → Tells of_tokens table b → Tells of_tokens
      (with_row (with_row table kind.Token t (token_row x)) kind.Accessor x.accessor (accessor_row t holder.Token))
      (with_token b t x)
  unfolding rows_of
  tells_created table tells k q h =
      by_token_kind (λ k. with_row (with_row table kind.Token t (token_row x)) kind.Accessor x.accessor
      (accessor_row t holder.Token) k q
      ≡ rows_of (with_token b t x) k q)
      (ap (λ o. if same q t then Some (token_row x) else o) (tells kind.Token q refl)
      ∙ at_token (same q t) (get b.tokens q)
      ∙ ap (option_map token_row) (sym (get-put b.tokens t x q)))
      (ap (λ o. if same q x.accessor then Some (accessor_row t holder.Token) else o) (tells kind.Accessor q refl)
      ∙ at_accessor (same q x.accessor) (first_where (has_accessor q) b.tokens) ∙ ap (joined b q) (sym (searched q)))
      k h
    where
      at_token : (v : Bool) (o : Option Token) → (if v then Some (token_row x) else option_map token_row o)
          ≡ option_map token_row (cond v (Some x) o)
      at_token true o = refl
      at_token false o = refl

      at_accessor : (v : Bool) (o : Option (Text × Token))
          → (if v then Some (accessor_row t holder.Token) else joined b q o)
          ≡ joined b q (if v then Some (t, x) else o)
      at_accessor true o = refl
      at_accessor false o = refl

-- ---- a token changed

pub tells_changed_at : (b : Broker) (t : Text) (x : Token) (f : Token → Token) → get b.tokens t ≡ Some x
    → ((y : Token) → (f y).accessor ≡ y.accessor)
    → (table : Table) → Tells of_tokens table b
    → Tells of_tokens (with_row table kind.Token t (token_row (f x))) (record b { tokens = change b.tokens t f })
unfolding rows_of
tells_changed_at b t x f here keeps table tells k q h =
    by_token_kind (λ k. with_row table kind.Token t (token_row (f x)) k q
    ≡ rows_of (record b { tokens = change b.tokens t f }) k q)
    (ap (λ o. if same q t then Some (token_row (f x)) else o) (tells kind.Token q refl) ∙ at_token
    ∙ ap (option_map token_row) (sym (get-change b.tokens t f q)))
    (tells kind.Accessor q refl ∙ ap (joined b q) (sym at_accessor) ∙ seen)
    k h
  where
    at_token : (if same q t then Some (token_row (f x)) else option_map token_row (get b.tokens q))
        ≡ option_map token_row (option_map (λ y. if same q t then f y else y) (get b.tokens q))
    at_token =
        elim (same q t) as (λ v. same q t ≡ v
        → (if v then Some (token_row (f x)) else option_map token_row (get b.tokens q))
        ≡ option_map token_row (option_map (λ y. if v then f y else y) (get b.tokens q))) [
          | true ↦ λ at. sym (ap (λ o. option_map token_row (option_map f o))
              (ap (get b.tokens) (same_true q t at) ∙ here))
          | false ↦ λ _. sym (mapped_unseen token_row (λ y. y) (λ y. refl) (get b.tokens q))
        ] refl

    at_accessor : first_where (has_accessor q) b.tokens ≡ first_where (has_accessor q) b.tokens
    at_accessor = refl

    seen : joined b q (first_where (has_accessor q) b.tokens)
        ≡ joined b q (first_where (has_accessor q) (change b.tokens t f))
    seen =
        sym (ap (joined b q)
        (first_where-map_values (λ u y. if same u t then f y else y) (has_accessor q) (has_accessor q) b.tokens
        (λ u y. unseen (λ (z : Token). same z.accessor q) f (λ z. ap (λ a. same a q) (keeps z)) (same u t) y))
        ∙ ap (λ o. or_else o (waits b q))
        (mapped_unseen (λ (e : Text × Token). accessor_row e.0 holder.Token)
        (λ e. (e.0, if same e.0 t then f e.1 else e.1)) (λ e. refl)
        (first_where (has_accessor q) b.tokens)))

-- a change that leaves what stands as it is
pub change_same : (ts : Tokens) (t : Text) (f : Token → Token) → ((x : Token) → get ts t ≡ Some x → f x ≡ x)
    → change ts t f ≡ ts
change_same ts t f h = same_map (change ts t f) ts (λ q. get-change ts t f q ∙ elim (found_or_not (get ts q)) [
  | inl none ↦ ap (option_map (λ x. if same q t then f x else x)) none ∙ sym none
  | inr x ↦ ap (option_map (λ x. if same q t then f x else x)) x.1 ∙ ap Some (at q x.0 x.1) ∙ sym x.1
])
  where
    at : (q : Text) (x : Token) → get ts q ≡ Some x → (if same q t then f x else x) ≡ x
    at q x is = elim (same q t) as (λ v. same q t ≡ v → (if v then f x else x) ≡ x) [
      | true ↦ λ eq. h x (ap (get ts) (sym (same_true q t eq)) ∙ is)
      | false ↦ λ _. refl
    ] refl

-- the row that is there, put again
pub row_again : (table : Table) (t : Text) (r : Row) → table kind.Token t ≡ Some r
    → with_row table kind.Token t r ≡ table
row_again table t r is = λ i k q. at k q i
  where
    at : (k : Kind) (q : Text) → with_row table kind.Token t r k q ≡ table k q
    at kind.Token q = elim (same q t) as
        (λ v. same q t ≡ v → (if v then Some r else table kind.Token q) ≡ table kind.Token q) [
          | true ↦ λ one. sym (ap (table kind.Token) (same_true q t one) ∙ is)
          | false ↦ λ _. refl
        ] refl
    at _ q = refl
