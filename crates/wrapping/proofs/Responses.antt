-- The rows of a broker's waiting responses, after one is stored or dropped.
use Rattle.std.proofs.Common.{◌≡◌, ◌≢◌, if◌then◌else◌, Bool, true, false, cond, Option, Some, None, option_map, refl}
use Rattle.records.specs.Words.{sym, ◌∙◌, ap, subst, inl, inr, false≢true, none-some, same_Some, Text, same, Map, get}
use Rattle.records.specs.Words.{put, without, first_where, Token, Tokens, Broker, Waiting, IsNew, Place, token}
use Rattle.records.specs.Words.{accessor, lease, credential, wrapping_token, wrapping_accessor, identifier_at}
use Rattle.records.specs.Words.{place_token, token_identifier, OnePlaceEach, AllUsed, drop_waiting, get-put}
use Rattle.records.specs.Words.{get-put_self, get-without, without_is, mapped, found_or_not, put_is, OnePasses}
use Rattle.records.specs.Words.{first_where_is, first_where_only, none_found, same_found, same_self, same_true}
use Rattle.records.specs.Words.{of_tokens, of_waiting, Tells, KeepsOthers, waiting_row, accessor_row, rows_of, or_else}
use Rattle.records.specs.Words.{Table, by_token_kind}
use Rattle.records.specs.declared.holder.Holder.TheVariants as holder
use Rattle.wrapping.specs.Words.{Kind, Row, drop_unknown, RepresentsWaiting, with_response, without_response}
use Rattle.wrapping.specs.Words.{has_accessor, find_accessor, with_waiting}
use Rattle.records.specs.declared.kind.Kind.TheVariants as kind

-- a part of two kinds
pub by_kind : (P : Kind → Type 0) → P kind.Waiting → P kind.Accessor → (k : Kind) → of_waiting k ≡ true → P k
by_kind P w a kind.Waiting h = w
by_kind P w a kind.Accessor h = a
by_kind P w a _ h = absurd (false≢true h)

-- ---- rows of accessors

-- the row that an accessor has as that of a token
abbrev pub of_token : Broker → Text → Option Row
of_token b q = option_map (λ e. accessor_row e.0 holder.Token)
    (first_where (λ t (x : Token). same x.accessor q) b.tokens)

-- with the one that it has as that of a wrapping token
abbrev pub joined : Broker → Text → Option (Text × Waiting) → Option Row
joined b q o = or_else (of_token b q) (option_map (λ e. accessor_row e.0 holder.WrappingToken) o)

-- the row of a wrapping token
pub waiting_told : (b : Broker) (table : Table) → Tells of_waiting table b → (t : Text)
    → table kind.Waiting t ≡ option_map waiting_row (get b.waiting t)
unfolding rows_of
waiting_told b table tells t = tells kind.Waiting t refl

-- and that of an accessor
pub accessor_told : (b : Broker) (table : Table) → Tells of_waiting table b → (q : Text)
    → table kind.Accessor q ≡ joined b q (first_where (has_accessor q) b.waiting)
unfolding rows_of
accessor_told b table tells q = tells kind.Accessor q refl

-- rows that are these are the broker's
pub tells_waiting : (b : Broker) (table : Table)
    → ((t : Text) → table kind.Waiting t ≡ option_map waiting_row (get b.waiting t))
    → ((q : Text) → table kind.Accessor q ≡ joined b q (first_where (has_accessor q) b.waiting))
    → Tells of_waiting table b
unfolding rows_of
tells_waiting b table w a k q h = by_kind (λ k. table k q ≡ rows_of b k q) (w q) (a q) k h

-- ---- identifiers in one place

abbrev is_wrapping : Place → Bool
is_wrapping (wrapping_accessor t) = true
is_wrapping _ = false

module _ (b : Broker) (one_place : OnePlaceEach b) where
  -- no two wrapping tokens have one accessor
  pub one_accessor : (q : Text) → OnePasses (has_accessor q) b.waiting
  one_accessor q t u v w is js f g =
      ap place_token (one_place (wrapping_accessor t) (wrapping_accessor u) q
      (ap (option_map (λ (z : Waiting). z.accessor)) is ∙ ap Some (same_true v.accessor q f))
      (ap (option_map (λ (z : Waiting). z.accessor)) js ∙ ap Some (same_true w.accessor q g)))

  -- no token has the accessor of a wrapping token
  pub not_both : (q u t : Text) (x : Token) (w : Waiting) → get b.tokens u ≡ Some x → get b.waiting t ≡ Some w
      → same x.accessor q ≡ true → w.accessor ≡ q → ⊥
  not_both q u t x w is js f named =
      let one : accessor u ≡ wrapping_accessor t = one_place (accessor u) (wrapping_accessor t) q
      (ap (option_map (λ (z : Token). z.accessor)) is ∙ ap Some (same_true x.accessor q f))
      (ap (option_map (λ (z : Waiting). z.accessor)) js ∙ ap Some named) in
      false≢true (ap is_wrapping one)

  pub no_token : (q t : Text) (w : Waiting) → get b.waiting t ≡ Some w → w.accessor ≡ q → of_token b q ≡ None
  no_token q t w js named =
      ap (option_map (λ e. accessor_row e.0 holder.Token))
      (none_found (λ t (x : Token). same x.accessor q) b.tokens (λ u x is f. not_both q u t x w is js f named))

  -- the accessor of a wrapping token names it
  pub names_its_own : (t : Text) (w : Waiting) → get b.waiting t ≡ Some w → find_accessor b w.accessor ≡ Some t
  names_its_own t w is =
      ap (option_map (λ e. e.0))
      (first_where_only (has_accessor w.accessor) b.waiting t w (one_accessor w.accessor) is (same_self w.accessor))

  -- and that of a token names none
  pub names_none : (u : Text) (x : Token) → get b.tokens u ≡ Some x → find_accessor b x.accessor ≡ None
  names_none u x is =
      ap (option_map (λ e. e.0)) (none_found (has_accessor x.accessor) b.waiting (λ t w js f.
      not_both x.accessor u t x w is js (same_self x.accessor) (same_true w.accessor x.accessor f)))

-- what an accessor names has it
pub named_has : (b : Broker) (t q : Text) → find_accessor b q ≡ Some t
    → (w : Waiting) × (get b.waiting t ≡ Some w) × (w.accessor ≡ q)
named_has b t q named =
    let e = mapped (λ e. e.0) (first_where (has_accessor q) b.waiting) t named in
    let is = first_where_is (has_accessor q) b.waiting e.0 e.1 in
    (e.0.1, ap (get b.waiting) e.2 ∙ is.0, same_true e.0.1.accessor q is.1)

-- ---- a response is stored

module _ (b : Broker) (one_place : OnePlaceEach b) (all_used : AllUsed b) (t : Text) (w : Waiting)
    (new_token : IsNew b (token_identifier t)) (new_accessor : IsNew b w.accessor) where
  abbrev more : Map Waiting
  more = put b.waiting t w

  absent : get b.waiting t ≡ None
  absent = elim (found_or_not (get b.waiting t)) [
    | inl none ↦ none
    | inr v ↦ absurd
        (all_used (wrapping_token t) (token_identifier t) (ap (option_map (λ _. token_identifier t)) v.1) new_token)
  ]

  other_accessor : (u : Text) (v : Waiting) → get b.waiting u ≡ Some v → v.accessor ≢ w.accessor
  other_accessor u v is e =
      all_used (wrapping_accessor u) w.accessor (ap (option_map (λ (z : Waiting). z.accessor)) is ∙ ap Some e)
      new_accessor

  no_token_yet : (q : Text) → q ≡ w.accessor → of_token b q ≡ None
  no_token_yet q at =
      ap (option_map (λ e. accessor_row e.0 holder.Token))
      (none_found (λ t (x : Token). same x.accessor q) b.tokens (λ u x is f.
      all_used (accessor u) w.accessor
      (ap (option_map (λ (z : Token). z.accessor)) is ∙ ap Some (same_true x.accessor q f ∙ at)) new_accessor))

  still : (u : Text) (v : Waiting) → get b.waiting u ≡ Some v → get more u ≡ Some v
  still u v is =
      get-put b.waiting t w u ∙ elim (same u t) as (λ s. same u t ≡ s → cond s (Some w) (get b.waiting u) ≡ Some v) [
        | true ↦ λ at. absurd (none-some _ (sym absent ∙ ap (get b.waiting) (sym (same_true u t at)) ∙ is))
        | false ↦ λ _. is
      ] refl

  one_each : (q : Text) → OnePasses (has_accessor q) more
  one_each q u v y z is js f g =
      put_is b.waiting t w u y (u ≡ v) is
      (λ ut yw. put_is b.waiting t w v z (u ≡ v) js (λ vt zw. ut ∙ sym vt)
      (λ old. absurd (other_accessor v z old (same_true z.accessor q g ∙ sym (same_true y.accessor q f)
      ∙ ap (λ (x : Waiting). x.accessor) yw))))
      (λ old. put_is b.waiting t w v z (u ≡ v) js
      (λ vt zw. absurd (other_accessor u y old (same_true y.accessor q f ∙ sym (same_true z.accessor q g)
      ∙ ap (λ (x : Waiting). x.accessor) zw)))
      (λ other. one_accessor b one_place q u v y z old other f g))

  found_now : (q : Text) → first_where (has_accessor q) more
      ≡ (if same q w.accessor then Some (t, w) else first_where (has_accessor q) b.waiting)
  found_now q =
      elim (same q w.accessor) as (λ s. same q w.accessor ≡ s → first_where (has_accessor q) more
      ≡ (if s then Some (t, w) else first_where (has_accessor q) b.waiting)) [
        | true ↦ λ at. first_where_only (has_accessor q) more t w (one_each q) (get-put_self b.waiting t w)
            (ap (λ a. same a q) (sym (same_true q w.accessor at)) ∙ same_self q)
        | false ↦ λ other. same_found (has_accessor q) more b.waiting (one_accessor b one_place q)
            (λ u v is f. put_is b.waiting t w u v (get b.waiting u ≡ Some v) is
            (λ ut vw. absurd (false≢true (sym other ∙ ap (same q)
            (sym (ap (λ (x : Waiting). x.accessor) vw) ∙ same_true v.accessor q f) ∙ same_self q)))
            (λ old. old))
            (λ u v is f. still u v is)
      ] refl

  pub tells_stored : (table : Table) → Tells of_waiting table b
      → Tells of_waiting (with_response table t w) (with_waiting b t w)
  tells_stored table tells =
      tells_waiting (with_waiting b t w) (with_response table t w)
      (λ q. ap (λ o. if same q t then Some (waiting_row w) else o) (waiting_told b table tells q)
      ∙ at_waiting (same q t) (get b.waiting q) ∙ ap (option_map waiting_row) (sym (get-put b.waiting t w q)))
      (λ q. ap (λ o. if same q w.accessor then Some (accessor_row t holder.WrappingToken) else o)
      (accessor_told b table tells q) ∙ at_accessor q ∙ ap (joined b q) (sym (found_now q)))
    where
      at_waiting : (s : Bool) (o : Option Waiting) → (if s then Some (waiting_row w) else option_map waiting_row o)
          ≡ option_map waiting_row (cond s (Some w) o)
      at_waiting true o = refl
      at_waiting false o = refl

      at_accessor : (q : Text) → (if same q w.accessor then Some (accessor_row t holder.WrappingToken)
          else joined b q (first_where (has_accessor q) b.waiting))
          ≡ joined b q (if same q w.accessor then Some (t, w) else first_where (has_accessor q) b.waiting)
      at_accessor q =
          elim (same q w.accessor) as (λ s. same q w.accessor ≡ s
          → (if s then Some (accessor_row t holder.WrappingToken)
          else joined b q (first_where (has_accessor q) b.waiting))
          ≡ joined b q (if s then Some (t, w) else first_where (has_accessor q) b.waiting)) [
            | true ↦ λ at. sym (ap (λ o. or_else o (Some (accessor_row t holder.WrappingToken)))
                (no_token_yet q (same_true q w.accessor at)))
            | false ↦ λ _. refl
          ] refl

-- ---- a response is dropped

module _ (b : Broker) (t : Text) where
  abbrev less : Map Waiting
  less = without b.waiting t

  waited : (u : Text) (v : Waiting) → get less u ≡ Some v → get b.waiting u ≡ Some v
  waited u v e = (without_is b.waiting t u v e).1

  dropped_places : (p : Place) (i : Text) → identifier_at (drop_waiting b t) p ≡ Some i → identifier_at b p ≡ Some i
  dropped_places (token u) i e = e
  dropped_places (accessor u) i e = e
  dropped_places (lease u lease_id) i e = e
  dropped_places (credential u lease_id) i e = e
  dropped_places (wrapping_token u) i e =
      let v = mapped (λ _. token_identifier u) (get less u) i e in
      ap (option_map (λ _. token_identifier u)) (waited u v.0 v.1) ∙ ap Some (sym v.2)
  dropped_places (wrapping_accessor u) i e =
      let v = mapped (λ (z : Waiting). z.accessor) (get less u) i e in
      ap (option_map (λ (z : Waiting). z.accessor)) (waited u v.0 v.1) ∙ ap Some (sym v.2)

  -- each identifier was given out still
  pub dropped_used : AllUsed b → AllUsed (drop_waiting b t)
  dropped_used all p i e = all p i (dropped_places p i e)

  -- rows that are those of the broker without a response represent it
  pub dropped_represents : (old new : Table) → RepresentsWaiting old b → Tells of_waiting new (drop_waiting b t)
      → RepresentsWaiting new (drop_waiting b t)
  dropped_represents old new r tells = record {
    sound = record {
      each = λ u v is. r.sound.each u v (waited u v is);
      one_origin = λ u v x y is js. r.sound.one_origin u v x y (waited u x is) (waited v y js);
    };
    one_place = λ p q i e f. r.one_place p q i (dropped_places p i e) (dropped_places q i f);
    tells = tells;
  }

  -- to drop what is not there changes nothing
  pub tells_unknown : (table : Table) → get b.waiting t ≡ None → Tells of_waiting table b
      → Tells of_waiting table (drop_waiting b t)
  tells_unknown table none tells = subst (Tells of_waiting table) (sym (drop_unknown b t none)) tells

  module _ (one_place : OnePlaceEach b) (w : Waiting) (here : get b.waiting t ≡ Some w) where
    found_then : (q : Text) → (if same q w.accessor then None else joined b q (first_where (has_accessor q) b.waiting))
        ≡ joined b q (first_where (has_accessor q) less)
    found_then q =
        elim (same q w.accessor) as (λ s. same q w.accessor ≡ s
        → (if s then None else joined b q (first_where (has_accessor q) b.waiting))
        ≡ joined b q (first_where (has_accessor q) less)) [
          | true ↦ λ at.
              let named : w.accessor ≡ q = sym (same_true q w.accessor at) in
              sym (ap (joined b q) (none_found (has_accessor q) less (λ u v is f.
              let old = without_is b.waiting t u v is in
              let one : u ≡ t = one_accessor b one_place q u t v w old.1 here f
              (ap (λ a. same a q) named ∙ same_self q) in
              false≢true (sym old.0 ∙ ap (λ z. same z t) one ∙ same_self t)))
              ∙ ap (λ o. or_else o None) (no_token b one_place q t w here named))
          | false ↦ λ other. ap (joined b q)
              (sym (same_found (has_accessor q) less b.waiting (one_accessor b one_place q)
              (λ u v is f. waited u v is)
              (λ u v is f. get-without b.waiting t u
              ∙ elim (same u t) as (λ s. same u t ≡ s → cond s None (get b.waiting u) ≡ Some v) [
                | true ↦ λ at. absurd (false≢true (sym other ∙ ap (same q) (ap (λ (z : Waiting). z.accessor)
                    (same_Some _ _ (sym here ∙ ap (get b.waiting) (sym (same_true u t at)) ∙ is))
                    ∙ same_true v.accessor q f) ∙ same_self q))
                | false ↦ λ _. is
              ] refl)))
        ] refl

    pub tells_dropped : (table : Table) → Tells of_waiting table b
        → Tells of_waiting (without_response table t w.accessor) (drop_waiting b t)
    tells_dropped table tells =
        tells_waiting (drop_waiting b t) (without_response table t w.accessor)
        (λ q. ap (λ o. if same q t then None else o) (waiting_told b table tells q)
        ∙ at_waiting (same q t) (get b.waiting q) ∙ ap (option_map waiting_row) (sym (get-without b.waiting t q)))
        (λ q. ap (λ o. if same q w.accessor then None else o) (accessor_told b table tells q) ∙ found_then q)
      where
        at_waiting : (s : Bool) (o : Option Waiting) → (if s then None else option_map waiting_row o)
            ≡ option_map waiting_row (cond s None o)
        at_waiting true o = refl
        at_waiting false o = refl

-- ---- other rows

-- the rows of a response put in leave the others
pub stored_keeps : (table : Table) (t : Text) (w : Waiting) → KeepsOthers of_waiting table (with_response table t w)
stored_keeps table t w kind.Waiting q h = absurd (false≢true (sym h))
stored_keeps table t w kind.Accessor q h = absurd (false≢true (sym h))
stored_keeps table t w _ q h = refl

-- and so do those that are taken out
pub dropped_keeps : (table : Table) (t a : Text) → KeepsOthers of_waiting table (without_response table t a)
dropped_keeps table t a kind.Waiting q h = absurd (false≢true (sym h))
dropped_keeps table t a kind.Accessor q h = absurd (false≢true (sym h))
dropped_keeps table t a _ q h = refl

-- ---- accessors of tokens and of wrapping tokens

-- a change of tokens leaves the rows of waiting responses
pub tokens_leave : (old new : Table) (b : Broker) (ts : Tokens) → Tells of_waiting old b
    → Tells of_tokens new (record b { tokens = ts }) → KeepsOthers of_tokens old new
    → Tells of_waiting new (record b { tokens = ts })
unfolding rows_of
tokens_leave old new b ts was now keeps k q h =
    by_kind (λ k. new k q ≡ rows_of (record b { tokens = ts }) k q)
    (keeps kind.Waiting q refl ∙ was kind.Waiting q refl) (now kind.Accessor q refl) k h

-- and a change of waiting responses the rows of tokens
pub waiting_leaves : (old new : Table) (b : Broker) (ws : Map Waiting) → Tells of_tokens old b
    → Tells of_waiting new (record b { waiting = ws }) → KeepsOthers of_waiting old new
    → Tells of_tokens new (record b { waiting = ws })
unfolding rows_of
waiting_leaves old new b ws was now keeps k q h =
    by_token_kind (λ k. new k q ≡ rows_of (record b { waiting = ws }) k q)
    (keeps kind.Token q refl ∙ was kind.Token q refl) (now kind.Accessor q refl) k h
