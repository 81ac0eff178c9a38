-- What notes of rows hold, and what stops the noting of a row.
use Rattle.std.proofs.Common.{◌≡◌, ◌≢◌, ◌⊎◌, ℕ, true, false, cond, Option, Some, None, IfSome, Result, Ok, Err, OnOk}
use Rattle.std.proofs.Common.{refl}
use Rattle.broker_model.specs.Words.{ap, nat_cmp-IsAntisymmetric, nat_cmp, is_eq, sym, ◌∙◌, subst, inl, inr}
use Rattle.broker_model.specs.Words.{tells_apart}
use Rattle.broker_model.specs.Words.{same_Some, IfOk-weaker, Text, id, lease_identifier, IsIdentifier, IsLeaseId, Fault}
use Rattle.broker_model.specs.Words.{if_none_weaker, Kind, Row, RowKey, Table, table_of, Rows}
use Rattle.soundness.specs.Words.{Rule, Trouble, Notes, Breaks, BreaksAt, HasIdentifier, IsKeyOf, Shows, HasEachRooted}
use Rattle.soundness.specs.Words.{AddsOnly, AreNotedIdentifiers, AreNotedOrigins, AreTrue, HasOrigin, IsEntry, IsFresh}
use Rattle.soundness.specs.Words.{IsNotNoted, Spares, StopsNoting, Places, Finds, noted}
use Rattle.soundness.specs.declared.trouble.Rule.TheVariants as rule
use Rattle.soundness.proofs.TextLemmas.{lease_id_of}
use Rattle.soundness.proofs.TextWhole.{lease_parts}

-- ---- what stops the noting of a row is a rule that it breaks

pub stops_broken : (rows : Table) (places : Places) (k : Kind) (q : Text) (row : Row)
    → AreNotedIdentifiers rows places → IsNotNoted places (k, q) → (r : Rule)
    → StopsNoting rows places (IsKeyOf k q row.owner) (HasIdentifier k q) r → BreaksAt rows r k q row
stops_broken rows places k q row are fresh rule.Key stops = stops
stops_broken rows places k q row are fresh rule.Mark stops = stops
stops_broken rows places k q row are fresh rule.Place stops =
    let key = stops.2.0 in
    let there = are stops.0 key stops.2.1 in
    record {
      word = stops.0;
      here = stops.1;
      other = key;
      is_other = λ same. fresh stops.0 (stops.2.1 ∙ ap Some same);
      there = there.0;
      has_it = there.1;
    }
stops_broken rows places k q row are fresh _ stops = absurd stops

-- ---- notes stay true

pub adds_none : (Has : Text → Type 0) (key : RowKey) (places : Places) → AddsOnly Has key places places
adds_none Has key places = λ word other is. inl is

identifiers_true : (rows : Table) (old new : Places) (k : Kind) (q : Text) → rows k q ≢ None
    → AddsOnly (HasIdentifier k q) (k, q) old new → AreNotedIdentifiers rows old → AreNotedIdentifiers rows new
identifiers_true rows old new k q here adds are word key is =
    elim (adds word key is) [
      | inl before ↦ are word key before
      | inr one ↦ subst (λ (e : RowKey). (rows e.0 e.1 ≢ None) × HasIdentifier e.0 e.1 (id word)) (sym one.0)
          (here, one.1)
    ]

origins_true : (rows : Table) (old new : Places) (k : Kind) (q : Text) (row : Row) → rows k q ≡ Some row
    → AddsOnly (HasOrigin k row) (k, q) old new → AreNotedOrigins rows old → AreNotedOrigins rows new
origins_true rows old new k q row here adds are word key is =
    elim (adds word key is) [
      | inl before ↦ are word key before
      | inr one ↦
          subst (λ (e : RowKey). (r : Row) × (rows e.0 e.1 ≡ Some r) × HasOrigin e.0 r (id word)) (sym one.0)
          (row, here, one.1)
    ]

still_not_noted : (Has : Text → Type 0) (key other : RowKey) (old new : Places) → AddsOnly Has key old new
    → other ≢ key → IsNotNoted old other → IsNotNoted new other
still_not_noted Has key other old new adds apart fresh word is =
    elim (adds word other is) [
      | inl before ↦ fresh word before
      | inr one ↦ apart one.0
    ]

some_none : {X : Type 0} (o : Option X) (x : X) → o ≡ Some x → o ≢ None
some_none o x some none = absurd cc

module _ (rows : Table) (a n : Notes) (rooted : n.rooted ≡ a.rooted) (k : Kind) (q : Text) (row : Row) where
  spared : rows k q ≡ Some row
      → AddsOnly (HasIdentifier k q) (k, q) (noted a.identifiers) (noted n.identifiers)
      → AddsOnly (HasOrigin k row) (k, q) (noted a.origins) (noted n.origins) → Spares rows (λ key. key ≢ (k, q)) a n
  spared here identifier origin =
      record {
        stay_true = λ are. record {
          rooted = subst (HasEachRooted rows) (sym rooted) are.rooted;
          identifiers = identifiers_true rows (noted a.identifiers) (noted n.identifiers) k q
              (some_none (rows k q) row here) identifier are.identifiers;
          origins = origins_true rows (noted a.origins) (noted n.origins) k q row here origin are.origins;
        };
        fresh = λ key apart fresh. record {
          identifiers = still_not_noted (HasIdentifier k q) (k, q) key (noted a.identifiers) (noted n.identifiers)
              identifier apart fresh.identifiers;
          origins = still_not_noted (HasOrigin k row) (k, q) key (noted a.origins) (noted n.origins) origin apart
              fresh.origins;
        };
      }

  -- a row that is visited is noted alone
  pub row_spared : (e : RowKey × Row) → ((k, q), row) ≡ e → IsEntry rows e
      → AddsOnly (HasIdentifier k q) (k, q) (noted a.identifiers) (noted n.identifiers)
      → AddsOnly (HasOrigin k row) (k, q) (noted a.origins) (noted n.origins)
      → Spares rows (λ key. key ≢ e.0) a n
  row_spared e at here identifier origin =
      subst (λ (f : RowKey × Row). Spares rows (λ key. key ≢ f.0) a n) at
      (spared (subst (IsEntry rows) (sym at) here) identifier origin)

pub spares_none : (rows : Table) (Others : RowKey → Type 0) (a : Notes) → Spares rows Others a a
spares_none rows Others a = record { stay_true = λ are. are; fresh = λ key other fresh. fresh }

pub spares_further : (rows : Table) (P Q : RowKey → Type 0) (a b c : Notes) → ((key : RowKey) → P key → Q key)
    → Spares rows P a b → Spares rows Q b c → Spares rows P a c
spares_further rows P Q a b c less ab bc =
    record {
      stay_true = λ are. bc.stay_true (ab.stay_true are);
      fresh = λ key other fresh. bc.fresh key (less key other) (ab.fresh key other fresh);
    }

-- ---- answers

-- the row breaks the rule
pub trouble_at : (rows : Table) (t : Trouble) (k : Kind) (q : Text) (r : Rule) (row : Row) → t.kind ≡ k → t.key ≡ q
    → t.rule ≡ r → rows k q ≡ Some row → BreaksAt rows r k q row → Breaks rows t
trouble_at rows t k q r row is_kind is_key is_rule here bad =
    let same : ◌≡◌ {A = Rule × Kind × Text} (r, k, q) (t.rule, t.kind, t.key) =
    λ i. (sym is_rule i, sym is_kind i, sym is_key i) in
    inr (
      row,
      (λ i. rows (is_kind i) (is_key i)) ∙ here,
      subst (λ (x : Rule × Kind × Text). BreaksAt rows x.0 x.1 x.2 row) same bad,
    )

-- ---- one row is noted

-- a row that is noted at a word is all that is added
pub note_adds : (old new : Places) (word : ℕ) (key : RowKey)
    → ((q : ℕ) → new q ≡ cond (is_eq (nat_cmp word q)) (Some key) (old q)) → AddsOnly (λ i. i ≡ id word) key old new
note_adds old new word key puts q other is =
    elim (is_eq (nat_cmp word q))
    as (λ b. is_eq (nat_cmp word q) ≡ b → cond b (Some key) (old q) ≡ Some other
    → (old q ≡ Some other) ⊎ ((other ≡ key) × (id q ≡ id word))) [
      | true ↦ λ met at. inr (
        sym (same_Some key other at),
        sym (ap id (tells_apart nat_cmp-IsAntisymmetric word q met)),
      )
      | false ↦ λ _ before. inl before
    ] refl (sym (puts q) ∙ is)

pub adds_as : (Has Had : Text → Type 0) (key : RowKey) (old new : Places) → ((i : Text) → Has i → Had i)
    → AddsOnly Has key old new → AddsOnly Had key old new
adds_as Has Had key old new so adds word other is =
    elim (adds word other is) [
      | inl before ↦ inl before
      | inr one ↦ inr (one.0, so (id word) one.1)
    ]

pub stops_as : (rows : Table) (places : Places) (IsKey IsOther : Type 0) (Has Had : Text → Type 0)
    → (IsOther → IsKey) → ((i : Text) → Has i → Had i) → (r : Rule)
    → StopsNoting rows places IsKey Has r → StopsNoting rows places IsOther Had r
stops_as rows places IsKey IsOther Has Had key so rule.Key stops = λ other. stops (key other)
stops_as rows places IsKey IsOther Has Had key so rule.Mark stops = (stops.0, so stops.0 stops.1, stops.2)
stops_as rows places IsKey IsOther Has Had key so rule.Place stops = (stops.0, so (id stops.0) stops.1, stops.2)
stops_as rows places IsKey IsOther Has Had key so _ stops = absurd stops

-- the id of a lease has an identifier
pub lease_identified : (q : Text) → IsLeaseId q → IsIdentifier (lease_identifier q)
lease_identified q s =
    subst IsIdentifier
    (lease_id_of q s.mount _ s.role s.identifier (lease_parts q s) refl (s.mount_name, s.role_name, s.is_identifier)).1
    s.is_identifier

-- ---- what answers tell

module _ {B : Type 0} (result : Result (Option B) Fault) where
  pub finds_as : {P Q : Type 0} → (P → Q) → Finds result P → Finds result Q
  finds_as f finds = IfOk-weaker result _ _ (λ o. if_none_weaker o f) finds

  pub shows_as : (P Q : B → Type 0) → ((b : B) → P b → Q b) → Shows result P → Shows result Q
  shows_as P Q f shows = IfOk-weaker result _ _ (λ o. by o) shows
    where
      by : (o : Option B) → IfSome o P → IfSome o Q
      by None p = tt
      by (Some b) p = f b p

-- what holds of the notes after an answer
pub ok_as : {A E P Q : Type 0} (r : Result A E) → (P → Q) → OnOk r P → OnOk r Q
ok_as (Ok x) f p = f p
ok_as (Err e) f p = tt

-- what is added under an identifier of a kind, once the kind is told
pub adds_of_kind : {B : Type 0} (result : Result (Option B) Fault) (k l : Kind) (q : Text) (old new : Places) → k ≡ l
    → OnOk result (AddsOnly (HasIdentifier l q) (k, q) old new)
    → OnOk result (AddsOnly (HasIdentifier k q) (k, q) old new)
adds_of_kind result k l q old new is =
    subst (λ (m : Kind). OnOk result (AddsOnly (HasIdentifier m q) (k, q) old new)) (sym is)

-- ---- a row that is visited

module _ (first now : Rows) (same : now ≡ first) (k : Kind) (q : Text) (row : Row) (e : RowKey × Row)
    (at : ((k, q), row) ≡ e) (n : Notes) (fresh : IsFresh n e.0) where
  abbrev BreaksEntry : Rule → RowKey × Row → Type 0
  BreaksEntry r f = BreaksAt (table_of first) r f.0.0 f.0.1 f.1

  fresh_here : IsFresh n (k, q)
  fresh_here = subst (λ (f : RowKey × Row). IsFresh n f.0) (sym at) fresh

  -- the row breaks what stops the noting of its identifier
  pub identifier_breaks : AreTrue (table_of first) n → (r : Rule)
      → StopsNoting (table_of now) (noted n.identifiers) (IsKeyOf k q row.owner) (HasIdentifier k q) r
      → BreaksAt (table_of first) r e.0.0 e.0.1 e.1
  identifier_breaks are r stops =
      subst (BreaksEntry r) at
      (stops_broken (table_of first) (noted n.identifiers) k q row are.identifiers fresh_here.identifiers r
      (subst
      (λ (m : Rows). StopsNoting (table_of m) (noted n.identifiers) (IsKeyOf k q row.owner) (HasIdentifier k q) r)
      same stops))

  -- and what stops that of its origin
  pub origin_breaks : AreTrue (table_of first) n → (r : Rule)
      → (AreNotedOrigins (table_of now) (noted n.origins) → IsNotNoted (noted n.origins) (k, q)
      → BreaksAt (table_of now) r k q row)
      → BreaksAt (table_of first) r e.0.0 e.0.1 e.1
  origin_breaks are r breaks =
      subst (BreaksEntry r) at
      (subst (λ (m : Rows). BreaksAt (table_of m) r k q row) same
      (breaks (subst (λ (m : Rows). AreNotedOrigins (table_of m) (noted n.origins)) (sym same) are.origins)
      fresh_here.origins))
