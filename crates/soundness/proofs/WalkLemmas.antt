-- Steps of a walk over rows, and of its notes.
use Rattle.std.proofs.Common.{◌≡◌, ◌≢◌, ◌<◌, ◌≤◌, ◌+◌, ◌++◌, ◌∷◌, ◌⊎◌, [], ℕ, List, All, Contains, length, nat_le, Bool}
use Rattle.std.proofs.Common.{true, false, Option, Some, None, IfNone, IfSome, refl, sym, ap, subst, inl, inr, arith}
use Rattle.std.proofs.lemmas.List.{get_or_default}
use Rattle.broker_model.specs.Words.{◌∙◌, lit<, if_none_weaker, of_none, of_some, length-append, append-nil}
use Rattle.broker_model.specs.Words.{append_assoc}
use Rattle.broker_model.specs.Words.{eq-or-lt_of_le, leb-false, leb-true, get_or, All-push, Contains-push}
use Rattle.broker_model.specs.Words.{Contains-append_left, Text, Kind, Row, RowKey, Table, table_of, Rows}
use Rattle.records.specs.declared.kind.Kind.TheVariants as kind
use Rattle.soundness.specs.Words.{Notes, Rule, Trouble, Walk, AreApart, AreTrue, BreaksAt, CanBeWalked, GoesOnFrom}
use Rattle.soundness.specs.Words.{IsEntry, IsFresh, IsNumbered, IsOfKind, IsSoundAt, HasItsIdentifier, EachEnds, Grows}
use Rattle.soundness.specs.Words.{HasItsEnd, HasItsOrigin, IsApartFrom, IsListed, IsPassed, Spares, Tells, Walked}
use Rattle.soundness.specs.Words.{noted, number_of}
use Rattle.soundness.proofs.NotingLemmas.{spares_further, spares_none, trouble_at}
use Rattle.soundness.proofs.VisitLemmas.{grows_further, still_passed}

-- a row was passed, by the notes
abbrev pub Passed : Table → Notes → RowKey × Row → Type 0
Passed rows n e = IsPassed rows (noted n.identifiers) (noted n.origins) e

-- ---- notes

pub notes_stay : (a : Notes) → GoesOnFrom a a
notes_stay a = record { rooted = refl; identifiers = λ w key is. is; origins = λ w key is. is }

pub notes_further : (a b c : Notes) → GoesOnFrom a b → GoesOnFrom b c → GoesOnFrom a c
notes_further a b c ab bc =
    record {
      rooted = bc.rooted ∙ ab.rooted;
      identifiers = grows_further (noted a.identifiers) (noted b.identifiers) (noted c.identifiers) ab.identifiers
          bc.identifiers;
      origins = grows_further (noted a.origins) (noted b.origins) (noted c.origins) ab.origins bc.origins;
    }

-- the tokens whose chains end are the same
pub still_end : (rows : Table) (a b : Notes) → GoesOnFrom a b → EachEnds rows a.rooted → EachEnds rows b.rooted
still_end rows a b goes ends = subst (EachEnds rows) (sym goes.rooted) ends

-- ---- a row that is visited

module _ {B : Type 0} (first one two : Rows) (same_one : one ≡ first) (same_two : two ≡ one) (a n : Notes)
    (rooted : n.rooted ≡ a.rooted) (k : Kind) (q : Text) (row : Row) (e : RowKey × Row) (at : ((k, q), row) ≡ e) where
  -- a row that keeps the rules, whose identifiers are noted and whose chain ends, is passed
  pub row_passed : IsSoundAt (table_of first) k q row
      → HasItsIdentifier (table_of one) (noted n.identifiers) k q × Grows (noted a.identifiers) (noted n.identifiers)
      → HasItsOrigin (table_of two) (noted n.origins) k q row × Grows (noted a.origins) (noted n.origins)
      → (o : Option B) → IfNone o (HasItsEnd (table_of first) k q)
      → IfNone o (GoesOnFrom a n × Passed (table_of first) n e)
  row_passed sound identifier origin o chain =
      if_none_weaker o
      (λ end. (
        record { rooted = rooted; identifiers = identifier.1; origins = origin.1 },
        subst (Passed (table_of first) n) at (record {
          sound = sound;
          identifier = subst (λ (m : Rows). HasItsIdentifier (table_of m) (noted n.identifiers) k q) same_one
              identifier.0;
          origin = subst (λ (m : Rows). HasItsOrigin (table_of m) (noted n.origins) k q row)
              (same_two ∙ same_one) origin.0;
          chain = end;
        }),
      )) chain

-- ---- walks

-- a list with others behind it is no shorter
pub longer : (xs more ys : List Trouble) → ys ≡ xs ++ more → length xs ≤ length ys
longer xs more ys is =
    let long : length ys ≡ length xs + length more = ap length is ∙ length-append xs more in omega (arith, long)

pub empty_before : (xs ys : List Trouble) → length xs ≤ length ys → ys ≡ [] → xs ≡ []
empty_before [] ys less none = refl
empty_before (x ∷ xs) ys less none = let long : length ys ≡ 0 = ap length none in absurd (omega (arith, less, long))

-- what is listed stays so
listed_further : (xs more ys : List Trouble) → ys ≡ xs ++ more → (key : RowKey) → IsListed xs key → IsListed ys key
listed_further xs more ys is key listed = (
  listed.0,
  subst (λ zs. Contains zs listed.0) (sym is) (Contains-append_left xs more listed.0 listed.1),
  listed.2,
  listed.3,
)

-- no row was visited
pub walked_none : (rows : Rows) (Has : RowKey × Row → Type 0) (a : Walk) → ((e : RowKey × Row) → Has e → ⊥)
    → Walked rows Has a a
walked_none rows Has a none =
    record {
      rooted = refl;
      most = refl;
      few = λ few. few;
      at_end = ([], sym (append-nil a.troubles.items));
      spares = spares_none (table_of rows) (IsApartFrom Has) a.notes;
      tells = λ are fresh all. all;
      each = λ ends room e has. absurd (none e has);
      passed = λ ends some empty. (notes_stay a.notes, λ e has. absurd (none e has));
    }

module _ (rows : Rows) (A B : RowKey × Row → Type 0) (a b : Walk) (more : (e : RowKey × Row) → A e → B e) where
  -- over these rows and no other, unless it is full
  pub walked_so : (length b.troubles.items < a.most → (e : RowKey × Row) → B e → A e) → Walked rows A a b
      → Walked rows B a b
  walked_so less w =
      record {
        rooted = w.rooted;
        most = w.most;
        few = w.few;
        at_end = w.at_end;
        spares = record {
          stay_true = w.spares.stay_true;
          fresh = λ key apart. w.spares.fresh key (λ e has. apart e (more e has));
        };
        tells = λ are fresh. w.tells are (λ e has. fresh e (more e has));
        each = λ ends room e has. w.each ends room e (less room e has);
        passed = λ ends some empty.
            let none : length b.troubles.items ≡ 0 = ap length empty in
            let so = w.passed ends some empty in
            (so.0, λ e has. so.1 e (less (omega (arith, some, none)) e has));
      }

  -- a walk that is full
  pub walked_full : a.most ≤ length b.troubles.items → Walked rows A a b → Walked rows B a b
  walked_full full = walked_so (λ room. absurd (omega (arith, full, room)))

-- a walk, and another over other rows
module _ (rows : Rows) (A B C : RowKey × Row → Type 0) (a b c : Walk) (of_a : (e : RowKey × Row) → A e → C e)
    (of_b : (e : RowKey × Row) → B e → C e) (parts : (e : RowKey × Row) → C e → A e ⊎ B e)
    (apart : (d e : RowKey × Row) → A d → B e → e.0 ≢ d.0) where
  pub walked_further : Walked rows A a b → Walked rows B b c → Walked rows C a c
  walked_further ab bc =
      let t = table_of rows in
      let shorter : length b.troubles.items ≤ length c.troubles.items =
      longer b.troubles.items bc.at_end.0 c.troubles.items bc.at_end.1 in
      let most = ab.most in
      let early : Spares t (IsApartFrom C) a.notes b.notes = record {
        stay_true = ab.spares.stay_true;
        fresh = λ key others. ab.spares.fresh key (λ e has. others e (of_a e has));
      } in
      record {
        rooted = bc.rooted ∙ ab.rooted;
        most = bc.most ∙ ab.most;
        few = λ few. subst (λ n. length c.troubles.items ≤ n) most
            (bc.few (subst (λ n. length b.troubles.items ≤ n) (sym most) (ab.few few)));
        at_end = (
          ab.at_end.0 ++ bc.at_end.0,
          bc.at_end.1 ∙ ap (λ l. l ++ bc.at_end.0) ab.at_end.1
              ∙ append_assoc a.troubles.items ab.at_end.0 bc.at_end.0,
        );
        spares = spares_further t (IsApartFrom C) (IsApartFrom B) a.notes b.notes c.notes
            (λ key others e has. others e (of_b e has)) early bc.spares;
        tells = λ are fresh all.
            bc.tells (ab.spares.stay_true are)
            (λ e has. ab.spares.fresh e.0 (λ d in_a. apart d e in_a has) (fresh e (of_b e has)))
            (ab.tells are (λ e has. fresh e (of_a e has)) all);
        each = λ ends room e has.
            let room_b : length b.troubles.items < a.most = omega (arith, shorter, room) in
            elim (parts e has) [
              | inl in_a ↦ elim (ab.each ends room_b e in_a) [
                | inl listed ↦ inl
                    (listed_further b.troubles.items bc.at_end.0 c.troubles.items bc.at_end.1 e.0 listed)
                | inr passed ↦ inr passed
              ]
              | inr in_b ↦ bc.each (subst (EachEnds t) (sym ab.rooted) ends)
                  (subst (λ n. length c.troubles.items < n) (sym most) room) e in_b
            ];
        passed = λ ends some empty.
            let none = empty_before b.troubles.items c.troubles.items shorter empty in
            let one = ab.passed ends some none in
            let two = bc.passed (subst (EachEnds t) (sym ab.rooted) ends) (subst (λ n. 0 < n) (sym most) some)
            empty in (
              notes_further a.notes b.notes c.notes one.0 two.0,
              λ e has. elim (parts e has) [
                | inl in_a ↦ still_passed t (noted b.notes.identifiers) (noted c.notes.identifiers)
                    (noted b.notes.origins) (noted c.notes.origins) two.0.identifiers two.0.origins e (one.1 e in_a)
                | inr in_b ↦ two.1 e in_b
              ],
            );
      }

-- ---- a row

-- a walk that is not full
pub has_room : (a : Walk) (full : Bool) → full ≡ false → full ≡ nat_le a.most (length a.troubles.items)
    → length a.troubles.items < a.most
has_room a full not_so is = leb-false a.most (length a.troubles.items) (sym is ∙ not_so)

pub is_full : (a : Walk) (full : Bool) → full ≡ true → full ≡ nat_le a.most (length a.troubles.items)
    → a.most ≤ length a.troubles.items
is_full a full so is = leb-true a.most (length a.troubles.items) (sym is ∙ so)

module _ (rows : Rows) (a b : Walk) (e : RowKey × Row) (rooted : b.notes.rooted ≡ a.notes.rooted)
    (spares : Spares (table_of rows) (λ key. key ≢ e.0) a.notes b.notes) (most : b.most ≡ a.most) where
  one_spares : Spares (table_of rows) (IsApartFrom (λ f. f ≡ e)) a.notes b.notes
  one_spares =
      record { stay_true = spares.stay_true; fresh = λ key apart. spares.fresh key (apart e refl) }

  -- it was passed
  pub row_walked : b.troubles.items ≡ a.troubles.items → (o : Option Rule) → o ≡ None
      → (EachEnds (table_of rows) a.notes.rooted
      → IfNone o (GoesOnFrom a.notes b.notes × Passed (table_of rows) b.notes e))
      → Walked rows (λ f. f ≡ e) a b
  row_walked same o none done =
      record {
        rooted = rooted;
        most = most;
        few = λ few. subst (λ l. length l ≤ a.most) (sym same) few;
        at_end = ([], same ∙ sym (append-nil a.troubles.items));
        spares = one_spares;
        tells = λ are fresh all. subst (All (Tells rows)) (sym same) all;
        each = λ ends room f is. inr (
          noted b.notes.identifiers,
          (noted b.notes.origins, subst (Passed (table_of rows) b.notes) (sym is) (of_none o none (done ends)).1),
        );
        passed = λ ends some empty. (
          (of_none o none (done ends)).0,
          λ f is. subst (Passed (table_of rows) b.notes) (sym is) (of_none o none (done ends)).1,
        );
      }

  -- or it is in trouble, and listed
  pub row_listed : (number : ℕ) → IsNumbered rows number e → length a.troubles.items < a.most → (o : Option Rule)
      → (r : Rule) → o ≡ Some r
      → (AreTrue (table_of rows) a.notes → IsFresh a.notes e.0
      → IfSome o (λ rule. BreaksAt (table_of rows) rule e.0.0 e.0.1 e.1))
      → (t : Trouble) → b.troubles.items ≡ a.troubles.items ++ t ∷ [] → t.kind ≡ e.0.0 → t.key ≡ e.0.1
      → t.rule ≡ r → t.number ≡ number → Walked rows (λ f. f ≡ e) a b
  row_listed number numbered room o r is breaks t pushed is_kind is_key is_rule is_number =
      let long : length b.troubles.items ≡ length a.troubles.items + 1 =
      ap length pushed ∙ length-append a.troubles.items (t ∷ []) in
      record {
        rooted = rooted;
        most = most;
        few = λ few. omega (arith, long, room);
        at_end = (t ∷ [], pushed);
        spares = one_spares;
        tells = λ are fresh all.
            subst (All (Tells rows)) (sym pushed)
            (All-push (Tells rows) a.troubles.items t all (record {
              breaks = trouble_at (table_of rows) t e.0.0 e.0.1 r e.1 is_kind is_key is_rule numbered.is_row
                  (of_some (λ rule. BreaksAt (table_of rows) rule e.0.0 e.0.1 e.1) o r is
                  (breaks are (fresh e refl)));
              number = is_number ∙ numbered.place ∙ (λ i. number_of rows (sym is_kind i) (sym is_key i));
            }));
        each = λ ends room f here. inl (
          t,
          subst (λ l. Contains l t) (sym pushed) (Contains-push a.troubles.items t),
          is_kind ∙ ap (λ (g : RowKey × Row). g.0.0) (sym here),
          is_key ∙ ap (λ (g : RowKey × Row). g.0.1) (sym here),
        );
        passed = λ ends some empty.
            let none : length b.troubles.items ≡ 0 = ap length empty in absurd (omega (arith, long, none));
      }

-- ---- one entry more

-- it is one of the first
abbrev pub IsAmong : {X : Type 0} → ℕ → List X → X → Type 0
IsAmong n xs x = (i : ℕ) × (i < n) × (i < length xs) × (get_or xs i x ≡ x)

-- one more is among them
among_more : {X : Type 0} (n : ℕ) (xs : List X) (x : X) → IsAmong n xs x → IsAmong (n + 1) xs x
among_more n xs x has = let low = has.1 in (has.0, omega (arith, low), has.2, has.3)

-- and no other
among_parts : {X : Type 0} (n : ℕ) (xs : List X) (d x : X) → IsAmong (n + 1) xs x
    → IsAmong n xs x ⊎ (x ≡ get_or xs n d)
among_parts n xs d x has =
    let low = has.1 in
    let upto : has.0 ≤ n = omega (arith, low) in
    elim (eq-or-lt_of_le upto) [
      | inl same ↦ inr (sym has.3 ∙ get_or_default xs has.0 x d has.2 ∙ ap (λ i. get_or xs i d) same)
      | inr less ↦ inl (has.0, less, has.2, has.3)
    ]

pub among_contained : {X : Type 0} (n : ℕ) (xs : List X) (x : X) → IsAmong n xs x → Contains xs x
among_contained n xs x has = (has.0, has.2, has.3)

pub contained_among : {X : Type 0} (n : ℕ) (xs : List X) (x : X) → length xs ≤ n → Contains xs x → IsAmong n xs x
contained_among n xs x long has = let low = has.1 in (has.0, omega (arith, low, long), has.1, has.2)

module _ (first now : Rows) (same : now ≡ first) (a b c : Walk) (es : List (RowKey × Row)) (i : ℕ)
    (below : i < length es) (e : RowKey × Row) (at : e ≡ get_or es i e) (before next : ℕ)
    (is_next : next ≡ before + (i + 1)) (can : CanBeWalked first before es) where
  here : IsNumbered first next e
  here =
      let one : before + i + 1 ≡ next = omega (arith, is_next) in
      subst (λ (x : ℕ × (RowKey × Row)). IsNumbered first x.0 x.1) (λ j. (one j, sym at j)) (can.numbered i e below)

  pub walked_entry : Walked first (IsAmong i es) a b → length b.troubles.items < b.most
      → (IsNumbered now next e → length b.troubles.items < b.most → Walked now (λ f. f ≡ e) b c)
      → Walked first (IsAmong (i + 1) es) a c
  walked_entry so room done =
      let one = subst (λ (m : Rows). Walked m (λ f. f ≡ e) b c) same
      (done (subst (λ (m : Rows). IsNumbered m next e) (sym same) here) room) in
      walked_further first (IsAmong i es) (λ f. f ≡ e) (IsAmong (i + 1) es) a b c (among_more i es)
      (λ f is. (i, omega arith, below, subst (λ g. get_or es i g ≡ g) (sym is) (sym at)))
      (λ f has. elim (among_parts i es e f has) [
        | inl less ↦ inl less
        | inr is ↦ inr (is ∙ sym at)
      ])
      (λ d f in_d is like. can.apart in_d.0 i d e in_d.1 below
      (ap (λ (g : RowKey × Row). g.0) in_d.3 ∙ sym like
      ∙ ap (λ (g : RowKey × Row). g.0) is ∙ ap (λ (g : RowKey × Row). g.0) at))
      so one

-- a page, as it was listed
pub can_as : (first now : Rows) → now ≡ first → (page es : List (RowKey × Row)) → es ≡ page → (before : ℕ)
    → CanBeWalked first before page → CanBeWalked now before es
can_as first now same page es shown before =
    subst (λ (x : Rows × List (RowKey × Row)). CanBeWalked x.0 before x.1) (λ i. (sym same i, sym shown i))

-- and a walk over it
pub walked_page : (first now : Rows) → now ≡ first → (b c : Walk) (page es : List (RowKey × Row)) → es ≡ page
    → Walked now (Contains es) b c → Walked first (Contains page) b c
walked_page first now same b c page es shown =
    subst (λ (x : Rows × List (RowKey × Row)). Walked x.0 (Contains x.1) b c) (λ i. (same i, shown i))

-- ---- one kind more

-- the entry is a row of one of the first kinds
abbrev pub IsOfFirst : Rows → ℕ → List Kind → RowKey × Row → Type 0
IsOfFirst rows n ks e = IsEntry (table_of rows) e × IsAmong n ks e.0.0

module _ (first now : Rows) (same : now ≡ first) (a b c : Walk) (ks : List Kind) (i : ℕ) (below : i < length ks)
    (d : Kind) (apart : AreApart (λ k. k) ks) where
  pub walked_kind : Walked first (IsOfFirst first i ks) a b → Walked now (IsOfKind now (get_or ks i d)) b c
      → Walked first (IsOfFirst first (i + 1) ks) a c
  walked_kind so done =
      let k = get_or ks i d in
      let one = subst (λ (m : Rows). Walked m (IsOfKind m k) b c) same done in
      walked_further first (IsOfFirst first i ks) (IsOfKind first k) (IsOfFirst first (i + 1) ks) a b c
      (λ e has. (has.0, among_more i ks e.0.0 has.1))
      (λ e has. (
        has.0,
        (i, omega arith, below, get_or_default ks i e.0.0 d below ∙ sym has.1),
      ))
      (λ e has. elim (among_parts i ks d e.0.0 has.1) [
        | inl less ↦ inl (has.0, less)
        | inr is ↦ inr (has.0, is)
      ])
      (λ e f in_e in_f like. apart in_e.1.0 i e.0.0 d in_e.1.1 below
      (in_e.1.3 ∙ sym (ap (λ (x : RowKey). x.0) like) ∙ in_f.1))
      so one

-- ---- kinds

-- the kinds, by a list of all
abbrev pub all_kinds : List Kind
all_kinds =
    kind.Clock ∷ kind.Used ∷ kind.Token ∷ kind.Accessor ∷ kind.Cubby ∷ kind.Lease ∷ kind.Credential ∷ kind.KvKey
    ∷ kind.KvVersion ∷ kind.Waiting ∷ kind.Mount ∷ kind.Policy ∷ kind.Role ∷ []

-- each kind is in it
pub in_all : (k : Kind) → Contains all_kinds k
in_all kind.Clock = (0, lit< tt, refl)
in_all kind.Used = (1, lit< tt, refl)
in_all kind.Token = (2, lit< tt, refl)
in_all kind.Accessor = (3, lit< tt, refl)
in_all kind.Cubby = (4, lit< tt, refl)
in_all kind.Lease = (5, lit< tt, refl)
in_all kind.Credential = (6, lit< tt, refl)
in_all kind.KvKey = (7, lit< tt, refl)
in_all kind.KvVersion = (8, lit< tt, refl)
in_all kind.Waiting = (9, lit< tt, refl)
in_all kind.Mount = (10, lit< tt, refl)
in_all kind.Policy = (11, lit< tt, refl)
in_all kind.Role = (12, lit< tt, refl)
