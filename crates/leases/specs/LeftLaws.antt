-- Leases that end one after another, those of tokens that ended, and brokers whose tokens have the same leases.
use Rattle.std.specs.Prelude.{◌≡◌, ◌||◌, ◌&&◌, if◌then◌else◌, [], ℕ, List, Bool, true, false, Option, Some, None, refl}
use Rattle.records.specs.Words.{is_some, is_none, option_and_then, sym, ◌∙◌, ap, inl, inr, false≢true, or_left}
use Rattle.records.specs.Words.{or_right, none-some, same_Some, Text, found_or_not, Map, get, Token, Tokens, Lease}
use Rattle.records.specs.Words.{Broker, OnePlaceEach, lease_of, has, of_leases, Tells, lease_in_range, lease_row, Table}
use Rattle.records.specs.declared.kind.Kind.TheVariants as kind
use Rattle.records.specs.declared.row.Row.{Row}
use Rattle.leases.specs.Laws.{AreLeft}
use Rattle.leases.specs.Endings.{Ending, AreReadable, unless_ended, EndsWith, EndsLeases, either, Leaves, are_owned}
use Rattle.leases.specs.Endings.{has_come}
use Rattle.leases.specs.LeaseRows.{IsLeaseRow, RepresentsLeases}
use Rattle.leases.specs.Leases.{live}
use Rattle.leases.specs.EditLaws.{expired_taken}
use Rattle.leases.specs.TellLaws.{are_leases, leases_tell}

-- ---- brokers with the same leases

pub same_rows : (b c : Broker) (rows : Table) → OnePlaceEach b → ((t id : Text) → lease_of c t id ≡ lease_of b t id)
    → Tells of_leases rows b
    → Tells of_leases rows c
same_rows b c rows one same tells =
    let are = are_leases b one rows tells in
    leases_tell rows c (record {
      leases = λ q r is. let l = are.leases q r is in (l.0, l.1, same l.0 q ∙ l.2, l.3);
      each_lease = λ t q l is. are.each_lease t q l (sym (same t q) ∙ is);
      credentials = λ q r is. let l = are.credentials q r is in (l.0, l.1, l.2, same l.0 l.1 ∙ l.3, l.4, l.5);
      each_credential = λ t q l is. are.each_credential t q l (sym (same t q) ∙ is);
    })

-- ---- one after another

module _ (first second : Ending) (old mid new : Table) (one : EndsLeases first old mid)
    (two : EndsLeases second mid new) where
  -- a row that stays at first is there in between
  between : (q : Text) (row : Row) → old kind.Lease q ≡ Some row → first q row ≡ false → mid kind.Lease q ≡ Some row
  between q row is stays = one.leases q ∙ ap (unless_ended first q) is ∙ ap (λ v. if v then None else Some row) stays

  -- and what is there in between stayed at first
  stayed : (q : Text) (row : Row) → mid kind.Lease q ≡ Some row → (old kind.Lease q ≡ Some row) × (first q row ≡ false)
  stayed q row is = elim (found_or_not (old kind.Lease q)) [
    | inl none ↦ absurd (none-some _ (sym (one.leases q ∙ ap (unless_ended first q) none) ∙ is))
    | inr s ↦
        elim (first q s.0) as (λ v. first q s.0 ≡ v → (if v then None else Some s.0) ≡ Some row
        → (old kind.Lease q ≡ Some row) × (first q row ≡ false)) [
          | true ↦ λ _ none. absurd (none-some _ none)
          | false ↦ λ stays some. (s.1 ∙ some, ap (first q) (sym (same_Some _ _ some)) ∙ stays)
        ] refl (sym (one.leases q ∙ ap (unless_ended first q) s.1) ∙ is)
  ]

  rows_left : (q : Text) (o : Option Row) → unless_ended second q (unless_ended first q o)
      ≡ unless_ended (either first second) q o
  rows_left q None = refl
  rows_left q (Some row) =
      elim (first q row) as (λ v. unless_ended second q (if v then None else Some row)
      ≡ (if v || second q row then None else Some row)) [
        | true ↦ refl
        | false ↦ refl
      ]

  -- a credential that is gone in between stays so
  stays_gone : (q : Text) → mid kind.Credential q ≡ None → new kind.Credential q ≡ None
  stays_gone q none = elim (found_or_not (new kind.Credential q)) [
    | inl gone ↦ gone
    | inr r ↦ absurd (none-some _ (sym (two.credentials_left q
        (λ w. none-some _ (sym (two.credentials_gone q w) ∙ r.1)) ∙ none) ∙ r.1))
  ]

  readable : (q : Text) (row : Row) → old kind.Lease q ≡ Some row → (first q row || second q row) ≡ true
      → IsLeaseRow row
  readable q row is goes =
      elim (first q row) as (λ v. first q row ≡ v → (v || second q row) ≡ true → IsLeaseRow row) [
        | true ↦ λ at _. one.readable q row is at
        | false ↦ λ stays at. two.readable q row (between q row is stays) at
      ] refl goes

  gone : (q : Text) → EndsWith (either first second) old q → new kind.Credential q ≡ None
  gone q w =
      let row = lease_row w.owner w.lease in
      elim (first w.lease_id row) as (λ v. first w.lease_id row ≡ v → (v || second w.lease_id row) ≡ true
      → new kind.Credential q ≡ None) [
        | true ↦ λ at _. stays_gone q (one.credentials_gone q (record {
          lease_id = w.lease_id;
          owner = w.owner;
          lease = w.lease;
          row = w.row;
          goes = at;
          credential_is = w.credential_is;
        }))
        | false ↦ λ stays at. two.credentials_gone q (record {
          lease_id = w.lease_id;
          owner = w.owner;
          lease = w.lease;
          row = between w.lease_id row w.row stays;
          goes = at;
          credential_is = w.credential_is;
        })
      ] refl w.goes

  left : (q : Text) → (EndsWith (either first second) old q → ⊥) → new kind.Credential q ≡ old kind.Credential q
  left q none =
      two.credentials_left q (λ w.
      none (record {
        lease_id = w.lease_id;
        owner = w.owner;
        lease = w.lease;
        row = (stayed w.lease_id (lease_row w.owner w.lease) w.row).0;
        goes = or_right (first w.lease_id (lease_row w.owner w.lease)) _ w.goes;
        credential_is = w.credential_is;
      }))
      ∙ one.credentials_left q (λ w.
      none (record {
        lease_id = w.lease_id;
        owner = w.owner;
        lease = w.lease;
        row = w.row;
        goes = or_left _ (second w.lease_id (lease_row w.owner w.lease)) w.goes;
        credential_is = w.credential_is;
      }))

  pub ends_added : EndsLeases (either first second) old new
  ends_added = record {
    readable = readable;
    leases = λ q. two.leases q ∙ ap (unless_ended second q) (one.leases q) ∙ rows_left q (old kind.Lease q);
    credentials_gone = gone;
    credentials_left = left;
    others = λ k q h. two.others k q h ∙ one.others k q h;
  }

-- nothing ends
pub nothing_ends : (rows : Table) → EndsLeases (λ q row. false) rows rows
nothing_ends rows = record {
  readable = λ q row is goes. absurd (false≢true goes);
  leases = λ q. still (rows kind.Lease q);
  credentials_gone = λ q w. absurd (false≢true w.goes);
  credentials_left = λ q none. refl;
  others = λ k q h. refl;
}
  where
    still : (o : Option Row) → o ≡ unless_ended (λ q row. false) [] o
    still None = refl
    still (Some row) = refl

-- the rows of a broker's leases can be read
pub all_readable : (ends : Ending) (old : Table) (b : Broker) → RepresentsLeases old b → AreReadable ends old
all_readable ends old b represents q row is goes =
    let l = (are_leases b represents.one_place old represents.tells).leases q row is in (
      l.1,
      lease_in_range q l.1 (represents.sound l.0 q l.1 l.2),
      l.3 ∙ ap (λ t. lease_row t l.1) (sym (ap (λ (r : Row). r.owner) l.3)),
    )

-- what can be read can be read afterwards
pub readable_after : (ends other : Ending) (old new : Table) → EndsLeases ends old new → AreReadable other old
    → AreReadable other new
readable_after ends other old new ended readable q row is goes = elim (found_or_not (old kind.Lease q)) [
  | inl none ↦ absurd (none-some _ (sym (ended.leases q ∙ ap (unless_ended ends q) none) ∙ is))
  | inr s ↦
      elim (ends q s.0) as (λ v. (if v then None else Some s.0) ≡ Some row → IsLeaseRow row) [
        | true ↦ λ none. absurd (none-some _ none)
        | false ↦ λ some. readable q row (s.1 ∙ some) goes
      ] (sym (ended.leases q ∙ ap (unless_ended ends q) s.1) ∙ is)
]

-- ---- leases of tokens that ended

module _ (b : Broker) (us : Tokens) (ended : List Text) (f : Map Lease → Map Lease) (rest : Ending)
    (taken : (t q : Text) (m : Map Lease) → get (f m) q
    ≡ option_and_then (λ l. if rest q (lease_row t l) then None else Some l) (get m q))
    (left : AreLeft f b.tokens us ended) where
  abbrev c : Broker
  c = record b { tokens = us }

  abbrev unless : Bool → Text → Text → Option Lease → Option Lease
  unless v t q o = option_and_then (λ l. if rest q (lease_row t l) || v then None else Some l) o

  all_gone : (t q : Text) (o : Option Lease) → None ≡ unless true t q o
  all_gone t q None = refl
  all_gone t q (Some l) = ap (λ v. if v then None else Some l) (sym (or_right (rest q (lease_row t l)) true refl))

  none_gone : (t q : Text) (o : Option Lease)
      → option_and_then (λ l. if rest q (lease_row t l) then None else Some l) o ≡ unless false t q o
  none_gone t q None = refl
  none_gone t q (Some l) = by (rest q (lease_row t l))
    where
      by : (v : Bool) → (if v then None else Some l) ≡ (if v || false then None else Some l)
      by true = refl
      by false = refl

  pub tokens_leave : Leaves (either rest (are_owned ended)) b c
  tokens_leave t q = elim (found_or_not (get us t)) [
    | inr y ↦
        let x = left.kept t y.0 y.1 in
        let stays : has ended t ≡ false = left.exact t ∙ (λ i. is_some (x.1 i) && is_none (y.1 i)) in
        ap (option_and_then (λ (z : Token). get z.leases q)) y.1 ∙ ap (λ m. get m q) x.2 ∙ taken t q x.0.leases
        ∙ none_gone t q (get x.0.leases q)
        ∙ sym (ap (λ v. unless v t q (get x.0.leases q)) stays)
        ∙ ap (λ o. unless (has ended t) t q (option_and_then (λ (z : Token). get z.leases q) o)) (sym x.1)
    | inl none ↦ ap (option_and_then (λ (z : Token). get z.leases q)) none ∙ elim (found_or_not (get b.tokens t)) [
      | inl nothing ↦ sym (ap (λ o. unless (has ended t) t q
          (option_and_then (λ (z : Token). get z.leases q) o)) nothing)
      | inr x ↦
          let goes : has ended t ≡ true = left.exact t ∙ (λ i. is_some (x.1 i) && is_none (none i)) in
          all_gone t q (lease_of b t q) ∙ sym (ap (λ v. unless v t q (lease_of b t q)) goes)
    ]
  ]

all_stay : (o : Option Lease) → o ≡ option_and_then (λ l. Some l) o
all_stay None = refl
all_stay (Some l) = refl

-- leases go with their tokens
pub go_with_tokens : (b : Broker) (us : Tokens) (ended : List Text) → AreLeft (λ m. m) b.tokens us ended
    → Leaves (are_owned ended) b (record b { tokens = us })
go_with_tokens b us ended left = tokens_leave b us ended (λ m. m) (λ q row. false) (λ t q m. all_stay (get m q)) left

-- and expire as tokens do
pub expire_too : (b : Broker) (us : Tokens) (now : ℕ) (ended : List Text) → AreLeft (live now) b.tokens us ended
    → Leaves (either (has_come now) (are_owned ended)) b (record b { tokens = us })
expire_too b us now ended left = tokens_leave b us ended (live now) (has_come now)
    (λ t q m. expired_taken now t q m) left
