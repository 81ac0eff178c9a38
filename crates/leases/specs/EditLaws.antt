-- The leases that tokens have after an edit, lease by lease.
use Rattle.std.specs.Prelude.{◌≡◌, if◌then◌else◌, ℕ, nat_lt, nat_le, Bool, true, false, not, cond, Option, Some, None}
use Rattle.records.specs.Words.{option_and_then, get-empty, option_map_or, refl, ◌∙◌, ap, le-ltb, lt-ltb, leb-true}
use Rattle.records.specs.Words.{leb-false, Text, text_cmp, same, Map, get, empty, without, keep, get-without, get-keep}
use Rattle.records.specs.Words.{Token, Lease, Broker, lease_row}
use Rattle.leases.specs.Leases.{edited, revoke, revoke_under, drop_owner, without_expired, is_under, live}
use Rattle.leases.specs.SoundLaws.{lease_of-edited}
use Rattle.leases.specs.Endings as rows
use Rattle.leases.specs.Endings.{Leaves}

-- an edit that takes out what ends
leaves_by : (b : Broker) (edit : Text → Map Lease → Map Lease) (ends : rows.Ending)
    → ((t q : Text) (m : Map Lease) → get (edit t m) q
    ≡ option_and_then (λ l. if ends q (lease_row t l) then None else Some l) (get m q))
    → Leaves ends b (edited b edit)
leaves_by b edit ends taken t q = lease_of-edited b edit t q ∙ inner (get b.tokens t)
  where
    inner : (o : Option Token) → option_and_then (λ (x : Token). get (edit t x.leases) q) o
        ≡ option_and_then (λ l. if ends q (lease_row t l) then None else Some l)
        (option_and_then (λ (x : Token). get x.leases q) o)
    inner None = refl
    inner (Some x) = taken t q x.leases

abbrev unless : Bool → Option Lease → Option Lease
unless v o = option_and_then (λ l. if v then None else Some l) o

none_left : (o : Option Lease) → None ≡ unless true o
none_left None = refl
none_left (Some l) = refl

all_left : (o : Option Lease) → o ≡ unless false o
all_left None = refl
all_left (Some l) = refl

pub revoke_leaves : (b : Broker) (id : Text) → Leaves (rows.is_named id) b (revoke b id)
revoke_leaves b id = leaves_by b (λ t m. without m id) (rows.is_named id)
    (λ t q m. get-without m id q ∙ inner (same q id) (get m q))
  where
    inner : (v : Bool) (o : Option Lease) → cond v None o ≡ unless v o
    inner true o = none_left o
    inner false o = all_left o

pub under_leaves : (b : Broker) (prefix : Text) → Leaves (rows.ids_under prefix) b (revoke_under b prefix)
under_leaves b prefix =
    leaves_by b (λ t m. keep (λ id. not (is_under prefix id)) m) (rows.ids_under prefix) (λ t q m.
    get-keep (λ id. not (is_under prefix id)) m q ∙ inner (is_under prefix q) (get m q))
  where
    inner : (v : Bool) (o : Option Lease) → cond (not v) o None ≡ unless v o
    inner true o = none_left o
    inner false o = all_left o

pub owner_leaves : (b : Broker) (t : Text) → Leaves (rows.is_owned t) b (drop_owner b t)
owner_leaves b t =
    leaves_by b (λ u m. if same u t then empty else m) (rows.is_owned t) (λ u q m. inner (same u t) q m)
  where
    inner : (v : Bool) (q : Text) (m : Map Lease) → get (if v then empty else m) q ≡ unless v (get m q)
    inner true q m = get-empty text_cmp q ∙ none_left (get m q)
    inner false q m = all_left (get m q)

-- not at or before, and so later
turned : (m n : ℕ) → nat_lt m n ≡ not (nat_le n m)
turned m n = elim (nat_le n m) as (λ v. nat_le n m ≡ v → nat_lt m n ≡ not v) [
  | true ↦ λ is. le-ltb m n (leb-true n m is)
  | false ↦ λ is. lt-ltb m n (leb-false n m is)
] refl

-- the leases that end later
pub expired_taken : (now : ℕ) (t q : Text) (m : Map Lease)
    → get (live now m) q ≡ option_and_then (λ l. if rows.has_come now q (lease_row t l) then None else Some l) (get m q)
expired_taken now t q m =
    get-keep (λ id. option_map_or (λ (l : Lease). nat_lt now l.ends) (get m id) false) m q ∙ inner (get m q)
  where
    last : (l : Lease) (v : Bool) → cond (not v) (Some l) None ≡ (if v then None else Some l)
    last l true = refl
    last l false = refl

    inner : (o : Option Lease) → cond (option_map_or (λ (l : Lease). nat_lt now l.ends) o false) o None
        ≡ option_and_then (λ l. if rows.has_come now q (lease_row t l) then None else Some l) o
    inner None = refl
    inner (Some l) = ap (λ v. cond v (Some l) None) (turned now l.ends) ∙ last l (nat_le l.ends now)

pub expired_leaves : (b : Broker) (now : ℕ) → Leaves (rows.has_come now) b (without_expired b now)
expired_leaves b now = leaves_by b (λ t m. live now m) (rows.has_come now) (expired_taken now)
