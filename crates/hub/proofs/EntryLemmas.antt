-- What the hub's table of connections has under each number, as its entries change.
use Rattle.std.specs.Prelude.{◌≡◌, ◌≢◌, ◌⊎◌, ◌+◌, ◌-◌, ◌<◌, ◌≤◌, ◌∷◌, ℕ, zero, suc, true, false, cond, List, [], length}
use Rattle.broker_model.specs.Words.{◌∙◌, inl, inr, ⊎_elim, Option, Some, None, is_some, nat_eq, nat_le, refl, sym, ap}
use Rattle.broker_model.specs.Words.{arith, BTreeMap, is_at, lookup, false≢true, cases_eq, cases_lt, cond-true}
use Rattle.broker_model.specs.Words.{cond-false, eq-eqb, ne_eqb, eqb-true, le-leb, lt-leb, leb-false, cases_Bool}
use Rattle.broker_model.specs.Words.{false_from_ne_true, none-some, cond_some, is_there, not_there}
use Rattle.std.proofs.Common.{nat_cmp}
use Rattle.std.specs.BTreeMap.{get}
use Rattle.hub.specs.Words.{IsClosedRun, IsLastUpTo, IsNextIn, connection_at, connection_in, last_in, search_down}
use Rattle.hub.specs.Words.{IsNextNumber, ConnectionRepresents, OpenedAs, closed_at, is_closed, new_history, Connection}
use Rattle.hub.specs.Words.{Closed, Entry, One, ClosedRun}

-- ---- the last entry up to a number

search_from : (f : ℕ → Option Entry) (n conn first : ℕ) (e : Entry) → f first ≡ Some e → first ≤ n
    → ((k : ℕ) → first < k → k ≤ n → f k ≡ None) → search_down f n conn ≡ connection_in first e conn
unfolding search_down
search_from f zero conn first e here within none =
    let same : first ≡ 0 = omega arith in
    let there : f 0 ≡ Some e = ap f (sym same) ∙ here in
    rw there (ap (λ (q : ℕ). connection_in q e conn) (sym same))
search_from f (suc n) conn first e here within none = ⊎_elim
    (λ (same : first ≡ suc n).
    let there : f (suc n) ≡ Some e = ap f (sym same) ∙ here in
    rw there (ap (λ (q : ℕ). connection_in q e conn) (sym same)))
    (λ (apart : first ≢ suc n).
    let nothing : f (suc n) ≡ None = none (suc n) (omega arith) (omega arith) in
    rw nothing (search_from f n conn first e here (omega arith) (λ k lt le. none k lt (omega arith))))
    (cases_eq first (suc n))

search_none : (f : ℕ → Option Entry) (n conn : ℕ) → ((k : ℕ) → k ≤ n → f k ≡ None) → search_down f n conn ≡ None
unfolding search_down
search_none f zero conn none =
    let nothing : f 0 ≡ None = none 0 (omega arith) in
    rw nothing refl
search_none f (suc n) conn none =
    let nothing : f (suc n) ≡ None = none (suc n) (omega arith) in
    rw nothing (search_none f n conn (λ k le. none k (omega arith)))

pub at_last : (f : ℕ → Option Entry) (conn first : ℕ) (e : Entry) → IsLastUpTo f conn first e
    → connection_at f conn ≡ connection_in first e conn
at_last f conn first e l = search_from f conn conn first e l.here l.within l.none

pub at_none : (f : ℕ → Option Entry) (conn : ℕ) → ((k : ℕ) → k ≤ conn → f k ≡ None) → connection_at f conn ≡ None
at_none f conn none = search_none f conn conn none

abbrev LastOrNone : (ℕ → Option Entry) → ℕ → Type 0
LastOrNone f n = ((first : ℕ) × (e : Entry) × IsLastUpTo f n first e) ⊎ ((k : ℕ) → k ≤ n → f k ≡ None)

one_more : (f : ℕ → Option Entry) (n : ℕ) (o : Option Entry) → f (suc n) ≡ o → LastOrNone f n → LastOrNone f (suc n)
one_more f n (Some e) is below =
    inl (suc n, e, record { here = is; within = omega arith; none = λ k lt le. absurd (omega arith) })
one_more f n None is below = ⊎_elim
    (λ (l : (first : ℕ) × (e : Entry) × IsLastUpTo f n first e).
    let within = l.2.within in
    inl (
      l.0,
      l.1,
      record {
        here = l.2.here;
        within = omega arith;
        none = λ k lt le. ⊎_elim
            (λ (same : k ≡ suc n). ap f same ∙ is)
            (λ (apart : k ≢ suc n). l.2.none k lt (omega arith))
            (cases_eq k (suc n));
      },
    ))
    (λ (none : (k : ℕ) → k ≤ n → f k ≡ None).
    inr (λ k le. ⊎_elim
    (λ (same : k ≡ suc n). ap f same ∙ is)
    (λ (apart : k ≢ suc n). none k (omega arith))
    (cases_eq k (suc n))))
    below

first_one : (f : ℕ → Option Entry) (o : Option Entry) → f 0 ≡ o → LastOrNone f 0
first_one f (Some e) is = inl (0, e, record { here = is; within = omega arith; none = λ k lt le. absurd (omega arith) })
first_one f None is = inr (λ k le. let same : k ≡ 0 = omega arith in ap f same ∙ is)

last_or_none : (f : ℕ → Option Entry) (n : ℕ) → LastOrNone f n
last_or_none f zero = first_one f (f 0) refl
last_or_none f (suc n) = one_more f n (f (suc n)) refl (last_or_none f n)

pub none_without_entries : (table : BTreeMap ℕ Entry) → table.entries ≡ [] → (k : ℕ) → get nat_cmp table k ≡ None
none_without_entries table empty k = ap (λ (es : List (ℕ × Entry)). lookup (is_at (nat_cmp k)) es) empty

pub no_entries : {X : Type 0} (es : List X) → (0 < length es → false ≡ true) → es ≡ []
no_entries [] none = refl
no_entries (e ∷ es) none = absurd (false≢true (none (omega arith)))

-- from what a search of the keys says
pub none_past : (f : ℕ → Option Entry) (first : ℕ) → ((k : ℕ) → is_some (f k) ≡ true → k ≤ first) → (k : ℕ) → first < k
    → f k ≡ None
none_past f first greatest k lt =
    not_there (f k) (false_from_ne_true (is_some (f k)) (λ there. let up_to = greatest k there in absurd (omega arith)))

pub last_from : (f : ℕ → Option Entry) (conn first : ℕ) (e : Entry) → f first ≡ Some e → first ≤ conn
    → ((k : ℕ) → k ≤ conn → is_some (f k) ≡ true → k ≤ first) → IsLastUpTo f conn first e
last_from f conn first e here within greatest =
    record {
      here = here;
      within = within;
      none = λ k lt le. not_there (f k)
          (false_from_ne_true (is_some (f k)) (λ there. let up_to = greatest k le there in absurd (omega arith)));
    }

-- ---- what one entry has

one_here : (conn : ℕ) (c : Connection) → connection_in conn (One c) conn ≡ Some c
one_here conn c = cond-true (nat_eq conn conn) (Some c) None (eq-eqb conn conn refl)

one_apart : (conn first : ℕ) (c : Connection) → conn ≢ first → connection_in first (One c) conn ≡ None
one_apart conn first c apart = cond-false (nat_eq conn first) (Some c) None (ne_eqb conn first apart)

-- a number past one under which the entry has nothing
still_none : (first conn n : ℕ) (e : Entry) → first < conn → conn ≤ n → connection_in first e conn ≡ None
    → connection_in first e n ≡ None
still_none first conn n (One c) lt le none = one_apart n first c (λ same. absurd (omega arith))
still_none first conn n (ClosedRun more) lt le none = ⊎_elim
    (λ (is : nat_le conn (first + more) ≡ true).
    absurd (none-some Closed (sym none ∙ cond-true (nat_le conn (first + more)) (Some Closed) None is)))
    (λ (is : nat_le conn (first + more) ≡ false).
    let past = leb-false conn (first + more) is in
    cond-false (nat_le n (first + more)) (Some Closed) None (lt-leb n (first + more) (omega (arith, past))))
    (cases_Bool (nat_le conn (first + more)))

-- an entry has something under its own number
own : (conn : ℕ) (e : Entry) → is_some (connection_in conn e conn) ≡ true
own conn (One c) = ap is_some (one_here conn c)
own conn (ClosedRun more) =
    ap is_some (cond-true (nat_le conn (conn + more)) (Some Closed) None (le-leb conn (conn + more) (omega arith)))

-- ---- entries that stay

key_apart : (f : ℕ → Option Entry) (k conn : ℕ) (e : Entry) → f k ≡ None → f conn ≡ Some e → k ≢ conn
key_apart f k conn e none some same = none-some e (sym none ∙ ap f same ∙ some)

-- the last entry up to the number stays, and what is above it
stays : (f g : ℕ → Option Entry) (n first : ℕ) (e : Entry) → IsLastUpTo f n first e → g first ≡ f first
    → ((k : ℕ) → first < k → k ≤ n → g k ≡ f k) → connection_at g n ≡ connection_at f n
stays f g n first e l here others =
    at_last g n first e (record {
      here = here ∙ l.here;
      within = l.within;
      none = λ k lt le. others k lt le ∙ l.none k lt le;
    })
    ∙ sym (at_last f n first e l)

-- the entries are those of before at each number
pub same_entries : (f g : ℕ → Option Entry) → ((k : ℕ) → g k ≡ f k) → (n : ℕ) → connection_at g n ≡ connection_at f n
same_entries f g same n = ⊎_elim
    (λ (l : (first : ℕ) × (e : Entry) × IsLastUpTo f n first e). stays f g n l.0 l.1 l.2 (same l.0) (λ k lt le. same k))
    (λ (none : (k : ℕ) → k ≤ n → f k ≡ None). at_none g n (λ k le. same k ∙ none k le) ∙ sym (at_none f n none))
    (last_or_none f n)

-- ---- a number

pub at_own : (f : ℕ → Option Entry) (conn : ℕ) (e : Entry) → f conn ≡ Some e
    → connection_at f conn ≡ connection_in conn e conn
at_own f conn e is = at_last f conn conn e
    (record { here = is; within = omega arith; none = λ k lt le. absurd (omega arith) })

pub at_one : (f : ℕ → Option Entry) (conn : ℕ) (c : Connection) → f conn ≡ Some (One c) → connection_at f conn ≡ Some c
at_one f conn c is = at_own f conn (One c) is ∙ one_here conn c

-- the table has a connection under each number with an entry
pub seen_at : (f : ℕ → Option Entry) (conn : ℕ) (e : Entry) → f conn ≡ Some e → is_some (connection_at f conn) ≡ true
seen_at f conn e is = ap is_some (at_own f conn e is) ∙ own conn e

-- where the connection is not closed, there is no entry, or one that is this connection alone
pub open_entry : (f : ℕ → Option Entry) (conn : ℕ) (c : Connection) → connection_at f conn ≡ Some c
    → is_closed c ≡ false → f conn ≡ Some (One c)
open_entry f conn c is is_open = ⊎_elim
    (λ (l : (first : ℕ) × (e : Entry) × IsLastUpTo f conn first e). at l.0 l.1 l.2.here
    (sym (at_last f conn l.0 l.1 l.2) ∙ is))
    (λ (none : (k : ℕ) → k ≤ conn → f k ≡ None). absurd (none-some c (sym (at_none f conn none) ∙ is)))
    (last_or_none f conn)
  where
    at : (first : ℕ) (e : Entry) → f first ≡ Some e → connection_in first e conn ≡ Some c → f conn ≡ Some (One c)
    at first (One d) here has =
        let both = cond_some (nat_eq conn first) d c has in
        ap f (eqb-true conn first both.0) ∙ here ∙ ap (λ (x : Connection). Some (One x)) both.1
    at first (ClosedRun more) here has =
        let both = cond_some (nat_le conn (first + more)) Closed c has in
        absurd (false≢true (sym is_open ∙ ap is_closed (sym both.1)))

pub no_entry : (f : ℕ → Option Entry) (conn : ℕ) → f conn ≡ None → closed_at (connection_at f conn) ≡ false
    → connection_at f conn ≡ None
no_entry f conn none is_open = at (connection_at f conn) refl
  where
    at : (o : Option Connection) → connection_at f conn ≡ o → connection_at f conn ≡ None
    at None is = is
    at (Some c) is = absurd (none-some (One c) (sym none ∙ open_entry f conn c is (ap closed_at (sym is) ∙ is_open)))

-- one connection alone takes the place of another
pub changed : (f g : ℕ → Option Entry) (conn : ℕ) (c d : Connection) → f conn ≡ Some (One c) → g conn ≡ Some (One d)
    → ((k : ℕ) → k ≢ conn → g k ≡ f k) → (n : ℕ) → n ≢ conn → connection_at g n ≡ connection_at f n
changed f g conn c d was is others n apart = ⊎_elim
    (λ (l : (first : ℕ) × (e : Entry) × IsLastUpTo f n first e). ⊎_elim
    (λ (same : l.0 ≡ conn). here l.0 l.1 l.2 same)
    (λ (other : l.0 ≢ conn).
    stays f g n l.0 l.1 l.2 (others l.0 other)
    (λ k lt le. others k (key_apart f k conn (One c) (l.2.none k lt le) was)))
    (cases_eq l.0 conn))
    (λ (none : (k : ℕ) → k ≤ n → f k ≡ None).
    at_none g n (λ k le. others k (key_apart f k conn (One c) (none k le) was) ∙ none k le) ∙ sym (at_none f n none))
    (last_or_none f n)
  where
    here : (first : ℕ) (e : Entry) → IsLastUpTo f n first e → first ≡ conn → connection_at g n ≡ connection_at f n
    here first e l same =
        let above : (k : ℕ) → conn < k → k ≤ n → f k ≡ None = λ k lt le. l.none k (omega arith) le in
        let within = l.within in
        at_last g n conn (One d) (record {
          here = is;
          within = omega arith;
          none = λ k lt le. others k (λ e. absurd (omega arith)) ∙ above k lt le;
        })
        ∙ one_apart n conn d apart ∙ sym (one_apart n conn c apart)
        ∙ sym (at_last f n conn (One c) (record { here = was; within = omega arith; none = above }))

-- a connection is put where there was none
pub opened : (f g : ℕ → Option Entry) (conn : ℕ) (c : Connection) → f conn ≡ None → connection_at f conn ≡ None
    → g conn ≡ Some (One c)
    → ((k : ℕ) → k ≢ conn → g k ≡ f k) → (n : ℕ) → n ≢ conn → connection_at g n ≡ connection_at f n
opened f g conn c was nothing is others n apart = ⊎_elim
    (λ (l : (first : ℕ) × (e : Entry) × IsLastUpTo f n first e). below l.0 l.1 l.2)
    (λ (none : (k : ℕ) → k ≤ n → f k ≡ None). ⊎_elim
    (λ (lt : n < conn).
    at_none g n (λ k le. others k (λ e. absurd (omega arith)) ∙ none k le) ∙ sym (at_none f n none))
    (λ (le : conn ≤ n). new le (λ k lt up_to. none k up_to) ∙ sym (at_none f n none))
    (cases_lt n conn))
    (last_or_none f n)
  where
    -- the new one is the last up to n, and has nothing there
    new : conn ≤ n → ((k : ℕ) → conn < k → k ≤ n → f k ≡ None) → connection_at g n ≡ None
    new le above =
        at_last g n conn (One c) (record {
          here = is;
          within = le;
          none = λ k lt up_to. others k (λ e. absurd (omega arith)) ∙ above k lt up_to;
        })
        ∙ one_apart n conn c apart

    outside : (first k : ℕ) → (conn ≤ first) ⊎ (n < conn) → first ≢ conn → first < k → k ≤ n → k ≡ conn → ⊥
    outside first k (inl le) other lt at same = omega arith
    outside first k (inr past) other lt at same = omega arith

    below : (first : ℕ) (e : Entry) → IsLastUpTo f n first e → connection_at g n ≡ connection_at f n
    below first e l =
        let other : first ≢ conn = λ same. key_apart f conn first e was l.here (sym same) in
        let stay : (conn ≤ first) ⊎ (n < conn) → connection_at g n ≡ connection_at f n =
        λ out. stays f g n first e l (others first other)
        (λ k lt le. others k (λ same. absurd (outside first k out other lt le same))) in
        ⊎_elim
        (λ (lt : first < conn). ⊎_elim
        (λ (past : n < conn). stay (inr past))
        (λ (le : conn ≤ n).
        let up_to : connection_at f conn ≡ connection_in first e conn =
        at_last f conn first e
        (record { here = l.here; within = omega arith; none = λ k more at. l.none k more (omega arith) }) in
        new le (λ k more at. l.none k (omega arith) at)
        ∙ sym (at_last f n first e l ∙ still_none first conn n e lt le (sym up_to ∙ nothing)))
        (cases_lt n conn))
        (λ (le : conn ≤ first). stay (inl le))
        (cases_lt first conn)

-- ---- opening and closing

pub already_open : (f : ℕ → Option Entry) (conn : ℕ) → is_some (f conn) ≡ true
    → (c : Connection) × (connection_at f conn ≡ Some c) × OpenedAs (connection_at f conn) c
already_open f conn there =
    let e = is_there (f conn) there in
    let c = is_there (connection_at f conn) (seen_at f conn e.0 e.1) in
    (c.0, c.1, inl c.1)

pub newly_open : (f g : ℕ → Option Entry) (conn : ℕ) → f conn ≡ None → closed_at (connection_at f conn) ≡ false
    → (c : Connection) × (g conn ≡ Some (One c)) × ConnectionRepresents c new_history
    → (c : Connection) × (connection_at g conn ≡ Some c) × OpenedAs (connection_at f conn) c
newly_open f g conn none is_open (c, is, represents) =
    (c, at_one g conn c is, inr (no_entry f conn none is_open, represents))

pub new_is_open : (g : ℕ → Option Entry) (conn : ℕ) → (c : Connection) × (g conn ≡ Some (One c))
    × ConnectionRepresents c new_history
    → closed_at (connection_at g conn) ≡ false
new_is_open g conn (c, is, represents) = ap closed_at (at_one g conn c is) ∙ represents.closed

-- a connection that is not closed is closed, if it was seen
pub shut_here : (f g : ℕ → Option Entry) (conn : ℕ) (c : Connection) → connection_at f conn ≡ Some c
    → closed_at (connection_at f conn) ≡ false
    → ((e : Entry) → f conn ≡ Some e → g conn ≡ Some (One Closed)) → connection_at g conn ≡ Some Closed
shut_here f g conn c is is_open replaced =
    at_one g conn Closed (replaced (One c) (open_entry f conn c is (sym (ap closed_at is) ∙ is_open)))

no_key : (f : ℕ → Option Entry) (conn : ℕ) → connection_at f conn ≡ None → f conn ≡ None
no_key f conn nothing = at (f conn) refl
  where
    at : (o : Option Entry) → f conn ≡ o → f conn ≡ None
    at None is = is
    at (Some e) is = absurd (false≢true (sym (ap is_some nothing) ∙ seen_at f conn e is))

pub shut_unseen : (f g : ℕ → Option Entry) (conn : ℕ) → connection_at f conn ≡ None → (f conn ≡ None → g conn ≡ None)
    → ((k : ℕ) → k ≢ conn → g k ≡ f k) → (n : ℕ) → connection_at g n ≡ connection_at f n
shut_unseen f g conn nothing none others = same_entries f g same
  where
    absent : f conn ≡ None
    absent = no_key f conn nothing

    same : (k : ℕ) → g k ≡ f k
    same k = ⊎_elim (λ (e : k ≡ conn). ap g e ∙ none absent ∙ sym (ap f e ∙ absent))
        (λ (apart : k ≢ conn). others k apart) (cases_eq k conn)

pub shut_others : (f g : ℕ → Option Entry) (conn : ℕ) → closed_at (connection_at f conn) ≡ false
    → ((e : Entry) → f conn ≡ Some e → g conn ≡ Some (One Closed)) → (f conn ≡ None → g conn ≡ None)
    → ((k : ℕ) → k ≢ conn → g k ≡ f k) → (n : ℕ) → n ≢ conn → connection_at g n ≡ connection_at f n
shut_others f g conn is_open replaced none others n apart = at (connection_at f conn) refl
  where
    at : (o : Option Connection) → connection_at f conn ≡ o → connection_at g n ≡ connection_at f n
    at None is = shut_unseen f g conn is none others n
    at (Some c) is =
        let was = open_entry f conn c is (sym (ap closed_at is) ∙ is_open) in
        changed f g conn c Closed was (replaced (One c) was) others n apart

-- a closed connection
pub shut_at : (o : Option Connection) (c : Connection) → o ≡ Some c → closed_at o ≡ true → (d : Connection)
    × (o ≡ Some d) × (is_closed d ≡ true)
shut_at o c is closed = (c, is, sym (ap closed_at is) ∙ closed)

-- ---- feeding

-- an open connection's entry changes, and then entries are joined
module _ (F : Connection → Connection → Type 0) (f g h : ℕ → Option Entry) (conn : ℕ)
    (is_open : closed_at (connection_at f conn) ≡ false)
    (feeds : (c : Connection) → f conn ≡ Some (One c) → (d : Connection) × (g conn ≡ Some (One d)) × F c d)
    (settles : (k : ℕ) → connection_at h k ≡ connection_at g k) where
  pub fed_here : (c : Connection) → connection_at f conn ≡ Some c → (d : Connection) × (connection_at h conn ≡ Some d)
      × F c d
  fed_here c is =
      let d = feeds c (open_entry f conn c is (sym (ap closed_at is) ∙ is_open)) in
      (d.0, settles conn ∙ at_one g conn d.0 d.1, d.2)

  pub fed_others : is_some (connection_at f conn) ≡ true → ((k : ℕ) → k ≢ conn → g k ≡ f k) → (k : ℕ) → k ≢ conn
      → connection_at h k ≡ connection_at f k
  fed_others seen others k apart =
      let c = is_there (connection_at f conn) seen in
      let was = open_entry f conn c.0 c.1 (sym (ap closed_at c.1) ∙ is_open) in
      let d = feeds c.0 was in
      settles k ∙ changed f g conn c.0 d.0 was d.1 others k apart

-- ---- joining

-- two closed runs, the second of which begins where the first ends, become one
pub joined : (f g : ℕ → Option Entry) (first second end last : ℕ) (x y : Entry) → first < second
    → ((k : ℕ) → first < k → k < second → f k ≡ None)
    → f first ≡ Some x → IsClosedRun first x end → end ≡ second - 1 → f second ≡ Some y → IsClosedRun second y last
    → g first ≡ Some (ClosedRun (last - first)) → g second ≡ None → ((k : ℕ) → k ≢ first → k ≢ second → g k ≡ f k)
    → (n : ℕ) → connection_at g n ≡ connection_at f n
joined f g first second end last x y lt between at_first run_first ends at_second run_second new gone others n = ⊎_elim
    (λ (l : (key : ℕ) × (e : Entry) × IsLastUpTo f n key e). ⊎_elim
    (λ (same : l.0 ≡ first). in_first (moved l.0 first l.1 x l.2 same at_first))
    (λ (other : l.0 ≢ first). ⊎_elim
    (λ (same : l.0 ≡ second). in_second (moved l.0 second l.1 y l.2 same at_second))
    (λ (third : l.0 ≢ second).
    stays f g n l.0 l.1 l.2 (others l.0 other third)
    (λ k more le. let none = l.2.none k more le in
    others k (key_apart f k first x none at_first) (key_apart f k second y none at_second)))
    (cases_eq l.0 second))
    (cases_eq l.0 first))
    (λ (none : (k : ℕ) → k ≤ n → f k ≡ None).
    at_none g n (λ k le. others k (key_apart f k first x (none k le) at_first)
    (key_apart f k second y (none k le) at_second) ∙ none k le)
    ∙ sym (at_none f n none))
    (last_or_none f n)
  where
    reaches : first + (last - first) ≡ last
    reaches = let far = run_second.reaches in omega arith

    moved : (key at : ℕ) (e z : Entry) → IsLastUpTo f n key e → key ≡ at → f at ≡ Some z → IsLastUpTo f n at z
    moved key at e z l same is =
        let within = l.within in
        record { here = is; within = omega arith; none = λ k more le. l.none k (omega arith) le }

    -- nothing is left above the first
    gone_above : ((k : ℕ) → second < k → k ≤ n → f k ≡ None) → (k : ℕ) → first < k → k ≤ n → g k ≡ None
    gone_above above k more le = ⊎_elim
        (λ (same : k ≡ second). ap g same ∙ gone)
        (λ (apart : k ≢ second).
        others k (λ e. absurd (omega arith)) apart
        ∙ ⊎_elim (λ (less : k < second). between k more less) (λ (far : second ≤ k). above k (omega arith) le)
        (cases_lt k second))
        (cases_eq k second)

    -- the joined run is the last up to n
    in_new : first ≤ n → ((k : ℕ) → second < k → k ≤ n → f k ≡ None)
        → connection_at g n ≡ cond (nat_le n last) (Some Closed) None
    in_new le above =
        at_last g n first (ClosedRun (last - first)) (record { here = new; within = le; none = gone_above above })
        ∙ ap (λ (q : ℕ). cond (nat_le n q) (Some Closed) None) reaches

    in_first : IsLastUpTo f n first x → connection_at g n ≡ connection_at f n
    in_first l =
        let before : n < second = ⊎_elim (λ (less : n < second). less)
        (λ (le : second ≤ n). absurd (none-some y (sym (l.none second lt le) ∙ at_second))) (cases_lt n second) in
        let far = run_second.reaches in
        in_new l.within (λ k more le. absurd (omega arith))
        ∙ cond-true (nat_le n last) (Some Closed) None (le-leb n last (omega arith))
        ∙ sym (at_last f n first x l ∙ run_first.closed n l.within
        ∙ cond-true (nat_le n end) (Some Closed) None (le-leb n end (omega arith)))

    in_second : IsLastUpTo f n second y → connection_at g n ≡ connection_at f n
    in_second l =
        let within = l.within in
        in_new (omega arith) l.none ∙ sym (at_last f n second y l ∙ run_second.closed n l.within)

-- ---- the next number

-- the entry has something under each number up to its last, and nothing past it
within_last : (first n : ℕ) (e : Entry) → first ≤ n → n ≤ last_in first e → is_some (connection_in first e n) ≡ true
within_last first n (One c) le at =
    let same : n ≡ first = omega arith in
    ap is_some (cond-true (nat_eq n first) (Some c) None (eq-eqb n first same))
within_last first n (ClosedRun more) le at =
    ap is_some (cond-true (nat_le n (first + more)) (Some Closed) None (le-leb n (first + more) at))

past_last : (first n : ℕ) (e : Entry) → last_in first e < n → connection_in first e n ≡ None
past_last first n (One c) lt = one_apart n first c (λ same. absurd (omega arith))
past_last first n (ClosedRun more) lt = cond-false (nat_le n (first + more)) (Some Closed) None
    (lt-leb n (first + more) lt)

reaches_last : (first : ℕ) (e : Entry) → first ≤ last_in first e
reaches_last first (One c) = omega arith
reaches_last first (ClosedRun more) = omega arith

-- the number after the last entry
pub next_after : (f : ℕ → Option Entry) (first : ℕ) (e : Entry) (next : Option ℕ) → f first ≡ Some e
    → ((k : ℕ) → first < k → f k ≡ None)
    → first ≤ 18446744073709551615 → IsNextIn first e next → IsNextNumber (λ k. connection_at f k) next
next_after f first e None here none fits is =
    let l : IsLastUpTo f 18446744073709551615 first e =
    record { here = here; within = fits; none = λ k lt le. none k lt } in
    ap is_some (at_last f 18446744073709551615 first e l) ∙ within_last first 18446744073709551615 e fits is
next_after f first e (Some n) here none fits is =
    let far = reaches_last first e in
    let at : (k : ℕ) → first ≤ k → connection_at f k ≡ connection_in first e k =
    λ k le. at_last f k first e (record { here = here; within = le; none = λ q lt up_to. none q lt }) in
    record {
      unseen = λ k le. at k (omega arith) ∙ past_last first k e (omega arith);
      last = inr (ap is_some (at (n - 1) (omega arith)) ∙ within_last first (n - 1) e (omega arith) (omega arith));
    }
