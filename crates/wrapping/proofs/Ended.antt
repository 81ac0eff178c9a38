-- The rows of a broker's waiting responses, after those went that have come to their end.
use Rattle.std.proofs.Common.{◌≡◌, ◌<◌, ◌≤◌, if◌then◌else◌, ℕ, List, Bool, true, false, not, cond, Option, Some, None}
use Rattle.records.specs.Words.{option_map, nat_le, nat_lt, both_ways, option_map_or, refl, sym, ◌∙◌, ap, inl, inr}
use Rattle.records.specs.Words.{arith, false≢true, false_from_ne_true, leb-true, leb-false, ltb-true, lt-ltb, Text}
use Rattle.records.specs.Words.{same, Map, get, keep, first_where, Broker, Waiting, waiting_ends, get-keep}
use Rattle.records.specs.Words.{any_contained, passing, found_or_not, mapped, first_where_is, first_where_none}
use Rattle.records.specs.Words.{first_where-keep, if_kept, same_self, same_true, response_tells, accessor_in, is_told}
use Rattle.records.specs.Words.{has, is_due, of_waiting, Tells, waiting_in_range, waiting_row, or_else, Table}
use Rattle.records.specs.declared.kind.Kind.TheVariants as kind
use Rattle.wrapping.specs.Words.{Row, is_due_at, AreReadableDue, Sweeps, RepresentsWaiting, has_accessor, still_waits}
use Rattle.wrapping.specs.Words.{without_ended}
use Rattle.wrapping.proofs.Responses.{joined, waiting_told, accessor_told, tells_waiting, one_accessor, no_token}

-- what has come is not later
come_or_later : (m now : ℕ) → nat_le m now ≡ not (nat_lt now m)
come_or_later m now =
    elim (nat_le m now) as (λ v. nat_le m now ≡ v → v ≡ not (nat_lt now m)) [
      | true ↦ λ h. sym (ap not (false_from_ne_true (nat_lt now m) (λ e.
          let come : m ≤ now = leb-true m now h in
          let next : now < m = ltb-true now m e in
          absurd (omega (arith, come, next)))))
      | false ↦ λ h. sym (ap not (lt-ltb now m (leb-false m now h)))
    ] refl

module _ (now : ℕ) (b : Broker) (old : Table) (r : RepresentsWaiting old b) where
  -- the rows of its wrapping tokens can be read
  pub all_readable : AreReadableDue now old
  all_readable t row is come =
      let w = mapped waiting_row (get b.waiting t) row (sym (waiting_told b old r.tells t) ∙ is) in
      (w.0, waiting_in_range t w.0 (r.sound.each t w.0 w.1), w.2)

  abbrev stays : Text → Bool
  stays t = still_waits now b.waiting t

  abbrev left : Map Waiting
  left = keep stays b.waiting

  row_of : (t : Text) (w : Waiting) → get b.waiting t ≡ Some w → old kind.Waiting t ≡ Some (waiting_row w)
  row_of t w is = waiting_told b old r.tells t ∙ ap (option_map waiting_row) is

  module _ (ended : List Text) (each : (t : Text) → has ended t ≡ is_due_at now old t) where
    -- a response has ended, or is left
    has_ended : (t : Text) (w : Waiting) → get b.waiting t ≡ Some w → has ended t ≡ not (stays t)
    has_ended t w is =
        each t ∙ ap (λ o. option_map_or (λ (row : Row). is_due now row.due) o false) (row_of t w is)
        ∙ come_or_later (waiting_ends w) now
        ∙ sym (ap not (ap (λ o. option_map_or (λ w. nat_lt now (waiting_ends w)) o false) is))

    none_ended : (t : Text) → get b.waiting t ≡ None → has ended t ≡ false
    none_ended t none =
        each t ∙ ap (λ o. option_map_or (λ (row : Row). is_due now row.due) o false)
        (waiting_told b old r.tells t ∙ ap (option_map waiting_row) none)

    waiting_left : (q : Text) → (if has ended q then None else old kind.Waiting q) ≡ option_map waiting_row (get left q)
    waiting_left q = elim (found_or_not (get b.waiting q)) [
      | inl none ↦
          (λ i. if none_ended q none i then None else old kind.Waiting q)
          ∙ waiting_told b old r.tells q ∙ ap (option_map waiting_row) (none ∙ sym (nobody (stays q) none))
          ∙ sym (ap (option_map waiting_row) (get-keep stays b.waiting q))
      | inr w ↦
          (λ i. if has_ended q w.0 w.1 i then None else row_of q w.0 w.1 i)
          ∙ by w.0 (stays q)
          ∙ sym (ap (option_map waiting_row) (get-keep stays b.waiting q ∙ ap (λ o. cond (stays q) o None) w.1))
    ]
      where
        nobody : (v : Bool) → get b.waiting q ≡ None → cond v (get b.waiting q) None ≡ None
        nobody true none = none
        nobody false none = refl

        by : (w : Waiting) (v : Bool) → (if not v then None else Some (waiting_row w))
            ≡ option_map waiting_row (cond v (Some w) None)
        by w true = refl
        by w false = refl

    module _ (q : Text) where
      abbrev tells : Option Row → Bool
      tells o = option_map_or (λ row. same q (accessor_in row)) o false

      is_told_by : (t : Text) (w : Waiting) → get b.waiting t ≡ Some w → accessor_in (waiting_row w) ≡ w.accessor
      is_told_by t w is = response_tells w (waiting_in_range t w (r.sound.each t w is))

      -- an accessor that the row of one of them tells is that of its response
      teller : is_told kind.Waiting ended old q ≡ true
          → (t : Text) × (w : Waiting) × (get b.waiting t ≡ Some w) × (w.accessor ≡ q) × (has ended t ≡ true)
      teller h =
          let t = passing (λ t. tells (old kind.Waiting t)) ended h in
          elim (found_or_not (get b.waiting t.0)) [
            | inl none ↦ absurd
                (false≢true (sym (ap tells (waiting_told b old r.tells t.0 ∙ ap (option_map waiting_row) none)) ∙ t.2))
            | inr w ↦ (
              t.0,
              w.0,
              w.1,
              sym (same_true q (accessor_in (waiting_row w.0)) (sym (ap tells (row_of t.0 w.0 w.1)) ∙ t.2)
                  ∙ is_told_by t.0 w.0 w.1),
              any_contained (same t.0) ended t.0 t.1 (same_self t.0),
            )
          ]

      -- so it is told if its response has ended
      told_if_ended : (t : Text) (w : Waiting) → get b.waiting t ≡ Some w → w.accessor ≡ q
          → is_told kind.Waiting ended old q ≡ has ended t
      told_if_ended t w is named = both_ways (is_told kind.Waiting ended old q) (has ended t) onto from
        where
          onto : is_told kind.Waiting ended old q ≡ true → has ended t ≡ true
          onto h =
              let u = teller h in
              let one : u.0 ≡ t = one_accessor b r.one_place q u.0 t u.1 w u.2 is
              (ap (λ a. same a q) u.3 ∙ same_self q) (ap (λ a. same a q) named ∙ same_self q) in
              ap (has ended) (sym one) ∙ u.4

          from : has ended t ≡ true → is_told kind.Waiting ended old q ≡ true
          from h =
              let u = passing (same t) ended h in
              let one : u.0 ≡ t = sym (same_true t u.0 u.2) in
              any_contained (λ t. tells (old kind.Waiting t)) ended u.0 u.1
              (ap (λ t. tells (old kind.Waiting t)) one ∙ ap tells (row_of t w is)
              ∙ ap (same q) (is_told_by t w is ∙ named) ∙ same_self q)

      kept_search : first_where (has_accessor q) left ≡ if_kept stays (first_where (has_accessor q) b.waiting)
      kept_search = first_where-keep (has_accessor q) stays b.waiting (one_accessor b r.one_place q)

      accessor_left : (if is_told kind.Waiting ended old q then None else joined b q
          (first_where (has_accessor q) b.waiting))
          ≡ joined b q (first_where (has_accessor q) left)
      accessor_left = elim (found_or_not (first_where (has_accessor q) b.waiting)) [
        | inl none ↦
            (λ i. if untold none i then None else joined b q (first_where (has_accessor q) b.waiting))
            ∙ ap (joined b q) (none ∙ sym (kept_search ∙ ap (if_kept stays) none))
        | inr e ↦
            let is = first_where_is (has_accessor q) b.waiting e.0 e.1 in
            let named : e.0.1.accessor ≡ q = same_true e.0.1.accessor q is.1 in
            (λ i. if (told_if_ended e.0.0 e.0.1 is.0 named ∙ has_ended e.0.0 e.0.1 is.0) i then None
            else joined b q (e.1 i))
            ∙ by e.0 is.0 named (stays e.0.0)
            ∙ sym (ap (joined b q) (kept_search ∙ ap (if_kept stays) e.1))
      ]
        where
          untold : first_where (has_accessor q) b.waiting ≡ None → is_told kind.Waiting ended old q ≡ false
          untold none = false_from_ne_true (is_told kind.Waiting ended old q) (λ h. let u = teller h in
              false≢true (sym (first_where_none (has_accessor q) b.waiting u.0 u.1 none u.2)
              ∙ ap (λ a. same a q) u.3 ∙ same_self q))

          by : (e : Text × Waiting) → get b.waiting e.0 ≡ Some e.1 → e.1.accessor ≡ q → (v : Bool)
              → (if not v then None else joined b q (Some e)) ≡ joined b q (if v then Some e else None)
          by e is named true = refl
          by e is named false = sym (ap (λ o. or_else o None) (no_token b r.one_place q e.0 e.1 is named))

  -- the rows that are left are those of the broker without what has come to its end
  pub tells_swept : (new : Table) → Sweeps now old new → Tells of_waiting new (without_ended b now)
  tells_swept new s =
      tells_waiting (without_ended b now) new
      (λ q. ap (λ (t : Table). t kind.Waiting q) s.rows ∙ waiting_left s.ended s.each q)
      (λ q. ap (λ (t : Table). t kind.Accessor q) s.rows
      ∙ (λ i. if is_told kind.Waiting s.ended old q then None else accessor_told b old r.tells q i)
      ∙ accessor_left s.ended s.each q)
