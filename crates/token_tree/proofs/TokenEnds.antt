-- What the end of tokens leaves of a table, whatever its rows are.
use Rattle.std.proofs.Common.{◌≡◌, ◌∷◌, ◌&&◌, ◌||◌, if◌then◌else◌, List, [], Bool, true, false, not, Option, Some, None}
use Rattle.records.specs.Words.{option_map, is_some, both_ways, AllByRecursion, list_any, option_map_or, refl, sym, ◌∙◌}
use Rattle.records.specs.Words.{ap, subst, inl, inr, or-false, false≢true, and_parts, or_right, and_from, none-some}
use Rattle.records.specs.Words.{same_Some, found_or_not, Text, same, same_self, same_true, accessor_in, is_told, has}
use Rattle.records.specs.Words.{RowKey, of_tokens, Table, table_of, table_of-insert, Rows, rows_under, any_from}
use Rattle.records.specs.Words.{any_found}
use Rattle.std.specs.FinMap as fin
use Rattle.token_tree.specs.Words.{Kind, Row, IsClosed, IsDescent, Start, Starts, of_owner, AllStay, AreTokenRows}
use Rattle.token_tree.specs.Words.{EndsAlone, without_tokens, orphan_row, without_children_of, is_child, orphaned}
use Rattle.token_tree.specs.Words.{without_parent, IsDamagedToken}
use Rattle.records.specs.declared.kind.Kind.TheVariants as kind
use Rattle.token_tree.proofs.Taken.{without_ended, AreReadableEnded}
use Rattle.token_tree.proofs.Removals.{takes, table_of-without_ended, others_stay}
use Rattle.token_tree.proofs.Orphans.{parents_keep, parents_accessors, turned}
use Rattle.token_tree.proofs.TokenMap.{row_node, each_token, token_each, no_token_passes, token_passes}

nothing : {X : Type 0} (v : Bool) → ◌≡◌ {A = Option X} (if v then None else None) None
nothing true = refl
nothing false = refl

-- ---- what is taken out

module _ (rows : Rows) (ended : List Text) where
  abbrev old : Table
  old = table_of rows

  -- the row of a token goes if the token ended
  token_taken : (q : Text)
      → (if list_any (takes ended kind.Token q) (rows_under rows kind.Token []) then None else old kind.Token q)
      ≡ (if has ended q then None else old kind.Token q)
  token_taken q = elim (found_or_not (old kind.Token q)) [
    | inl none ↦
        ap (λ o. if list_any (takes ended kind.Token q) (rows_under rows kind.Token []) then None else o) none
        ∙ nothing (list_any (takes ended kind.Token q) (rows_under rows kind.Token []))
        ∙ sym (ap (λ o. if has ended q then None else o) none ∙ nothing (has ended q))
    | inr r ↦ ap (λ v. if v then None else old kind.Token q) (by r.0 r.1)
  ]
    where
      by : (r : Row) → old kind.Token q ≡ Some r
          → list_any (takes ended kind.Token q) (rows_under rows kind.Token []) ≡ has ended q
      by r is = elim (has ended q) as (λ v. has ended q ≡ v
          → list_any (takes ended kind.Token q) (rows_under rows kind.Token []) ≡ v) [
            | true ↦ λ goes. token_passes rows (takes ended kind.Token q) q r is
                (λ i. (goes i && (same_self q i || false)))
            | false ↦ λ stays. no_token_passes rows (takes ended kind.Token q) (λ t x _. apart t stays)
          ] refl
        where
          apart : (t : Text) → has ended q ≡ false → (has ended t && (same q t || false)) ≡ false
          apart t stays = elim (same q t) as (λ v. same q t ≡ v → (has ended t && (v || false)) ≡ false) [
            | true ↦ λ one. (λ i. has ended (sym (same_true q t one) i) && true) ∙ (λ i. stays i && true)
            | false ↦ λ _. never (has ended t)
          ] refl
            where
              never : (v : Bool) → (v && false) ≡ false
              never true = refl
              never false = refl

  abbrev tells : Text → Text → Bool
  tells q t = option_map_or (λ row. same q (accessor_in row)) (old kind.Token t) false

  -- that of an accessor goes if the row of a token that ended tells it
  accessor_taken : (q : Text) → list_any (takes ended kind.Accessor q) (rows_under rows kind.Token [])
      ≡ is_told kind.Token ended old q
  accessor_taken q = both_ways _ _ onto from
    where
      onto : list_any (takes ended kind.Accessor q) (rows_under rows kind.Token []) ≡ true
          → is_told kind.Token ended old q ≡ true
      onto h = elim (is_told kind.Token ended old q) as (λ v. is_told kind.Token ended old q ≡ v → v ≡ true) [
        | true ↦ λ _. refl
        | false ↦ λ none. absurd
            (false≢true (sym (no_token_passes rows (takes ended kind.Accessor q) (λ t r is. fails t r is none)) ∙ h))
      ] refl
        where
          fails : (t : Text) (r : Row) → old kind.Token t ≡ Some r → is_told kind.Token ended old q ≡ false
              → (has ended t && same q (accessor_in r)) ≡ false
          fails t r is none =
              elim (has ended t && same q (accessor_in r)) as
              (λ v. (has ended t && same q (accessor_in r)) ≡ v → v ≡ false) [
                | true ↦ λ goes. let two = and_parts (has ended t) (same q (accessor_in r)) goes in
                    absurd (false≢true (sym none ∙ any_from (tells q) ended t two.0
                    (ap (λ o. option_map_or (λ row. same q (accessor_in row)) o false) is ∙ two.1)))
                | false ↦ λ _. refl
              ] refl

      from : is_told kind.Token ended old q ≡ true
          → list_any (takes ended kind.Accessor q) (rows_under rows kind.Token []) ≡ true
      from h =
          let t = any_found (tells q) ended h in
          elim (found_or_not (old kind.Token t.0)) [
            | inl none ↦ absurd (false≢true
                (sym (ap (λ o. option_map_or (λ row. same q (accessor_in row)) o false) none) ∙ t.2))
            | inr r ↦ token_passes rows (takes ended kind.Accessor q) t.0 r.0 r.1
                (and_from (has ended t.0) (same q (accessor_in r.0)) t.1
                (sym (ap (λ o. option_map_or (λ row. same q (accessor_in row)) o false) r.1) ∙ t.2))
          ]

  pub table_of-without_tokens : table_of (without_ended ended (rows_under rows kind.Token []) rows)
      ≡ without_tokens ended old
  table_of-without_tokens = λ i k q. at k q i
    where
      at : (k : Kind) (q : Text) → table_of (without_ended ended (rows_under rows kind.Token []) rows) k q
          ≡ without_tokens ended old k q
      at kind.Token q = table_of-without_ended ended (rows_under rows kind.Token []) rows kind.Token q ∙ token_taken q
      at kind.Accessor q = table_of-without_ended ended (rows_under rows kind.Token []) rows kind.Accessor q
          ∙ ap (λ v. if v then None else old kind.Accessor q) (accessor_taken q)
      at kind.Clock q = others_stay ended (rows_under rows kind.Token []) rows kind.Clock q refl
      at kind.Used q = others_stay ended (rows_under rows kind.Token []) rows kind.Used q refl
      at kind.Cubby q = others_stay ended (rows_under rows kind.Token []) rows kind.Cubby q refl
      at kind.Lease q = others_stay ended (rows_under rows kind.Token []) rows kind.Lease q refl
      at kind.Credential q = others_stay ended (rows_under rows kind.Token []) rows kind.Credential q refl
      at kind.KvKey q = others_stay ended (rows_under rows kind.Token []) rows kind.KvKey q refl
      at kind.KvVersion q = others_stay ended (rows_under rows kind.Token []) rows kind.KvVersion q refl
      at kind.Waiting q = others_stay ended (rows_under rows kind.Token []) rows kind.Waiting q refl
      at kind.Mount q = others_stay ended (rows_under rows kind.Token []) rows kind.Mount q refl
      at kind.Policy q = others_stay ended (rows_under rows kind.Token []) rows kind.Policy q refl
      at kind.Role q = others_stay ended (rows_under rows kind.Token []) rows kind.Role q refl

  -- ---- what was read

  pub rows_read : AreReadableEnded ended (rows_under rows kind.Token []) → AreTokenRows ended old
  rows_read all t r gone is = token_each rows (λ e. has ended e.0.1 ≡ true → _) t r is all gone

  pub read_rows : AreTokenRows ended old → AreReadableEnded ended (rows_under rows kind.Token [])
  read_rows all = each_token rows (λ e. has ended e.0.1 ≡ true → _) (λ t r is gone. all t r gone is)

-- ---- two descents have the same texts

module _ (s : Start) (es : List (RowKey × Row)) where
  starts_within : (ended : List Text) (fs : List (RowKey × Row)) → AllStay s ended fs → Starts (has ended) s fs
  starts_within ended [] stay = tt
  starts_within ended (e ∷ fs) stay =
      (by (has ended e.0.1) (s e) (of_owner (has ended) e.1.owner) stay.0, starts_within ended fs stay.1)
    where
      by : (a b c : Bool) → (not a && (b || c)) ≡ false → b ≡ true → a ≡ true
      by true b c h is = refl
      by false true c h is = absurd (false≢true (sym h))
      by false false c h is = absurd (false≢true is)

  closed_within : (ended : List Text) (fs : List (RowKey × Row)) → AllStay s ended fs → IsClosed (has ended) fs
  closed_within ended [] stay = tt
  closed_within ended (e ∷ fs) stay =
      (by (has ended e.0.1) (s e) (of_owner (has ended) e.1.owner) stay.0, closed_within ended fs stay.1)
    where
      by : (a b c : Bool) → (not a && (b || c)) ≡ false → c ≡ true → a ≡ true
      by true b c h is = refl
      by false b true h is = absurd (false≢true (sym h ∙ or_right b true refl))
      by false b false h is = absurd (false≢true is)

  pub descent_within : (one other : List Text) → IsDescent s es one → IsDescent s es other → (q : Text)
      → has one q ≡ true → has other q ≡ true
  descent_within one other a b = a.least (has other) (starts_within other es b.stay) (closed_within other es b.stay)

-- ---- children lose their parent

module _ (t : Text) where
  -- the row at q is that of a child of t
  abbrev child_at : Text → RowKey × Row → Bool
  child_at q e = is_child t e && same q e.0.1

  edited : (q : Text) (v : Option Row) (es : List (RowKey × Row))
      → AllByRecursion (λ e. child_at q e ≡ true → Some (orphaned e.1) ≡ v) es → (rows : Rows)
      → table_of (without_parent t es rows) kind.Token q
      ≡ (if list_any (child_at q) es then v else table_of rows kind.Token q)
  edited q v [] all rows = refl
  edited q v (e ∷ es) all rows =
      edited q v es all.1 (if is_child t e then fin.insert rows (kind.Token, e.0.1) (orphaned e.1) else rows)
      ∙ ap (λ o. if list_any (child_at q) es then v else o) one
      ∙ turned (list_any (child_at q) es) (child_at q e) v (table_of rows kind.Token q)
    where
      one : table_of (if is_child t e then fin.insert rows (kind.Token, e.0.1) (orphaned e.1) else rows) kind.Token q
          ≡ (if child_at q e then v else table_of rows kind.Token q)
      one =
          elim (is_child t e) as (λ c. ((c && same q e.0.1) ≡ true → Some (orphaned e.1) ≡ v)
          → table_of (if c then fin.insert rows (kind.Token, e.0.1) (orphaned e.1) else rows) kind.Token q
          ≡ (if (c && same q e.0.1) then v else table_of rows kind.Token q)) [
            | true ↦ λ is. ap (λ (table : Table). table kind.Token q)
                (table_of-insert rows kind.Token e.0.1 (orphaned e.1))
                ∙ elim (same q e.0.1) as (λ c. (c ≡ true → Some (orphaned e.1) ≡ v)
                → (if c then Some (orphaned e.1) else table_of rows kind.Token q)
                ≡ (if c then v else table_of rows kind.Token q)) [
                  | true ↦ λ at. at refl
                  | false ↦ λ _. refl
                ] is
            | false ↦ λ _. refl
          ] all.0

  module _ (rows mid : Rows) (first : table_of mid ≡ without_tokens (t ∷ []) (table_of rows)) where
    abbrev es : List (RowKey × Row)
    es = rows_under rows kind.Token []

    -- the entry at q is that of the row at q
    entry_at : (q u : Text) (r x : Row) → table_of rows kind.Token q ≡ Some r → table_of rows kind.Token u ≡ Some x
        → same q u ≡ true → x ≡ r
    entry_at q u r x is there one =
        same_Some _ _ (sym there ∙ ap (table_of rows kind.Token) (sym (same_true q u one)) ∙ is)

    child_found : (q : Text) (r : Row) → table_of rows kind.Token q ≡ Some r
        → list_any (child_at q) es ≡ (same r.owner t && not (same q t))
    child_found q r is =
        elim (same r.owner t && not (same q t)) as
        (λ v. (same r.owner t && not (same q t)) ≡ v → list_any (child_at q) es ≡ v) [
          | true ↦ λ child. token_passes rows (child_at q) q r is (λ i. child i && same_self q i)
          | false ↦ λ other. no_token_passes rows (child_at q) (λ u x there.
              elim (same q u) as (λ v. same q u ≡ v → ((same x.owner t && not (same u t)) && v) ≡ false) [
                | true ↦ λ one.
                    (λ i. (same (entry_at q u r x is there one i).owner t && not (same (sym (same_true q u one) i) t))
                    && true)
                    ∙ (λ i. other i && true)
                | false ↦ λ _. never (same x.owner t && not (same u t))
              ] refl)
        ] refl
      where
        never : (v : Bool) → (v && false) ≡ false
        never true = refl
        never false = refl

    orphan_left : (q : Text) → table_of (without_parent t es mid) kind.Token q
        ≡ option_map (orphan_row t q) (if (same q t || false) then None else table_of rows kind.Token q)
    orphan_left q = elim (found_or_not (table_of rows kind.Token q)) [
      | inl none ↦
          edited q None es (each_token rows (λ e. child_at q e ≡ true → Some (orphaned e.1) ≡ None)
          (λ u x there goes. absurd (none-some _
          (sym none ∙ ap (table_of rows kind.Token)
          (same_true q u (and_parts (is_child t (row_node (u, x))) (same q u) goes).1) ∙ there)))) mid
          ∙ ap (λ o. if list_any (child_at q) es then None else o)
          (ap (λ (table : Table). table kind.Token q) first ∙ ap (λ o. if (same q t || false) then None else o) none
          ∙ nothing (same q t || false))
          ∙ nothing (list_any (child_at q) es)
          ∙ sym (ap (option_map (orphan_row t q))
          (ap (λ o. if (same q t || false) then None else o) none ∙ nothing (same q t || false)))
      | inr r ↦
          edited q (Some (orphaned r.0)) es
          (each_token rows (λ e. child_at q e ≡ true → Some (orphaned e.1) ≡ Some (orphaned r.0))
          (λ u x there goes. ap (λ z. Some (orphaned z))
          (entry_at q u r.0 x r.1 there (and_parts (is_child t (row_node (u, x))) (same q u) goes).1))) mid
          ∙ (λ i. if child_found q r.0 r.1 i then Some (orphaned r.0) else first i kind.Token q)
          ∙ ap (λ o. if (same r.0.owner t && not (same q t)) then Some (orphaned r.0) else
          (if (same q t || false) then None else o)) r.1
          ∙ settle q r.0
          ∙ sym (ap (λ o. option_map (orphan_row t q) (if (same q t || false) then None else o)) r.1)
    ]
      where
        settle : (q : Text) (r : Row)
            → (if (same r.owner t && not (same q t)) then Some (orphaned r) else
            (if (same q t || false) then None else Some r))
            ≡ option_map (orphan_row t q) (if (same q t || false) then None else Some r)
        settle q r =
            elim (same q t) as (λ b.
            (if (same r.owner t && not b) then Some (orphaned r) else (if (b || false) then None else Some r))
            ≡ option_map (λ (x : Row). if same x.owner t && not b then orphaned x else x)
            (if (b || false) then None else Some r)) [
              | true ↦ elim (same r.owner t) as (λ a. (if (a && false) then Some (orphaned r) else None) ≡ None)
                  [ true ↦ refl | false ↦ refl ]
              | false ↦ elim (same r.owner t) as (λ a. (if (a && true) then Some (orphaned r) else Some r)
                  ≡ Some (if a && true then orphaned r else r)) [
                    | true ↦ refl
                    | false ↦ refl
                  ]
            ]

    pub table_of-without_children : table_of (without_parent t es mid)
        ≡ without_children_of t (without_tokens (t ∷ []) (table_of rows))
    table_of-without_children = λ i k q. at k q i
      where
        keeps : (k : Kind) (q : Text) → of_tokens k ≡ false
            → table_of (without_parent t es mid) k q ≡ without_tokens (t ∷ []) (table_of rows) k q
        keeps k q h = parents_keep t es mid k q h ∙ ap (λ (table : Table). table k q) first

        at : (k : Kind) (q : Text) → table_of (without_parent t es mid) k q
            ≡ without_children_of t (without_tokens (t ∷ []) (table_of rows)) k q
        at kind.Token q = orphan_left q
        at kind.Accessor q = parents_accessors t es mid q ∙ ap (λ (table : Table). table kind.Accessor q) first
        at kind.Clock q = keeps kind.Clock q refl
        at kind.Used q = keeps kind.Used q refl
        at kind.Cubby q = keeps kind.Cubby q refl
        at kind.Lease q = keeps kind.Lease q refl
        at kind.Credential q = keeps kind.Credential q refl
        at kind.KvKey q = keeps kind.KvKey q refl
        at kind.KvVersion q = keeps kind.KvVersion q refl
        at kind.Waiting q = keeps kind.Waiting q refl
        at kind.Mount q = keeps kind.Mount q refl
        at kind.Policy q = keeps kind.Policy q refl
        at kind.Role q = keeps kind.Role q refl

-- ---- as clauses

module _ (rows : Rows) (t : Text) (row : Row) (here : table_of rows kind.Token t ≡ Some row) (es : List (RowKey × Row))
    (list : List Text)
    (listed : es ≡ rows_under rows kind.Token []) (one : list ≡ t ∷ []) where
  pub ends_alone : AreReadableEnded list es → (fs : List (RowKey × Row)) → fs ≡ rows_under rows kind.Token []
      → (mid new : Rows)
      → mid ≡ without_ended list es rows → new ≡ without_parent t fs mid → (ended : List Text) → ended ≡ t ∷ []
      → EndsAlone t rows ended new
  ends_alone read fs again mid new is_mid is_new ended is =
      record {
        ends = is ∙ sym (ap (λ o. if is_some o then t ∷ [] else []) here);
        readable =
            subst (λ l. AreTokenRows l (table_of rows)) (sym is)
            (rows_read rows (t ∷ [])
            (subst (λ l. AreReadableEnded (t ∷ []) l) listed (subst (λ l. AreReadableEnded l es) one read)));
        rows =
            ap table_of (is_new ∙ ap (λ l. without_parent t l mid) again)
            ∙ table_of-without_children t rows mid
            (ap table_of is_mid ∙ (λ i. table_of (without_ended (one i) (listed i) rows))
            ∙ table_of-without_tokens rows (t ∷ []))
            ∙ sym (ap (λ o. if is_some o then without_children_of t
            (without_tokens (t ∷ []) (table_of rows)) else table_of rows) here);
      }

  pub damage_alone : (AreReadableEnded list es → ⊥) → IsDamagedToken (table_of rows) t
  damage_alone damage None in_range at = absurd (none-some _ (sym at ∙ here))
  damage_alone damage (Some x) in_range at =
      damage (subst (λ l. AreReadableEnded list l) (sym listed)
      (read_rows rows list (λ u r gone there. (
        x,
        in_range x refl,
        same_Some _ _ (sym there ∙ ap (table_of rows kind.Token)
            (same_true u t (sym (or-false (same u t)) ∙ ap (λ l. has l u) (sym one) ∙ gone)) ∙ at),
      ))))
