-- The rows that a walk found, in place of those of all tokens.
use Rattle.std.proofs.Common.{◌≡◌, ◌&&◌, ◌∷◌, if◌then◌else◌, not, ℕ, List, [], Bool, true, false, filter, nat_eq, None}
use Rattle.records.specs.Words.{Some, both_ways, get, entries, AllByRecursion, list_any, starts_with, IsDistinct, refl}
use Rattle.records.specs.Words.{sym, ◌∙◌, ap, subst, false≢true, and_parts, or_left, All-contains, All-from_recursion}
use Rattle.records.specs.Words.{recursion_from_All, Contains-get_or, filter_agree, any_contained, passing, Text, same}
use Rattle.records.specs.Words.{same_self, has, RowKey, is_of_kind, of_tokens, KeepsOthers, table_of}
use Rattle.records.specs.Words.{table_of-injective, Rows, rows_under, rows_owned}
use Rattle.std.specs.FinMap as fin
use Rattle.token_tree.specs.Words.{Kind, Row, IsDescent, Start, of_owner, AreTokenRows, EndsDescent, IsDamagedDescent}
use Rattle.token_tree.specs.Words.{is_child, orphaned, without_parent, without_token, without_each, IsTokenRow}
use Rattle.token_tree.specs.Words.{children, texts, AreTokens, HasDamagedDescent}
use Rattle.records.specs.declared.kind.Kind.TheVariants as kind
use Rattle.token_tree.proofs.Entries.{has_texts, has_text, entry_is, at_text}
use Rattle.token_tree.proofs.Removals.{takes, table_of-without_ended, others_stay}
use Rattle.token_tree.proofs.Taken.{AreReadableEnded, without_ended}
use Rattle.token_tree.proofs.TokenEnds.{table_of-without_tokens, rows_read, read_rows, descent_within}
use Rattle.token_tree.proofs.TokenMap.{row_node, token_passes, no_token_passes}

module _ (rows : Rows) (es : List (RowKey × Row)) (tokens : AreTokens rows es) where
  abbrev all : List (RowKey × Row)
  all = rows_under rows kind.Token []

  one_by_one : (fs : List (RowKey × Row)) → AllByRecursion (λ f. has (texts es) f.0.1 ≡ true) fs → (m : Rows)
      → without_each fs m ≡ without_ended (texts es) fs m
  one_by_one [] h m = refl
  one_by_one (f ∷ fs) h m = one_by_one fs h.1 (without_token m f)
      ∙ (λ i. without_ended (texts es) fs (if sym h.0 i then without_token m f else m))

  same_takes : (k : Kind) (q : Text) → list_any (takes (texts es) k q) es ≡ list_any (takes (texts es) k q) all
  same_takes k q = both_ways _ _ onto from
    where
      onto : list_any (takes (texts es) k q) es ≡ true → list_any (takes (texts es) k q) all ≡ true
      onto h =
          let e = passing (takes (texts es) k q) es h in
          let is = entry_is rows es tokens e.0 e.1 in
          token_passes rows (takes (texts es) k q) e.0.0.1 e.0.1 is.1 (ap (takes (texts es) k q) (sym is.0) ∙ e.2)

      fails : (t : Text) (r : Row) → table_of rows kind.Token t ≡ Some r → list_any (takes (texts es) k q) es ≡ false
          → takes (texts es) k q (row_node (t, r)) ≡ false
      fails t r is none =
          elim (takes (texts es) k q (row_node (t, r))) as
          (λ v. takes (texts es) k q (row_node (t, r)) ≡ v → v ≡ false) [
            | true ↦ λ goes. absurd (false≢true (sym none ∙ any_contained (takes (texts es) k q) es (row_node (t, r))
                (at_text rows es tokens t r is (and_parts (has (texts es) t) _ goes).0) goes))
            | false ↦ λ _. refl
          ] refl

      from : list_any (takes (texts es) k q) all ≡ true → list_any (takes (texts es) k q) es ≡ true
      from h = elim (list_any (takes (texts es) k q) es) as (λ v. list_any (takes (texts es) k q) es ≡ v → v ≡ true) [
        | true ↦ λ _. refl
        | false ↦ λ none. absurd
            (false≢true (sym (no_token_passes rows (takes (texts es) k q) (λ t r is. fails t r is none)) ∙ h))
      ] refl

  -- to take out what was found is to take out the ended among all
  pub found_all : without_each es rows ≡ without_ended (texts es) all rows
  found_all =
      one_by_one es (has_texts es) rows
      ∙ table_of-injective (without_ended (texts es) es rows) (without_ended (texts es) all rows) (λ i k q.
      (table_of-without_ended (texts es) es rows k q
      ∙ ap (λ v. if v then None else table_of rows k q) (same_takes k q)
      ∙ sym (table_of-without_ended (texts es) all rows k q)) i)

  pub found_readable : AllByRecursion IsTokenRow es → AreTokenRows (texts es) (table_of rows)
  found_readable read t row h is = All-contains IsTokenRow es ((kind.Token, t), row)
      (All-from_recursion IsTokenRow es read) (at_text rows es tokens t row is h)

  readable_found : AreTokenRows (texts es) (table_of rows) → AllByRecursion IsTokenRow es
  readable_found read = recursion_from_All IsTokenRow es (λ k d below.
      let at = Contains-get_or es k d below in
      let is = entry_is rows es tokens _ at in
      subst IsTokenRow (sym is.0) (read _ _ (has_text es _ at) is.1))

  module _ (s : Start) (down : IsDescent s all (texts es)) where
    pub found_ends : AllByRecursion IsTokenRow es → (new : Rows) → new ≡ without_each es rows
        → EndsDescent s rows (texts es) new
    found_ends read new is = record {
      descent = down;
      readable = found_readable read;
      rows = ap table_of (is ∙ found_all) ∙ table_of-without_tokens rows (texts es);
    }

    pub found_damaged : (AllByRecursion IsTokenRow es → ⊥) → HasDamagedDescent s rows
    found_damaged damage = record { ended = texts es; descent = down; damage = λ read. damage (readable_found read) }

-- one descent with a damaged row, and so each
pub damaged_descent : (s : Start) (rows : Rows) → HasDamagedDescent s rows → IsDamagedDescent s rows
damaged_descent s rows has_damage ended down read =
    has_damage.damage (λ t row gone is.
    read t row (descent_within s (rows_under rows kind.Token []) has_damage.ended ended has_damage.descent down t gone)
    is)

-- the rows of other kinds stay
pub each_keeps : (es : List (RowKey × Row)) (rows : Rows)
    → KeepsOthers of_tokens (table_of rows) (table_of (without_each es rows))
each_keeps [] rows k q h = refl
each_keeps (e ∷ es) rows k q h =
    each_keeps es (without_token rows e) k q h
    ∙ ap (λ m. table_of m k q) (λ i. if sym (has_itself e) i then without_token rows e else rows)
    ∙ others_stay (e.0.1 ∷ []) (e ∷ []) rows k q h
  where
    has_itself : (f : RowKey × Row) → has (f.0.1 ∷ []) f.0.1 ≡ true
    has_itself f = or_left (same f.0.1 f.0.1) _ (same_self f.0.1)

-- ---- one token

module _ (rows : Rows) (t : Text) (row : Row) (is : get rows (kind.Token, t) ≡ Some row) where
  alone : IsDistinct same (t ∷ [])
  unfolding IsDistinct
  alone = (tt, tt)

  pub lone_token : AreTokens rows (((kind.Token, t), row) ∷ [])
  lone_token = record {
    each = All-from_recursion (λ e. (e.0.0 ≡ kind.Token) × (get rows e.0 ≡ Some e.1)) (((kind.Token, t), row) ∷ [])
        ((refl, is), tt);
    once = alone;
  }

module _ (rows : Rows) (t : Text) (row : Row) (is : get rows (kind.Token, t) ≡ Some row) where
  abbrev lone : List (RowKey × Row)
  lone = ((kind.Token, t), row) ∷ []

  -- to take out its row is to take it out among all
  pub lone_without : without_token rows ((kind.Token, t), row)
      ≡ without_ended (t ∷ []) (rows_under rows kind.Token []) rows
  lone_without = found_all rows lone (lone_token rows t row is)

  pub lone_readable : IsTokenRow ((kind.Token, t), row) → AreReadableEnded (t ∷ []) (rows_under rows kind.Token [])
  lone_readable read = read_rows rows (t ∷ []) (found_readable rows lone (lone_token rows t row is) (read, tt))

  pub readable_lone : AreReadableEnded (t ∷ []) (rows_under rows kind.Token []) → IsTokenRow ((kind.Token, t), row)
  readable_lone all = (readable_found rows lone (lone_token rows t row is) (rows_read rows (t ∷ []) all)).0

-- ---- children

unlike : (c : ℕ) (u : Text) → same [] (c ∷ u) ≡ false
unfolding same
unlike c u = refl

unlike_empty : (c : ℕ) (u : Text) → same (c ∷ u) [] ≡ false
unfolding same
unlike_empty c u = refl

module _ (t : Text) where
  abbrev owned : List (RowKey × Row) → List (RowKey × Row)
  owned es = filter (λ e. is_of_kind kind.Token e.0 && same e.1.owner t) es

  abbrev listed : List (RowKey × Row) → List (RowKey × Row)
  listed es = filter (λ e. is_of_kind kind.Token e.0 && starts_with nat_eq e.0.1 []) es

  orphans : (es : List (RowKey × Row)) (mid : Rows) → without_parent t (owned es) mid ≡ without_parent t (listed es) mid
  orphans [] mid = refl
  orphans (e ∷ es) mid =
      elim (is_of_kind kind.Token e.0) as
      (λ v. without_parent t (if (v && same e.1.owner t) then e ∷ owned es else owned es) mid
      ≡ without_parent t (if (v && starts_with nat_eq e.0.1 []) then e ∷ listed es else listed es) mid) [
        | true ↦ child (same e.1.owner t) refl (orphans es)
        | false ↦ orphans es mid
      ]
    where
      child : (v : Bool) → same e.1.owner t ≡ v
          → ((m : Rows) → without_parent t (owned es) m ≡ without_parent t (listed es) m)
          → without_parent t (if v then e ∷ owned es else owned es) mid ≡ without_parent t (e ∷ listed es) mid
      child true h rest = rest (if is_child t e then fin.insert mid (kind.Token, e.0.1) (orphaned e.1) else mid)
      child false h rest =
          rest mid
          ∙ (λ i. without_parent t (listed es)
          (if (sym h i && not (same e.0.1 t)) then fin.insert mid (kind.Token, e.0.1) (orphaned e.1) else mid))

  -- the rows of a token's children are those that have it as owner
  pub owned_orphans : (rows mid : Rows) → without_parent t (rows_owned rows kind.Token t) mid
      ≡ without_parent t (rows_under rows kind.Token []) mid
  owned_orphans rows mid = orphans (entries rows) mid

  -- what is asked by owner are the children of a token that has a text
  pub owned_children : (rows : Rows) → (t ≡ [] → ⊥) → rows_owned rows kind.Token t ≡ children rows t
  owned_children rows named = filter_agree (λ e. is_of_kind kind.Token e.0 && same e.1.owner t)
      (λ e. is_of_kind kind.Token e.0 && of_owner (λ owner. same owner t) e.1.owner)
      (λ e. ap (λ v. is_of_kind kind.Token e.0 && v) (by t named e.1.owner)) (entries rows)
    where
      by : (u : Text) → (u ≡ [] → ⊥) → (o : Text) → same o u ≡ of_owner (λ owner. same owner u) o
      by [] named o = absurd (named refl)
      by (c ∷ u) named [] = unlike c u
      by (c ∷ u) named (d ∷ o) = refl

-- the empty text has none
pub no_children : (rows : Rows) → children rows [] ≡ []
no_children rows = none (entries rows)
  where
    none : (es : List (RowKey × Row))
        → filter (λ e. is_of_kind kind.Token e.0 && of_owner (λ owner. same owner []) e.1.owner) es ≡ []
    none [] = refl
    none (e ∷ es) =
        (λ i. if (is_of_kind kind.Token e.0 && nobody e.1.owner i)
        then e ∷ filter (λ e. is_of_kind kind.Token e.0 && of_owner (λ owner. same owner []) e.1.owner) es
        else filter (λ e. is_of_kind kind.Token e.0 && of_owner (λ owner. same owner []) e.1.owner) es)
        ∙ (λ i. if never (is_of_kind kind.Token e.0) i
        then e ∷ filter (λ e. is_of_kind kind.Token e.0 && of_owner (λ owner. same owner []) e.1.owner) es
        else filter (λ e. is_of_kind kind.Token e.0 && of_owner (λ owner. same owner []) e.1.owner) es)
        ∙ none es
      where
        never : (v : Bool) → (v && false) ≡ false
        never true = refl
        never false = refl

        nobody : (o : Text) → of_owner (λ owner. same owner []) o ≡ false
        nobody [] = refl
        nobody (c ∷ o) = unlike_empty c o
