-- The rows of tokens after one of them is revoked alone.
use Rattle.std.proofs.Common.{◌≡◌, ◌∷◌, ◌&&◌, ◌||◌, if◌then◌else◌, List, [], Bool, true, false, not, cond, Option, Some}
use Rattle.records.specs.Words.{None, option_map, option_and_then, unwrap_or, is_some, is_none, map, list_any}
use Rattle.records.specs.Words.{IsDistinct, and-false, refl, sym, ◌∙◌, ap, subst, inl, inr, Text, same, get, entries}
use Rattle.records.specs.Words.{keep, without, first_where, map_values, Token, Tokens, orphaned_by, Broker}
use Rattle.records.specs.Words.{revoke_orphan, Forms, false≢true, and_parts, none-some, found_or_not, mapped}
use Rattle.records.specs.Words.{mapped_none, mapped_unseen, get-keep, get-without, get-map_values}
use Rattle.records.specs.Words.{first_where-map_values, same_map, first_where_is, first_where_none, each_entry}
use Rattle.records.specs.Words.{same_self, same_true, same_equiv, orphan_unknown, IsDistinct-push, All-head, All-tail}
use Rattle.records.specs.Words.{All, RowKey, of_tokens, Tells, KeepsOthers, token_row, accessor_row, rows_of, or_else}
use Rattle.records.specs.Words.{Table, table_of, Rows, rows_under, table_of-insert, by_token_kind}
use Rattle.std.specs.List.{find}
use Rattle.std.specs.FinMap as fin
use Rattle.records.specs.declared.holder.Holder.TheVariants as holder
use Rattle.records.specs.declared.kind.Kind.TheVariants as kind
use Rattle.token_tree.specs.Words.{Row, is_child, orphaned, without_parent, has_accessor, has_ended, RepresentsTokens}
use Rattle.token_tree.specs.Words.{AreEnded, ended_by_revocation_alone}
use Rattle.token_tree.proofs.Taken.{without_ended}
use Rattle.token_tree.proofs.ListedTokens.{node, listing, lists_tokens}
use Rattle.token_tree.proofs.Removals.{tells_kept}
use Rattle.token_tree.proofs.Singles.{joined, waits, put_keeps, token_row_at}

-- other kinds stay
pub parents_keep : (t : Text) (es : List (RowKey × Row)) (rows : Rows)
    → KeepsOthers of_tokens (table_of rows) (table_of (without_parent t es rows))
parents_keep t [] rows k q h = refl
parents_keep t (e ∷ es) rows k q h =
    parents_keep t es (if is_child t e then fin.insert rows (kind.Token, e.0.1) (orphaned e.1) else rows) k q h
    ∙ elim (is_child t e) as (λ v. table_of (if v then fin.insert rows (kind.Token, e.0.1) (orphaned e.1) else rows) k q
    ≡ table_of rows k q) [
      | true ↦ ap (λ (table : Table). table k q) (table_of-insert rows kind.Token e.0.1 (orphaned e.1))
          ∙ put_keeps (table_of rows) e.0.1 (orphaned e.1) k q h
      | false ↦ refl
    ]

-- and so do accessors
pub parents_accessors : (t : Text) (es : List (RowKey × Row)) (rows : Rows) (q : Text)
    → table_of (without_parent t es rows) kind.Accessor q ≡ table_of rows kind.Accessor q
parents_accessors t [] rows q = refl
parents_accessors t (e ∷ es) rows q =
    parents_accessors t es (if is_child t e then fin.insert rows (kind.Token, e.0.1) (orphaned e.1) else rows) q
    ∙ elim (is_child t e) as
    (λ v. table_of (if v then fin.insert rows (kind.Token, e.0.1) (orphaned e.1) else rows) kind.Accessor q
    ≡ table_of rows kind.Accessor q) [
      | true ↦ ap (λ (table : Table). table kind.Accessor q) (table_of-insert rows kind.Token e.0.1 (orphaned e.1))
      | false ↦ refl
    ]

pub turned : {X : Type 0} (a b : Bool) (v o : Option X)
    → (if a then v else (if b then v else o)) ≡ (if (b || a) then v else o)
turned true true v o = refl
turned true false v o = refl
turned false true v o = refl
turned false false v o = refl

module _ (ts : Tokens) (t : Text) where
  abbrev orphan_row : Token → Row
  orphan_row x = record (token_row x) { owner = [] }

  -- what an edit of the row at q writes there
  abbrev written : Text → Option Row
  written q = option_map orphan_row (get ts q)

  abbrev edits : Text → Text → Token → Bool
  edits q u x = is_child t (node u x) && same q u

  edited : (es : List (Text × Token)) → All (λ e. get ts e.0 ≡ Some e.1) es → (rows : Rows) (q : Text)
      → table_of (without_parent t (map (λ e. node e.0 e.1) es) rows) kind.Token q
      ≡ (if list_any (λ e. edits q e.0 e.1) es then written q else table_of rows kind.Token q)
  edited [] all rows q = refl
  edited (e ∷ es) all rows q =
      edited es (All-tail (λ e. get ts e.0 ≡ Some e.1) e es all)
      (if is_child t (node e.0 e.1) then fin.insert rows (kind.Token, e.0) (orphan_row e.1) else rows) q
      ∙ ap (λ o. if list_any (λ e. edits q e.0 e.1) es then written q else o) one
      ∙ turned (list_any (λ e. edits q e.0 e.1) es) (edits q e.0 e.1) (written q) (table_of rows kind.Token q)
    where
      value : same q e.0 ≡ true → Some (orphan_row e.1) ≡ written q
      value at = sym (ap (option_map orphan_row)
          (ap (get ts) (same_true q e.0 at) ∙ All-head (λ e. get ts e.0 ≡ Some e.1) e es all))

      one : table_of (if is_child t (node e.0 e.1) then fin.insert rows (kind.Token, e.0) (orphan_row e.1) else rows)
          kind.Token q
          ≡ (if edits q e.0 e.1 then written q else table_of rows kind.Token q)
      one =
          elim (is_child t (node e.0 e.1)) as
          (λ v. table_of (if v then fin.insert rows (kind.Token, e.0) (orphan_row e.1) else rows) kind.Token q
          ≡ (if (v && same q e.0) then written q else table_of rows kind.Token q)) [
            | true ↦ ap (λ (table : Table). table kind.Token q) (table_of-insert rows kind.Token e.0 (orphan_row e.1))
                ∙ elim (same q e.0) as (λ v. same q e.0 ≡ v
                → (if v then Some (orphan_row e.1) else table_of rows kind.Token q)
                ≡ (if v then written q else table_of rows kind.Token q)) [
                  | true ↦ λ at. value at
                  | false ↦ λ _. refl
                ] refl
            | false ↦ refl
          ]

  edited-first : (q : Text) → list_any (λ e. edits q e.0 e.1) (entries ts) ≡ is_some (first_where (edits q) ts)
  edited-first q = walk (entries ts)
    where
      walk : (es : List (Text × Token)) → list_any (λ e. edits q e.0 e.1) es ≡ is_some (find (λ e. edits q e.0 e.1) es)
      walk [] = refl
      walk (e ∷ es) = elim (edits q e.0 e.1) as (λ v. (v || list_any (λ e. edits q e.0 e.1) es)
          ≡ is_some (cond v (Some e) (find (λ e. edits q e.0 e.1) es))) [
            | true ↦ refl
            | false ↦ walk es
          ]

  abbrev others : Tokens
  others = keep (λ q. not (same q t)) ts

  -- a child's row without its parent, and that of another as it was
  child_row : (x : Token) → same (unwrap_or x.parent []) t ≡ true → orphan_row x ≡ token_row (orphaned_by t x)
  child_row x h = λ i. record (token_row x) { owner = sym (at x.parent h) i }
    where
      at : (p : Option Text) → same (unwrap_or p []) t ≡ true
          → unwrap_or (option_and_then (λ p. if same p t then None else Some p) p) [] ≡ []
      at None is = refl
      at (Some p) is = ap (λ v. unwrap_or (if v then None else Some p) []) is

  stranger_row : (x : Token) → same (unwrap_or x.parent []) t ≡ false → token_row x ≡ token_row (orphaned_by t x)
  stranger_row x h = λ i. token_row (record x { parent = same_parent i })
    where
      at : (p : Option Text) → same (unwrap_or p []) t ≡ false
          → p ≡ option_and_then (λ p. if same p t then None else Some p) p
      at None is = refl
      at (Some p) is = sym (ap (λ v. if v then None else Some p) is)

      same_parent : x.parent ≡ option_and_then (λ p. if same p t then None else Some p) x.parent
      same_parent = at x.parent h

  token_orphaned : (q : Text)
      → (if is_some (first_where (edits q) ts) then written q else option_map token_row (get others q))
      ≡ option_map token_row (option_map (orphaned_by t) (get others q))
  token_orphaned q =
      elim (found_or_not (first_where (edits q) ts)) [
        | inr found ↦
            let is = first_where_is (edits q) ts found.0 found.1 in
            let two = and_parts (is_child t (node found.0.0 found.0.1)) (same q found.0.0) is.1 in
            let child = and_parts (same (unwrap_or found.0.1.parent []) t) (not (same found.0.0 t)) two.0 in
            let at : q ≡ found.0.0 = same_true q found.0.0 two.1 in
            let here : get ts q ≡ Some found.0.1 = ap (get ts) at ∙ is.0 in
            let stays : get others q ≡ Some found.0.1 = get-keep (λ q. not (same q t)) ts q
            ∙ (λ i. cond ((ap (λ u. not (same u t)) at ∙ child.1) i) (here i) None) in
            ap (λ o. if is_some o then written q else option_map token_row (get others q)) found.1
            ∙ ap (option_map orphan_row) here
            ∙ ap Some (child_row found.0.1 child.0)
            ∙ sym (ap (λ o. option_map token_row (option_map (orphaned_by t) o)) stays)
        | inl none ↦
            ap (λ o. if is_some o then written q else option_map token_row (get others q)) none
            ∙ elim (found_or_not (get others q)) [
              | inl gone ↦ ap (option_map token_row) gone
                  ∙ sym (ap (λ o. option_map token_row (option_map (orphaned_by t) o)) gone)
              | inr x ↦
                  let stood = kept q x.0 x.1 in
                  let fails = first_where_none (edits q) ts q x.0 none stood.0 in
                  let apart : same (unwrap_or x.0.parent []) t ≡ false =
                  unchild (same (unwrap_or x.0.parent []) t) (not (same q t)) (same q q) stood.1
                  (same_self q) fails in
                  ap (option_map token_row) x.1 ∙ ap Some (stranger_row x.0 apart)
                  ∙ sym (ap (λ o. option_map token_row (option_map (orphaned_by t) o)) x.1)
            ]
      ]
    where
      unchild : (a b c : Bool) → b ≡ true → c ≡ true → ((a && b) && c) ≡ false → a ≡ false
      unchild true true true hb hc h = h
      unchild true true false hb hc h = absurd (false≢true hc)
      unchild true false c hb hc h = absurd (false≢true hb)
      unchild false b c hb hc h = refl

      kept : (q : Text) (x : Token) → get others q ≡ Some x → (get ts q ≡ Some x) × (not (same q t) ≡ true)
      kept q x is =
          elim (not (same q t)) as (λ v. not (same q t) ≡ v → cond v (get ts q) None ≡ Some x → (get ts q ≡ Some x)
          × (not (same q t) ≡ true)) [
            | true ↦ λ apart e. (e, apart)
            | false ↦ λ _ e. absurd (none-some _ e)
          ] refl (sym (get-keep (λ q. not (same q t)) ts q) ∙ is)

  without-kept : without ts t ≡ others
  without-kept = same_map (without ts t) others
      (λ q. get-without ts t q ∙ flipped (same q t) (get ts q) ∙ sym (get-keep (λ q. not (same q t)) ts q))
    where
      flipped : (v : Bool) (o : Option Token) → cond v None o ≡ cond (not v) o None
      flipped true o = refl
      flipped false o = refl

pub tells_orphaned : (b : Broker) (t : Text) (rows : Rows)
    → Tells of_tokens (table_of rows) (record b { tokens = keep (λ q. not (same q t)) b.tokens })
    → Tells of_tokens (table_of (without_parent t (listing b.tokens) rows)) (revoke_orphan b t)
unfolding rows_of
tells_orphaned b t rows tells k q h =
    by_token_kind (λ k. table_of (without_parent t (listing b.tokens) rows) k q
    ≡ rows_of (record b { tokens = map_values (λ q. orphaned_by t) (keep (λ q. not (same q t)) b.tokens) }) k q)
    (edited b.tokens t (entries b.tokens) (each_entry (λ e. get b.tokens e.0 ≡ Some e.1) b.tokens (λ u x is. is)) rows q
    ∙ (λ i. if edited-first b.tokens t q i then option_map (λ x. record (token_row x) { owner = [] })
    (get b.tokens q) else tells kind.Token q refl i)
    ∙ token_orphaned b.tokens t q
    ∙ ap (option_map token_row) (sym (get-map_values (λ q. orphaned_by t) (keep (λ q. not (same q t)) b.tokens) q)))
    (parents_accessors t (listing b.tokens) rows q ∙ tells kind.Accessor q refl
    ∙ sym (ap (joined b q) (first_where-map_values (λ q. orphaned_by t) (has_accessor q) (has_accessor q)
    (keep (λ q. not (same q t)) b.tokens) (λ u x. refl))
    ∙ ap (λ o. or_else o (waits b q))
    (mapped_unseen (λ (e : Text × Token). accessor_row e.0 holder.Token) (λ e. (e.0, orphaned_by t e.1)) (λ e. refl)
    (first_where (has_accessor q) (keep (λ q. not (same q t)) b.tokens)))))
    k h
    ∙ ap (λ ts. rows_of (record b { tokens = map_values (λ q. orphaned_by t) ts }) k q) (sym (without-kept b.tokens t))

pub revoked_one : (forms : Forms) (b : Broker) (rows : Rows) → RepresentsTokens forms (table_of rows) b
    → (t : Text) (es fs : List (RowKey × Row)) (ended : List Text)
    → es ≡ rows_under rows kind.Token [] → fs ≡ rows_under rows kind.Token [] → ended ≡ t ∷ []
    → (mid : Rows) → mid ≡ without_ended ended es rows → (new : Rows) → new ≡ without_parent t fs mid
    → Tells of_tokens (table_of new) (revoke_orphan b t)
revoked_one forms b rows stands t es fs ended listed again one mid is_mid new is_new =
    let whole = lists_tokens b rows stands.tells in
    let first : mid ≡ without_ended (t ∷ []) (listing b.tokens) rows = is_mid
    ∙ (λ i. without_ended (one i) ((listed ∙ whole) i) rows) in
    subst (λ m. Tells of_tokens (table_of m) (revoke_orphan b t))
    (sym (is_new ∙ ap (λ l. without_parent t l mid) (again ∙ whole)))
    (tells_orphaned b t mid
    (subst (λ m. Tells of_tokens (table_of m) (record b { tokens = keep (λ q. not (same q t)) b.tokens }))
    (sym first)
    (tells_kept forms b stands.sound stands.one_place (t ∷ []) (λ q. not (same q t))
    (λ q. twice (same q t)) rows stands.tells)))
  where
    twice : (v : Bool) → (v || false) ≡ not (not v)
    twice true = refl
    twice false = refl

-- ---- whether there is such a token

nobody : IsDistinct same []
unfolding IsDistinct
nobody = tt

module _ (forms : Forms) (b : Broker) (rows : Rows) (stands : RepresentsTokens forms (table_of rows) b) (t : Text) where
  pub is_token : (r : Row) → fin.get rows (kind.Token, t) ≡ Some r → (x : Token) × (get b.tokens t ≡ Some x)
  is_token r is = let x = mapped token_row (get b.tokens t) r (sym (token_row_at b rows stands.tells t) ∙ is) in
      (x.0, x.1)

  no_token : fin.get rows (kind.Token, t) ≡ None → get b.tokens t ≡ None
  no_token none = mapped_none token_row (get b.tokens t) (sym (token_row_at b rows stands.tells t) ∙ none)

  unchanged : fin.get rows (kind.Token, t) ≡ None → b ≡ revoke_orphan b t
  unchanged none = ap (λ ts. record b { tokens = ts })
      (sym (orphan_unknown b.tokens t stands.sound.parents_exist (no_token none)))

  -- an unknown text ends none, and changes nothing
  pub orphaned_unknown : fin.get rows (kind.Token, t) ≡ None → (new : Rows) → new ≡ rows
      → Tells of_tokens (table_of new) (revoke_orphan b t)
  orphaned_unknown none new same_rows =
      subst (λ c. Tells of_tokens (table_of new) c) (unchanged none)
      (subst (λ m. Tells of_tokens (table_of m) b) (sym same_rows) stands.tells)

  pub orphaned_none : fin.get rows (kind.Token, t) ≡ None → AreEnded b (revoke_orphan b t) []
  orphaned_none none =
      record { once = nobody; exact = λ q. never (get b.tokens q) ∙ ap (λ c. has_ended b c q) (unchanged none) }
    where
      never : (o : Option Token) → false ≡ (is_some o && is_none o)
      never None = refl
      never (Some x) = refl

  -- a token ends alone
  pub revoked_one_each : (r : Row) → fin.get rows (kind.Token, t) ≡ Some r → (ended : List Text) → ended ≡ t ∷ []
      → AreEnded b (revoke_orphan b t) ended
  revoked_one_each r is ended one = subst (AreEnded b (revoke_orphan b t)) (sym one) (record {
    once = alone;
    exact = λ q. elim (same q t) as (λ v. same q t ≡ v → (v || false) ≡ (is_some (get b.tokens q) && v)) [
      | true ↦ λ at. sym (ap (λ o. is_some o && true) (ap (get b.tokens) (same_true q t at) ∙ (is_token r is).1))
      | false ↦ λ _. sym (and-false (is_some (get b.tokens q)))
    ] refl ∙ sym (ended_by_revocation_alone b t q);
  })
    where
      alone : IsDistinct same (t ∷ [])
      alone = IsDistinct-push same_equiv [] t nobody refl
