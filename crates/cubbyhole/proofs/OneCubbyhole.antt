-- Tables that have one cubbyhole of a token in common answer alike.
use Rattle.std.proofs.Common.{◌≡◌, ◌∷◌, ◌++◌, [], map, length, drop, nat_eq, Bool, true, false, cond, None, T, refl, ap}
use Rattle.std.specs.FinMap as fin
use Rattle.records.specs.Words.{is_sorted, from_sorted, starts_with, sym, ◌∙◌, append_assoc, take-append-drop, Text}
use Rattle.records.specs.Words.{text_cmp, same, same_true, entries_are, folder, children, keys_under, named}
use Rattle.records.specs.Words.{listed-sorted, find-listed, names_are, slash, table_of, Rows, rows_under}
use Rattle.records.specs.declared.kind.Kind.TheVariants as kind
use Rattle.cubbyhole.specs.Words.{Row, HaveOneCubbyhole, object_key, children_in}
use Rattle.cubbyhole.proofs.ObjectKeys.{begins}

-- what begins with the token, a slash and a folder begins with the token and the slash
within : (t folder q : Text) → starts_with nat_eq q (object_key t folder) ≡ true
    → starts_with nat_eq q (object_key t []) ≡ true
unfolding same
within t folder q h =
    let prefix = object_key t folder in
    let rest : Text = drop (length prefix) q in
    let is : q ≡ object_key t (folder ++ rest) = sym (take-append-drop (length prefix) q)
    ∙ ap (λ u. u ++ rest) (sym (same_true prefix _ h)) ∙ append_assoc t (slash ∷ folder) rest in
    ap (λ z. starts_with nat_eq z (object_key t [])) is ∙ begins t (folder ++ rest)

module _ (rows others : Rows) (prefix : Text)
    (alike : (q : Text) → starts_with nat_eq q prefix ≡ true
    → fin.get rows (kind.Cubby, q) ≡ fin.get others (kind.Cubby, q)) where
  -- the same rows are listed under the prefix
  same_listed : named (rows_under rows kind.Cubby prefix) ≡ named (rows_under others kind.Cubby prefix)
  same_listed =
      let listed = named (rows_under others kind.Cubby prefix) in
      let sorted : T (is_sorted text_cmp listed) = listed-sorted kind.Cubby prefix others in
      sym (entries_are (from_sorted listed) (named (rows_under rows kind.Cubby prefix))
      (listed-sorted kind.Cubby prefix rows) (λ q.
      find-listed kind.Cubby prefix rows q ∙ at q (starts_with nat_eq q prefix) refl
      ∙ sym (find-listed kind.Cubby prefix others q)
      ∙ sym (fin.get-from_sorted text_cmp listed q sorted)))
      ∙ fin.entries-from_sorted text_cmp listed sorted
    where
      at : (q : Text) (v : Bool) → starts_with nat_eq q prefix ≡ v
          → cond v (fin.get rows (kind.Cubby, q)) None ≡ cond v (fin.get others (kind.Cubby, q)) None
      at q true is = alike q is
      at q false is = refl

  pub same_keys : keys_under rows kind.Cubby prefix ≡ keys_under others kind.Cubby prefix
  same_keys =
      names_are (rows_under rows kind.Cubby prefix) ∙ ap (map (λ (e : Text × Row). e.0)) same_listed
      ∙ sym (names_are (rows_under others kind.Cubby prefix))

-- each folder has the same children
pub listed_alike : (rows others : Rows) (t path : Text) → HaveOneCubbyhole t (table_of rows) (table_of others)
    → children_in rows t path ≡ children_in others t path
listed_alike rows others t path one =
    let prefix = object_key t (folder path) in
    ap (children prefix) (same_keys rows others prefix (λ q h. one q (within t (folder path) q h)))
