-- Laws of versions by number: what a key has after an edit.
use Rattle.std.specs.Prelude.{◌≡◌, ◌+◌, ◌-◌, ◌==◌, ◌&&◌, ◌∷◌, if◌then◌else◌, ℕ, List, [], nat_lt, Bool, true, false, T}
use Rattle.records.specs.Words.{cond, Option, Some, None, option_map, nat_cmp, is_lt, eq_by_cmp, nat_cmp_total}
use Rattle.records.specs.Words.{nat_cmp-IsAntisymmetric, below_all, refl, sym, ◌∙◌, ap, subst, eqb-true, Text, Key}
use Rattle.records.specs.Words.{Version}
use Rattle.std.specs.FinMap as fin
use Rattle.std.specs.FinMap.Entries.{is_sorted}
use Rattle.records.specs.TableLaws.{eq-nat_cmp}
use Rattle.kv2.specs.Versions.{Versions, version_of, kept_under, change_versions, changed_entries, with_version}
use Rattle.kv2.specs.Versions.{new_version, key_or_new}

-- a version put
pub get-insert : (vs : Versions) (v : ℕ) (x : Version) (n : ℕ)
    → fin.get (fin.insert vs v x) n ≡ cond (n == v) (Some x) (fin.get vs n)
get-insert vs v x n =
    fin.get-insert nat_cmp_total vs v x n ∙ ap (λ b. cond b (Some x) (fin.get vs n)) (eq-nat_cmp n v)

-- versions kept under a limit
pub get-kept_under : (v limit : ℕ) (vs : Versions) (n : ℕ)
    → fin.get (kept_under v limit vs) n ≡ cond (nat_lt (v - limit) n) (fin.get vs n) None
get-kept_under v limit vs n =
    fin.get-retain_keys vs (λ n. nat_lt (v - limit) n) n
    (λ x e. ap (λ n. nat_lt (v - limit) n) (sym (nat_cmp-IsAntisymmetric n x e)))

-- ---- versions changed

below-changed : (f : Version → Version) (p : ℕ → Bool) (n : ℕ) (es : List (ℕ × Version))
    → below_all nat_cmp n (changed_entries f p es) ≡ below_all nat_cmp n es
below-changed f p n [] = refl
below-changed f p n (e ∷ es) = ap (λ b. is_lt (nat_cmp n e.0) && b) (below-changed f p n es)

sorted-changed : (f : Version → Version) (p : ℕ → Bool) (es : List (ℕ × Version))
    → is_sorted nat_cmp (changed_entries f p es) ≡ is_sorted nat_cmp es
sorted-changed f p [] = refl
sorted-changed f p (e ∷ es) = λ i. below-changed f p e.0 es i && sorted-changed f p es i

find-changed : (f : Version → Version) (p : ℕ → Bool) (n : ℕ) (es : List (ℕ × Version))
    → fin.find nat_cmp n (changed_entries f p es) ≡ option_map (λ v. if p n then f v else v) (fin.find nat_cmp n es)
find-changed f p n [] = refl
find-changed f p n (e ∷ es) =
    elim (eq_by_cmp nat_cmp n e.0) as (λ b. eq_by_cmp nat_cmp n e.0 ≡ b
    → cond b (Some (if p e.0 then f e.1 else e.1)) (fin.find nat_cmp n (changed_entries f p es))
    ≡ option_map (λ v. if p n then f v else v) (cond b (Some e.1) (fin.find nat_cmp n es))) [
      | true ↦ λ is. ap (λ m. Some (if p m then f e.1 else e.1)) (sym (eqb-true n e.0 (sym (eq-nat_cmp n e.0) ∙ is)))
      | false ↦ λ _. find-changed f p n es
    ] refl

-- each version of changed versions
pub get-change_versions : (f : Version → Version) (p : ℕ → Bool) (vs : Versions) (n : ℕ)
    → fin.get (change_versions f p vs) n ≡ option_map (λ v. if p n then f v else v) (fin.get vs n)
unfolding change_versions
get-change_versions f p vs n =
    fin.get-from_sorted nat_cmp (changed_entries f p (fin.entries vs)) n
    (subst T (sym (sorted-changed f p (fin.entries vs))) (fin.entries_sorted vs))
    ∙ find-changed f p n (fin.entries vs) ∙ ap (option_map (λ v. if p n then f v else v)) (sym (fin.get-entries vs n))

-- ---- one more version

old_versions : (now : ℕ) (o : Option Key) (n : ℕ) → fin.get (key_or_new now o).versions n ≡ version_of o n
old_versions now None n = fin.get-empty nat_cmp n
old_versions now (Some k) n = refl

module _ (now limit : ℕ) (object : Text) (o : Option Key) where
  abbrev v : ℕ
  v = (key_or_new now o).current + 1

  -- the versions after a write
  pub next_versions : (n : ℕ) → fin.get (with_version now limit object (key_or_new now o)).versions n
      ≡ cond (nat_lt (v - limit) n) (cond (n == v) (Some (new_version now object)) (version_of o n)) None
  next_versions n =
      get-kept_under v limit (fin.insert (key_or_new now o).versions v (new_version now object)) n
      ∙ ap (λ x. cond (nat_lt (v - limit) n) x None)
      (get-insert (key_or_new now o).versions v (new_version now object) n
      ∙ ap (cond (n == v) (Some (new_version now object))) (old_versions now o n))
