-- To take out what is listed under a prefix up to another key, one row after another.
use Rattle.std.proofs.Common.{◌≡◌, ◌&&◌, if◌then◌else◌, nat_eq, Bool, true, false, cond, Option, Some, None, filter, ap}
use Rattle.records.specs.Words.{is_le, get, entries, get-entries, find-where_key, starts_with, refl, sym, ◌∙◌, Text}
use Rattle.records.specs.Words.{text_cmp, RowKey, key_cmp, is_of_kind, Rows, rows_upto, table_of, key_cmp_exact}
use Rattle.records.specs.Words.{without_listed}
use Rattle.kv2.specs.Words.{Kind, Row, without_upto}
use Rattle.records.specs.UnderLaws.{unless, get-without_listed}

taken : (a b : Bool) (o : Option Row) → unless (cond b (cond a o None) None) o ≡ (if a && b then None else o)
taken true true None = refl
taken true true (Some r) = refl
taken true false o = refl
taken false true o = refl
taken false false o = refl

abbrev under : Kind → Text → RowKey → Bool
under kind prefix x = is_of_kind kind x && starts_with nat_eq x.1 prefix

abbrev within : Text → RowKey → Bool
within last x = is_le (text_cmp x.1 last)

pub table_of-without_upto : (rows : Rows) (kind : Kind) (prefix last : Text)
    → table_of (without_listed rows (rows_upto rows kind prefix last)) ≡ without_upto (table_of rows) kind prefix last
table_of-without_upto rows kind prefix last = λ i k q. at k q i
  where
    at : (k : Kind) (q : Text) → get (without_listed rows (rows_upto rows kind prefix last)) (k, q)
        ≡ without_upto (table_of rows) kind prefix last k q
    at k q =
        get-without_listed rows (rows_upto rows kind prefix last) (k, q)
        ∙ ap (λ o. unless o (get rows (k, q))) (
        find-where_key key_cmp (within last) (k, q) (λ x e. ap (within last) (sym (key_cmp_exact (k, q) x e))) (filter
        (λ e. under kind prefix e.0) (entries rows))
        ∙ ap (λ o. cond (within last (k, q)) o None) (
        find-where_key key_cmp (under kind prefix) (k, q)
        (λ x e. ap (under kind prefix) (sym (key_cmp_exact (k, q) x e))) (entries rows)
        ∙ ap (λ o. cond (under kind prefix (k, q)) o None) (sym (get-entries rows (k, q)))))
        ∙ taken (under kind prefix (k, q)) (within last (k, q)) (get rows (k, q))
