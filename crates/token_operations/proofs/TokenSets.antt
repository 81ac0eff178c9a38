-- Sets of texts that are made one by one.
use Rattle.std.proofs.Common.{◌≡◌, ◌||◌, ◌&&◌, ◌∷◌, List, [], map, Bool, true, false, string_bytes, refl, sym, ◌∙◌, ap}
use Rattle.std.proofs.Common.{Global}
use Rattle.broker_model.specs.Words.{insert_key, nat_list_cmp_total, is_lt, is_eq, match_ordering, ordering_reverse}
use Rattle.broker_model.specs.Words.{string_cmp, Ordering, Less, Equal, Greater, String, and_parts, keys, is_ascending}
use Rattle.broker_model.specs.Words.{Text, text_cmp, same, same_true, same-text_cmp, has, set_of}
use Rattle.token_operations.specs.TokenSets.{put_each}
use Rattle.token_operations.proofs.TokenLists.{set_is}

-- ---- the code's order of strings is that of their bytes

along : (o : Ordering) (a b c : List (String Global))
    → map string_bytes (match_ordering o a b c) ≡ match_ordering o (map string_bytes a) (map string_bytes b)
    (map string_bytes c)
along Less a b c = refl
along Equal a b c = refl
along Greater a b c = refl

pub keys_inserted : (ks : List (String Global)) (k : String Global)
    → map string_bytes (insert_key string_cmp ks k) ≡ insert_key text_cmp (map string_bytes ks) (string_bytes k)
keys_inserted [] k = refl
keys_inserted (u ∷ us) k = along (string_cmp k u) _ _ _ ∙ rw (keys_inserted us k) refl

-- ---- what is in it

once_more : (v w : Bool) → (v || w) ≡ (v || (v || w))
once_more true w = refl
once_more false w = refl

swapped : (v w x : Bool) → (v || (w || x)) ≡ (w || (v || x))
swapped true true x = refl
swapped true false x = refl
swapped false true x = refl
swapped false false x = refl

joined : (v w x : Bool) → ((v || w) || x) ≡ (w || (v || x))
joined true true x = refl
joined true false x = refl
joined false true x = refl
joined false false x = refl

equal_is : (t u : Text) → text_cmp t u ≡ Equal → t ≡ u
equal_is t u e = same_true t u (same-text_cmp t u ∙ ap is_eq e)

has_inserted : (us : List Text) (t q : Text) → has (insert_key text_cmp us t) q ≡ (same q t || has us q)
has_inserted [] t q = refl
has_inserted (u ∷ us) t q = by (text_cmp t u) refl (has_inserted us t q)
  where
    by : (o : Ordering) → text_cmp t u ≡ o → has (insert_key text_cmp us t) q ≡ (same q t || has us q)
        → has (match_ordering o (t ∷ u ∷ us) (u ∷ us) (u ∷ insert_key text_cmp us t)) q ≡ (same q t || has (u ∷ us) q)
    by Less e rest = refl
    by Equal e rest = once_more (same q u) (has us q)
        ∙ ap (λ x. same q x || (same q u || has us q)) (sym (equal_is t u e))
    by Greater e rest = ap (λ v. same q u || v) rest ∙ swapped (same q u) (same q t) (has us q)

has_put : (us ts : List Text) (q : Text) → has (put_each us ts) q ≡ (has us q || has ts q)
has_put us [] q = by (has us q)
  where
    by : (v : Bool) → v ≡ (v || false)
    by true = refl
    by false = refl
has_put us (t ∷ ts) q =
    has_put (insert_key text_cmp us t) ts q ∙ ap (λ v. v || has ts q) (has_inserted us t q)
    ∙ joined (same q t) (has us q) (has ts q)

-- ---- its order

less : (t u : Text) → text_cmp t u ≡ Greater → is_lt (text_cmp u t) ≡ true
less t u e = ap is_lt (nat_list_cmp_total.antisymm u t ∙ ap ordering_reverse e)

less_here : (t u : Text) → text_cmp t u ≡ Less → is_lt (text_cmp t u) ≡ true
less_here t u e = ap is_lt e

ascends_after : (k t : Text) (us : List Text) → is_lt (text_cmp k t) ≡ true → is_ascending (k ∷ us) ≡ true
    → is_ascending (k ∷ insert_key text_cmp us t) ≡ true
ascends_after k t [] h g = λ i. h i && true
ascends_after k t (u ∷ us) h g = by (text_cmp t u) refl (ascends_after u t us)
  where
    by : (o : Ordering) → text_cmp t u ≡ o
        → (is_lt (text_cmp u t) ≡ true → is_ascending (u ∷ us) ≡ true
        → is_ascending (u ∷ insert_key text_cmp us t) ≡ true)
        → is_ascending (k ∷ match_ordering o (t ∷ u ∷ us) (u ∷ us) (u ∷ insert_key text_cmp us t)) ≡ true
    by Less e rest = λ i. h i && (less_here t u e i && (and_parts (is_lt (text_cmp k u)) (is_ascending (u ∷ us)) g).1 i)
    by Equal e rest = g
    by Greater e rest =
        let two = and_parts (is_lt (text_cmp k u)) (is_ascending (u ∷ us)) g in
        λ i. two.0 i && rest (less t u e) two.1 i

ascends_inserted : (us : List Text) (t : Text) → is_ascending us ≡ true → is_ascending (insert_key text_cmp us t) ≡ true
ascends_inserted [] t h = refl
ascends_inserted (u ∷ us) t h = by (text_cmp t u) refl
  where
    by : (o : Ordering) → text_cmp t u ≡ o
        → is_ascending (match_ordering o (t ∷ u ∷ us) (u ∷ us) (u ∷ insert_key text_cmp us t)) ≡ true
    by Less e = λ i. less_here t u e i && h i
    by Equal e = h
    by Greater e = ascends_after u t us (less t u e) h

ascends_put : (us ts : List Text) → is_ascending us ≡ true → is_ascending (put_each us ts) ≡ true
ascends_put us [] h = h
ascends_put us (t ∷ ts) h = ascends_put (insert_key text_cmp us t) ts (ascends_inserted us t h)

-- texts that are put in their places are the set of them
pub set_put : (ts : List Text) → put_each [] ts ≡ keys (set_of ts)
set_put ts = sym (set_is ts (put_each [] ts) (ascends_put [] ts refl) (λ q. has_put [] ts q))
