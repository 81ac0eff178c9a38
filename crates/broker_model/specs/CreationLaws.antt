-- What the rules of creation come to: a caller without privileges passes on no policy that it has not, and `root` is
-- passed on by a token that has it.
use Rattle.std.specs.Prelude.{◌≡◌, ◌==◌, ◌||◌, ◌∷◌, if◌then◌else◌, List, [], filter, map, codes, Bool, true, false, not}
use Rattle.records.specs.Words.{cond, Some, None, is_none, is_some, Ok, ⊤, nat_list_cmp_total, get-from_entries, find}
use Rattle.records.specs.Words.{contains_key-keys, list_all, list_any, refl, sym, ◌∙◌, ap, inl, inr, false≢true}
use Rattle.records.specs.Words.{and_parts, or_cases, or_right, Text, text_cmp, same, get, keys, is_name, is_nothing}
use Rattle.records.specs.Words.{unless, ok_step, same-text_cmp, same_true, Token, Refusal, has, member, set_of}
use Rattle.broker_types.specs.declared.refusal.Refusal.TheVariants as refusal
use Rattle.broker_types.specs.declared.refusal.Reason.TheVariants as reason
use Rattle.api_json.specs.declared.token_bodies.TokenCreation.{TokenCreation}
use Rattle.broker_model.specs.declared.making.Making.{Making}
use Rattle.broker_model.specs.parts.TokenCreation.{makes_orphans, default_name, have_root, policies_given}
use Rattle.broker_model.specs.parts.TokenCreation.{without_default, new_policies, has_no_end, may_make}

-- ---- what a creation that is not refused passed

passed : (v : Bool) (u : ⊤) (r : Refusal) → unless v r ≡ Ok u → v ≡ true
passed true u r e = refl
passed false u r e = absurd (cc)

-- each test of the creation, in its order
pub record IsAllowed (privileged : Bool) (making : Making) (x : Token) (ps : List Text)
    (asked : TokenCreation) : Type 0 where
  pub unlimited : x.uses_left ≡ None
  pub named : list_all is_name asked.policies ≡ true
  pub root : (have_root x.policies || not (have_root asked.policies)) ≡ true
  pub had : (privileged || list_all (has x.policies) asked.policies) ≡ true
  pub parted : (privileged || (makes_orphans making || not asked.no_parent)) ≡ true
  pub ends : (is_none x.ends || not (has_no_end ps asked)) ≡ true
  pub period : (privileged || asked.period == 0) ≡ true

module _ (privileged : Bool) (making : Making) (x : Token) (ps : List Text) (asked : TokenCreation) where
  -- a creation that is not refused passed them all
  pub allowed : (u : ⊤) → may_make privileged making x ps asked ≡ Ok u → IsAllowed privileged making x ps asked
  allowed u e =
      let one = ok_step (unless (is_none x.uses_left) (refusal.BadRequest reason.RestrictedToken)) _ u e in
      let two = ok_step (unless (list_all is_name asked.policies) (refusal.BadRequest reason.InvalidName)) _ u one.2 in
      let three =
      ok_step (unless (have_root x.policies || not (have_root asked.policies))
      (refusal.BadRequest reason.RootByRootAlone)) _ u two.2 in
      let four =
      ok_step (unless (privileged || list_all (has x.policies) asked.policies)
      (refusal.BadRequest reason.PoliciesBeyondParent)) _ u three.2 in
      let five = ok_step (unless (privileged || (makes_orphans making || not asked.no_parent))
      (refusal.BadRequest reason.OrphanNeedsSudo)) _ u four.2 in
      let six = ok_step (unless (is_none x.ends || not (has_no_end ps asked)) (refusal.BadRequest reason.ExpiringRoot))
      _ u five.2 in
      record {
        unlimited = is_nothing x.uses_left (passed _ one.0 _ one.1);
        named = passed _ two.0 _ two.1;
        root = passed _ three.0 _ three.1;
        had = passed _ four.0 _ four.1;
        parted = passed _ five.0 _ five.1;
        ends = passed _ six.0 _ six.1;
        period = passed _ u _ six.2;
      }

-- ---- sets of policies

pub set_has : (ts : List Text) (q : Text) → get (set_of ts) q ≡ cond (has ts q) (Some (tt {0})) None
set_has ts q = get-from_entries nat_list_cmp_total (map member ts) q ∙ find_has ts
  where
    by : (v w : Bool) → cond v (Some (tt {0})) (cond w (Some (tt {0})) None) ≡ cond (v || w) (Some (tt {0})) None
    by true w = refl
    by false w = refl

    find_has : (us : List Text) → find text_cmp q (map member us) ≡ cond (has us q) (Some (tt {0})) None
    find_has [] = refl
    find_has (u ∷ us) =
        ap (λ v. cond v (Some (tt {0})) (find text_cmp q (map member us))) (sym (same-text_cmp q u))
        ∙ ap (cond (same q u) (Some (tt {0}))) (find_has us) ∙ by (same q u) (has us q)

-- a set has the texts that it was made of
pub has_set : (ts : List Text) (q : Text) → has (keys (set_of ts)) q ≡ has ts q
has_set ts q =
    (λ i. list_any (λ t. same-text_cmp q t i) (keys (set_of ts))) ∙ sym (contains_key-keys (set_of ts) q)
    ∙ ap is_some (set_has ts q) ∙ by (has ts q)
  where
    by : (v : Bool) → is_some (cond v (Some (tt {0})) None) ≡ v
    by true = refl
    by false = refl

in_all : (own ts : List Text) (q : Text) → list_all (has own) ts ≡ true → has ts q ≡ true → has own q ≡ true
in_all own [] q all h = absurd (false≢true h)
in_all own (t ∷ ts) q all h =
    let two = and_parts (has own t) (list_all (has own) ts) all in
    elim (or_cases (same q t) (has ts q) h) [
      | inl here ↦ ap (has own) (same_true q t here) ∙ two.0
      | inr later ↦ in_all own ts q two.1 later
    ]

-- the policies given by a caller that adds `default` only if it has it are its own
given_within : (own asked : List Text) (q : Text) → list_all (has own) asked ≡ true
    → has (policies_given (has own default_name) own asked) q ≡ true
    → has own q ≡ true
given_within own [] q all h = h
given_within own (p ∷ ps) q all h = by (has own default_name) refl h
  where
    by : (v : Bool) → has own default_name ≡ v → has (if v then default_name ∷ p ∷ ps else p ∷ ps) q ≡ true
        → has own q ≡ true
    by true adds g = elim (or_cases (same q default_name) (has (p ∷ ps) q) g) [
      | inl here ↦ ap (has own) (same_true q default_name here) ∙ adds
      | inr later ↦ in_all own (p ∷ ps) q all later
    ]
    by false adds g = in_all own (p ∷ ps) q all g

pub kept : (p : Text → Bool) (ts : List Text) (q : Text) → has (filter p ts) q ≡ true → has ts q ≡ true
kept p [] q h = h
kept p (t ∷ ts) q h = by (p t) (kept p ts q) h
  where
    by : (v : Bool) → (has (filter p ts) q ≡ true → has ts q ≡ true)
        → has (if v then t ∷ filter p ts else filter p ts) q ≡ true
        → (same q t || has ts q) ≡ true
    by true rest g = elim (or_cases (same q t) (has (filter p ts) q) g) [
      | inl here ↦ ap (λ v. v || has ts q) here
      | inr later ↦ or_right (same q t) (has ts q) (rest later)
    ]
    by false rest g = or_right (same q t) (has ts q) (rest g)

-- ---- the policies of the new token

-- they are among those that are given
module _ (privileged : Bool) (x : Token) (asked : TokenCreation) where
  abbrev given : List Text
  given = policies_given (privileged || has x.policies default_name) x.policies asked.policies

  chosen : (v : Bool) (q : Text) → has (keys (set_of (if v then without_default given else given))) q ≡ true
      → has given q ≡ true
  chosen true q h = kept (λ p. not (same p default_name)) given q (sym (has_set (without_default given) q) ∙ h)
  chosen false q h = sym (has_set given q) ∙ h

  are_given : (q : Text) → has (new_policies privileged x asked) q ≡ true → has given q ≡ true
  are_given q h = by (have_root given) refl h
    where
      by : (v : Bool) → have_root given ≡ v
          → has (if v then codes "root" ∷ [] else keys
          (set_of (if asked.no_default_policy then without_default given else given))) q ≡ true
          → has given q ≡ true
      by true root g = elim (or_cases (same q (codes "root")) false g) [
        | inl here ↦ ap (has given) (same_true q (codes "root") here) ∙ root
        | inr later ↦ absurd (false≢true later)
      ]
      by false root g = chosen asked.no_default_policy q g

-- without privileges, they are the caller's
pub no_more_policies : (x : Token) (asked : TokenCreation) → list_all (has x.policies) asked.policies ≡ true
    → (q : Text)
    → has (new_policies false x asked) q ≡ true → has x.policies q ≡ true
no_more_policies x asked all q h = given_within x.policies asked.policies q all (are_given false x asked q h)

-- `root` is no `default`
root_apart : same (codes "root") default_name ≡ false
unfolding same
root_apart = refl

-- `root` is given by a caller that has it
pub root_is_own : (privileged : Bool) (x : Token) (asked : TokenCreation)
    → (have_root x.policies || not (have_root asked.policies)) ≡ true
    → has (new_policies privileged x asked) (codes "root") ≡ true → has x.policies (codes "root") ≡ true
root_is_own privileged x asked may h = by asked.policies may (privileged || has x.policies default_name)
    (are_given privileged x asked (codes "root") h)
  where
    asked_for : (ps : List Text) → (have_root x.policies || not (have_root ps)) ≡ true → has ps (codes "root") ≡ true
        → has x.policies (codes "root") ≡ true
    asked_for ps may there = elim (or_cases (have_root x.policies) (not (have_root ps)) may) [
      | inl own ↦ own
      | inr none ↦ absurd (false≢true (sym (ap not there) ∙ none))
    ]

    by : (ps : List Text) → (have_root x.policies || not (have_root ps)) ≡ true → (v : Bool)
        → has (policies_given v x.policies ps) (codes "root") ≡ true → has x.policies (codes "root") ≡ true
    by [] may v g = g
    by (p ∷ ps) may true g = elim (or_cases (same (codes "root") default_name) (has (p ∷ ps) (codes "root")) g) [
      | inl here ↦ absurd (false≢true (sym root_apart ∙ here))
      | inr there ↦ asked_for (p ∷ ps) may there
    ]
    by (p ∷ ps) may false g = asked_for (p ∷ ps) may g
