-- A creation that may be made passes each test of the definition.
use Rattle.std.proofs.Common.{◌≡◌, ◌⊎◌, ◌==◌, ◌||◌, ◌&&◌, ◌∷◌}
use Rattle.broker_model.specs.CreationLaws as creation
use Rattle.histories.specs.Words.{[], List, All, Bool, true, false, not, Some, None, codes, ℕ, Option, Result, Ok}
use Rattle.histories.specs.Words.{is_none, ⊤, list_all, refl, sym, ◌∙◌, ap, inl, inr, false≢true, and_parts, eq-eqb}
use Rattle.histories.specs.Words.{eqb-true, false_from_ne_true, or_cases, or_right, All-head, All-tail, Text, same}
use Rattle.histories.specs.Words.{same_self, same_true, Broker, is_name, Names, Done, reply, ◌>>=◌, some_or, unless}
use Rattle.histories.specs.Words.{Sound, Token, alive_is, Refusal, Reply, has, grants, AllThatIsGranted, RootMayDoAll}
use Rattle.histories.specs.Words.{Sudo, TokenCreation, forms, has_no_end, have_root, is_privileged, makes_orphans}
use Rattle.histories.specs.Words.{making_path, may_make, new_parent, new_policies, new_token, create, made, Verb}
use Rattle.histories.specs.Words.{Denial, Reason, Making, AsksItsOwn, AsksNoRoot, MayCreate, IsAllowed, HasPolicies}
use Rattle.histories.specs.Words.{HasRoot, HasSudo, Asking, clocked, spent_by, path_of}
use Rattle.histories.proofs.Clients.{from_clock}
use Rattle.histories.proofs.Created.{has_policies}
use Rattle.histories.proofs.TokenLaws.{granted_so, path_is}

-- ---- lists of policies

-- what holds of each that is there holds of all
all_of : (p : Text → Bool) (ts : List Text) → ((t : Text) → has ts t ≡ true → p t ≡ true) → list_all p ts ≡ true
all_of p [] each = refl
all_of p (t ∷ ts) each =
    ap (λ v. v && list_all p ts) (each t (ap (λ v. v || has ts t) (same_self t)))
    ∙ all_of p ts (λ u there. each u (or_right (same u t) (has ts u) there))

in_all : (p : Text → Bool) (ts : List Text) (t : Text) → All (λ u. p u ≡ true) ts → has ts t ≡ true → p t ≡ true
in_all p [] t all there = absurd (false≢true there)
in_all p (u ∷ us) t all there = elim (or_cases (same t u) (has us t) there) [
  | inl here ↦ ap p (same_true t u here) ∙ All-head (λ z. p z ≡ true) u us all
  | inr later ↦ in_all p us t (All-tail (λ z. p z ≡ true) u us all) later
]

-- `root` is no `default`
root_apart : same (codes "root") (codes "default") ≡ false
unfolding same
root_apart = refl

-- ---- the tests

-- a test that holds
passes : {A : Type 0} (v : Bool) (r : Refusal) (f : ⊤ → Result A Refusal) → v ≡ true → (unless v r >>= f) ≡ f tt
passes v r f holds = ap (λ w. unless w r >>= f) holds

module _ (privileged : Bool) (making : Making) (x : Token) (ps : List Text) (asked : TokenCreation)
    (all : creation.IsAllowed privileged making x ps asked) where
  none_refuses : may_make privileged making x ps asked ≡ Ok tt
  none_refuses =
      passes (is_none x.uses_left) (Refusal.BadRequest Reason.RestrictedToken) _ (ap is_none all.unlimited)
      ∙ passes (list_all is_name asked.policies) (Refusal.BadRequest Reason.InvalidName) _ all.named
      ∙ passes (have_root x.policies || not (have_root asked.policies)) (Refusal.BadRequest Reason.RootByRootAlone) _
      all.root
      ∙ passes (privileged || list_all (has x.policies) asked.policies)
      (Refusal.BadRequest Reason.PoliciesBeyondParent) _ all.had
      ∙ passes (privileged || (makes_orphans making || not asked.no_parent))
      (Refusal.BadRequest Reason.OrphanNeedsSudo) _ all.parted
      ∙ passes (is_none x.ends || not (has_no_end ps asked)) (Refusal.BadRequest Reason.ExpiringRoot) _ all.ends
      ∙ ap (λ v. unless v (Refusal.BadRequest Reason.PeriodNeedsSudo)) all.period

-- ---- a creation that may be made

module _ (granted : AllThatIsGranted) (root_may : RootMayDoAll) (a : Asking) (sound : Sound forms None a.broker)
    (k : IsAllowed a) (making : Making) (asked : TokenCreation) (m : MayCreate a k making asked) where
  abbrev here : Broker
  here = spent_by a k.caller

  abbrev own : Token
  own = k.own

  abbrev privileged : Bool
  privileged = is_privileged here (making_path making) own

  abbrev ps : List Text
  ps = new_policies privileged own asked

  -- the policies of the client token are names
  own_names : (p : Text) → has own.policies p ≡ true → is_name p ≡ true
  own_names p there =
      let x = from_clock a k.caller (record { closed = k.calls.closed; token = k.calls.client }) k.caller own
      k.calls.there in
      let y = alive_is (clocked a).clock a.broker.tokens k.caller x.earlier x.there in
      in_all is_name y.0.policies p (sound.tokens.each k.caller y.0 y.1).policy_names
      (ap (λ (z : Token). has z.policies p) (sym y.3) ∙ ap (λ (z : Token). has z.policies p) (sym x.rest) ∙ there)

  named : list_all is_name asked.policies ≡ true
  named = all_of is_name asked.policies (λ p there. elim (m.names p there) [
    | inl its ↦ own_names p its
    | inr is ↦ is
  ])

  is_so : HasRoot own ⊎ HasSudo (clocked a) own (path_of making) → privileged ≡ true
  is_so may =
      ap (λ path. grants here.policies own.policies Verb.Write path Sudo) (path_is making)
      ∙ granted_so granted root_may here.policies own.policies (path_of making) may

  -- with privileges, or asking for its own, each of these tests holds
  by_own : (v : Bool) → (AsksItsOwn own making asked → v ≡ true) → (privileged || v) ≡ true
  by_own v own_passes = elim m.allowed [
    | inl root ↦ ap (λ w. w || v) (is_so (inl root))
    | inr (inl sudo) ↦ ap (λ w. w || v) (is_so (inr sudo))
    | inr (inr its) ↦ or_right privileged v (own_passes its)
  ]

  rooted : (have_root own.policies || not (have_root asked.policies)) ≡ true
  rooted = by (have_root asked.policies) refl
    where
      by : (v : Bool) → have_root asked.policies ≡ v → (have_root own.policies || not v) ≡ true
      by true asks = ap (λ w. w || false) (m.root asks)
      by false asks = or_right (have_root own.policies) true refl

  not_root : AsksNoRoot own asked → have_root ps ≡ true → ⊥
  not_root asks root =
      let are : HasPolicies (privileged ≡ true) asked own (record own { policies = ps }) =
      has_policies privileged own asked (privileged ≡ true) (λ e. e) (λ e. e) (record own { policies = ps }) refl in
      elim (are.no_other (codes "root") root) [
        | inl asked_for ↦ false≢true (sym asks.0 ∙ asked_for)
        | inr (inl its) ↦ elim asks.1 [ inl some ↦ some its.0 | inr no_root ↦ no_root its.1 ]
        | inr (inr default) ↦ false≢true (sym root_apart ∙ ap (same (codes "root")) (sym default.0)
            ∙ same_self (codes "root"))
      ]

  ends : (is_none own.ends || not (has_no_end ps asked)) ≡ true
  ends = elim m.ends [
    | inl none ↦ ap (λ (o : Option ℕ). is_none o || not (has_no_end ps asked)) none
    | inr (inr asks) ↦ or_right (is_none own.ends) (not (has_no_end ps asked))
        (ap not (false_from_ne_true (has_no_end ps asked) (λ e. not_root asks (and_parts _ _ e).0)))
    | inr (inl asks) ↦ or_right (is_none own.ends) (not (has_no_end ps asked))
        (ap not (false_from_ne_true (has_no_end ps asked) (λ e.
        let some = and_parts (have_root ps)
        (asked.ttl == 0 && (asked.explicit_max_ttl == 0 && asked.period == 0)) e in
        let ttl = and_parts (asked.ttl == 0) (asked.explicit_max_ttl == 0 && asked.period == 0) some.1 in
        let rest = and_parts (asked.explicit_max_ttl == 0) (asked.period == 0) ttl.1 in
        asks (record {
          ttl = eqb-true asked.ttl 0 ttl.0;
          explicit_max_ttl = eqb-true asked.explicit_max_ttl 0 rest.0;
          period = eqb-true asked.period 0 rest.1;
        }))))
  ]

  all_hold : creation.IsAllowed privileged making own ps asked
  all_hold = record {
    unlimited = m.unlimited;
    named = named;
    root = rooted;
    had = by_own (list_all (has own.policies) asked.policies)
        (λ its. all_of (has own.policies) asked.policies its.policies);
    parted = by_own (makes_orphans making || not asked.no_parent) (λ its. elim its.parent [
      | inl child ↦ or_right (makes_orphans making) (not asked.no_parent) (ap not child)
      | inr alone ↦ ap (λ w. makes_orphans w || not asked.no_parent) alone
    ]);
    ends = ends;
    period = by_own (asked.period == 0) (λ its. eq-eqb asked.period 0 its.period);
  }

  -- so the token is made
  pub created : (names : Names) → (d : Done) × (r : Reply) × (create here k.caller names making asked ≡ Ok d)
      × (d.answered ≡ reply r (Some names.accessor))
  created names =
      let token : List Text → Token = λ qs.
      new_token here.clock (new_parent k.caller making asked) names.accessor qs asked in
      let make : Token → Bool → List Text → Result Done Refusal = λ x v qs.
      may_make v making x qs asked >>= (λ u. Ok (made here names (token qs))) in
      let privileges : Token → Bool = λ x. is_privileged here (making_path making) x in
      let d = made here names (token ps) in (
        d,
        _,
        ap (λ (o : Option Token). some_or (Refusal.Forbidden Denial.BadToken) o
            >>= (λ x. make x (privileges x) (new_policies (privileges x) x asked))) k.calls.there
            ∙ ap (λ (r : Result ⊤ Refusal). r >>= (λ u. Ok d)) (none_refuses privileged making own ps asked all_hold),
        refl,
      )
