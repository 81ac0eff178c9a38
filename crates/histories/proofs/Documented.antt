-- Permission and look-ups are as they are documented.
use Rattle.std.proofs.Common.{◌≡◌, ◌⊎◌, ◌||◌, ◌++◌, if◌then◌else◌, ◌∷◌}
use Rattle.broker_model.specs.Words.{ℕ, drop, length, nat_eq, not, List, [], Bool, Contains, true, false, is_some}
use Rattle.broker_model.specs.Words.{codes, Option, Some, None, Result, Ok, Err, option_and_then, unwrap_or, get-empty}
use Rattle.broker_model.specs.Words.{find, flat_map, list_any, starts_with, option_map_or, refl, sym, ◌∙◌, ap, subst}
use Rattle.broker_model.specs.Words.{inl, inr, and_parts, eqb-true, false≢true, or_cases, same_Some, any_contained}
use Rattle.broker_model.specs.Words.{passing, Map, empty, get, Broker, Names, reply, Done, ok_step, Key, Text, same}
use Rattle.broker_model.specs.Words.{text_cmp, same_self, same_true, Token, Verb, Refusal, lacking_split, slash}
use Rattle.broker_model.specs.Words.{split_once, token_entry, ok_inj, object_at, key_at, form_of, has_form, is_ending}
use Rattle.broker_model.specs.Words.{segments, Route, asks_sudo, cut, route_of, row_asks_sudo, facts, route_rows}
use Rattle.broker_model.specs.Words.{Operation, Cubbyholes, Leases, Mounts, Policies, Secrets, Wrappings, allows}
use Rattle.broker_model.specs.Words.{is_granted, is_named, grants, rules_named, rules_of, tried, Pattern, is_root}
use Rattle.broker_model.specs.Words.{policy_of, Rule, Capability, Create, Sudo, Update, find_accessor, asked, asked_by}
use Rattle.broker_model.specs.Words.{capability, has_stored, stands_there, stored, stored_at, may_ask, token_reply}
use Rattle.broker_model.specs.Words.{act_on_tokens, known, named, MountType, CubbyholeOperation}
use Rattle.mounts.specs.Words.{nothing}
use Rattle.mounts.specs.declared.operation.Operation.TheVariants.{Tokens}
use Rattle.histories.specs.Words.{Issued, SecretOperation, TokenCommand, AccessorsHideTokens, AreAsDocumented}
use Rattle.histories.specs.Words.{AsksByVerb, MakesAnew, SudoIsNeeded}
use Rattle.histories.proofs.Routes.{whole}
use Rattle.histories.proofs.Folders.{folders_listed}
use Rattle.histories.proofs.OrderCases.{some_ok}
use Rattle.histories.proofs.Words.{policies_are_read}

-- ---- root

-- without policies there are no rules
none_named : (name : Text) → rules_named empty name ≡ []
unfolding rules_named
none_named name = ap (λ o. unwrap_or (option_and_then policy_of o) []) (get-empty text_cmp name)

no_rules : (names : List Text) → flat_map (rules_named empty) names ≡ []
no_rules [] = refl
no_rules (name ∷ names) = ap (λ (rs : List Rule). rs ++ flat_map (rules_named empty) names) (none_named name)
    ∙ no_rules names

-- and without rules no pattern is chosen
none_chosen : (ps : List Pattern) → find (is_named []) ps ≡ None
none_chosen [] = refl
none_chosen (p ∷ ps) = none_chosen ps

root_only : (names : List Text) (v : Verb) (path : Text) (c : Capability) → grants empty names v path c ≡ true
    → Contains names (codes "root")
unfolding rules_of allows
root_only names v path c h =
    let any : list_any is_root names ≡ true =
    or_none (list_any is_root names)
    (ap (λ (rs : List Rule). list_any is_root names || option_map_or (is_granted c rs)
    (find (is_named rs) (tried v path)) false) (sym (no_rules names))
    ∙ h) in
    let x = passing is_root names any in
    subst (Contains names) (same_true x.0 (codes "root") x.2) x.1
  where
    or_none : (w : Bool) → (w || option_map_or (is_granted c []) (find (is_named []) (tried v path)) false) ≡ true
        → w ≡ true
    or_none true e = refl
    or_none false e = absurd (false≢true
        (sym (ap (λ o. option_map_or (is_granted c []) o false) (none_chosen (tried v path))) ∙ e))

root_everything : (policies : Map Text) (names : List Text) (v : Verb) (path : Text) (c : Capability)
    → Contains names (codes "root")
    → grants policies names v path c ≡ true
unfolding rules_of allows
root_everything policies names v path c has_root =
    ap (λ w. w || option_map_or (is_granted c (flat_map (rules_named policies) names))
    (find (is_named (flat_map (rules_named policies) names)) (tried v path)) false)
    (any_contained is_root names (codes "root") has_root (same_self (codes "root")))

-- ---- capabilities

module _ (b : Broker) (c path : Text) where
  abbrev found : Result Route Refusal
  found = route_of b.mounts Verb.Write path

  by_there : (v : Bool) → (capability Verb.Write v ≡ Update) ⊎ (capability Verb.Write v ≡ Create)
  by_there true = inl refl
  by_there false = inr refl

  not_there : (v : Bool) → capability Verb.Write v ≡ Create → v ≡ false
  not_there true e = absurd (cc)
  not_there false e = refl

  none_if : {X : Type 0} (o : Option X) → is_some o ≡ false → o ≡ None
  none_if None e = refl
  none_if (Some x) e = absurd (false≢true (sym e))

  by_route : (o : Operation) (mount parameter : Text)
      → found ≡ Ok (record { operation = o; mount = mount; parameter = parameter })
      → stands_there (has_stored b c) (stored (Ok (record { operation = o; mount = mount; parameter = parameter })))
      ≡ false
      → MakesAnew b c path
  by_route (Cubbyholes CubbyholeOperation.Write) mount parameter is e = inl
      (_, is, refl, none_if (object_at b c parameter) e)
  by_route (Cubbyholes _) mount parameter is e = absurd (false≢true (sym e))
  by_route (Secrets SecretOperation.Write) mount parameter is e = inr
      (_, is, refl, none_if (key_at b mount parameter) e)
  by_route (Secrets _) mount parameter is e = absurd (false≢true (sym e))
  by_route (Tokens o) mount parameter is e = absurd (false≢true (sym e))
  by_route (Policies o) mount parameter is e = absurd (false≢true (sym e))
  by_route (Mounts o) mount parameter is e = absurd (false≢true (sym e))
  by_route (Leases o) mount parameter is e = absurd (false≢true (sym e))
  by_route (Issued o) mount parameter is e = absurd (false≢true (sym e))
  by_route (Wrappings o) mount parameter is e = absurd (false≢true (sym e))

  by_found : (r : Result Route Refusal) → found ≡ r → stands_there (has_stored b c) (stored r) ≡ false
      → MakesAnew b c path
  by_found (Err why) is e = absurd (false≢true (sym e))
  by_found (Ok r) is e = by_route r.operation r.mount r.parameter is e

  makes : MakesAnew b c path → asked b c Verb.Write path ≡ Create
  makes (inl (r, is, write, none)) =
      ap (λ (x : Result Route Refusal). asked_by (has_stored b c) Verb.Write x) is
      ∙ ap (λ o. capability Verb.Write (stands_there (has_stored b c)
      (stored_at (facts o).stores r.mount r.parameter))) write
      ∙ ap (λ (o : Option Text). capability Verb.Write (is_some o)) none
  makes (inr (r, is, write, none)) =
      ap (λ (x : Result Route Refusal). asked_by (has_stored b c) Verb.Write x) is
      ∙ ap (λ o. capability Verb.Write (stands_there (has_stored b c)
      (stored_at (facts o).stores r.mount r.parameter))) write
      ∙ ap (λ (o : Option Key). capability Verb.Write (is_some o)) none

  asks : AsksByVerb b c path
  asks = record {
    get = refl;
    list = refl;
    delete = refl;
    write = by_there (stands_there (has_stored b c) (stored found));
    anew = λ e. by_found found refl (not_there (stands_there (has_stored b c) (stored found)) e);
    create = makes;
  }

-- ---- sudo

-- a text that begins with a literal, and has something behind it
begun_by : (literal q : Text) → starts_with nat_eq q literal ≡ true
    → is_ending segments (drop (length literal) q) ≡ true
    → (b : ℕ) × (rest : Text) × (q ≡ literal ++ b ∷ rest)
begun_by [] [] begins ends = absurd (false≢true ends)
begun_by [] (b ∷ rest) begins ends = (b, rest, refl)
begun_by (x ∷ literal) [] begins ends = absurd (false≢true begins)
begun_by (x ∷ literal) (y ∷ q) begins ends =
    let p = and_parts (nat_eq x y) (starts_with nat_eq q literal) begins in
    let at : y ≡ x = sym (eqb-true x y p.0) in
    let r = begun_by literal q p.1 ends in
    (r.0, r.1, λ i. at i ∷ r.2 i)

abbrev OneOfThem : Text → Type 0
OneOfThem path =
    (path ≡ codes "auth/token/accessors") ⊎ ((path ≡ codes "auth/token/revoke-orphan")
    ⊎ ((b : ℕ) × (rest : Text) × (path ≡ codes "sys/leases/revoke-prefix/" ++ b ∷ rest)))

-- a path by its mount and what follows
joined : (path : Text) (P : Type 0) → ((cut path).1 ≡ [] → P)
    → ((name rest : Text) → path ≡ name ++ slash ∷ rest → name ≡ (cut path).0 → rest ≡ (cut path).1 → P) → P
joined path P none some =
    elim (split_once slash path) as (λ (o : Option (Text × Text)). split_once slash path ≡ o
    → ((unwrap_or o (path, [])).1 ≡ [] → P)
    → ((name rest : Text) → path ≡ name ++ slash ∷ rest → name ≡ (unwrap_or o (path, [])).0
    → rest ≡ (unwrap_or o (path, [])).1 → P) → P) [
      | None ↦ λ _ first _. first refl
      | Some p ↦ λ is _ second. second p.0 p.1 (lacking_split slash path p is).0 refl refl
    ] refl none some

literal_of : (literal q : Text) → has_form (record { literal = literal; ending = nothing }) q ≡ true → q ≡ literal
literal_of literal q form = let p = and_parts _ _ form in whole literal q p.0 p.1

module _ (rest : Text) where
  -- what asks for `sudo` within a mount that is always there
  abbrev Within : Text → Type 0
  Within name =
      ((name ≡ codes "auth") × ((rest ≡ codes "token/accessors") ⊎ (rest ≡ codes "token/revoke-orphan")))
      ⊎ ((name ≡ codes "sys") × ((b : ℕ) × (more : Text) × (rest ≡ codes "leases/revoke-prefix/" ++ b ∷ more)))

  of_tokens : list_any (row_asks_sudo rest) (route_rows MountType.Token) ≡ true
      → (rest ≡ codes "token/accessors") ⊎ (rest ≡ codes "token/revoke-orphan")
  of_tokens h = elim (or_cases (has_form (form_of (codes "token/revoke-orphan")) rest)
      (has_form (form_of (codes "token/accessors")) rest || false) h) [
        | inl form ↦ inr (literal_of (codes "token/revoke-orphan") rest form)
        | inr more ↦ elim (or_cases (has_form (form_of (codes "token/accessors")) rest) false more) [
          | inl form ↦ inl (literal_of (codes "token/accessors") rest form)
          | inr none ↦ absurd (false≢true none)
        ]
      ]

  of_system : list_any (row_asks_sudo rest) (route_rows MountType.System) ≡ true
      → (b : ℕ) × (more : Text) × (rest ≡ codes "leases/revoke-prefix/" ++ b ∷ more)
  of_system h = elim (or_cases (has_form (form_of (codes "leases/revoke-prefix/{*path}")) rest) false h) [
    | inl form ↦ let p = and_parts _ _ form in begun_by (codes "leases/revoke-prefix/") rest p.0 p.1
    | inr none ↦ absurd (false≢true none)
  ]

  within : (name : Text) (x : Bool) → same name (codes "auth") ≡ x → (y : Bool) → same name (codes "sys") ≡ y
      → (z : Bool)
      → list_any (row_asks_sudo rest) (option_map_or route_rows
      (if x then Some MountType.Token else (if y then Some MountType.System else
      (if z then Some MountType.Cubbyhole else None)))
      []) ≡ true
      → Within name
  within name true at y _ z h = inl (same_true name (codes "auth") at, of_tokens h)
  within name false _ true at z h = inr (same_true name (codes "sys") at, of_system h)
  within name false _ false _ true h = absurd (false≢true h)
  within name false _ false _ false h = absurd (false≢true h)

sudo_only : (path : Text) → asks_sudo path ≡ true → OneOfThem path
unfolding asks_sudo
sudo_only path h =
    let name = (cut path).0 in
    let rest = (cut path).1 in
    let found = within rest name (same name (codes "auth")) refl (same name (codes "sys")) refl
    (same name (codes "cubbyhole")) h in
    joined path (OneOfThem path)
    (λ none. elim found [
      | inl (at, its) ↦ elim its [
        | inl is ↦ absurd (apart (sym none ∙ is))
        | inr is ↦ absurd (other (sym none ∙ is))
      ]
      | inr deep ↦ absurd (third deep.1.0 deep.1.1 (sym none ∙ deep.1.2))
    ])
    (λ front behind is is_name is_rest. elim found [
      | inl (at, its) ↦ elim its [
        | inl it ↦ inl (is ∙ ap (λ n. n ++ slash ∷ behind) (is_name ∙ at)
            ∙ ap (λ r. codes "auth" ++ slash ∷ r) (is_rest ∙ it))
        | inr it ↦ inr (inl (is ∙ ap (λ n. n ++ slash ∷ behind) (is_name ∙ at)
            ∙ ap (λ r. codes "auth" ++ slash ∷ r) (is_rest ∙ it)))
      ]
      | inr deep ↦ inr (inr (
        deep.1.0,
        deep.1.1,
        is ∙ ap (λ n. n ++ slash ∷ behind) (is_name ∙ deep.0) ∙ ap (λ r. codes "sys" ++ slash ∷ r) (is_rest ∙ deep.1.2),
      ))
    ])
  where
    apart : [] ≡ codes "token/accessors" → ⊥
    apart e = cc

    other : [] ≡ codes "token/revoke-orphan" → ⊥
    other e = cc

    third : (b : ℕ) (more : Text) → [] ≡ codes "leases/revoke-prefix/" ++ b ∷ more → ⊥
    third b more e = cc

accessors_ask : asks_sudo (codes "auth/token/accessors") ≡ true
unfolding asks_sudo same
accessors_ask = refl

orphans_ask : asks_sudo (codes "auth/token/revoke-orphan") ≡ true
unfolding asks_sudo same
orphans_ask = refl

prefix_asks : (b : ℕ) (rest : Text) → asks_sudo (codes "sys/leases/revoke-prefix/" ++ b ∷ rest) ≡ true
unfolding asks_sudo same
prefix_asks b rest = refl

-- where it is asked for, it is granted
sudo_needed : SudoIsNeeded
sudo_needed b c v path h asks = by (get b.tokens c) refl h
  where
    by : (o : Option Token) → get b.tokens c ≡ o → option_map_or (may_ask b c v path) o false ≡ true
        → (x : Token) × (get b.tokens c ≡ Some x) × (grants b.policies x.policies v path Sudo ≡ true)
    by None none e = absurd (false≢true e)
    by (Some x) is e =
        let rules = rules_of b.policies x.policies v in
        let both = and_parts (allows rules path (asked b c v path)) _ e in
        (x, is, ap (λ w. not w || allows rules path Sudo) (sym asks) ∙ both.1)

-- ---- look-ups by accessor

module _ (b : Broker) (caller : Text) (names : Names) (accessor t : Text) (x : Token) (d : Done) where
  answers : find_accessor b accessor ≡ Some t → get b.tokens t ≡ Some x
      → act_on_tokens b caller names (TokenCommand.LookUpAccessor accessor) ≡ Ok d
      → d.answered ≡ reply (token_reply names.request b.clock [] (token_entry x)) None
  answers is there e =
      let u = ok_step (named b accessor) _ d e in
      let same_ : t ≡ u.0 = same_Some _ _ (sym is ∙ some_ok _ (find_accessor b accessor) u.1) in
      let y = ok_step (known b u.0) _ d u.2 in
      let same_token : x ≡ y.0 =
      same_Some _ _ (sym there ∙ ap (get b.tokens) same_ ∙ some_ok _ (get b.tokens u.0) y.1) in
      ap (λ (z : Done). z.answered) (sym (ok_inj y.2))
      ∙ ap (λ (z : Token). reply (token_reply names.request b.clock [] (token_entry z)) None) (sym same_token)

hide_tokens : AccessorsHideTokens
hide_tokens b d caller other names accessor t u x done next clock is is_too there there_too one two =
    answers b caller names accessor t x done is there one
    ∙ ap (λ now. reply (token_reply names.request now [] (token_entry x)) None) clock
    ∙ sym (answers d other names accessor u x next is_too there_too two)

pub as_documented : AreAsDocumented
as_documented = record {
  root = record { only = root_only; everything = root_everything };
  capabilities = asks;
  policies = policies_are_read;
  sudo = record {
    only = sudo_only;
    accessors = accessors_ask;
    revoke_orphan = orphans_ask;
    revoke_prefix = prefix_asks;
  };
  sudo_needed = sudo_needed;
  accessors = hide_tokens;
  folders = folders_listed;
}
