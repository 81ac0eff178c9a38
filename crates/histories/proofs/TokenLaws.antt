-- The laws of who makes which token, how long it lives, and whose each lease is.
use Rattle.std.proofs.Common.{◌≡◌, ◌≢◌, ◌≤◌, ◌⊎◌, ◌+◌, ◌-◌, ◌==◌, ◌||◌, ◌∷◌, if◌then◌else◌, ◌&&◌}
use Rattle.broker_model.specs.Words.{min-le_left, min-le_right, one_entry, WasBefore, root_token, IsGranted}
use Rattle.broker_model.specs.Words.{no_more_policies, root_is_own, use_limit}
use Rattle.leases.specs.Leases as leases
use Rattle.histories.specs.Words.{ℕ, List, [], codes, Bool, true, false, min, not, Option, Some, None, is_none, zero}
use Rattle.histories.specs.Words.{suc, max, option_and_then, list_all, list_any, refl, sym, ◌∙◌, ap, subst, inl, inr}
use Rattle.histories.specs.Words.{arith, false≢true, and_parts, eqb-true, false_from_ne_true, or_cases, or_right}
use Rattle.histories.specs.Words.{none-some, same_Some, longest_ttl, Map, get, is_nothing, mapped_none, Text, same}
use Rattle.histories.specs.Words.{same_self, same_true, Token, Lease, no_entry, Broker, lease_of, id, token_text}
use Rattle.histories.specs.Words.{alive_is, has, token_entry, grants, AllThatIsGranted, OnlyWhatIsGranted}
use Rattle.histories.specs.Words.{RootMayDoAll, is_root, Sudo, TokenCreation, allowed, asked_time, asked_ttl}
use Rattle.histories.specs.Words.{has_no_end, have_root, is_privileged, makes_orphans, making_path, new_parent}
use Rattle.histories.specs.Words.{new_policies, new_token, or_longest, new_end, prolonged_end, chained}
use Rattle.histories.specs.Words.{OperationsDoAsTold, Verb, Making, OfCaller, WithoutParent, HasRoot, HasSudo}
use Rattle.histories.specs.Words.{IsWithin, MightMake, AreAsked, AskedAt, Asking, History, clocked, Beginning, IsAsked}
use Rattle.histories.specs.Words.{begun, EndsInTime, AllEndInTime, EndInTimeAt, with_changed, CreatesAtPath, path_of}
use Rattle.histories.specs.Words.{IsIssuedTo, AllLeasesAreOfCallers, AllTokensEndInTime, TokensEndInTimeSinceStart, Ok}
use Rattle.histories.specs.Words.{option_map, option_map_or, put, get-map_values, get-put_self, is_under, Names}
use Rattle.histories.specs.Words.{names_of, Done, no_ok, is_spent, status_code, Tokens, credential_object, lease_reply}
use Rattle.histories.specs.Words.{reply_text, command_of, on_issued, step, Place, Status, IssuedCommand, spent_by}
use Rattle.histories.specs.Words.{GivesLease, has_no_use}
use Rattle.histories.proofs.Clients.{from_clock, Course, course}
use Rattle.histories.proofs.Created.{has_no_end_, has_policies, lasts}
use Rattle.histories.proofs.Descent.{Makes, follows}
use Rattle.histories.proofs.Requests.{asked_at}
use Rattle.histories.proofs.LeaseChanges.{DidIssue, did_issue, issued_at, issued_to}
use Rattle.histories.proofs.Order.{tells_body, served}
use Rattle.histories.proofs.ServedFor.{ServedFor, served_for, tokens_left}

-- ---- what a 200 to `creds` gave its client token

module _ (told : OperationsDoAsTold) (a : Asking) (is : a.outcome ≡ step a.broker a.moment a.words a.ask) (p : Place)
    (means : command_of (clocked a).mounts a.ask ≡ Ok (on_issued p IssuedCommand.Issue))
    (success : a.outcome.response.status ≡ Status.Success) where
  s : ServedFor a (on_issued p IssuedCommand.Issue)
  s = served_for a (served a is (omega (arith, ap status_code success))) (on_issued p IssuedCommand.Issue) means
      (λ b names d e. no_ok e)

  abbrev c : Text
  c = s.caller

  abbrev b : Broker
  b = spent_by a s.caller

  abbrev names : Names
  names = names_of a.words

  abbrev d : Done
  d = s.it.done

  i : DidIssue a s.caller p s.it.done
  i = did_issue a s.caller p s.it.done s.acted

  -- the caller, with the lease
  abbrev holder : Token
  holder = leases.with_leases (put s.own.leases i.made.lease_id i.made.lease) s.own

  holds : get d.next.tokens c ≡ Some holder
  holds =
      let with_it : Bool → Token → Token =
      λ v x. leases.with_leases (if v then put x.leases i.made.lease_id i.made.lease else x.leases) x in
      ap (λ (ts : Tokens). get ts c) i.next
      ∙ get-map_values (λ t. with_it (same t c)) b.tokens c
      ∙ ap (option_map (with_it (same c c))) s.there
      ∙ ap (λ v. Some (with_it v s.own)) (same_self c)

  -- this was not its last use
  has_use : has_no_use d.next.tokens c ≡ false
  has_use =
      ap (λ (o : Option Token). option_map_or is_spent o false) holds
      ∙ ap (λ (o : Option Token). option_map_or is_spent o false) (sym s.there) ∙ i.lasts

  stays : get a.outcome.next.tokens c ≡ Some holder
  stays =
      tokens_left a s.it c c s.is_caller
      ∙ ap (λ v. if v && is_under d.next.tokens c c then None else get d.next.tokens c) has_use
      ∙ holds

  pub gives_lease : GivesLease a p
  gives_lease = record {
    caller = c;
    lease_id = i.made.lease_id;
    lease = i.made.lease;
    there = ap (option_and_then (λ (x : Token). get x.leases i.made.lease_id)) stays
        ∙ get-put_self s.own.leases i.made.lease_id i.made.lease;
    issued = issued_to a c p d i s.client means success s.own s.there;
    place = issued_at a c p d i s.client means success s.own s.there;
    told = sym (tells_body told a s.it _ None i.answered).0
        ∙ ap (λ u. reply_text (lease_reply names.request i.made.lease_id i.made.lease.ttl
        (Some (credential_object u)))) (sym i.credential);
  }

-- ---- privileges

pub path_is : (making : Making) → making_path making ≡ path_of making
path_is OfCaller = refl
path_is WithoutParent = refl

any_root : (names : List Text) → list_any is_root names ≡ true → has names (codes "root") ≡ true
any_root [] e = absurd (false≢true e)
any_root (name ∷ names) e = elim (or_cases (same name (codes "root")) (list_any is_root names) e) [
  | inl here ↦ ap (λ v. v || has names (codes "root"))
      (subst (λ u. same (codes "root") u ≡ true) (sym (same_true name (codes "root") here)) (same_self (codes "root")))
  | inr later ↦ or_right (same (codes "root") name) (has names (codes "root")) (any_root names later)
]

-- what is granted, is so to `root`, or by what policies say
root_or_granted : OnlyWhatIsGranted → (policies : Map Text) (names : List Text) (path : Text)
    → grants policies names Verb.Write path Sudo ≡ true
    → (has names (codes "root") ≡ true) ⊎ IsGranted policies names Verb.Write path Sudo
root_or_granted only policies names path granted =
    elim (list_any is_root names) as
    (λ v. list_any is_root names ≡ v → (has names (codes "root") ≡ true)
    ⊎ IsGranted policies names Verb.Write path Sudo) [
      | true ↦ λ root. inl (any_root names root)
      | false ↦ λ none. inr (only policies names Verb.Write path Sudo none granted)
    ] refl

-- without privileges, a token is its maker's child, but on the path that makes none
child : (c : Text) (making : Making) (asked : TokenCreation) → (makes_orphans making || not asked.no_parent) ≡ true
    → (new_parent c making asked ≡ Some c) ⊎ (making ≡ WithoutParent)
child c WithoutParent asked h = inr refl
child c OfCaller asked h = inl (by asked.no_parent h)
  where
    by : (v : Bool) → not v ≡ true → (if v then None else Some c) ≡ Some c
    by true e = absurd (false≢true e)
    by false e = refl

-- ---- numbers

is_zero : (n : ℕ) → (n == 0) ≡ true → n ≡ 0
is_zero n e = eqb-true n 0 e

is_some_time : (n : ℕ) → n ≢ 0 → (n == 0) ≡ false
is_some_time n some = false_from_ne_true (n == 0) (λ e. some (is_zero n e))

not_zero : (n : ℕ) → n ≢ 0 → or_longest n ≡ n
not_zero n some = ap (λ v. if v then longest_ttl else n) (is_some_time n some)

-- no later than its own longest time, and than 32 days
within_own : (n : ℕ) → n ≢ 0 → min longest_ttl (or_longest n) ≤ n
within_own n some = subst (λ m. min longest_ttl (or_longest n) ≤ m) (not_zero n some)
    (min-le_right longest_ttl (or_longest n))

within_longest : (n : ℕ) → min longest_ttl (or_longest n) ≤ 2764800
within_longest n = min-le_left longest_ttl (or_longest n)

-- the time that a periodic token is asked for is its period
periodic_time : (asked : TokenCreation) → asked.period ≢ 0 → asked_time asked ≡ asked.period
periodic_time asked some =
    ap (λ v. or_longest (if v then asked.ttl else asked.period)) (is_some_time asked.period some)
    ∙ not_zero asked.period some

-- where a choice is none, it was so chosen
chosen_none : {X : Type 0} (v : Bool) (x : X) → (if v then None else Some x) ≡ None → v ≡ true
chosen_none true x e = refl
chosen_none false x e = absurd (none-some x (sym e))

chosen_some : {X : Type 0} (v : Bool) (x y : X) → (if v then None else Some x) ≡ Some y → y ≡ x
chosen_some true x y e = absurd (none-some y e)
chosen_some false x y e = same_Some _ _ (sym e)

-- ---- who might make it

-- and what is granted, or is asked for by `root`, may be done
has_any_root : (names : List Text) → has names (codes "root") ≡ true → list_any is_root names ≡ true
has_any_root [] e = absurd (false≢true e)
has_any_root (name ∷ names) e = elim (or_cases (same (codes "root") name) (has names (codes "root")) e) [
  | inl here ↦ ap (λ v. v || list_any is_root names)
      (subst (λ u. same u (codes "root") ≡ true) (same_true (codes "root") name here) (same_self (codes "root")))
  | inr later ↦ or_right (same name (codes "root")) (list_any is_root names) (has_any_root names later)
]

pub granted_so : AllThatIsGranted → RootMayDoAll → (policies : Map Text) (names : List Text) (path : Text)
    → (has names (codes "root") ≡ true) ⊎ IsGranted policies names Verb.Write path Sudo
    → grants policies names Verb.Write path Sudo ≡ true
granted_so all root policies names path (inl is) = root policies names Verb.Write path Sudo (has_any_root names is)
granted_so all root policies names path (inr is) = all policies names Verb.Write path Sudo is

module _ (only : OnlyWhatIsGranted) (all : AllThatIsGranted) (root_all : RootMayDoAll) (creates : CreatesAtPath)
    (a : Asking) (q : Text) (y : Token) (m : Makes a q y) where
  abbrev privileged : Bool
  privileged = is_privileged (clocked a) (making_path m.made.making) m.own

  pub might : MightMake a q y
  might =
      let asked = m.made.asked in
      let chosen = new_policies privileged m.own asked in
      let from = from_clock a m.made.caller m.made.client m.made.caller m.own m.there in
      let own = from.earlier in
      let rules = allowed privileged m.made.making m.own chosen asked tt m.might in
      let same_policies : m.own.policies ≡ own.policies = ap (λ (z : Token). z.policies) from.rest in
      let are_chosen : y.policies ≡ chosen = ap (λ (z : Token). z.policies) m.is in
      let granted : privileged ≡ true → HasRoot own ⊎ HasSudo (clocked a) own (path_of m.made.making) = λ is.
      root_or_granted only (clocked a).policies own.policies (path_of m.made.making)
      (ap (λ ps. grants (clocked a).policies ps Verb.Write (path_of m.made.making) Sudo) (sym same_policies)
      ∙ ap (λ p. grants (clocked a).policies m.own.policies Verb.Write p Sudo) (sym (path_is m.made.making)) ∙ is) in
      let within : privileged ≡ false → IsWithin m.made.caller m.made.making own y = λ not_. record {
        policies = λ p h.
            ap (λ ps. has ps p) (sym same_policies)
            ∙ no_more_policies m.own asked (ap (λ v. v || list_all (has m.own.policies) asked.policies) (sym not_)
            ∙ rules.had) p
            (ap (λ v. has (new_policies v m.own asked) p) (sym not_) ∙ ap (λ ps. has ps p) (sym are_chosen) ∙ h);
        period = ap (λ (z : Token). z.period) m.is
            ∙ ap (λ n. min n longest_ttl) (is_zero asked.period
            (ap (λ v. v || asked.period == 0) (sym not_) ∙ rules.period));
        parent = elim (child m.made.caller m.made.making asked
            (ap (λ v. v || (makes_orphans m.made.making || not asked.no_parent)) (sym not_) ∙ rules.parted)) [
              | inl its ↦ inl (ap (λ (z : Token). z.parent) m.is ∙ its)
              | inr alone ↦ inr alone
            ];
      } in
      record {
        made = m.made;
        own = own;
        there = from.there;
        unlimited = mapped_none (λ n. n - 1) own.uses_left (sym (from.uses m.made.client) ∙ rules.unlimited);
        allowed = elim privileged as (λ v. privileged ≡ v → HasRoot own
            ⊎ (HasSudo (clocked a) own (path_of m.made.making) ⊎ IsWithin m.made.caller m.made.making own y)) [
              | true ↦ λ is. elim (granted is) [ inl root ↦ inl root | inr sudo ↦ inr (inl sudo) ]
              | false ↦ λ not_. inr (inr (within not_))
            ] refl;
        path = λ bytes. creates (clocked a).mounts a.ask m.made.making asked bytes m.made.means;
        root = λ h.
            ap (λ ps. has ps (codes "root")) (sym same_policies)
            ∙ root_is_own privileged m.own asked rules.root (ap (λ ps. has ps (codes "root")) (sym are_chosen) ∙ h);
        endless = λ none.
            let endless = chosen_none (has_no_end chosen asked) ((clocked a).clock + asked_ttl asked)
            (sym (ap (λ (z : Token). z.ends) m.is) ∙ none) in
            ap (λ (z : Token). z.ends) (sym from.rest) ∙ elim
            (or_cases (is_none m.own.ends) (not (has_no_end chosen asked)) rules.ends) [
              | inl none ↦ is_nothing m.own.ends none
              | inr some ↦ absurd (false≢true (sym (ap not endless) ∙ some))
            ];
        issued = ap (λ (z : Token). z.issued) m.is;
        uses = λ some.
            ap (λ (z : Token). z.uses_left) m.is
            ∙ ap (λ v. if v then None else Some asked.num_uses) (is_some_time asked.num_uses some);
        no_limit = λ none. ap (λ (z : Token). z.uses_left) m.is ∙ ap use_limit none;
        longest = ap (λ (z : Token). z.explicit_max_ttl) m.is;
        period = ap (λ (z : Token). z.period) m.is;
        lasts = lasts (clocked a).clock chosen asked y (ap (λ (z : Token). z.ends) m.is)
            (ap (λ (z : Token). z.ttl) m.is) are_chosen;
        no_end = has_no_end_ (clocked a).clock chosen asked y (ap (λ (z : Token). z.ends) m.is)
            (ap (λ (z : Token). z.ttl) m.is) are_chosen;
        policies = has_policies privileged own asked (HasRoot own ⊎ HasSudo (clocked a) own (path_of m.made.making))
            (λ p. ap (λ u. grants (clocked a).policies m.own.policies Verb.Write u Sudo) (path_is m.made.making)
            ∙ ap (λ ps. grants (clocked a).policies ps Verb.Write (path_of m.made.making) Sudo) same_policies
            ∙ granted_so all root_all (clocked a).policies own.policies (path_of m.made.making) p)
            granted y (are_chosen ∙ ap (λ (z : Token). new_policies privileged z asked) from.rest);
        meta = ap (λ (z : Token). z.meta) m.is;
      }

-- ---- when it ends

-- a new token ends in time
pub new_in_time : (now : ℕ) (parent : Option Text) (accessor : Text) (policies : List Text) (asked : TokenCreation)
    → EndsInTime now (new_token now parent accessor policies asked)
new_in_time now parent accessor policies asked =
    let endless = has_no_end policies asked in
    let bound = min longest_ttl (or_longest asked.explicit_max_ttl) in
    let time : asked_ttl asked ≤ asked_time asked = min-le_left (asked_time asked) bound in
    let near : asked_ttl asked ≤ bound = min-le_right (asked_time asked) bound in
    record {
      endless = λ none.
          let is = and_parts (have_root policies) _ (chosen_none endless (now + asked_ttl asked) none) in
          let zeros = and_parts (asked.ttl == 0) _ is.1 in
          let both = and_parts (asked.explicit_max_ttl == 0) (asked.period == 0) zeros.1 in
          record {
            root = is.0;
            no_longest = is_zero asked.explicit_max_ttl both.0;
            no_period = ap (λ n. min n longest_ttl) (is_zero asked.period both.1);
          };
      own = λ end some longest.
          omega (
            arith,
            chosen_some endless
                (now + asked_ttl asked) end some,
            near,
            within_own asked.explicit_max_ttl longest,
          );
      longest = λ end some _.
          omega (
            arith,
            chosen_some endless
                (now + asked_ttl asked) end some,
            near,
            within_longest asked.explicit_max_ttl,
          );
      periodic = λ end some period.
          let asked_for : asked_time asked ≡ asked.period =
          periodic_time asked (λ none. period (ap (λ n. min n longest_ttl) none)) in
          omega (
            arith,
            chosen_some endless (now + asked_ttl asked) end some,
            time,
            asked_for,
            near,
            within_longest asked.explicit_max_ttl,
          );
    }

module _ (now : ℕ) (x : Token) (increment : ℕ) where
  abbrev end_ : ℕ
  end_ = new_end now (token_entry x) increment

  abbrev bound : ℕ
  bound = min longest_ttl (or_longest x.explicit_max_ttl)

  prolonged_near : prolonged_end now (token_entry x) increment ≤ x.issued + bound
  prolonged_near = min-le_right (now + (if increment == 0 then x.ttl else increment)) (x.issued + bound)

  -- of a periodic token, with its own longest time or without, and of any
  abbrev periodic : Bool → ℕ
  periodic v = if v then now + x.period else min (now + x.period) (x.issued + x.explicit_max_ttl)

  abbrev renewed_to : Bool → ℕ
  renewed_to v = if v then prolonged_end now (token_entry x) increment else periodic (x.explicit_max_ttl == 0)

  by_own : x.explicit_max_ttl ≢ 0 → end_ ≤ x.issued + x.explicit_max_ttl
  by_own some = elim (x.period == 0) as (λ v. renewed_to v ≤ x.issued + x.explicit_max_ttl) [
    | true ↦ omega (arith, prolonged_near, within_own x.explicit_max_ttl some)
    | false ↦ subst (λ v. periodic v ≤ x.issued + x.explicit_max_ttl) (sym (is_some_time x.explicit_max_ttl some))
        (min-le_right (now + x.period) (x.issued + x.explicit_max_ttl))
  ]

  by_longest : x.period ≡ 0 → end_ ≤ x.issued + 2764800
  by_longest none = subst (λ v. renewed_to v ≤ x.issued + 2764800) (sym (ap (λ n. n == 0) none))
      (omega (arith, prolonged_near, within_longest x.explicit_max_ttl))

  by_period : x.period ≢ 0 → end_ ≤ now + x.period
  by_period some = subst (λ v. renewed_to v ≤ now + x.period) (sym (is_some_time x.period some))
      (elim (x.explicit_max_ttl == 0) as (λ v. periodic v ≤ now + x.period) [
        | true ↦ omega (arith)
        | false ↦ min-le_left (now + x.period) (x.issued + x.explicit_max_ttl)
      ])

-- a token that stays, or is renewed, ends in time
pub stood_in_time : (now : ℕ) (x y : Token) → y ≡ with_changed y x
    → (y.ends ≡ x.ends) ⊎ ((increment : ℕ) × (y.ends ≡ Some (new_end now (token_entry x) increment)))
    → EndsInTime now x → EndsInTime now y
stood_in_time now x y rest ends h = subst (EndsInTime now) (sym rest) (elim ends [
  | inl same_ ↦ record {
    endless = λ none.
        let may = h.endless (sym same_ ∙ none) in
        record { root = may.root; no_longest = may.no_longest; no_period = may.no_period };
    own = λ end some. h.own end (sym same_ ∙ some);
    longest = λ end some. h.longest end (sym same_ ∙ some);
    periodic = λ end some. h.periodic end (sym same_ ∙ some);
  }
  | inr (increment, is) ↦
      let at : (end : ℕ) → y.ends ≡ Some end → new_end now (token_entry x) increment ≡ end = λ end some. same_Some _ _
      (sym is ∙ some) in
      record {
        endless = λ none. absurd (none-some _ (sym none ∙ is));
        own = λ end some longest. subst (λ n. n ≤ x.issued + x.explicit_max_ttl) (at end some)
            (by_own now x increment longest);
        longest = λ end some none. subst (λ n. n ≤ x.issued + 2764800) (at end some) (by_longest now x increment none);
        periodic = λ end some period. subst (λ n. n ≤ now + x.period) (at end some) (by_period now x increment period);
      }
])

module _ (told : OperationsDoAsTold) where
  -- the course of what was asked of a sound broker
  pub asked_course : (b : Broker) (a : Asking) → IsAsked b a → Course a
  asked_course b a is =
      let own = subst (λ c. IsAsked c a) (sym is.broker) is in course told a own.sound own.outcome

  -- ---- whose each lease is

  each_of_caller : (b : Broker) (history : History) → AreAsked b history → (i : ℕ) (a : Asking) (q lease_id : Text)
      (l : Lease) → AskedAt history i a → lease_of a.outcome.next q lease_id ≡ Some l
      → WasBefore (clocked a) q lease_id l ⊎ IsIssuedTo a q lease_id l
  each_of_caller b history h i a q lease_id l at is =
      let y = chained (λ (x : Token). get x.leases lease_id) (get a.outcome.next.tokens q) l is in
      elim (follows a (asked_course a.broker a (asked_at b history i a h at)) q y.0 y.1) [
        | inl s ↦
            let was = s.stands.was in
            let there = ap (option_and_then (λ (x : Token). get x.leases lease_id)) was.there in
            elim (s.stands.leases lease_id) [
              | inl same_ ↦ inl (l, there ∙ sym same_ ∙ y.2, refl)
              | inr r ↦ elim r [
                | inl renewed ↦ inl (
                  renewed.earlier,
                  there ∙ renewed.there,
                  ap (λ (k : Lease). k.credential) (sym renewed.rest ∙ same_Some _ _ (sym renewed.is ∙ y.2)),
                )
                | inr new ↦ elim new [
                  | inl (k, here, issued) ↦ inr
                      (subst (IsIssuedTo a q lease_id) (same_Some _ _ (sym here ∙ y.2)) issued)
                  | inr (none, revokes) ↦ absurd (none-some _ (sym none ∙ y.2))
                ]
              ]
            ]
        | inr m ↦ absurd (no_entry lease_id l (ap (λ (z : Token). get z.leases lease_id) (sym m.is) ∙ y.2))
      ]

  pub leases_are_of_callers : AllLeasesAreOfCallers
  leases_are_of_callers b history h = record {
    each = λ i a q lease_id l at is. each_of_caller b history h i a q lease_id l at is;
    given = λ i a p at means success. gives_lease told a (asked_at b history i a h at).outcome p means success;
  }

  -- ---- how long a token lives

  -- what has not come to its end by a clock ends in time
  then_in_time : (a : Asking) → AllEndInTime a.broker → AllEndInTime (clocked a)
  then_in_time a h q y there =
      let now = max a.broker.clock a.moment in
      let x = alive_is now a.broker.tokens q y there in
      let was = h q x.0 x.1 in
      subst (EndsInTime now) (sym x.3) (record {
        endless = λ none.
            let may = was.endless none in
            record { root = may.root; no_longest = may.no_longest; no_period = may.no_period };
        own = was.own;
        longest = was.longest;
        periodic = λ end some period. omega (arith, was.periodic end some period);
      })

  event_in_time : (a : Asking) → Course a → AllEndInTime a.broker → EndInTimeAt a
  event_in_time a went h =
      let held = then_in_time a h in
      record {
        before = h;
        at_clock = held;
        after = λ q y there. subst (λ clock. EndsInTime clock y) (sym went.clock) (elim (follows a went q y there) [
          | inl s ↦
              let was = s.stands.was in
              stood_in_time (clocked a).clock was.earlier y s.stands.rest s.ends (held q was.earlier was.there)
          | inr m ↦ subst (EndsInTime (clocked a).clock) (sym m.is) (new_in_time (clocked a).clock _ _ _ m.made.asked)
        ]);
      }

  pub end_in_time : AllTokensEndInTime
  end_in_time b [] h start i a at = absurd (none-some _ at)
  end_in_time b (None ∷ later) h start zero a at = absurd (none-some _ at)
  end_in_time b (None ∷ later) h start (suc i) a at = end_in_time b later h start i a at
  end_in_time b (Some x ∷ later) (is, h) start zero a at =
      subst EndInTimeAt (same_Some _ _ at) (event_in_time x (asked_course b x is)
      (subst AllEndInTime (sym is.broker) start))
  end_in_time b (Some x ∷ later) (is, h) start (suc i) a at =
      end_in_time x.outcome.next later h
      (event_in_time x (asked_course b x is) (subst AllEndInTime (sym is.broker) start)).after i a at

  -- the first token ends in time
  has_root : has (codes "root" ∷ []) (codes "root") ≡ true
  unfolding same
  has_root = refl

  first_in_time : (s : Beginning) → AllEndInTime (begun s)
  first_in_time s q x there =
      let is = one_entry (token_text (id s.token_word)) q (root_token s.moment (id s.accessor_word)) x there in
      subst (EndsInTime s.moment) (sym is.1) (record {
        endless = λ none. record { root = has_root; no_longest = refl; no_period = refl };
        own = λ end some. absurd (none-some end some);
        longest = λ end some. absurd (none-some end some);
        periodic = λ end some. absurd (none-some end some);
      })

  pub end_in_time_since_start : TokensEndInTimeSinceStart
  end_in_time_since_start s history h = end_in_time (begun s) history h (first_in_time s)
