-- What becomes of each token by a request, with its cubbyhole and its leases, and which token it makes.
use Rattle.std.proofs.Common.{◌≡◌, ◌⊎◌, if◌then◌else◌, ◌≢◌}
use Rattle.broker_model.specs.Traits.{revoke}
use Rattle.histories.specs.Words.{edited, with_cubbyhole, with_end, create, renew_token, revoke_alone, revoke_token, ℕ}
use Rattle.histories.specs.Words.{Bool, true, false, not, cond, is_some, Option, Some, Ok, None, option_map}
use Rattle.histories.specs.Words.{option_and_then, ⊤, refl, sym, ◌∙◌, ap, subst, inl, inr, false≢true, none-some}
use Rattle.histories.specs.Words.{same_Some, Text, same, same_self, same_true, Map, get, put, without, get-change}
use Rattle.histories.specs.Words.{get-map_values, get-put, get-without, Broker, names_of, Names, Response, nothing}
use Rattle.histories.specs.Words.{Done, some_or, unless, ok_step, unless_ok, Token, Tokens, Lease, is_under}
use Rattle.histories.specs.Words.{orphaned_by, get-revoke, token_text, Sound, is_there, ok_inj, token_entry}
use Rattle.histories.specs.Words.{TokenCreation, Command, on_cubbyhole, on_issued, on_lease, on_mount, on_policy}
use Rattle.histories.specs.Words.{on_secret, on_token, on_wrapping, traits, step, may_change, stay, Fate, Named, make}
use Rattle.histories.specs.Words.{orphan, renew, text_named, cubbyhole_changes, issued_changes, lease_changes}
use Rattle.histories.specs.Words.{mount_changes, token_fate, Both, IsFated, Stay, StaysAt, is_privileged, making_path}
use Rattle.histories.specs.Words.{may_make, new_parent, new_policies, new_token, known, new_end, forms}
use Rattle.histories.specs.Words.{OperationsDoAsTold, Refusal, Reason, Kind, CubbyholeCommand, IssuedCommand}
use Rattle.histories.specs.Words.{LeaseCommand, MountCommand, TokenCommand, Making, OfCaller, WithoutParent, Asking}
use Rattle.histories.specs.Words.{clocked, spent_by, EditsCubbyhole, Edits, IsRevoked, LeaseBecomes, RenewalOf}
use Rattle.histories.specs.Words.{RenewsToken, TokenStands, IsRenewedTo, increment_of, with_changed, IsClient, IsMade}
use Rattle.histories.specs.Words.{IsOrphaned, orphaning_by, parent_asked, WasToken, IsGranted, RevokesAlone}
use Rattle.histories.specs.Words.{left_by_caller, revoked_by}
use Rattle.histories.proofs.Clients.{CarriesOut, from_clock, Course, FromClock, course, from_itself, left_is}
use Rattle.histories.proofs.Clients.{left_unspent}
use Rattle.histories.proofs.LeaseChanges.{edited_is, leases_left, policies_neither, responses_neither, secrets_neither}
use Rattle.histories.proofs.LeaseChanges.{tokens_neither}
use Rattle.histories.proofs.OrderCases.{some_ok}
use Rattle.histories.proofs.RenewedEnds.{is_new_end}

-- those that change no cubbyhole
leases_no_cubbyhole : (k : LeaseCommand) → may_change (lease_changes k) Kind.Cubby ≡ false
leases_no_cubbyhole (LeaseCommand.LookUp id) = refl
leases_no_cubbyhole _ = refl

mounts_no_cubbyhole : (k : MountCommand) → may_change (mount_changes k) Kind.Cubby ≡ false
mounts_no_cubbyhole MountCommand.List = refl
mounts_no_cubbyhole _ = refl

issued_no_cubbyhole : (k : IssuedCommand) → may_change (issued_changes k) Kind.Cubby ≡ false
issued_no_cubbyhole IssuedCommand.ShowRole = refl
issued_no_cubbyhole _ = refl

-- ---- its cubbyhole

module _ (a : Asking) (c : Text) (q : Text) (x y : Token) (was : get (spent_by a c).tokens q ≡ Some x) (d : Done)
    (is : get d.next.tokens q ≡ Some y) where
  module _ (path : Text) where
    abbrev AtPath : Type 0
    AtPath = (get y.cubbyhole path ≡ get x.cubbyhole path) ⊎ EditsCubbyhole a q path (get y.cubbyhole path)

    -- an edit at a path changes no other
    edited_at : (p : Text) (k : CubbyholeCommand) → CarriesOut a c (on_cubbyhole p k) d
        → IsClient a q → d.answered ≡ nothing → (edit : Map Text → Map Text) (new : Option Text) → Edits new k
        → d.next.tokens ≡ (edited (spent_by a c) c edit).tokens
        → ((m : Map Text) → get (edit m) path ≡ cond (same path p) new (get m path)) → AtPath
    edited_at p k s client answered edit new edits next at_each =
        at_path (same path p) refl
        (ap (λ (z : Token). get z.cubbyhole path)
        (edited_is a c q x y was d is (λ u z. if same u c then with_cubbyhole edit z else z) next
        ∙ ap (λ u. if same u c then with_cubbyhole edit x else x)
        (same_Some _ _ (sym client.token ∙ s.client.token))
        ∙ ap (λ v. if v then with_cubbyhole edit x else x) (same_self c))
        ∙ at_each x.cubbyhole)
      where
        at_path : (v : Bool) → same path p ≡ v → get y.cubbyhole path ≡ cond (same path p) new (get x.cubbyhole path)
            → AtPath
        at_path true at e = inr (record {
          client = client;
          command = k;
          means = s.means ∙ ap (λ u. Ok (on_cubbyhole u k)) (sym (same_true path p at));
          edits = subst (λ (o : Option Text). Edits o k)
              (sym (e ∙ ap (λ v. cond v new (get x.cubbyhole path)) at)) edits;
          answered = ap (λ (r : Response). r.status) (s.is_204 answered);
        })
        at_path false apart e = inl (e ∙ ap (λ v. cond v new (get x.cubbyhole path)) apart)

    at_cubbyhole : (p : Text) (k : CubbyholeCommand) → CarriesOut a c (on_cubbyhole p k) d
        → IsClient a q → may_change (cubbyhole_changes k) Kind.Cubby ≡ true → AtPath
    at_cubbyhole p (CubbyholeCommand.Write full) s client may =
        let text = ok_step (some_or (Refusal.BadRequest Reason.MissingData) full) _ d s.acted in
        edited_at p (CubbyholeCommand.Write full) s client (ap (λ (z : Done). z.answered) (sym (ok_inj text.2)))
        (λ m. put m p text.0) (Some text.0) (sym (some_ok _ full text.1))
        (ap (λ (z : Done). z.next.tokens) (sym (ok_inj text.2)))
        (λ m. get-put m p text.0 path)
    at_cubbyhole p CubbyholeCommand.Delete s client may =
        edited_at p CubbyholeCommand.Delete s client (ap (λ (z : Done). z.answered) (sym (ok_inj s.acted)))
        (λ m. without m p) None refl (ap (λ (z : Done). z.next.tokens) (sym (ok_inj s.acted)))
        (λ m. get-without m p path)
    at_cubbyhole p _ s client may = absurd (false≢true may)

    -- what may change a cubbyhole, changes it at its own path alone
    pub cubbyhole_left : (command : Command) → CarriesOut a c command d → IsClient a q
        → (traits command).fate ≡ stay → may_change (traits command).changes Kind.Cubby ≡ true → AtPath
    cubbyhole_left (on_cubbyhole p k) s client fate may = at_cubbyhole p k s client may
    cubbyhole_left (on_token k) s client fate may = absurd (false≢true (sym (tokens_neither k fate).0 ∙ may))
    cubbyhole_left (on_secret p k) s client fate may = absurd (false≢true (sym (secrets_neither k).0 ∙ may))
    cubbyhole_left (on_policy name k) s client fate may = absurd (false≢true (sym (policies_neither k).0 ∙ may))
    cubbyhole_left (on_mount name k) s client fate may = absurd (false≢true (sym (mounts_no_cubbyhole k) ∙ may))
    cubbyhole_left (on_lease prefix k) s client fate may = absurd (false≢true (sym (leases_no_cubbyhole k) ∙ may))
    cubbyhole_left (on_issued p k) s client fate may = absurd (false≢true (sym (issued_no_cubbyhole k) ∙ may))
    cubbyhole_left (on_wrapping k) s client fate may = absurd (false≢true (sym (responses_neither k).0 ∙ may))

-- ---- which commands make, renew and revoke

-- whose child a new token is
pub parent_is : (c : Text) (making : Making) (asked : TokenCreation)
    → new_parent c making asked ≡ parent_asked c making asked
parent_is c OfCaller asked = refl
parent_is c WithoutParent asked = refl

creation_of : (k : TokenCommand) (making : Making) (asked : TokenCreation) → token_fate k ≡ make making asked
    → k ≡ TokenCommand.Create making asked
creation_of (TokenCommand.Create m x) making asked e = cc
creation_of _ making asked e = absurd (cc)

creation_is : (command : Command) (making : Making) (asked : TokenCreation) → (traits command).fate ≡ make making asked
    → command ≡ on_token (TokenCommand.Create making asked)
creation_is (on_token k) making asked e = ap on_token (creation_of k making asked e)
creation_is _ making asked e = absurd (cc)

same_renewed : {x y : Named} {n m : ℕ} → renew x n ≡ renew y m → x ≡ y
same_renewed e = cc

same_increment : {x y : Named} {n m : ℕ} → renew x n ≡ renew y m → m ≡ n
same_increment e = cc

-- and for how long
increment_is : (k : TokenCommand) (named : Named) (increment : ℕ) → token_fate k ≡ renew named increment
    → increment ≡ increment_of k
increment_is (TokenCommand.Renew asked) named increment e = same_increment e
increment_is (TokenCommand.RenewSelf n) named increment e = same_increment e
increment_is _ named increment e = absurd (cc)

same_revoked : {x y : Named} → revoke x ≡ revoke y → x ≡ y
same_revoked e = cc

-- where the caller names t
module _ (b : Broker) (c t : Text) (named : Named) (is : text_named b c named ≡ Some t) where
  renewal_of : (k : TokenCommand) (increment : ℕ) → token_fate k ≡ renew named increment → RenewalOf c t k
  renewal_of (TokenCommand.Renew asked) increment e = same_Some _ _ (ap (text_named b c) (same_renewed e) ∙ is)
  renewal_of (TokenCommand.RenewSelf n) increment e = same_Some _ _ (ap (text_named b c) (same_renewed e) ∙ is)
  renewal_of _ increment e = absurd (cc)

  renewal_is : (command : Command) (increment : ℕ) → (traits command).fate ≡ renew named increment
      → (k : TokenCommand) × (command ≡ on_token k) × RenewalOf c t k × (increment ≡ increment_of k)
  renewal_is (on_token k) increment e = (k, refl, renewal_of k increment e, increment_is k named increment e)
  renewal_is _ increment e = absurd (cc)

  revocation_of : (k : TokenCommand) → token_fate k ≡ revoke named → revoked_by b c (on_token k) ≡ Some t
  revocation_of (TokenCommand.Revoke u) e = ap (text_named b c) (same_revoked e) ∙ is
  revocation_of (TokenCommand.RevokeAccessor accessor) e = ap (text_named b c) (same_revoked e) ∙ is
  revocation_of TokenCommand.RevokeSelf e = ap (text_named b c) (same_revoked e) ∙ is
  revocation_of _ e = absurd (cc)

  revocation_is : (command : Command) → (traits command).fate ≡ revoke named → revoked_by b c command ≡ Some t
  revocation_is (on_token k) e = revocation_of k e
  revocation_is _ e = absurd (cc)

orphaning_of : (k : TokenCommand) (t : Text) → token_fate k ≡ orphan t → orphaning_by (on_token k) ≡ Some t
orphaning_of (TokenCommand.RevokeOrphan u) t e = cc
orphaning_of _ t e = absurd (cc)

orphaning_is : (command : Command) (t : Text) → (traits command).fate ≡ orphan t → orphaning_by command ≡ Some t
orphaning_is (on_token k) t e = orphaning_of k t e
orphaning_is _ t e = absurd (cc)

-- a parent is left, or it was t
parent_left : (t : Text) (o : Option Text)
    → (option_and_then (λ p. if same p t then None else Some p) o ≡ o)
    ⊎ ((o ≡ Some t) × (option_and_then (λ p. if same p t then None else Some p) o ≡ None))
parent_left t None = inl refl
parent_left t (Some r) =
    elim (same r t) as
    (λ v. same r t ≡ v → ((if v then None else Some r) ≡ Some r)
    ⊎ ((Some r ≡ Some t) × ((if v then None else Some r) ≡ None))) [
      | true ↦ λ at. inr (ap Some (same_true r t at), refl)
      | false ↦ λ _. inl refl
    ] refl

-- ---- what becomes of a token

-- the request renewed the token x at q, which had an end, and this is the new one
pub record HasNewEnd (a : Asking) (q : Text) (x : Token) (ends : Option ℕ) : Type 0 where
  pub renews : RenewsToken a q
  pub had : x.ends ≢ None
  pub is : ends ≡ Some (new_end (clocked a).clock (token_entry x) (increment_of renews.command))

-- it is as documented
pub renewed_to : (a : Asking) (q : Text) (x : Token) (ends : Option ℕ) → HasNewEnd a q x ends → IsRenewedTo a q x ends
renewed_to a q x ends h = record {
  renews = h.renews;
  had = h.had;
  end = new_end (clocked a).clock (token_entry x) (increment_of h.renews.command);
  is = h.is;
  in_time = is_new_end (clocked a).clock (increment_of h.renews.command) x;
}

-- the use that was spent before plays no part
pub before_use : (a : Asking) (q : Text) (x : Token) (uses : Option ℕ) (ends : Option ℕ)
    → HasNewEnd a q (record x { uses_left = uses }) ends → HasNewEnd a q x ends
before_use a q x uses ends h = record { renews = h.renews; had = h.had; is = h.is }

module _ (a : Asking) where
  -- y is what the operation of the request left of the token x at q
  pub record Became (q : Text) (x y : Token) : Type 0 where
    pub parent : (y.parent ≡ x.parent) ⊎ IsOrphaned a x y
    pub uses : y.uses_left ≡ x.uses_left
    pub ends : (y.ends ≡ x.ends) ⊎ HasNewEnd a q x y.ends
    pub cubbyhole : (path : Text)
        → (get y.cubbyhole path ≡ get x.cubbyhole path) ⊎ EditsCubbyhole a q path (get y.cubbyhole path)
    pub leases : (lease_id : Text) → LeaseBecomes a q lease_id (get x.leases lease_id) (get y.leases lease_id)
    pub rest : y ≡ with_changed y x

  -- nothing, but for its end or its parent
  became : (q : Text) (x : Token) (parent : Option Text) (ends : Option ℕ)
      → (parent ≡ x.parent) ⊎ IsOrphaned a x (record x { parent = parent; ends = ends })
      → (ends ≡ x.ends) ⊎ HasNewEnd a q x ends
      → Became q x (record x { parent = parent; ends = ends })
  became q x parent ends how_parent how_ends = record {
    parent = how_parent;
    uses = refl;
    ends = how_ends;
    cubbyhole = λ path. inl refl;
    leases = λ lease_id. inl refl;
    rest = refl;
  }

  pub became_itself : (q : Text) (x : Token) → Became q x x
  became_itself q x = became q x x.parent x.ends (inl refl) (inl refl)

  -- the request made the token y, and what its client token was, with the use that it spent, decided
  pub record Makes (q : Text) (y : Token) : Type 0 where
    pub made : IsMade a q y
    pub own : Token
    pub there : get (spent_by a made.caller).tokens made.caller ≡ Some own
    pub might : may_make (is_privileged (clocked a) (making_path made.making) own) made.making own
        (new_policies (is_privileged (clocked a) (making_path made.making) own) own made.asked) made.asked ≡ Ok tt
    pub is : y ≡ new_token (clocked a).clock (new_parent made.caller made.making made.asked) (names_of a.words).accessor
        (new_policies (is_privileged (clocked a) (making_path made.making) own) own made.asked) made.asked

  -- what may be after the operation, by what was before
  abbrev Fated : Text → Option Token → Option Token → Type 0
  Fated q None None = ⊤
  Fated q None (Some y) = Makes q y
  Fated q (Some x) None = IsRevoked a q
  Fated q (Some x) (Some y) = Became q x y ⊎ Makes q y

  fated_itself : (q : Text) (o : Option Token) → Fated q o o
  fated_itself q None = tt
  fated_itself q (Some x) = inl (became_itself q x)

  -- a token that is revoked
  fated_gone : (q : Text) → IsRevoked a q → (o : Option Token) → Fated q o None
  fated_gone q revoked None = tt
  fated_gone q revoked (Some x) = revoked

  fated_made : (q : Text) (y : Token) → Makes q y → (o : Option Token) → Fated q o (Some y)
  fated_made q y makes None = makes
  fated_made q y makes (Some x) = inr makes

  module _ (c : Text) (command : Command) (d : Done) (s : CarriesOut a c command d) (q : Text) where
    abbrev start : Broker
    start = spent_by a c

    abbrev names : Names
    names = names_of a.words

    abbrev Here : Type 0
    Here = Fated q (get start.tokens q) (get d.next.tokens q)

    -- it was granted, if it is a 204
    granted : d.answered ≡ nothing → IsGranted a c command
    granted answered =
        record { caller = s.client.token; closed = s.client.closed; means = s.means; response = s.is_204 answered }

    stays_so : (traits command).fate ≡ stay → Stay (traits command).changes (Some c) d.taken start d.next → Here
    stays_so fate stays = by (get start.tokens q) (get d.next.tokens q) refl refl (stays.tokens q)
      where
        by : (o n : Option Token) → get start.tokens q ≡ o → get d.next.tokens q ≡ n
            → Both (StaysAt (traits command).changes (Some c) q) o n → Fated q o n
        by None None was there both = tt
        by None (Some y) was there both = absurd both
        by (Some x) None was there both = absurd both
        by (Some x) (Some y) was there both = inl (record {
          parent = inl (ap (λ (z : Token). z.parent) both.rest);
          uses = ap (λ (z : Token). z.uses_left) both.rest;
          ends = inl (ap (λ (z : Token). z.ends) both.rest);
          cubbyhole = λ path. elim both.cubbyhole [
            | inl same_ ↦ inl (ap (λ (m : Map Text). get m path) same_)
            | inr (may, is_c) ↦
                cubbyhole_left a c q x y was d there path command s
                (subst (IsClient a) (same_Some _ _ is_c) s.client) fate may
          ];
          leases = λ lease_id. elim both.leases [
            | inl same_ ↦ inl (ap (λ (m : Map Lease). get m lease_id) same_)
            | inr may ↦ leases_left a c q x y was d there lease_id command s fate may
          ];
          rest = subst (λ (z : Token). z ≡ with_changed z x) (sym both.rest) refl;
        })

    created : (making : Making) (asked : TokenCreation) → command ≡ on_token (TokenCommand.Create making asked)
        → create start c names making asked ≡ Ok d → Here
    created making asked is_creation e =
        let x = ok_step (known start c) _ d e in
        let privileged = is_privileged start (making_path making) x.0 in
        let policies = new_policies privileged x.0 asked in
        let may = ok_step (may_make privileged making x.0 policies asked) _ d x.2 in
        let fresh = new_token start.clock (new_parent c making asked) names.accessor policies asked in
        subst (Fated q (get start.tokens q))
        (sym (get-put start.tokens (token_text names.token) fresh q)
        ∙ ap (λ (z : Done). get z.next.tokens q) (ok_inj may.2))
        (elim (same q (token_text names.token)) as
        (λ v. same q (token_text names.token) ≡ v → Fated q (get start.tokens q)
        (cond v (Some fresh) (get start.tokens q))) [
          | true ↦ λ at. fated_made q fresh (record {
            made = record {
              caller = c;
              client = s.client;
              making = making;
              asked = asked;
              means = s.means ∙ ap Ok is_creation;
              text = same_true q (token_text names.token) at;
              accessor = refl;
              parent = parent_is c making asked;
            };
            own = x.0;
            there = some_ok _ (get start.tokens c) x.1;
            might = may.1;
            is = refl;
          }) (get start.tokens q)
          | false ↦ λ _. fated_itself q (get start.tokens q)
        ] refl)

    renewed : (t : Text) (increment : ℕ)
        → ((k : TokenCommand) × (command ≡ on_token k) × RenewalOf c t k × (increment ≡ increment_of k))
        → renew_token start names t increment ≡ Ok d → Here
    renewed t increment k e =
        let x = ok_step (known start t) _ d e in
        let ending = ok_step (unless (is_some x.0.ends) (Refusal.BadRequest Reason.TokenNotRenewable)) _ d x.2 in
        let f = with_end (new_end start.clock (token_entry x.0) increment) in
        let answered = s.is_200 _ _ (ap (λ (z : Done). z.answered) (sym (ok_inj ending.2))) in
        let had = is_there x.0.ends (unless_ok _ _ ending.0 ending.1) in
        subst (Fated q (get start.tokens q))
        (sym (get-change start.tokens t f q) ∙ ap (λ (z : Done). get z.next.tokens q) (ok_inj ending.2))
        (elim (get start.tokens q) as
        (λ o. get start.tokens q ≡ o → Fated q o (option_map (λ (z : Token). if same q t then f z else z) o)) [
          | None ↦ λ _. tt
          | Some z ↦ λ there. elim (same q t) as (λ v. same q t ≡ v
              → Became q z (if v then f z else z) ⊎ Makes q (if v then f z else z)) [
                | true ↦ λ at.
                    let is_t : q ≡ t = same_true q t at in
                    let is_x : x.0 ≡ z = same_Some _ _ (sym (some_ok _ (get start.tokens t) x.1)
                    ∙ ap (get start.tokens) (sym is_t) ∙ there) in
                    inl (became q z z.parent (f z).ends (inl refl) (inr (record {
                      renews = record {
                        caller = c;
                        client = s.client;
                        command = k.0;
                        means = s.means ∙ ap Ok k.1;
                        names = subst (λ u. RenewalOf c u k.0) (sym is_t) k.2;
                        answered = answered;
                      };
                      had = λ none. none-some _ (sym none ∙ ap (λ (w : Token). w.ends) (sym is_x) ∙ had.1);
                      is = ap (λ (w : Token). Some (new_end start.clock (token_entry w) increment)) is_x
                          ∙ ap (λ n. Some (new_end start.clock (token_entry z) n)) k.3;
                    })))
                | false ↦ λ _. inl (became_itself q z)
              ] refl
        ] refl)

    revoked : (t : Text) → revoked_by start c command ≡ Some t → d ≡ revoke_token start t → Here
    revoked t text is =
        subst (Fated q (get start.tokens q)) (sym (get-revoke start.tokens t q)
        ∙ ap (λ (z : Done). get z.next.tokens q) (sym is))
        (elim (is_under start.tokens q t) as
        (λ v. is_under start.tokens q t ≡ v → Fated q (get start.tokens q) (cond (not v) (get start.tokens q) None)) [
          | true ↦ λ under. fated_gone q (record {
            caller = c;
            how = inl (
              t,
              record {
                command = command;
                granted = granted
                    (ap (λ (z : Done). z.answered) is);
                text = text;
              },
              under,
            );
          }) (get start.tokens q)
          | false ↦ λ _. fated_itself q (get start.tokens q)
        ] refl)

    orphaned : (t : Text) → orphaning_by command ≡ Some t → d ≡ revoke_alone start t → Here
    orphaned t text is =
        let alone : RevokesAlone a c t =
        record { command = command; granted = granted (ap (λ (z : Done). z.answered) is); text = text } in
        subst (Fated q (get start.tokens q))
        (sym (get-map_values (λ u. orphaned_by t) (without start.tokens t) q
        ∙ ap (option_map (orphaned_by t)) (get-without start.tokens t q))
        ∙ ap (λ (z : Done). get z.next.tokens q) (sym is))
        (elim (same q t) as
        (λ v. same q t ≡ v → Fated q (get start.tokens q)
        (option_map (orphaned_by t) (cond v None (get start.tokens q)))) [
          | true ↦ λ at. fated_gone q
              (record { caller = c; how = inr (subst (RevokesAlone a c) (sym (same_true q t at)) alone) })
              (get start.tokens q)
          | false ↦ λ _. elim (get start.tokens q) as (λ o. Fated q o (option_map (orphaned_by t) o)) [
            | None ↦ tt
            | Some x ↦ inl (became q x (orphaned_by t x).parent x.ends (elim (parent_left t x.parent) [
              | inl same_ ↦ inl same_
              | inr gone ↦ inr (record { caller = c; above = t; alone = alone; parent = gone.0; none = gone.1 })
            ]) (inl refl))
          ]
        ] refl)

    by_fate : (fate : Fate) → (traits command).fate ≡ fate
        → IsFated fate (traits command).changes start (Some c) names d → Here
    by_fate stay is stays = stays_so is stays
    by_fate (make making asked) is (u, is_u, e) =
        created making asked (creation_is command making asked is)
        (subst (λ v. create start v names making asked ≡ Ok d) (sym (same_Some _ _ is_u)) e)
    by_fate (renew named increment) is (u, t, is_u, named_, e) =
        renewed t increment (renewal_is start c t named
        (ap (λ v. text_named start v named) (same_Some _ _ is_u) ∙ named_) command increment is) e
    by_fate (revoke named) is (u, t, is_u, named_, e) =
        revoked t (revocation_is start c t named (ap (λ v. text_named start v named) (same_Some _ _ is_u)
        ∙ named_) command is) e
    by_fate (orphan t) is (u, is_u, e) = orphaned t (orphaning_is command t is) e

    fated : Here
    fated = by_fate (traits command).fate refl s.does.fated

    -- each token that is left was there, or was made
    pub leaves : (y : Token) → get d.next.tokens q ≡ Some y
        → ((x : Token) × (get start.tokens q ≡ Some x) × Became q x y) ⊎ Makes q y
    leaves y there = by (get start.tokens q) refl (subst (Fated q (get start.tokens q)) there fated)
      where
        by : (o : Option Token) → get start.tokens q ≡ o → Fated q o (Some y)
            → ((x : Token) × (get start.tokens q ≡ Some x) × Became q x y) ⊎ Makes q y
        by None was makes = inr makes
        by (Some x) was (inl became_) = inl (x, was, became_)
        by (Some x) was (inr makes) = inr makes

    -- and each that was there is left, or was revoked
    pub keeps : get start.tokens q ≢ None → (IsRevoked a q → ⊥) → get d.next.tokens q ≢ None
    keeps there free none = by (get start.tokens q) refl (subst (Fated q (get start.tokens q)) none fated)
      where
        by : (o : Option Token) → get start.tokens q ≡ o → Fated q o None → ⊥
        by None was gone = there was
        by (Some x) was gone = free gone

module _ (a : Asking) where
  -- y is what became of the token q of the clock; a renewal gave it a new end
  pub record Stood (q : Text) (y : Token) : Type 0 where
    pub stands : TokenStands a q y
    pub ends : (y.ends ≡ stands.was.earlier.ends)
        ⊎ ((increment : ℕ) × (y.ends ≡ Some (new_end (clocked a).clock (token_entry stands.was.earlier) increment)))

  -- what became of a token after the use that it may have spent
  stood : (q : Text) (x y : Token) → FromClock a q x → Became a q x y → (IsClient a q → y.uses_left ≢ Some 0)
      → Stood q y
  stood q x y from became unspent =
      let rest : y ≡ with_changed y from.earlier = became.rest ∙ ap (with_changed y) from.rest in
      record {
        stands = record {
          was = record {
            earlier = from.earlier;
            there = from.there;
            parent = elim became.parent [
              | inl same_ ↦ inl (same_ ∙ ap (λ (z : Token). z.parent) from.rest)
              | inr o ↦ inr (record {
                caller = o.caller;
                above = o.above;
                alone = o.alone;
                parent = ap (λ (z : Token). z.parent) (sym from.rest) ∙ o.parent;
                none = o.none;
              })
            ];
            accessor = ap (λ (z : Token). z.accessor) rest;
            policies = ap (λ (z : Token). z.policies) rest;
            issued = ap (λ (z : Token). z.issued) rest;
            period = ap (λ (z : Token). z.period) rest;
            other_uses = λ other. became.uses ∙ from.other_uses other;
            uses = λ client. (became.uses ∙ from.uses client, unspent client);
          };
          ends = elim became.ends [
            | inl same_ ↦ inl (same_ ∙ ap (λ (z : Token). z.ends) from.rest)
            | inr renewed ↦ inr (renewed_to a q from.earlier y.ends (at_clock renewed))
          ];
          cubbyhole = λ path. subst (λ (m : Map Text). (get y.cubbyhole path ≡ get m path)
              ⊎ EditsCubbyhole a q path (get y.cubbyhole path))
              (ap (λ (z : Token). z.cubbyhole) from.rest) (became.cubbyhole path);
          leases = λ lease_id. subst (λ (m : Map Lease). LeaseBecomes a q lease_id (get m lease_id)
              (get y.leases lease_id))
              (ap (λ (z : Token). z.leases) from.rest) (became.leases lease_id);
          rest = rest;
        };
        ends = elim became.ends [
          | inl same_ ↦ inl (same_ ∙ ap (λ (z : Token). z.ends) from.rest)
          | inr renewed ↦ let at = at_clock renewed in inr (increment_of at.renews.command, at.is)
        ];
      }
    where
      at_clock : HasNewEnd a q x y.ends → HasNewEnd a q from.earlier y.ends
      at_clock h = before_use a q from.earlier x.uses_left y.ends
          (subst (λ (z : Token). HasNewEnd a q z y.ends) from.rest h)

  -- the client token has a use left, if it is left
  unspent_client : (ts : Tokens) (c : Text) → IsClient a c → (q : Text) (y : Token) → left_by_caller ts c q ≡ Some y
      → IsClient a q → y.uses_left ≢ Some 0
  unspent_client ts c client q y left it =
      left_unspent ts c y (subst (λ u. left_by_caller ts c u ≡ Some y)
      (same_Some _ _ (sym it.token ∙ client.token)) left)

  -- each token after a request was there, or was made by it
  pub follows : Course a → (q : Text) (y : Token) → get a.outcome.next.tokens q ≡ Some y → Stood q y ⊎ Makes a q y
  follows went q y e = elim went.way [
    | inl l ↦
        let there = ap (λ (m : Tokens). get m q) (sym l.tokens) ∙ e in
        inl (stood q y y (from_itself a q y there (l.no_client q y there)) (became_itself a q y)
        (λ client. absurd (l.no_client q y there client)))
    | inr r ↦ elim r [
      | inl (c, t) ↦
          let left = sym (t.left q) ∙ e in
          inl (stood q y y (from_clock a c t.client q y (left_is (spent_by a c).tokens c q y left))
          (became_itself a q y)
          (unspent_client (spent_by a c).tokens c t.client q y left))
      | inr (c, command, d, s) ↦
          let left = sym (s.left q) ∙ e in
          elim (leaves a c command d s q y (left_is d.next.tokens c q y left)) [
            | inl (x, was, became) ↦ inl (stood q x y (from_clock a c s.client q x was) became
                (unspent_client d.next.tokens c s.client q y left))
            | inr made ↦ inr made
          ]
    ]
  ]

-- so it was a token of the clock, or the request asked for it
pub descends : OperationsDoAsTold → (a : Asking) → Sound forms None a.broker
    → a.outcome ≡ step a.broker a.moment a.words a.ask
    → (q : Text) (y : Token) → get a.outcome.next.tokens q ≡ Some y → WasToken a q y ⊎ IsMade a q y
descends told a sound is q y e = elim (follows a (course told a sound is) q y e) [
  | inl s ↦ inl s.stands.was
  | inr m ↦ inr m.made
]
