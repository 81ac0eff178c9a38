-- What POST and PUT of fixed paths mean, which path an ask has that means a creation, and what a request means and
-- leaves that may need no caller.
use Rattle.std.proofs.Common.{◌≡◌, ◌||◌, ◌&&◌, ◌++◌, ◌∷◌, if◌then◌else◌}
use Rattle.broker_model.specs.Words.{found_alone, is_or_apart, has_pattern, bytes_of_rest, pattern_found, same_verb}
use Rattle.broker_model.specs.Words.{place_of, token_command, Opens, OwnIsMeant, KeepsMaps, is_own, is_own_if_read}
use Rattle.broker_model.specs.Words.{opened_by, opening, token_named}
use Rattle.mounts.specs.declared.operation.Operation.TheVariants.{Tokens}
use Rattle.api_json.specs.Readers as reader
use Rattle.mounts.specs.Words.{nothing}
use Rattle.histories.specs.Words.{ℕ, List, [], Bool, true, false, not, Option, Some, None, Ok, option_map, Result}
use Rattle.histories.specs.Words.{codes, list_all, option_map_or, refl, sym, ◌∙◌, ap, and_parts, none-some, Map, get}
use Rattle.histories.specs.Words.{Mount, ◌>>=◌, some_or, Text, same, same_true, Verb, Refusal, or_else, form_of}
use Rattle.histories.specs.Words.{has_form, are_bytes, parameter, row_of, AreInOrder, FoundByForm, NoneFoundByForm}
use Rattle.histories.specs.Words.{Route, cut, methods_of, operation_at, operation_for, route_at, route_by, route_of}
use Rattle.histories.specs.Words.{within, RouteRow, facts, route_rows, fixed_type, type_at, type_of, MountType, Never}
use Rattle.histories.specs.Words.{Always, WithItsOwn, Operation, Cubbyholes, Leases, Wrappings, Command, command_for}
use Rattle.histories.specs.Words.{on_token, CubbyholeOperation, LeaseOperation, TokenOperation, WrappingOperation}
use Rattle.histories.specs.Words.{CubbyholeCommand, LeaseCommand, TokenCommand, WrappingCommand, OfCaller}
use Rattle.histories.specs.Words.{WithoutParent, AskedMeans, PathsMeanCommands, WrittenMeans, on_found, on_found_lease}
use Rattle.histories.specs.Words.{on_named, on_none, on_object, on_path, length, drop, nat_eq, unwrap_or, starts_with}
use Rattle.histories.specs.Words.{eqb-true, false≢true, same_Some, Engine, kv, issued, ok_step, Ask, slash, split_once}
use Rattle.histories.specs.Words.{lacking_split, ok_inj, is_ending, engine_type, Secrets, Policies, Mounts}
use Rattle.histories.specs.Words.{body_members, TokenCreation, on_cubbyhole, on_secret, on_policy, on_mount, on_lease}
use Rattle.histories.specs.Words.{on_issued, on_wrapping, command_by, meant_by, read_as, Members, Issued, Making}
use Rattle.histories.specs.Words.{CreatesAtPath, path_of, nat_lt, Err, ⊤, subst, inl, inr, same_self, Broker, Waiting}
use Rattle.histories.specs.Words.{at_moment, Names, names_of, Done, unless, no_ok, are_new, use_up, Words, act}
use Rattle.histories.specs.Words.{command_of, OperationsDoAsTold, Outcome, Wrapped, counted, finish, needed}
use Rattle.histories.specs.Words.{permission_denied, serve, wrap, wrapped, permits, Request, is_open, request_of, step}
use Rattle.histories.specs.Words.{traits, token_meant, wrapping_changes, Reason, DiffersInWaiting, MeansItsOwn}
use Rattle.histories.specs.Words.{OpenChangesNoToken, TheseAreOpen}
use Rattle.histories.proofs.OrderCases.{some_ok}
use Rattle.histories.proofs.Order.{with_caller, wrapped_cases, is_wrap_of}

-- ---- an ask that means a creation has its path

-- ---- which operations make tokens

-- how a command makes a token, if it does
abbrev making_of : TokenCommand → Option Making
making_of (TokenCommand.Create making asked) = Some making
making_of _ = None

-- and an operation
abbrev making_by : TokenOperation → Option Making
making_by TokenOperation.Create = Some OfCaller
making_by TokenOperation.CreateOrphan = Some WithoutParent
making_by _ = None

-- what holds of each command that is read holds of that which was read
read_is : {X : Type 0} (v : Option Making) (read : Members → Result X Refusal)
    (command : X → TokenCommand) (body : List ℕ)
    (c : TokenCommand) → ((x : X) → making_of (command x) ≡ v) → read_as read command body ≡ Ok c → making_of c ≡ v
read_is v read command body c all e =
    let m = ok_step (body_members body) (λ members. read members >>= (λ x. Ok (command x))) c e in
    let x = ok_step (read m.0) (λ x. Ok (command x)) c m.2 in
    ap making_of (sym (ok_inj x.2)) ∙ all x.0

making_is : (o : TokenOperation) (body : List ℕ) (c : TokenCommand) → token_command o body ≡ Ok c
    → making_of c ≡ making_by o
making_is TokenOperation.LookUpSelf body c e = ap making_of (sym (ok_inj e))
making_is TokenOperation.ListAccessors body c e = ap making_of (sym (ok_inj e))
making_is TokenOperation.RevokeSelf body c e =
    ap making_of (sym (ok_inj (ok_step (body_members body) (λ members. Ok TokenCommand.RevokeSelf) c e).2))
making_is _ body c e = read_is _ _ _ body c (λ x. refl) e

-- ---- the operation of the route

abbrev makes_by : Operation → Option Making
makes_by (Tokens o) = making_by o
makes_by _ = None

abbrev is_of_tokens : Command → Bool
is_of_tokens (on_token command) = true
is_of_tokens _ = false

-- no other part means a command of tokens
no_token : {C : Type 0} (on : C → Command) (m : Result C Refusal) (k : TokenCommand) {P : Type 0}
    → ((x : C) → is_of_tokens (on x) ≡ false) → meant_by on m ≡ Ok (on_token k) → P
no_token on m k apart e =
    let x = ok_step m (λ command. Ok (on command)) (on_token k) e in
    absurd (false≢true (sym (apart x.0) ∙ ap is_of_tokens (ok_inj x.2)))

same_command : {x y : TokenCommand} → on_token x ≡ on_token y → x ≡ y
same_command e = cc

module _ (r : Route) (a : Ask) (making : Making) (asked : TokenCreation) where
  operation_makes : (o : Operation) → command_by o r a ≡ Ok (on_token (TokenCommand.Create making asked))
      → makes_by o ≡ Some making
  operation_makes (Tokens o) e =
      let x =
      ok_step (token_command o a.body) (λ command. Ok (on_token command)) (on_token (TokenCommand.Create making asked))
      e in
      sym (making_is o a.body x.0 x.1) ∙ ap making_of (same_command (ok_inj x.2))
  operation_makes (Cubbyholes o) e = no_token (on_cubbyhole r.parameter) _ _ (λ x. refl) e
  operation_makes (Secrets o) e = no_token (on_secret (place_of r)) _ _ (λ x. refl) e
  operation_makes (Policies o) e = no_token (on_policy r.parameter) _ _ (λ x. refl) e
  operation_makes (Mounts o) e = no_token (on_mount r.parameter) _ _ (λ x. refl) e
  operation_makes (Leases o) e = no_token (on_lease r.parameter) _ _ (λ x. refl) e
  operation_makes (Issued o) e = no_token (on_issued (place_of r)) _ _ (λ x. refl) e
  operation_makes (Wrappings o) e = no_token on_wrapping _ _ (λ x. refl) e

-- ---- its row

abbrev pattern_of : Making → Text
pattern_of OfCaller = codes "token/create"
pattern_of WithoutParent = codes "token/create-orphan"

abbrev is_tokens : MountType → Bool
is_tokens MountType.Token = true
is_tokens _ = false

-- whether it is the row of POST and PUT, in the table of tokens
abbrev is_there : MountType → RouteRow → Making → Bool
is_there t r making = is_tokens t && (same_verb r.verb Verb.Write && same r.pattern (pattern_of making))

-- each row of an operation that makes tokens is there
all_there : (t : MountType)
    → list_all (λ (r : RouteRow). option_map_or (is_there t r) (makes_by r.operation) true) (route_rows t) ≡ true
unfolding same
all_there MountType.Token = refl
all_there MountType.System = refl
all_there MountType.Cubbyhole = refl
all_there MountType.Kv = refl
all_there MountType.Issued = refl

is_write : (v : Verb) → same_verb v Verb.Write ≡ true → v ≡ Verb.Write
is_write Verb.Write e = refl
is_write _ e = absurd (false≢true e)

write_is : (v : Verb) → same_verb Verb.Write v ≡ true → v ≡ Verb.Write
write_is Verb.Write e = refl
write_is _ e = absurd (false≢true e)

type_is : (t : MountType) → is_tokens t ≡ true → t ≡ MountType.Token
type_is MountType.Token e = refl
type_is _ e = absurd (false≢true e)

-- ---- the path

-- the mount of tokens alone has their type
name_is : (o : Option Mount) (name : Text) → type_at o name ≡ Some MountType.Token → name ≡ codes "auth"
name_is o name e =
    same_true name (codes "auth")
    (by (same name (codes "auth")) (same name (codes "sys")) (same name (codes "cubbyhole")) o e)
  where
    of_engine : (g : Engine) → engine_type g ≡ MountType.Token → ⊥
    of_engine kv e = absurd (cc)
    of_engine issued e = absurd (cc)

    by : (x y z : Bool) (o : Option Mount)
        → or_else (if x then Some MountType.Token else
        (if y then Some MountType.System else (if z then Some MountType.Cubbyhole else None)))
        (option_map type_of o) ≡ Some MountType.Token → x ≡ true
    by true y z o e = refl
    by false true z o e = absurd (cc)
    by false false true o e = absurd (cc)
    by false false false None e = absurd (none-some _ e)
    by false false false (Some m) e = absurd (of_engine m.engine (same_Some _ _ e))

-- a text that begins with a literal, and has nothing behind it, is the literal
pub whole : (literal q : Text) → starts_with nat_eq q literal ≡ true
    → is_ending nothing (drop (length literal) q) ≡ true → q ≡ literal
whole [] [] begins ends = refl
whole [] (y ∷ q) begins ends = absurd (false≢true ends)
whole (x ∷ literal) [] begins ends = absurd (false≢true begins)
whole (x ∷ literal) (y ∷ q) begins ends =
    let p = and_parts (nat_eq x y) (starts_with nat_eq q literal) begins in
    let at : y ≡ x = sym (eqb-true x y p.0) in
    let rest = whole literal q p.1 ends in
    λ i. at i ∷ rest i

literal_is : (making : Making) (q : Text) → has_form (form_of (pattern_of making)) q ≡ true → q ≡ pattern_of making
literal_is OfCaller q form = let p = and_parts _ _ form in whole (pattern_of OfCaller) q p.0 p.1
literal_is WithoutParent q form = let p = and_parts _ _ form in whole (pattern_of WithoutParent) q p.0 p.1

not_empty : (making : Making) → [] ≡ pattern_of making → ⊥
not_empty OfCaller e = absurd (cc)
not_empty WithoutParent e = absurd (cc)

joined : (making : Making) → codes "auth" ++ slash ∷ pattern_of making ≡ path_of making
joined OfCaller = refl
joined WithoutParent = refl

path_is : (making : Making) (path : Text) → (cut path).0 ≡ codes "auth" → (cut path).1 ≡ pattern_of making
    → path ≡ path_of making
path_is making path =
    elim (split_once slash path) as (λ (o : Option (Text × Text)). split_once slash path ≡ o
    → (unwrap_or o (path, [])).0 ≡ codes "auth" → (unwrap_or o (path, [])).1 ≡ pattern_of making
    → path ≡ path_of making) [
      | None ↦ λ _ name rest. absurd (not_empty making rest)
      | Some p ↦ λ is name rest. (lacking_split slash path p is).0 ∙ (λ i. name i ++ slash ∷ rest i) ∙ joined making
    ] refl

module _ (found : FoundByForm) (ordered : AreInOrder) where
  pub creates_at : CreatesAtPath
  unfolding route_at
  creates_at mounts a making asked bytes means =
      let o = get mounts (cut a.path).0 in
      let name = (cut a.path).0 in
      let rest = (cut a.path).1 in
      let r =
      ok_step (route_of mounts a.verb a.path) (λ r. command_for r a) (on_token (TokenCommand.Create making asked)) means
      in
      let t =
      ok_step (some_or Refusal.NotFound (type_at o name)) (λ t. within (route_rows t) a.verb name rest) r.0 r.1 in
      let rows = route_rows t.0 in
      let p = ok_step (some_or Refusal.NotFound (pattern_found rows rest)) (route_by rows a.verb name rest) r.0 t.2 in
      let by =
      ok_step (some_or (Refusal.MethodNotAllowed (methods_of rows p.0)) (operation_for rows p.0 a.verb)) _ r.0 p.2 in
      let row =
      row_of (λ (r : RouteRow). option_map_or (is_there t.0 r) (makes_by r.operation) true) rows p.0 a.verb by.0
      (all_there t.0)
      (some_ok _ _ by.1) in
      let makes : makes_by row.row.operation ≡ Some making =
      ap makes_by (row.operation_is ∙ ap (λ (z : Route). z.operation) (ok_inj by.2))
      ∙ operation_makes r.0 a making asked r.0.operation r.2 in
      let here : is_there t.0 row.row making ≡ true =
      sym (ap (λ z. option_map_or (is_there t.0 row.row) z true) makes) ∙ row.passes in
      let both = and_parts (is_tokens t.0) _ here in
      let two = and_parts (same_verb row.row.verb Verb.Write) _ both.1 in
      let pattern : p.0 ≡ pattern_of making = sym row.pattern_is ∙ same_true _ _ two.1 in
      let form = (found rows rest p.0 (ordered t.0) (bytes_of_rest a.path bytes) (some_ok _ _ p.1)).form in (
        write_is a.verb (sym (ap (λ v. same_verb v a.verb) (is_write row.row.verb two.0)) ∙ row.verb_is),
        path_is making a.path (name_is o name (some_ok _ _ t.1 ∙ ap Some (type_is t.0 both.0)))
            (literal_is making rest (sym (ap (λ q. has_form (form_of q) rest) pattern) ∙ form)),
      )

-- ---- a pattern that alone has the form of a path

-- the pattern is of the rows, and the path has its form and that of no other
pub record StandsFor (rows : List RouteRow) (pattern path : Text) : Type 0 where
  pub listed : has_pattern rows pattern ≡ true
  pub form : has_form (form_of pattern) path ≡ true
  pub alone : list_all (λ (r : RouteRow). is_or_apart path pattern r.pattern) rows ≡ true

-- whether a path is a pattern of the rows, and has its form and that of no other
abbrev stands_alone : List RouteRow → Text → Bool
stands_alone rows path =
    has_pattern rows path && (has_form (form_of path) path && list_all
    (λ (r : RouteRow). is_or_apart path path r.pattern) rows)

stands : (rows : List RouteRow) (path : Text) → stands_alone rows path ≡ true → StandsFor rows path path
stands rows path alone =
    let listed = and_parts (has_pattern rows path) _ alone in
    let form = and_parts (has_form (form_of path) path) _ listed.1 in
    record { listed = listed.0; form = form.0; alone = form.1 }

-- the route to an operation of a mount that is always there, with what stands for a parameter
abbrev pub route_to : Text → Operation → Text → Route
route_to name operation p = record { operation = operation; mount = name; parameter = p }

-- and without a parameter
abbrev pub fixed_route : Text → Operation → Route
fixed_route name operation = route_to name operation []

-- ---- operations that may need no caller

abbrev pub may_open : Operation → Bool
may_open o = elim (facts o).opens as (λ _. Bool) [ Never ↦ false | Always ↦ true | WithItsOwn ↦ true ]

-- whether a row's pattern is a path that stands alone
abbrev is_alone : List RouteRow → RouteRow → Bool
is_alone rows r = are_bytes r.pattern && (stands_alone rows r.pattern && same (parameter r.pattern r.pattern) [])

-- each row of such an operation is one
open_alone : (type : MountType) → list_all
    (λ (r : RouteRow). not (may_open r.operation) || is_alone (route_rows type) r) (route_rows type) ≡ true
unfolding same
open_alone MountType.Token = refl
open_alone MountType.System = refl
open_alone MountType.Cubbyhole = refl
open_alone MountType.Kv = refl
open_alone MountType.Issued = refl

-- the operation of a verb at a path, if it may need no caller, is that of its route
abbrev pub OpenedAreRoutes : Type 0
OpenedAreRoutes =
    (v : Verb) (path : Text) (o : Operation) → operation_at v path ≡ Some o → may_open o ≡ true
    → (mounts : Map Mount) → route_of mounts v path ≡ Ok (fixed_route (cut path).0 o)

module _ (found : FoundByForm) (none : NoneFoundByForm) (ordered : AreInOrder) where
  -- the route of a path, where the row of the pattern has this operation, and these mounts make the mount of this type
  pub routed_at : (type : MountType) (v : Verb) (name rest path pattern p : Text) (operation : Operation)
      (mounts : Map Mount) → type_at (get mounts name) name ≡ Some type → cut path ≡ (name, rest)
      → are_bytes rest ≡ true → StandsFor (route_rows type) pattern rest
      → operation_for (route_rows type) pattern v ≡ Some operation → parameter pattern rest ≡ p
      → route_of mounts v path ≡ Ok (route_to name operation p)
  unfolding route_at
  routed_at type v name rest path pattern p operation mounts there at bytes stands row parameter_is =
      let rows = route_rows type in
      ap (λ (q : Text × Text). some_or Refusal.NotFound (type_at (get mounts q.0) q.0)
      >>= (λ t. within (route_rows t) v q.0 q.1)) at
      ∙ ap (λ z. some_or Refusal.NotFound z >>= (λ t. within (route_rows t) v name rest)) there
      ∙ ap (λ z. some_or Refusal.NotFound z >>= route_by rows v name rest)
      (found_alone found none rows rest pattern (ordered type) bytes stands.listed stands.form stands.alone)
      ∙ ap (λ z. some_or (Refusal.MethodNotAllowed (methods_of rows pattern)) z
      >>= (λ (x : Operation). Ok (route_to name x (parameter pattern rest)))) row
      ∙ ap (λ q. Ok (route_to name operation q)) parameter_is

  -- the same of a mount that is always there
  routed : (type : MountType) (v : Verb) (name rest path pattern p : Text) (operation : Operation)
      → ((o : Option Mount) → type_at o name ≡ Some type) → cut path ≡ (name, rest) → are_bytes rest ≡ true
      → StandsFor (route_rows type) pattern rest → operation_for (route_rows type) pattern v ≡ Some operation
      → parameter pattern rest ≡ p → (mounts : Map Mount) → route_of mounts v path ≡ Ok (route_to name operation p)
  routed type v name rest path pattern p operation there at bytes stands row parameter_is mounts =
      routed_at type v name rest path pattern p operation mounts (there (get mounts name)) at bytes stands row
      parameter_is

  pub opened_are_routes : OpenedAreRoutes
  unfolding operation_at
  opened_are_routes v path o at may mounts =
      elim (fixed_type (cut path).0) as (λ t. fixed_type (cut path).0 ≡ t
      → operation_for (option_map_or route_rows t []) (cut path).1 v ≡ Some o
      → route_of mounts v path ≡ Ok (fixed_route (cut path).0 o)) [
        | None ↦ λ _ e. absurd (none-some _ e)
        | Some type ↦ λ is e.
            let rows = route_rows type in
            let r = row_of (λ (r : RouteRow). not (may_open r.operation) || is_alone rows r) rows (cut path).1 v o
            (open_alone type) e in
            let it : is_alone rows r.row ≡ true =
            sym (ap (λ b. not b || is_alone rows r.row) (ap may_open r.operation_is ∙ may)) ∙ r.passes in
            let parts = and_parts (are_bytes (r.row).pattern) _ it in
            let alone = and_parts (stands_alone rows (r.row).pattern) _ parts.1 in
            let at = sym r.pattern_is in
            routed type v (cut path).0 (cut path).1 path (cut path).1 [] o
            (λ m. ap (λ t. or_else t (option_map type_of m)) is) refl
            (ap are_bytes at ∙ parts.0) (stands rows (cut path).1 (ap (stands_alone rows) at ∙ alone.0)) e
            (ap (λ t. parameter t t) at ∙ same_true (parameter (r.row).pattern (r.row).pattern) [] alone.1) mounts
      ] refl at

  -- what the verb means at it
  pub asked : (type : MountType) (v : Verb) (name rest path pattern p : Text) (operation : Operation)
      → ((o : Option Mount) → type_at o name ≡ Some type) → cut path ≡ (name, rest) → are_bytes rest ≡ true
      → StandsFor (route_rows type) pattern rest → operation_for (route_rows type) pattern v ≡ Some operation
      → parameter pattern rest ≡ p → AskedMeans v path (command_for (route_to name operation p))
  asked type v name rest path pattern p operation there at bytes stands row parameter_is mounts a verb_is here =
      let go : Result Route Refusal → Result Command Refusal = λ x. x >>= (λ r. command_for r a) in
      ap (λ q. go (route_of mounts a.verb q)) here
      ∙ ap (λ w. go (route_of mounts w path)) verb_is
      ∙ ap go (routed type v name rest path pattern p operation there at bytes stands row parameter_is mounts)

  -- what POST and PUT of a path mean that is a pattern
  means : (type : MountType) (name rest path : Text) (operation : Operation)
      → ((o : Option Mount) → type_at o name ≡ Some type) → cut path ≡ (name, rest) → are_bytes rest ≡ true
      → stands_alone (route_rows type) rest ≡ true → operation_for (route_rows type) rest Verb.Write ≡ Some operation
      → parameter rest rest ≡ []
      → WrittenMeans path (command_for (fixed_route name operation))
  means type name rest path operation there at bytes alone row no_parameter =
      asked type Verb.Write name rest path rest [] operation there at bytes (stands (route_rows type) rest alone) row
      no_parameter

  -- ---- responses that wait

  pub looks_up : WrittenMeans (codes "sys/wrapping/lookup") (on_named WrappingCommand.LookUp)
  unfolding same
  looks_up =
      means MountType.System (codes "sys") (codes "wrapping/lookup") (codes "sys/wrapping/lookup")
      (Wrappings WrappingOperation.LookUp)
      (λ o. refl) refl refl refl refl refl

  pub rewraps : WrittenMeans (codes "sys/wrapping/rewrap") (on_named WrappingCommand.Rewrap)
  unfolding same
  rewraps =
      means MountType.System (codes "sys") (codes "wrapping/rewrap") (codes "sys/wrapping/rewrap")
      (Wrappings WrappingOperation.Rewrap)
      (λ o. refl) refl refl refl refl refl

  pub unwraps : WrittenMeans (codes "sys/wrapping/unwrap") (on_named WrappingCommand.Unwrap)
  unfolding same
  unwraps =
      means MountType.System (codes "sys") (codes "wrapping/unwrap") (codes "sys/wrapping/unwrap")
      (Wrappings WrappingOperation.Unwrap)
      (λ o. refl) refl refl refl refl refl

  pub wraps : WrittenMeans (codes "sys/wrapping/wrap") on_object
  unfolding same
  wraps =
      means MountType.System (codes "sys") (codes "wrapping/wrap") (codes "sys/wrapping/wrap")
      (Wrappings WrappingOperation.Wrap)
      (λ o. refl) refl refl refl refl refl

  -- ---- tokens

  pub creates : WrittenMeans (codes "auth/token/create") (on_found reader.token_creation (TokenCommand.Create OfCaller))
  unfolding same
  creates =
      means MountType.Token (codes "auth") (codes "token/create") (codes "auth/token/create")
      (Tokens TokenOperation.Create)
      (λ o. refl) refl refl refl refl refl

  pub creates_orphan : WrittenMeans (codes "auth/token/create-orphan")
      (on_found reader.token_creation (TokenCommand.Create WithoutParent))
  unfolding same
  creates_orphan =
      means MountType.Token (codes "auth") (codes "token/create-orphan") (codes "auth/token/create-orphan")
      (Tokens TokenOperation.CreateOrphan)
      (λ o. refl) refl refl refl refl refl

  pub revokes : WrittenMeans (codes "auth/token/revoke") (on_found reader.token TokenCommand.Revoke)
  unfolding same
  revokes =
      means MountType.Token (codes "auth") (codes "token/revoke") (codes "auth/token/revoke")
      (Tokens TokenOperation.Revoke)
      (λ o. refl) refl refl refl refl refl

  pub revokes_self : WrittenMeans (codes "auth/token/revoke-self") (on_none TokenCommand.RevokeSelf)
  unfolding same
  revokes_self =
      means MountType.Token (codes "auth") (codes "token/revoke-self") (codes "auth/token/revoke-self")
      (Tokens TokenOperation.RevokeSelf)
      (λ o. refl) refl refl refl refl refl

  pub revokes_orphan : WrittenMeans (codes "auth/token/revoke-orphan") (on_found reader.token TokenCommand.RevokeOrphan)
  unfolding same
  revokes_orphan =
      means MountType.Token (codes "auth") (codes "token/revoke-orphan") (codes "auth/token/revoke-orphan")
      (Tokens TokenOperation.RevokeOrphan)
      (λ o. refl) refl refl refl refl refl

  pub revokes_accessor : WrittenMeans (codes "auth/token/revoke-accessor")
      (on_found reader.accessor TokenCommand.RevokeAccessor)
  unfolding same
  revokes_accessor =
      means MountType.Token (codes "auth") (codes "token/revoke-accessor") (codes "auth/token/revoke-accessor")
      (Tokens TokenOperation.RevokeAccessor)
      (λ o. refl) refl refl refl refl refl

  -- ---- what is looked up, renewed, read and deleted

  pub looks_up_token : WrittenMeans (codes "auth/token/lookup") (on_found reader.token TokenCommand.LookUp)
  unfolding same
  looks_up_token =
      asked MountType.Token Verb.Write (codes "auth") (codes "token/lookup") (codes "auth/token/lookup")
      (codes "token/lookup") [] (Tokens TokenOperation.LookUp)
      (λ o. refl) refl refl (stands (route_rows MountType.Token) (codes "token/lookup") refl) refl refl

  pub looks_up_accessor : WrittenMeans (codes "auth/token/lookup-accessor")
      (on_found reader.accessor TokenCommand.LookUpAccessor)
  unfolding same
  looks_up_accessor =
      asked MountType.Token Verb.Write (codes "auth") (codes "token/lookup-accessor")
      (codes "auth/token/lookup-accessor")
      (codes "token/lookup-accessor") [] (Tokens TokenOperation.LookUpAccessor)
      (λ o. refl) refl refl (stands (route_rows MountType.Token) (codes "token/lookup-accessor") refl) refl refl

  pub looks_up_self : AskedMeans Verb.Get (codes "auth/token/lookup-self") (λ a. Ok (on_token TokenCommand.LookUpSelf))
  unfolding same
  looks_up_self =
      asked MountType.Token Verb.Get (codes "auth") (codes "token/lookup-self") (codes "auth/token/lookup-self")
      (codes "token/lookup-self") [] (Tokens TokenOperation.LookUpSelf)
      (λ o. refl) refl refl (stands (route_rows MountType.Token) (codes "token/lookup-self") refl) refl refl

  pub lists_accessors : AskedMeans Verb.List (codes "auth/token/accessors")
      (λ a. Ok (on_token TokenCommand.ListAccessors))
  unfolding same
  lists_accessors =
      asked MountType.Token Verb.List (codes "auth") (codes "token/accessors") (codes "auth/token/accessors")
      (codes "token/accessors") [] (Tokens TokenOperation.ListAccessors)
      (λ o. refl) refl refl (stands (route_rows MountType.Token) (codes "token/accessors") refl) refl refl

  pub renews : WrittenMeans (codes "auth/token/renew") (on_found reader.token_renewal TokenCommand.Renew)
  unfolding same
  renews =
      asked MountType.Token Verb.Write (codes "auth") (codes "token/renew") (codes "auth/token/renew")
      (codes "token/renew") [] (Tokens TokenOperation.Renew)
      (λ o. refl) refl refl (stands (route_rows MountType.Token) (codes "token/renew") refl) refl refl

  pub renews_self : WrittenMeans (codes "auth/token/renew-self") (on_found reader.increment TokenCommand.RenewSelf)
  unfolding same
  renews_self =
      asked MountType.Token Verb.Write (codes "auth") (codes "token/renew-self") (codes "auth/token/renew-self")
      (codes "token/renew-self") [] (Tokens TokenOperation.RenewSelf)
      (λ o. refl) refl refl (stands (route_rows MountType.Token) (codes "token/renew-self") refl) refl refl

  pub looks_up_lease : WrittenMeans (codes "sys/leases/lookup") (on_found_lease reader.lease_id LeaseCommand.LookUp)
  unfolding same
  looks_up_lease =
      means MountType.System (codes "sys") (codes "leases/lookup") (codes "sys/leases/lookup")
      (Leases LeaseOperation.LookUp)
      (λ o. refl) refl refl refl refl refl

  pub renews_lease : WrittenMeans (codes "sys/leases/renew") (on_found_lease reader.lease_renewal LeaseCommand.Renew)
  unfolding same
  renews_lease =
      means MountType.System (codes "sys") (codes "leases/renew") (codes "sys/leases/renew")
      (Leases LeaseOperation.Renew)
      (λ o. refl) refl refl refl refl refl

  pub reads_object : (c : ℕ) (path : Text) → are_bytes (c ∷ path) ≡ true
      → AskedMeans Verb.Get (codes "cubbyhole/" ++ c ∷ path) (on_path (c ∷ path) CubbyholeCommand.Read)
  unfolding same
  reads_object c path bytes =
      asked MountType.Cubbyhole Verb.Get (codes "cubbyhole") (c ∷ path) (codes "cubbyhole/" ++ c ∷ path)
      (codes "{*path}")
      (c ∷ path)
      (Cubbyholes CubbyholeOperation.Read) (λ o. refl) refl bytes (record { listed = refl; form = refl; alone = refl })
      refl refl

  pub deletes_object : (c : ℕ) (path : Text) → are_bytes (c ∷ path) ≡ true
      → AskedMeans Verb.Delete (codes "cubbyhole/" ++ c ∷ path) (on_path (c ∷ path) CubbyholeCommand.Delete)
  unfolding same
  deletes_object c path bytes =
      asked MountType.Cubbyhole Verb.Delete (codes "cubbyhole") (c ∷ path) (codes "cubbyhole/" ++ c ∷ path)
      (codes "{*path}") (c ∷ path)
      (Cubbyholes CubbyholeOperation.Delete) (λ o. refl) refl bytes
      (record { listed = refl; form = refl; alone = refl })
      refl refl

  -- ---- all of them

  pub paths_mean_commands : PathsMeanCommands
  paths_mean_commands = record {
    wrap = wraps;
    look_up = looks_up;
    rewrap = rewraps;
    unwrap = unwraps;
    create = creates;
    create_orphan = creates_orphan;
    revoke = revokes;
    revoke_self = revokes_self;
    revoke_orphan = revokes_orphan;
    revoke_accessor = revokes_accessor;
    look_up_token = looks_up_token;
    look_up_accessor = looks_up_accessor;
    look_up_self = looks_up_self;
    list_accessors = lists_accessors;
    renew = renews;
    renew_self = renews_self;
    look_up_lease = looks_up_lease;
    renew_lease = renews_lease;
    read_object = reads_object;
    delete_object = deletes_object;
    named = λ client c t. refl;
    not_named = λ client. (refl, refl);
  }

-- ---- what an open request means, and what it leaves

-- ---- what it means

-- what a body names, if a command of it was read
named : {C : Type 0} (command : Option Text → C) (body : List ℕ) (c : C)
    → read_as reader.wrapping_token command body ≡ Ok c
    → (x : Option Text) × (token_named body ≡ Ok x) × (command x ≡ c)
named command body c e =
    let m = ok_step (body_members body) (λ members. reader.wrapping_token members >>= (λ x. Ok (command x))) c e in
    let x = ok_step (reader.wrapping_token m.0) (λ x. Ok (command x)) c m.2 in (
      x.0,
      ap (λ (z : Result Members Refusal). z >>= (λ members. reader.wrapping_token members >>= (λ x. Ok x))) m.1
          ∙ ap (λ (z : Result (Option Text) Refusal). z >>= (λ x. Ok x)) x.1,
      ok_inj x.2,
    )

module _ (own_is_meant : OwnIsMeant) (opened : OpenedAreRoutes) (mounts : Map Mount) (a : Ask) (command : Command)
    (means : command_of mounts a ≡ Ok command) where
  -- what the operation of the path means, if it may need no caller
  by_route : (o : Operation) → operation_at a.verb a.path ≡ Some o → may_open o ≡ true
      → command_of mounts a ≡ command_for (fixed_route (cut a.path).0 o) a
  by_route o at may = ap (λ (r : Result Route Refusal). r >>= (λ r. command_for r a))
      (opened a.verb a.path o at may mounts)

  -- a command on the wrapping token that the body names, which is the client token if none other is named
  own_named : (on : Option Text → WrappingCommand) → is_own_if_read a.token (token_named a.body) ≡ true
      → command_of mounts a ≡ on_named on a
      → (meant : Option Text) × (command ≡ on_wrapping (on meant)) × (meant ≡ a.token)
  own_named on own is =
      let k = ok_step (read_as reader.wrapping_token (λ named. on (token_meant a.token named)) a.body)
      (λ k. Ok (on_wrapping k)) command
      (sym is ∙ means) in
      let x = named (λ named. on (token_meant a.token named)) a.body k.0 k.1 in (
        token_meant a.token x.0,
        sym (ok_inj k.2) ∙ ap on_wrapping (sym x.2),
        own_is_meant a.token x.0 (sym (ap (is_own_if_read a.token) x.1) ∙ own),
      )

  by_operation : (o : Operation) → operation_at a.verb a.path ≡ Some o → opened_by (facts o).opens a.token a.body ≡ true
      → (k : WrappingCommand) × (command ≡ on_wrapping k) × MeansItsOwn a k
  by_operation (Cubbyholes o) at open_ = absurd (false≢true open_)
  by_operation (Tokens o) at open_ = absurd (false≢true open_)
  by_operation (Secrets o) at open_ = absurd (false≢true open_)
  by_operation (Policies o) at open_ = absurd (false≢true open_)
  by_operation (Mounts o) at open_ = absurd (false≢true open_)
  by_operation (Leases o) at open_ = absurd (false≢true open_)
  by_operation (Issued o) at open_ = absurd (false≢true open_)
  by_operation (Wrappings WrappingOperation.Wrap) at open_ = absurd (false≢true open_)
  by_operation (Wrappings WrappingOperation.LookUp) at open_ =
      let k = ok_step (read_as reader.wrapping_token (λ named. WrappingCommand.LookUp (token_meant a.token named))
      a.body)
      (λ k. Ok (on_wrapping k)) command (sym (by_route (Wrappings WrappingOperation.LookUp) at refl) ∙ means) in
      let x = named (λ named. WrappingCommand.LookUp (token_meant a.token named)) a.body k.0 k.1 in
      (WrappingCommand.LookUp (token_meant a.token x.0), sym (ok_inj k.2) ∙ ap on_wrapping (sym x.2), tt)
  by_operation (Wrappings WrappingOperation.Rewrap) at open_ =
      let x = own_named WrappingCommand.Rewrap open_ (by_route (Wrappings WrappingOperation.Rewrap) at refl) in
      (WrappingCommand.Rewrap x.0, x.1, x.2)
  by_operation (Wrappings WrappingOperation.Unwrap) at open_ =
      let x = own_named WrappingCommand.Unwrap open_ (by_route (Wrappings WrappingOperation.Unwrap) at refl) in
      (WrappingCommand.Unwrap x.0, x.1, x.2)

  -- so an open ask means its own
  pub means_its_own : is_open a ≡ true → (k : WrappingCommand) × (command ≡ on_wrapping k) × MeansItsOwn a k
  means_its_own open_ =
      elim (operation_at a.verb a.path)
      as (λ x. operation_at a.verb a.path ≡ x
      → opened_by (option_map_or (λ o. (facts o).opens) x Never) a.token a.body ≡ true
      → (k : WrappingCommand) × (command ≡ on_wrapping k) × MeansItsOwn a k) [
        | None ↦ λ _ k. absurd (false≢true k)
        | Some o ↦ λ at k. by_operation o at k
      ] refl open_

-- ---- which asks are open

-- where the client token is meant, the body names no other
own_if_meant : (client named : Option Text) → token_meant client named ≡ client → is_own client named ≡ true
own_if_meant client None e = refl
own_if_meant client (Some []) e = refl
own_if_meant client (Some (c ∷ t)) e = ap (λ (o : Option Text). option_map_or (same (c ∷ t)) o false) (sym e)
    ∙ same_self (c ∷ t)

-- the paths, as the table has them
look_up_opens : opening Verb.Write (codes "sys/wrapping/lookup") ≡ Always
unfolding operation_at same
look_up_opens = refl

rewrap_opens : opening Verb.Write (codes "sys/wrapping/rewrap") ≡ WithItsOwn
unfolding operation_at same
rewrap_opens = refl

unwrap_opens : opening Verb.Write (codes "sys/wrapping/unwrap") ≡ WithItsOwn
unfolding operation_at same
unwrap_opens = refl

-- what its path says of an ask
by_path : (a : Ask) (path : Text) (o : Opens) → a.verb ≡ Verb.Write → a.path ≡ path → opening Verb.Write path ≡ o
    → is_open a ≡ opened_by o a.token a.body
by_path a path o write here opens =
    (λ i. opened_by (opening (write i) (here i)) a.token a.body) ∙ ap (λ x. opened_by x a.token a.body) opens

-- a command on the client token names no other
names_own : (mounts : Map Mount) (a : Ask) (on : Option Text → WrappingCommand)
    → ((x y : Option Text) → on x ≡ on y → x ≡ y)
    → command_of mounts a ≡ on_named on a → command_of mounts a ≡ Ok (on_wrapping (on a.token))
    → is_own_if_read a.token (token_named a.body) ≡ true
names_own mounts a on one is means =
    let k =
    ok_step (read_as reader.wrapping_token (λ named. on (token_meant a.token named)) a.body) (λ k. Ok (on_wrapping k))
    (on_wrapping (on a.token)) (sym is ∙ means) in
    let x = named (λ named. on (token_meant a.token named)) a.body k.0 k.1 in
    ap (is_own_if_read a.token) x.1
    ∙ own_if_meant a.token x.0 (one (token_meant a.token x.0) a.token (x.2 ∙ is_wrap_of (ok_inj k.2)))

pub these_are_open : WrittenMeans (codes "sys/wrapping/rewrap") (on_named WrappingCommand.Rewrap)
    → WrittenMeans (codes "sys/wrapping/unwrap") (on_named WrappingCommand.Unwrap) → TheseAreOpen
these_are_open rewrap unwrap = record {
  look_up = λ a write here. by_path a (codes "sys/wrapping/lookup") Always write here look_up_opens;
  rewrap = λ mounts a write here means.
      by_path a (codes "sys/wrapping/rewrap") WithItsOwn write here rewrap_opens
      ∙ names_own mounts a WrappingCommand.Rewrap (λ x y e. one_rewrap e) (rewrap mounts a write here) means;
  unwrap = λ mounts a write here means.
      by_path a (codes "sys/wrapping/unwrap") WithItsOwn write here unwrap_opens
      ∙ names_own mounts a WrappingCommand.Unwrap (λ x y e. one_unwrap e) (unwrap mounts a write here) means;
}
  where
    one_rewrap : {x y : Option Text} → WrappingCommand.Rewrap x ≡ WrappingCommand.Rewrap y → x ≡ y
    one_rewrap e = cc

    one_unwrap : {x y : Option Text} → WrappingCommand.Unwrap x ≡ WrappingCommand.Unwrap y → x ≡ y
    one_unwrap e = cc

-- ---- what it leaves

apart : (b c : Broker) → c.clock ≡ b.clock → c.tokens ≡ b.tokens → c.secrets ≡ b.secrets → c.mounts ≡ b.mounts
    → c.roles ≡ b.roles → c.policies ≡ b.policies → DiffersInWaiting b c
apart b c clock tokens secrets mounts roles policies =
    record { clock = clock; tokens = tokens; secrets = secrets; mounts = mounts; roles = roles; policies = policies }

differs_self : (b : Broker) → DiffersInWaiting b b
differs_self b = record { clock = refl; tokens = refl; secrets = refl; mounts = refl; roles = refl; policies = refl }

differs_trans : (b c d : Broker) → DiffersInWaiting b c → DiffersInWaiting c d → DiffersInWaiting b d
differs_trans b c d one other = record {
  clock = other.clock ∙ one.clock;
  tokens = other.tokens ∙ one.tokens;
  secrets = other.secrets ∙ one.secrets;
  mounts = other.mounts ∙ one.mounts;
  roles = other.roles ∙ one.roles;
  policies = other.policies ∙ one.policies;
}

-- other responses, and other identifiers
differs : (b : Broker) (waiting : Map Waiting) (used : Map ⊤)
    → DiffersInWaiting b (record b { waiting = waiting; used = used })
differs b waiting used =
    record { clock = refl; tokens = refl; secrets = refl; mounts = refl; roles = refl; policies = refl }

-- a command on responses changes no other maps
differs_by : (b next : Broker) (k : WrappingCommand) → KeepsMaps (wrapping_changes k) b next → DiffersInWaiting b next
differs_by b next (WrappingCommand.Rewrap meant) k = apart b next k.clock k.tokens k.secrets k.mounts k.roles k.policies
differs_by b next (WrappingCommand.Unwrap meant) k = apart b next k.clock k.tokens k.secrets k.mounts k.roles k.policies
differs_by b next _ k = apart b next k.clock k.tokens k.secrets k.mounts k.roles k.policies

-- an operation without a caller
acts_openly : OperationsDoAsTold → (b : Broker) (words : Words) (command : Command) (d : Done)
    → act b None (names_of words) command ≡ Ok d → DiffersInWaiting b d.next
acts_openly told b words (on_wrapping command) d e =
    differs_by b d.next command (told b None words (on_wrapping command) d e).keeps
acts_openly told b words _ d e = no_ok e

-- its reply, wrapped or not
wrapped_openly : (b : Broker) (q : Request Command) (names : Names) (command : Command) (d : Done)
    → DiffersInWaiting b d.next
    → DiffersInWaiting b (counted (wrapped permits traits act b q names command d).done)
wrapped_openly b q names command d left =
    differs_trans b d.next (counted (wrapped permits traits act b q names command d).done) left
    (elim (wrapped_cases permits traits act b q names command d) [
      | inl e ↦ subst (λ (v : Wrapped). DiffersInWaiting d.next (counted v.done)) (sym e)
          (differs d.next d.next.waiting (use_up d.next.used d.taken))
      | inr (r, made, wraps_, answered, e) ↦
          let v = wrap b q.path q.wrap_ttl names d r made in
          subst (λ (v : Wrapped). DiffersInWaiting d.next (counted v.done)) (sym e)
          (differs d.next v.done.next.waiting (use_up d.next.used v.done.taken))
    ])

module _ (told : OperationsDoAsTold) (b : Broker) (q : Request Command) (words : Words) where
  abbrev names : Names
  names = names_of words

  by_result : (r : Result Wrapped Refusal) → serve permits traits act b None q names ≡ r
      → DiffersInWaiting b (finish b None r).next
  by_result (Err why) e = differs_self b
  by_result (Ok v) e =
      let p = ok_step (unless (q.is_open || permits b None q.verb q.path) permission_denied) _ v e in
      let r = ok_step (q.command b) _ v p.2 in
      let n =
      ok_step (unless (are_new b.used (needed permits traits act q names r.0)) Refusal.IdentifierUsed) _ v r.2 in
      let m = ok_step (unless (not (traits r.0).must_wrap || nat_lt 0 q.wrap_ttl)
      (Refusal.BadRequest Reason.WrappingRequired)) _ v n.2 in
      let f = ok_step (act b None names r.0) _ v m.2 in
      subst (λ (x : Wrapped). DiffersInWaiting b (counted x.done)) (ok_inj f.2)
      (wrapped_openly b q names r.0 f.0 (acts_openly told b words r.0 f.0 f.1))

-- an open request changes nothing but which responses wait
pub changes_no_token : OperationsDoAsTold → OpenChangesNoToken
unfolding step
changes_no_token told b moment words a open_ =
    let now = at_moment b moment in
    let q = request_of a in
    let names = names_of words in
    subst (λ (o : Outcome). DiffersInWaiting now o.next)
    (sym (with_caller permits traits act b moment q names None (inl (open_, refl))))
    (by_result told now q words (serve permits traits act now None q names) refl)
