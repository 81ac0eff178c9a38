-- The law of what look-ups answer, as a statement (Vault's documentation, "Token auth method (API)",
-- "/sys/leases", "/sys/policies", "KV secrets engine - version 2 (API)"; the engine that issues credentials is this
-- project's). The forms of objects are those of `api_json`.
use Rattle.std.specs.Prelude.{◌≡◌, ◌≢◌, ◌⊎◌, ◌<◌, ◌≤◌, ◌+◌, ◌-◌, ◌++◌, ◌∷◌}
use Rattle.broker_model.specs.Words.{map, key_object, lease_object, policy_object, role_object, mounts_object}
use Rattle.broker_model.specs.Words.{settings_object, token_object, valid_object, LeaseObject, MountObject, KeyObject}
use Rattle.broker_model.specs.Words.{TokenObject, ℕ, min, List, [], Bool, true, false, Some, None, Ok, is_none}
use Rattle.broker_model.specs.Words.{unwrap_or, codes, option_map_or, Text, Map, entries, get, keys, Broker, Engine}
use Rattle.broker_model.specs.Words.{Mount, Role, issued, kv, names_of, lease_of, Key, Version, Lease, Token, children}
use Rattle.broker_model.specs.Words.{folder, auth_object, keys_object, lease_reply, plain_reply, reply_text}
use Rattle.broker_model.specs.Words.{VersionObject, Command, command_of, on_issued, on_lease, on_mount, on_policy}
use Rattle.broker_model.specs.Words.{on_secret, on_token, on_wrapping, Place, Status}
use Rattle.histories.specs.Common.{IssuedCommand, LeaseCommand, MountCommand, PolicyCommand, SecretCommand}
use Rattle.histories.specs.Common.{TokenCommand, WrappingCommand}
use Rattle.histories.specs.History.{AreAsked, Asking, AskedAt, History, clocked, spent_by}
use Rattle.histories.specs.Own.{IsNewEnd, RenewsLease, RenewsToken, increment_of}
use Rattle.histories.specs.Creations.{told_of, with_token}
use Rattle.histories.specs.KeptResponses.{unwrapped_answer, unwrapped_body}
use Rattle.histories.specs.Revocation.{IsClient}
use Rattle.histories.specs.Versions.{named}

-- the request was a 200 to this command
pub record Succeeds (a : Asking) (command : Command) : Type 0 where
  pub means : command_of (clocked a).mounts a.ask ≡ Ok command
  pub answered : a.outcome.response.status ≡ Status.Success

-- the reply, without wrapping, has this as its data, and nothing else
abbrev pub Shows : Asking → Text → Type 0
Shows a payload = unwrapped_body a ≡ reply_text (plain_reply (names_of a.words).request payload)

-- ---- tokens

-- what is shown of the token x at this clock, under this id
abbrev pub shown_of : ℕ → Text → Token → TokenObject
shown_of now id x = record {
  accessor = x.accessor;
  issued = x.issued;
  creation_ttl = x.ttl;
  ends = x.ends;
  explicit_max_ttl = x.explicit_max_ttl;
  id = id;
  meta = entries x.meta;
  num_uses = unwrap_or x.uses_left 0;
  orphan = is_none x.parent;
  period = x.period;
  policies = x.policies;
  ttl = option_map_or (λ end. end - now) x.ends 0;
}

-- The reply shows the token t under this id, as it is once the client token has spent its use.
pub record ShowsToken (a : Asking) (t id : Text) : Type 0 where
  pub caller : Text
  pub client : IsClient a caller
  pub found : Token
  pub there : get (spent_by a caller).tokens t ≡ Some found
  pub shows : Shows a (token_object (shown_of (clocked a).clock id found))

-- The reply shows the token that has the accessor, without its text.
pub record ShowsHolder (a : Asking) (accessor : Text) : Type 0 where
  pub text : Text
  pub shown : ShowsToken a text []
  pub holds : shown.found.accessor ≡ accessor

-- The reply tells of the token q that was renewed, with its new end.
pub record TellsRenewed (a : Asking) (q : Text) (r : RenewsToken a q) : Type 0 where
  pub found : Token
  pub there : get (spent_by a r.caller).tokens q ≡ Some found
  pub end : ℕ
  pub in_time : IsNewEnd (clocked a).clock (increment_of r.command) found end
  pub told : unwrapped_body a
      ≡ reply_text (with_token (names_of a.words).request
      (auth_object (told_of (clocked a).clock q (record found { ends = Some end }))))

-- ---- leases

-- the reply shows a lease of this id that a token has
pub record ShowsLease (a : Asking) (lease_id : Text) : Type 0 where
  pub holder : Text
  pub found : Lease
  pub there : lease_of (clocked a) holder lease_id ≡ Some found
  pub shown : LeaseObject
  pub is_shown : shown
      ≡ record {
        ends = found.ends;
        id = lease_id;
        issued = found.issued;
        renewed = found.renewed;
        ttl = found.ends - (clocked a).clock;
      }
  pub shows : Shows a (lease_object shown)

-- The reply tells of the lease that was renewed, with the seconds to its new end.
pub record TellsRenewedLease (a : Asking) (lease_id : Text) (r : RenewsLease a lease_id) : Type 0 where
  pub holder : Text
  pub found : Lease
  pub there : lease_of (clocked a) holder lease_id ≡ Some found
  pub end : ℕ
  pub asked : r.asked.increment ≢ 0
      → end ≡ min ((clocked a).clock + r.asked.increment) (found.issued + found.max_ttl)
  pub not_asked : r.asked.increment ≡ 0
      → end ≡ min ((clocked a).clock + found.ttl) (found.issued + found.max_ttl)
  pub told : unwrapped_body a
      ≡ reply_text (lease_reply (names_of a.words).request lease_id (end - (clocked a).clock) None)

-- whether some token has a lease with the credential
abbrev pub IsValid : Broker → Text → Type 0
IsValid b credential =
    (q : Text) × (lease_id : Text) × (l : Lease) × (lease_of b q lease_id ≡ Some l) × (l.credential ≡ credential)

-- the reply says whether the credential is that of a lease
pub record SaysValid (a : Asking) (credential : Text) : Type 0 where
  pub valid : Bool
  pub shows : Shows a (valid_object valid)
  pub yes : valid ≡ true → IsValid (clocked a) credential
  pub no : valid ≡ false → IsValid (clocked a) credential → ⊥

-- ---- settings

pub record ShowsRole (a : Asking) (q : Text) : Type 0 where
  pub found : Role
  pub there : get (clocked a).roles q ≡ Some found
  pub shows : Shows a (role_object found.max_ttl found.ttl)

pub record ShowsSettings (a : Asking) (name : Text) : Type 0 where
  pub found : Mount
  pub there : get (clocked a).mounts name ≡ Some found
  pub shows : Shows a (settings_object found.cas_required found.max_versions)

-- the text of a policy as it was handed in, and no text of `root`
pub record ShowsPolicy (a : Asking) (name : Text) : Type 0 where
  pub text : Text
  pub is : ((name ≡ codes "root") × (text ≡ [])) ⊎ (get (clocked a).policies name ≡ Some text)
  pub shows : Shows a (policy_object name text)

-- ---- secrets and lists

-- the version at this number, without what it holds
abbrev pub version_shown : ℕ × Version → VersionObject
version_shown e = record {
  created = e.1.created;
  deleted = e.1.deleted;
  destroyed = is_none e.1.secret;
  version = e.0;
}

-- The reply shows the secret with its settings, its times and its versions. The oldest version is 0, unless the first
-- of those that are kept is above 1.
pub record ShowsSecret (a : Asking) (q : Text) : Type 0 where
  pub found : Key
  pub there : get (clocked a).secrets q ≡ Some found
  pub oldest : ℕ
  pub none : entries found.versions ≡ [] → oldest ≡ 0
  pub first : (n : ℕ) (v : Version) (rest : List (ℕ × Version)) → entries found.versions ≡ (n, v) ∷ rest
      → ((n ≤ 1) × (oldest ≡ 0)) ⊎ ((1 < n) × (oldest ≡ n))
  pub shown : KeyObject
  pub is_shown : shown
      ≡ record {
        cas_required = found.cas_required;
        created = found.created;
        current_version = found.current;
        custom_metadata = entries found.custom_metadata;
        max_versions = found.max_versions;
        oldest_version = oldest;
        updated = found.updated;
        versions = map version_shown (entries found.versions);
      }
  pub shows : Shows a (key_object shown)

-- The reply lists the names that pass, each once, in the order of their bytes.
pub record Lists (a : Asking) (Passes : Text → Type 0) : Type 0 where
  pub names : Map Text
  pub only : (name : Text) → get names name ≢ None → Passes name
  pub all : (name : Text) → Passes name → get names name ≢ None
  pub shows : Shows a (keys_object (keys names))

-- a policy of the broker, or one that is always there
abbrev pub IsPolicyName : Asking → Text → Type 0
IsPolicyName a name =
    (get (clocked a).policies name ≢ None) ⊎ ((name ≡ codes "default") ⊎ (name ≡ codes "root"))

-- the accessor of a token
abbrev pub IsAccessorOf : Asking → Text → Type 0
IsAccessorOf a accessor =
    (t : Text) × (x : Token) × (get (clocked a).tokens t ≡ Some x) × (x.accessor ≡ accessor)

-- ---- mounts

-- a mount of an engine as the list shows it
abbrev pub mount_shown : Text → Engine → MountObject
mount_shown name kv = record { name = name; type_name = codes "kv"; version = Some (codes "2") }
mount_shown name issued = record { name = name; type_name = codes "issued"; version = None }

-- one of these mounts, or of the two that are always there, with a slash behind its name
abbrev pub IsMountShown : Map Mount → MountObject → Type 0
IsMountShown mounts x =
    (x ≡ record { name = codes "sys/"; type_name = codes "system"; version = None })
    ⊎ ((x ≡ record { name = codes "cubbyhole/"; type_name = codes "cubbyhole"; version = None })
    ⊎ ((name : Text) × (m : Mount) × (get mounts name ≡ Some m) × (x ≡ mount_shown (name ++ codes "/") m.engine)))

-- The reply lists the mounts, each once, in the order of the bytes of their names.
pub record ListsMounts (a : Asking) : Type 0 where
  pub mounts : Map MountObject
  pub only : (name : Text) (x : MountObject) → get mounts name ≡ Some x
      → (name ≡ x.name) × IsMountShown (clocked a).mounts x
  pub own : (name : Text) → get (clocked a).mounts name ≢ None → get mounts (name ++ codes "/") ≢ None
  pub system : get mounts (codes "sys/") ≢ None
  pub cubbyhole : get mounts (codes "cubbyhole/") ≢ None
  pub shows : Shows a (mounts_object (map (λ e. e.1) (entries mounts)))

-- ---- the law

pub record AnswersShow (history : History) : Type 0 where
  -- Without a wrap TTL each request but an ask to wrap is answered with the reply without wrapping.
  pub plain : (i : ℕ) (a : Asking) → AskedAt history i a → a.ask.wrap_ttl ≡ 0
      → ((text : Text) → command_of (clocked a).mounts a.ask ≡ Ok (on_wrapping (WrappingCommand.Wrap text)) → ⊥)
      → a.outcome.response ≡ unwrapped_answer a
  pub by_text : (i : ℕ) (a : Asking) (t : Text) → AskedAt history i a → Succeeds a (on_token (TokenCommand.LookUp t))
      → ShowsToken a t t
  pub client_token : (i : ℕ) (a : Asking) → AskedAt history i a → Succeeds a (on_token TokenCommand.LookUpSelf)
      → (c : Text) × IsClient a c × ShowsToken a c c
  pub by_accessor : (i : ℕ) (a : Asking) (accessor : Text) → AskedAt history i a
      → Succeeds a (on_token (TokenCommand.LookUpAccessor accessor)) → ShowsHolder a accessor
  pub renewed : (i : ℕ) (a : Asking) (q : Text) → AskedAt history i a → (r : RenewsToken a q) → TellsRenewed a q r
  pub lease : (i : ℕ) (a : Asking) (prefix lease_id : Text) → AskedAt history i a
      → Succeeds a (on_lease prefix (LeaseCommand.LookUp lease_id)) → ShowsLease a lease_id
  pub renewed_lease : (i : ℕ) (a : Asking) (lease_id : Text) → AskedAt history i a → (r : RenewsLease a lease_id)
      → TellsRenewedLease a lease_id r
  pub valid : (i : ℕ) (a : Asking) (p : Place) (credential : Text) → AskedAt history i a
      → Succeeds a (on_issued p (IssuedCommand.Verify credential)) → SaysValid a credential
  pub role : (i : ℕ) (a : Asking) (p : Place) → AskedAt history i a → Succeeds a (on_issued p IssuedCommand.ShowRole)
      → ShowsRole a (named p)
  pub settings : (i : ℕ) (a : Asking) (p : Place) → AskedAt history i a
      → Succeeds a (on_secret p SecretCommand.ShowSettings) → ShowsSettings a p.mount
  pub policy : (i : ℕ) (a : Asking) (name : Text) → AskedAt history i a → Succeeds a (on_policy name PolicyCommand.Show)
      → ShowsPolicy a name
  pub secret : (i : ℕ) (a : Asking) (p : Place) → AskedAt history i a
      → Succeeds a (on_secret p SecretCommand.ShowMetadata)
      → ShowsSecret a (named p)
  pub policies : (i : ℕ) (a : Asking) (name : Text) → AskedAt history i a
      → Succeeds a (on_policy name PolicyCommand.List)
      → Lists a (IsPolicyName a)
  pub accessors : (i : ℕ) (a : Asking) → AskedAt history i a → Succeeds a (on_token TokenCommand.ListAccessors)
      → Lists a (IsAccessorOf a)
  pub mounts : (i : ℕ) (a : Asking) (name : Text) → AskedAt history i a → Succeeds a (on_mount name MountCommand.List)
      → ListsMounts a
  pub listed : (i : ℕ) (a : Asking) (p : Place) → AskedAt history i a → Succeeds a (on_secret p SecretCommand.List)
      → Shows a (keys_object (children (named (record { mount = p.mount; path = folder p.path }))
      (keys (clocked a).secrets)))

-- whatever the first broker is
abbrev pub AllAnswersShow : Type 0
AllAnswersShow = (b : Broker) (history : History) → AreAsked b history → AnswersShow history
