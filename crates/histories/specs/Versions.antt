-- The law of what becomes of versioned secrets, as a statement (Vault's documentation, "KV secrets engine - version 2",
-- check-and-set, deleting and destroying data, key metadata; "/sys/mounts", disable secrets engine).
use Rattle.std.specs.Prelude.{◌≡◌, ◌≢◌, ◌⊎◌, ◌<◌, ◌≤◌, ◌+◌, ◌++◌, ◌∷◌}
use Rattle.broker_model.specs.Words.{secret_object, version_object, KeySettings, not_found}
use Rattle.histories.specs.Common.{ℕ, List, [], Contains, Bool, true, false, nat_eq, Some, None, Ok, is_none}
use Rattle.histories.specs.Common.{starts_with, refused, Text, get, Broker, Mount, names_of, Key, Version, slash}
use Rattle.histories.specs.Common.{plain_reply, reply_text, SecretWrite, VersionObject, on_mount, on_secret}
use Rattle.histories.specs.Common.{command_of, Place, Refusal, Status, entries, from_entries, MountCommand}
use Rattle.histories.specs.Common.{SecretCommand}
use Rattle.histories.specs.History.{AreAsked, Asking, AskedAt, History, clocked}
use Rattle.histories.specs.KeptResponses.{unwrapped_body}

-- ---- what was asked, and answered

-- the name of a secret: its mount, a slash, and its path there
abbrev pub named : Place → Text
named p = p.mount ++ slash ∷ p.path

-- the request was a 200 to this write of the secret q
pub record Writes (a : Asking) (q : Text) (asked : SecretWrite) : Type 0 where
  pub place : Place
  pub means : command_of (clocked a).mounts a.ask ≡ Ok (on_secret place (SecretCommand.Write asked))
  pub name : q ≡ named place
  pub answered : a.outcome.response.status ≡ Status.Success

-- the request was a 204 to this command on the secret q
pub record Commands (a : Asking) (q : Text) (asked : SecretCommand) : Type 0 where
  pub place : Place
  pub means : command_of (clocked a).mounts a.ask ≡ Ok (on_secret place asked)
  pub name : q ≡ named place
  pub answered : a.outcome.response.status ≡ Status.NoContent

-- the request was a 204 to the disabling of the mount, which was there, that the secret q is of
pub record DisablesAbove (a : Asking) (q : Text) : Type 0 where
  pub name : Text
  pub below : starts_with nat_eq q (name ++ slash ∷ []) ≡ true
  pub means : command_of (clocked a).mounts a.ask ≡ Ok (on_mount name MountCommand.Disable)
  pub there : get (clocked a).mounts name ≢ None
  pub answered : a.outcome.response.status ≡ Status.NoContent

-- ---- a version that stands

-- the version n, if it is the current one, was deleted by a 204
abbrev pub Deletes : Asking → Text → ℕ → ℕ → Type 0
Deletes a q current n =
    (Commands a q SecretCommand.DeleteCurrent × (n ≡ current))
    ⊎ ((ns : List ℕ) × Commands a q (SecretCommand.Delete ns) × Contains ns n)

-- What became of the version n of the secret q, whose current one has this number. What it holds goes by a destruction
-- that names it; a time of deletion comes by a deletion that names it, and goes by its taking back.
pub record VersionStands (a : Asking) (q : Text) (current n : ℕ) (v w : Version) : Type 0 where
  pub created : w.created ≡ v.created
  pub secret : (w.secret ≡ v.secret)
      ⊎ ((w.secret ≡ None) × ((ns : List ℕ) × Commands a q (SecretCommand.Destroy ns) × Contains ns n))
  pub deleted : (w.deleted ≡ v.deleted)
      ⊎ (((v.deleted ≡ None) × (w.deleted ≡ Some (clocked a).clock) × Deletes a q current n)
      ⊎ ((w.deleted ≡ None) × (v.secret ≢ None)
      × ((ns : List ℕ) × Commands a q (SecretCommand.Undelete ns) × Contains ns n)))

-- What a 204 asked of the version n of the secret q, whose current one has this number, was done: a deletion that names
-- it leaves it deleted, a taking back not deleted unless it is destroyed, and a destruction without what it held.
pub record IsAsAsked (a : Asking) (q : Text) (current n : ℕ) (v : Version) : Type 0 where
  pub deleted : Deletes a q current n → v.deleted ≢ None
  pub taken_back : (ns : List ℕ) → Commands a q (SecretCommand.Undelete ns) → Contains ns n
      → (v.deleted ≡ None) ⊎ (v.secret ≡ None)
  pub destroyed : (ns : List ℕ) → Commands a q (SecretCommand.Destroy ns) → Contains ns n → v.secret ≡ None

-- ---- a write

-- How many versions are kept: what the secret says, else what its mount says, else ten; 0 says nothing.
pub record AreKept (own of_mount kept : ℕ) : Type 0 where
  pub by_own : own ≢ 0 → kept ≡ own
  pub by_mount : own ≡ 0 → of_mount ≢ 0 → kept ≡ of_mount
  pub else_ten : own ≡ 0 → of_mount ≡ 0 → kept ≡ 10

-- What a 200 to a write of the secret k, in the mount m, left. Its number is one more. If it told which version it
-- follows, that is the current one; else neither the secret nor the mount wants to be told. All versions above the
-- oldest that is kept are as they were, and the others are gone.
pub record IsWritten (now : ℕ) (m : Mount) (asked : SecretWrite) (k next : Key) : Type 0 where
  pub told : (n : ℕ) → asked.cas ≡ Some n → n ≡ k.current
  pub untold : asked.cas ≡ None → (k.cas_required ≡ false) × (m.cas_required ≡ false)
  pub number : next.current ≡ k.current + 1
  pub version : get next.versions next.current
      ≡ Some (record { created = now; deleted = None; secret = Some asked.object })
  pub kept : ℕ
  pub are_kept : AreKept k.max_versions m.max_versions kept
  pub gone : (n : ℕ) → (n ≡ 0) ⊎ (n + kept ≤ next.current) → get next.versions n ≡ None
  pub left : (n : ℕ) → n ≢ 0 → n ≢ next.current → next.current < n + kept
      → get next.versions n ≡ get k.versions n
  pub created : next.created ≡ k.created
  pub updated : next.updated ≡ now
  pub cas_required : next.cas_required ≡ k.cas_required
  pub max_versions : next.max_versions ≡ k.max_versions
  pub custom_metadata : next.custom_metadata ≡ k.custom_metadata

-- a secret without versions and without settings of its own, which a write or settings make
pub record IsNewKey (now : ℕ) (k : Key) : Type 0 where
  pub created : k.created ≡ now
  pub current : k.current ≡ 0
  pub empty : (n : ℕ) → get k.versions n ≡ None
  pub free : k.cas_required ≡ false
  pub unlimited : k.max_versions ≡ 0

-- The write wrote: over the secret that was there, or over a new one. So a 200 to a write is no lie. The reply, without
-- wrapping, shows the version that it made.
pub record DidWrite (a : Asking) (q : Text) (asked : SecretWrite) : Type 0 where
  pub place : Place
  pub name : q ≡ named place
  pub of_mount : Mount
  pub in_mount : get (clocked a).mounts place.mount ≡ Some of_mount
  pub before : Key
  pub was : (get (clocked a).secrets q ≡ Some before)
      ⊎ ((get (clocked a).secrets q ≡ None) × IsNewKey (clocked a).clock before)
  pub after : Key
  pub there : get a.outcome.next.secrets q ≡ Some after
  pub is : IsWritten (clocked a).clock of_mount asked before after
  pub made : VersionObject
  pub is_made : made
      ≡ record { created = (clocked a).clock; deleted = None; destroyed = false; version = after.current }
  pub told : unwrapped_body a
      ≡ reply_text (plain_reply (names_of a.words).request
      (version_object (entries after.custom_metadata) made))

-- ---- settings

-- What a 204 to settings of the secret k left of them: those that are given, and the others as they were.
pub record AreSet (now : ℕ) (asked : KeySettings) (k next : Key) : Type 0 where
  pub updated : next.updated ≡ now
  pub cas_required : (v : Bool) → asked.cas_required ≡ Some v → next.cas_required ≡ v
  pub same_cas_required : asked.cas_required ≡ None → next.cas_required ≡ k.cas_required
  pub max_versions : (n : ℕ) → asked.max_versions ≡ Some n → next.max_versions ≡ n
  pub same_max_versions : asked.max_versions ≡ None → next.max_versions ≡ k.max_versions
  pub custom_metadata : (pairs : List (Text × Text)) → asked.custom_metadata ≡ Some pairs
      → next.custom_metadata ≡ from_entries pairs
  pub same_custom_metadata : asked.custom_metadata ≡ None → next.custom_metadata ≡ k.custom_metadata

-- The settings were set: those of the secret that was there, or of a new one.
pub record DidSet (a : Asking) (q : Text) (asked : KeySettings) : Type 0 where
  pub before : Key
  pub was : (get (clocked a).secrets q ≡ Some before)
      ⊎ ((get (clocked a).secrets q ≡ None) × IsNewKey (clocked a).clock before)
  pub after : Key
  pub there : get a.outcome.next.secrets q ≡ Some after
  pub is : AreSet (clocked a).clock asked before after

-- ---- what becomes of a secret

-- The secret was not written: it has the same versions, of which each stands, and the same current one; its settings,
-- and the time when it was updated, change only by a 204 to settings of its own.
pub record StandsUnwritten (a : Asking) (q : Text) (k m : Key) : Type 0 where
  pub created : m.created ≡ k.created
  pub current : m.current ≡ k.current
  pub versions : (n : ℕ) (v : Version) → get k.versions n ≡ Some v
      → (w : Version) × (get m.versions n ≡ Some w) × VersionStands a q k.current n v w
  pub none : (n : ℕ) → get k.versions n ≡ None → get m.versions n ≡ None
  pub settings : ((m.cas_required ≡ k.cas_required) × (m.max_versions ≡ k.max_versions)
      × (m.custom_metadata ≡ k.custom_metadata) × (m.updated ≡ k.updated))
      ⊎ ((asked : KeySettings) × Commands a q (SecretCommand.SetMetadata asked))

-- the secret stands, written or not
abbrev pub SecretStands : Asking → Text → Key → Key → Type 0
SecretStands a q k m = ((asked : SecretWrite) × Writes a q asked) ⊎ StandsUnwritten a q k m

-- it goes by its removal, or with its mount
abbrev pub SecretGoes : Asking → Text → Type 0
SecretGoes a q = Commands a q SecretCommand.Remove ⊎ DisablesAbove a q

-- it comes by a write, or without versions by settings of its own
abbrev pub Comes : Asking → Text → Key → Type 0
Comes a q m =
    ((asked : SecretWrite) × Writes a q asked)
    ⊎ (((asked : KeySettings) × Commands a q (SecretCommand.SetMetadata asked)) × (m.current ≡ 0)
    × ((n : ℕ) → get m.versions n ≡ None))

-- ---- what is read

-- The request read this version: the one that it asked for, or the current one if it asked for 0. It is neither deleted
-- nor destroyed, and the reply, without wrapping, has what it holds, byte for byte, its number and its time, and the
-- custom metadata of the secret.
pub record ReadsVersion (a : Asking) (p : Place) (asked : ℕ) : Type 0 where
  pub key : Key
  pub there : get (clocked a).secrets (named p) ≡ Some key
  pub number : ℕ
  pub by_number : asked ≢ 0 → number ≡ asked
  pub by_current : asked ≡ 0 → number ≡ key.current
  pub version : Version
  pub is_kept : get key.versions number ≡ Some version
  pub not_deleted : version.deleted ≡ None
  pub object : Text
  pub holds : version.secret ≡ Some object
  pub shown : VersionObject
  pub is_shown : shown ≡ record { created = version.created; deleted = None; destroyed = false; version = number }
  pub reply : unwrapped_body a
      ≡ reply_text (plain_reply (names_of a.words).request
      (secret_object (Some object) (entries key.custom_metadata) shown))

-- The request asked for a version that is kept, but deleted or destroyed. The reply, which is never wrapped, is a 404
-- with its number, its times and the custom metadata of the secret, and nothing of what it held.
pub record ShowsEnded (a : Asking) (p : Place) (asked : ℕ) : Type 0 where
  pub key : Key
  pub there : get (clocked a).secrets (named p) ≡ Some key
  pub number : ℕ
  pub by_number : asked ≢ 0 → number ≡ asked
  pub by_current : asked ≡ 0 → number ≡ key.current
  pub version : Version
  pub is_kept : get key.versions number ≡ Some version
  pub ended : (version.deleted ≢ None) ⊎ (version.secret ≡ None)
  pub shown : VersionObject
  pub is_shown : shown
      ≡ record {
        created = version.created;
        deleted = version.deleted;
        destroyed = is_none version.secret;
        version = number;
      }
  pub response : a.outcome.response
      ≡ not_found (reply_text (plain_reply (names_of a.words).request
      (secret_object None (entries key.custom_metadata) shown)))

-- There is no version of this number, or no secret; 0 asks for the current one.
pub record LacksVersion (a : Asking) (p : Place) (asked : ℕ) : Type 0 where
  pub by_number : (key : Key) → get (clocked a).secrets (named p) ≡ Some key → asked ≢ 0
      → get key.versions asked ≡ None
  pub by_current : (key : Key) → get (clocked a).secrets (named p) ≡ Some key → asked ≡ 0
      → get key.versions key.current ≡ None

-- the broker has the version n of the secret q, and it holds the object
pub record Holds (b : Broker) (q : Text) (n : ℕ) (object : Text) : Type 0 where
  pub key : Key
  pub there : get b.secrets q ≡ Some key
  pub version : Version
  pub is_kept : get key.versions n ≡ Some version
  pub holds : version.secret ≡ Some object

-- an event before the place j wrote it, as that version
pub record WroteBefore (history : History) (j : ℕ) (q : Text) (n : ℕ) (object : Text) : Type 0 where
  pub place : ℕ
  pub earlier : place < j
  pub asking : Asking
  pub asked_at : AskedAt history place asking
  pub asked : SecretWrite
  pub wrote : DidWrite asking q asked
  pub number : wrote.after.current ≡ n
  pub is : asked.object ≡ object

-- ---- the law

pub record VersionsFollow (b : Broker) (history : History) : Type 0 where
  -- The clock alone changes no secret.
  pub clock : (i : ℕ) (a : Asking) → AskedAt history i a → (clocked a).secrets ≡ a.broker.secrets
  -- Each 200 to a write wrote.
  pub written : (i : ℕ) (a : Asking) (q : Text) (asked : SecretWrite) → AskedAt history i a → Writes a q asked
      → DidWrite a q asked
  -- And each 204 to settings of a secret set them.
  pub set : (i : ℕ) (a : Asking) (q : Text) (asked : KeySettings) → AskedAt history i a
      → Commands a q (SecretCommand.SetMetadata asked) → DidSet a q asked
  -- A secret that was there at the clock of an event and is after it, stands.
  pub stand : (i : ℕ) (a : Asking) (q : Text) (k m : Key) → AskedAt history i a → get (clocked a).secrets q ≡ Some k
      → get a.outcome.next.secrets q ≡ Some m → SecretStands a q k m
  -- And each of its versions that a 204 named, is as that asked.
  pub as_asked : (i : ℕ) (a : Asking) (q : Text) (m : Key) (n : ℕ) (v : Version) → AskedAt history i a
      → get a.outcome.next.secrets q ≡ Some m → get m.versions n ≡ Some v → IsAsAsked a q m.current n v
  pub go : (i : ℕ) (a : Asking) (q : Text) → AskedAt history i a → get (clocked a).secrets q ≢ None
      → get a.outcome.next.secrets q ≡ None → SecretGoes a q
  pub come : (i : ℕ) (a : Asking) (q : Text) (m : Key) → AskedAt history i a → get (clocked a).secrets q ≡ None
      → get a.outcome.next.secrets q ≡ Some m → Comes a q m
  -- After a 204 to its removal, or to the disabling of its mount, a secret is gone.
  pub gone : (i : ℕ) (a : Asking) (q : Text) → AskedAt history i a → SecretGoes a q
      → get a.outcome.next.secrets q ≡ None
  -- A 200 to a read has what the version holds.
  pub read : (i : ℕ) (a : Asking) (p : Place) (n : ℕ) → AskedAt history i a
      → command_of (clocked a).mounts a.ask ≡ Ok (on_secret p (SecretCommand.Read n))
      → a.outcome.response.status ≡ Status.Success → ReadsVersion a p n
  -- A 404 to it shows a version that is deleted or destroyed, without what it held; or there is none.
  pub read_404 : (i : ℕ) (a : Asking) (p : Place) (n : ℕ) → AskedAt history i a
      → command_of (clocked a).mounts a.ask ≡ Ok (on_secret p (SecretCommand.Read n))
      → a.outcome.response.status ≡ Status.NotFound
      → ShowsEnded a p n ⊎ (LacksVersion a p n × (a.outcome.response ≡ refused Refusal.NotFound))
  -- And what a version holds was given by the write that made it, or it was there at first.
  pub given : (j : ℕ) (x : Asking) (q : Text) (n : ℕ) (object : Text) → AskedAt history j x
      → Holds (clocked x) q n object → WroteBefore history j q n object ⊎ Holds b q n object

abbrev pub AllVersionsFollow : Type 0
AllVersionsFollow = (b : Broker) (history : History) → AreAsked b history → VersionsFollow b history
