-- The secrets, the responses and the identifiers of the broker that is read off sound rows are sound.
use Rattle.std.proofs.Common.{◌≡◌, ◌≤◌, ◌<◌, if◌then◌else◌, ℕ, nat_le, true, false, Some, None, option_map, refl, sym}
use Rattle.std.specs.FinMap as fin
use Rattle.broker_model.specs.Words.{◌∙◌, ap, subst, le_trans, leb-true, none-some, same_Some, Text, id-same}
use Rattle.broker_model.specs.Words.{greatest_version, get, valued_is, Version, IsSoundKey, IsSoundVersion}
use Rattle.broker_model.specs.Words.{IsCustomPair, IsSoundWaiting, SoundSecrets, SoundWaiting, Waiting, forms}
use Rattle.broker_model.specs.Words.{version_of_digits-padded, few_listed, each_listed, KeyEntry, RowKey, waiting_row}
use Rattle.broker_model.specs.Words.{waiting_row-injective, version_key, version_of_digits, padded, name_lacks}
use Rattle.broker_model.specs.Words.{line_feed, split_once, split-lacking, Table, table_of, Rows}
use Rattle.records.specs.declared.kind.Kind.TheVariants as kind
use Rattle.soundness.specs.Words.{AreSound, Places, IsHad}
use Rattle.soundness.proofs.ReadBack as read
use Rattle.soundness.proofs.TokenFacts.{had_identifier, same_key}

-- rows that have one identifier are one row
pub one_row : (table : Table) (places : Places) (p q : RowKey) (i : Text) → IsHad table places p i
    → IsHad table places q i → p ≡ q
one_row table places p q i had_p had_q =
    let word : had_p.0 ≡ had_q.0 = id-same had_p.0 had_q.0 had_p.1 had_q.1 (sym had_p.2 ∙ had_q.2) in
    same_Some _ _ (sym had_p.4 ∙ ap places word ∙ had_q.4)

module _ (rows : Rows) (s : AreSound (table_of rows)) where
  abbrev at : Table
  at = table_of rows

  -- ---- secrets

  version_within : (name : Text) (n : ℕ) (v : Version) → read.version_read rows s name n ≡ Some v
      → (n ≤ greatest_version) × (get (read.version_map rows s) (version_key name n) ≡ Some v)
  version_within name n v =
      elim (nat_le n greatest_version)
      as (λ b. nat_le n greatest_version ≡ b
      → (if b then get (read.version_map rows s) (version_key name n) else None) ≡ Some v
      → (n ≤ greatest_version) × (get (read.version_map rows s) (version_key name n) ≡ Some v)) [
        | true ↦ λ within is. (leb-true n greatest_version within, is)
        | false ↦ λ _ none. absurd (none-some _ none)
      ] refl

  version_good : (q : Text) (k : KeyEntry) → get (read.key_map rows s) q ≡ Some k → (n : ℕ) (v : Version)
      → fin.get (read.versions rows s q) n ≡ Some v → IsSoundVersion forms (read.key_of rows s q k) n v
  version_good q k is n v has =
      let kept = version_within q n v (sym (read.get-versions rows s q n) ∙ has) in
      let good = read.version_good rows s (version_key q n) v kept.1 in
      let other = same_key rows s good.name good.key good.key_in_range good.key_row in
      let own_name = (read.key_good rows s q k is).name in
      let other_name = (read.key_good rows s good.name good.key other).name in
      let within : good.number ≤ greatest_version = le_trans good.last good.key_in_range.current in
      let split : ◌≡◌ {A = Text × Text} (q, padded n) (good.name, padded good.number) =
      same_Some _ _
      (sym (split-lacking line_feed q (padded n) (name_lacks q own_name)) ∙ ap (split_once line_feed) good.is_key
      ∙ split-lacking line_feed good.name (padded good.number) (name_lacks good.name other_name)) in
      let name : good.name ≡ q = ap (λ (p : Text × Text). p.0) (sym split) in
      let number : good.number ≡ n =
      same_Some _ _
      (sym (version_of_digits-padded good.number within) ∙ ap (λ (p : Text × Text). version_of_digits p.1) (sym split)
      ∙ version_of_digits-padded n kept.0) in
      let key : good.key ≡ k = same_Some _ _ (sym other ∙ ap (get (read.key_map rows s)) name ∙ is) in
      record {
        first = subst (λ m. 0 < m) number good.first;
        last = subst (λ m. m ≤ k.current) number (subst (λ (e : KeyEntry). good.number ≤ e.current) key good.last);
        created = good.in_range.created;
        deleted = good.in_range.deleted;
        secret = good.object;
      }

  key_sound : (q : Text) (k : KeyEntry) → get (read.key_map rows s) q ≡ Some k
      → IsSoundKey forms q (read.key_of rows s q k)
  key_sound q k is =
      let good = read.key_good rows s q k is in
      record {
        name = good.name;
        created = good.in_range.created;
        updated = good.in_range.updated;
        current = good.in_range.current;
        versions = λ n v has. version_good q k is n v has;
        max_versions = good.in_range.max_versions;
        few_metadata = le_trans (few_listed k.custom_metadata) good.few_metadata;
        metadata = each_listed IsCustomPair k.custom_metadata good.metadata;
      }

  pub secrets_sound : SoundSecrets forms (read.secrets rows s)
  secrets_sound q k is =
      let e = valued_is (read.key_of rows s) (read.key_map rows s) q k is in
      subst (IsSoundKey forms q) (sym e.2) (key_sound q e.0 e.1)

  -- ---- responses that wait

  pub waiting_row_at : (t : Text) (w : Waiting) → get (read.waiting rows s) t ≡ Some w
      → at kind.Waiting t ≡ Some (waiting_row w)
  waiting_row_at t w is = read.waiting_told rows s t ∙ ap (option_map waiting_row) is

  -- the origin of a response is had by it
  pub origin_had : (t : Text) (w : Waiting) → get (read.waiting rows s) t ≡ Some w
      → IsHad at s.origins.0 (kind.Waiting, t) w.origin
  origin_had t w is =
      let o = s.origins.1 t (waiting_row w) (waiting_row_at t w is) in
      let one : o.0 ≡ w =
      sym (waiting_row-injective w o.0 ((read.waiting_good rows s t w is).in_range) o.1.0 o.2) in
      subst (λ (v : Waiting). IsHad at s.origins.0 (kind.Waiting, t) v.origin) one o.1.1

  waiting_sound : (t : Text) (w : Waiting) → get (read.waiting rows s) t ≡ Some w → IsSoundWaiting t w
  waiting_sound t w is =
      let good = read.waiting_good rows s t w is in
      let i = s.identifiers.1 kind.Waiting t (waiting_row w) (waiting_row_at t w is) in
      record {
        name = (i.0, had_identifier at s.identifiers.0 (kind.Waiting, t) i.0 i.2, i.1);
        accessor = had_identifier at s.identifiers.0 (kind.Accessor, w.accessor) w.accessor
            (s.identifiers.1 kind.Accessor w.accessor _ good.accessor);
        created = good.in_range.created;
        waits = good.waits;
        ttl = good.in_range.ttl;
        path = good.path;
        origin = had_identifier at s.origins.0 (kind.Waiting, t) w.origin (origin_had t w is);
        reply = good.in_range.reply.utf8;
        short = good.in_range.reply.short;
      }

  pub responses_sound : SoundWaiting (read.waiting rows s)
  responses_sound =
      record {
        each = waiting_sound;
        one_origin = λ t u v w in_t in_u same.
            ap (λ (k : RowKey). k.1)
            (one_row at s.origins.0 (kind.Waiting, t) (kind.Waiting, u) v.origin (origin_had t v in_t)
            (subst (IsHad at s.origins.0 (kind.Waiting, u)) (sym same) (origin_had u w in_u)));
      }
