-- The broker at a later moment.
use Rattle.std.proofs.Common.{◌≡◌, ◌≤◌, ℕ, max, nat_lt, [], false, None, refl, sym, ◌∙◌, ap, subst}
use Rattle.broker_model.specs.Words.{option_map_or, get, greatest_moment, alive_at, Broker, AreFewer, IsLess}
use Rattle.broker_model.specs.Words.{fewer_sound, tree_of, sound_with, at_moment_sound, kept_get, Sound, Lease}
use Rattle.broker_model.specs.Words.{alive_is, forms, with_clock, rows-with_clock, table_of, with_row, Rows, clock_row}
use Rattle.broker_model.specs.Words.{without_expired}
use Rattle.records.specs.declared.kind.Kind.TheVariants as kind
use Rattle.broker_rows.specs.Words.{Represents}

pub sound-with_clock : (b : Broker) (n : ℕ) → Sound forms None b → n ≤ greatest_moment
    → Sound forms None (with_clock b n)
sound-with_clock b n s h =
    sound_with b n b.secrets b.mounts b.roles b.policies forms None s h s.secrets s.mounts s.roles s.policies

-- the clock's row put in place
pub represents-with_clock : (b : Broker) (old new : Rows) (n : ℕ) → Represents None old b → n ≤ greatest_moment
    → table_of new ≡ with_row (table_of old) kind.Clock [] (clock_row n) → Represents None new (with_clock b n)
represents-with_clock b old new n st within e =
    record {
      rows = e ∙ ap (λ t. with_row t kind.Clock [] (clock_row n)) st.rows ∙ sym (rows-with_clock b n);
      sound = sound-with_clock b n st.sound within;
    }

-- what has not expired was there, with no lease that is new
alive_fewer : (b : Broker) (now : ℕ) → AreFewer b.tokens (alive_at now b.tokens)
alive_fewer b now q y e =
    let x = alive_is now b.tokens q y e in (
      x.0,
      x.1,
      subst (IsLess x.0) (sym x.3) (record {
        same_accessor = refl;
        fewer_leases = λ lease_id l f.
            (kept_get (λ id. option_map_or (λ (l : Lease). nat_lt now l.ends) (get x.0.leases id) false) x.0.leases
            lease_id l f).0;
      }),
    )

-- a sound broker of which tokens and leases have expired, and no response yet, is sound
pub expired_tokens_sound : (b : Broker) (m : ℕ) → Sound forms None b → m ≤ greatest_moment
    → Sound forms None (without_expired (with_clock b (max b.clock m)) (max b.clock m))
expired_tokens_sound b m sound within =
    let now = max b.clock m in
    let s = at_moment_sound forms None b sound m within in
    fewer_sound forms None None b sound now (alive_at now b.tokens) b.waiting s.clock (tree_of forms None None _ s)
    (alive_fewer b now)
    (λ t w e. e) s.tokens.each s.unspent
