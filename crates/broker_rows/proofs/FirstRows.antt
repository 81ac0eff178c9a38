-- The rows of the first broker.
use Rattle.std.proofs.Common.{◌≡◌, ◌≢◌, ◌≤◌, ◌<◌, ◌^◌, ◌∷◌, ℕ, List, [], codes, None, sym, ◌∙◌, ap}
use Rattle.std.specs.FinMap as map
use Rattle.broker_model.specs.Words.{Text, text_cmp, empty, entries, id, token_text, first_broker, root_token}
use Rattle.broker_model.specs.Words.{default_policy, secret_mount, first_sound, entries-empty, greatest_moment, Row}
use Rattle.broker_model.specs.Words.{with_settings, with_root, rows-first, clock_row, token_row, entry_row, mount_row}
use Rattle.broker_model.specs.Words.{policy_row, rows_of, table_of, TokenEntry, Rows, first_policy, forms}
use Rattle.records.specs.declared.kind.Kind.TheVariants as kind
use Rattle.broker_rows.specs.Words.{Represents}

-- ---- rows put in turn

pub settings_put : (r₀ r₁ r₂ r₃ : Rows) (moment : ℕ) (a b c : Row)
    → r₁ ≡ map.insert r₀ (kind.Clock, []) a → r₂ ≡ map.insert r₁ (kind.Mount, codes "secret") b
    → r₃ ≡ map.insert r₂ (kind.Policy, codes "default") c
    → a ≡ clock_row moment → b ≡ mount_row secret_mount → c ≡ policy_row default_policy → r₃ ≡ with_settings r₀ moment
settings_put r₀ r₁ r₂ r₃ moment a b c e₁ e₂ e₃ fa fb fc =
    e₃ ∙ ap (λ r. map.insert r (kind.Policy, codes "default") c)
    (e₂ ∙ ap (λ r. map.insert r (kind.Mount, codes "secret") b) e₁)
    ∙ (λ i. map.insert (map.insert (map.insert r₀ (kind.Clock, []) (fa i)) (kind.Mount, codes "secret") (fb i))
    (kind.Policy, codes "default") (fc i))

-- what the row of a root token says
abbrev root_says : Text → List Text → ℕ → List (Text × Text) → TokenEntry
root_says accessor policies issued meta = record {
  parent = None;
  accessor = accessor;
  policies = policies;
  issued = issued;
  ends = None;
  ttl = 0;
  explicit_max_ttl = 0;
  period = 0;
  uses_left = None;
  meta = meta;
}

pub root_entry : (moment : ℕ) (accessor acc : Text) (policies : List Text) (issued : ℕ) (meta : List (Text × Text))
    → acc ≡ accessor
    → policies ≡ codes "root" ∷ [] → issued ≡ moment → meta ≡ []
    → entry_row (root_says acc policies issued meta) ≡ token_row (root_token moment accessor)
root_entry moment accessor acc policies issued meta a p s m =
    let none : entries (empty {X = Text} {R = text_cmp}) ≡ [] = entries-empty in
    λ i. entry_row (root_says (a i) (p i) (s i) ((m ∙ sym none) i))

-- ---- the first broker

pub first_represented : (rows : Rows) (moment v w : ℕ) → moment ≤ greatest_moment → v < 2 ^ 128 → w < 2 ^ 128 → v ≢ w
    → table_of rows ≡ rows_of (first_broker moment v w) → Represents None rows (first_broker moment v w)
first_represented rows moment v w now fits_v fits_w differ is =
    record {
      rows = is;
      sound = first_sound forms moment v w now fits_v fits_w differ first_policy;
    }

-- the rows that a start puts represent the first broker
pub first_started : (rows settled started : Rows) (moment v w : ℕ) → moment ≤ greatest_moment → v < 2 ^ 128
    → w < 2 ^ 128 → v ≢ w
    → rows ≡ map.empty → settled ≡ with_settings rows moment
    → started ≡ with_root settled moment (id v) (id w) (token_text (id v))
    → Represents None started (first_broker moment v w)
first_started rows settled started moment v w now fits_v fits_w differ none e f =
    let put_rows = ap table_of
    (f ∙ ap (λ r. with_root r moment (id v) (id w) (token_text (id v))) (e ∙ ap (λ r. with_settings r moment) none))
    ∙ rows-first moment v w in
    first_represented started moment v w now fits_v fits_w differ put_rows
