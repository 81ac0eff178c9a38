-- Settings of a secret that a body gives: a row can hold them, and a sound broker can.
use Rattle.broker_model.specs.Words.{List, lit<, lt_of_le_of_lt, Text, IsKeptCustom, IsKeptSettings, KeySettings}
use Rattle.broker_model.specs.Words.{IsSomeIn, IsWide, IsMeta, AreWithinLimits, given_settings}

-- custom metadata that can be kept are short enough for the lengths in a row
short_metadata : (es : List (Text × Text)) → IsKeptCustom es → IsMeta es
short_metadata es kept = record {
  members = record {
    each = λ k d lt.
        let e = kept.each k d lt in (
          record { utf8 = e.name_utf8; short = lt_of_le_of_lt e.name_short (lit< tt) },
          record { utf8 = e.value_utf8; short = lt_of_le_of_lt e.value_short (lit< tt) },
        );
    few = lt_of_le_of_lt kept.few (lit< tt);
  };
  ascend = kept.ascend;
}

pub metadata_in_range : (asked : KeySettings) → IsKeptSettings asked
    → IsSomeIn IsMeta (given_settings asked).custom_metadata
metadata_in_range asked kept es is = short_metadata es (kept.custom_metadata es is)

pub within_limits : (asked : KeySettings) → IsKeptSettings asked → IsSomeIn IsWide asked.max_versions
    → AreWithinLimits (given_settings asked)
within_limits asked kept wide = record {
  max_versions = wide;
  few_metadata = λ es is. (kept.custom_metadata es is).few;
  metadata = λ es is. (kept.custom_metadata es is).each;
}
