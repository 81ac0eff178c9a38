use lib.Utf8.{encode}
use Rattle.records.specs.Words.{is_utf8, chars, refl, same}
use Rattle.json.specs.Json.{value}
use Rattle.json.specs.Lex.{lex, punctuate}
use Rattle.json.specs.Text.{content}
use Rattle.policies.specs.Words.{allows, policy_of, pattern_of, words_of, paths_of}
use Rattle.policies.proofs.laws.examples.Goals as goal

pub returns-clause-denies_one : goal.returns-clause-denies_one
unfolding same allows policy_of pattern_of words_of paths_of encode is_utf8 chars value lex punctuate content
returns-clause-denies_one c = record { text = refl; denied = refl; beside = refl; no_sudo = refl }

pub returns-clause-lists_folders : goal.returns-clause-lists_folders
unfolding same allows pattern_of
returns-clause-lists_folders c = record { denied = refl; beside = refl; named = refl }

pub returns-clause-lists_in_order : goal.returns-clause-lists_in_order
unfolding same allows pattern_of
returns-clause-lists_in_order c = record { folder = refl; path = refl; prefix = refl; denied = refl; no_read = refl }

pub returns-clause-allows_prefixes : goal.returns-clause-allows_prefixes
unfolding same allows pattern_of
returns-clause-allows_prefixes c =
    record { any = refl; empty = refl; folder = refl; beside = refl; denied = refl; below = refl }

pub returns-clause-allow : goal.returns-clause-allow
unfolding same allows pattern_of
returns-clause-allow c = record { create = refl; update = refl; star = refl; star_list = refl }

pub returns-clause-refuses : goal.returns-clause-refuses
unfolding same policy_of pattern_of words_of paths_of encode is_utf8 chars value lex punctuate content
returns-clause-refuses c = record { unknown = refl; plus = refl }
