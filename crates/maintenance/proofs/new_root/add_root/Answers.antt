use Rattle.std.proofs.Common.{sym, ◌∙◌, subst, None}
use Rattle.broker_model.specs.Words.{honest_before, at_moment, are_new, id, root_token, created}
use Rattle.broker_types.specs.Names.{accessor_word}
use Rattle.broker_types.specs.declared.words.Words.{Words}
use Rattle.broker_rows.specs.Words.{Represents, still_represented}
use Rattle.maintenance.specs.NewRoot.{root_identifiers, root_text}
use Rattle.maintenance.proofs.Root.{find_passes}
use Rattle.maintenance.proofs.new_root.add_root.Goals as goal

pub returns-clause-told : goal.returns-clause-told
returns-clause-told g c honest b st =
    let seen = g.T.RecordsTx.seen in
    let old = (seen c.args.tx.now).rows in
    let mid = (seen c.first_new.new.tx).rows in
    let new = (seen c.put_root.new.tx).rows in
    let words : Words = c.in-Some.words in
    let later = honest_before (seen c.expire.new.tx) (seen c.put_root.new.tx) _ c.put_root.ensures.call.goes_on
    honest in
    let asked = honest_before (seen c.first_new.new.tx) (seen c.expire.new.tx) _ c.expire.ensures.call.goes_on later in
    let found = sym (c.in_ok-words.ensures.told asked b st) ∙ c.in-Some.is in
    let new_ones = find_passes (λ (w : Words). are_new b.used (root_identifiers w)) c.args.draws.now words found in
    let now = c.in_ok-clock.ensures.told later b
    (still_represented b old mid (c.in_ok-words.ensures.call.same asked) st) in
    let at = at_moment b c.args.moment in
    let put = c.in_ok-token.ensures.told honest at now.1 (sym now.0) new_ones in (
      words,
      found,
      c.in_ok-token.ensures.text,
      subst (λ n. Represents None new (created at (root_text words) (root_token n (id (accessor_word words))))) now.0
          put,
    )
