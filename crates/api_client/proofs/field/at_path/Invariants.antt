use Rattle.api_client.specs.Words.{◌≡◌, Some, map, option_map, fold, view, member_in}
use Rattle.api_client.proofs.field.at_path.Given as goal

-- where the parts so far lead
abbrev pub invariant-loop-part : goal.invariant-loop-part
invariant-loop-part l = option_map (λ v. view v.now) l.value
    ≡ fold member_in (Some (view l.fn.reply)) (map (λ p. p.now) l.yielded)
