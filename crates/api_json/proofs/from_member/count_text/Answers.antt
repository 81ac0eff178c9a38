use Rattle.std.proofs.Common.{◌≡◌, ◌<◌, ◌≤◌, ◌+◌, ◌*◌, ◌^◌, ℕ, suc, arith, lit<}
use Rattle.broker_types.specs.Words.{pow-le-pow_right, pow-suc, nat_tests, common_steps}
use Rattle.api_json.proofs.from_member.count_text.Goals as goal

-- eighteen digits fit
room : (n i d : ℕ) → n < 10 ^ i → i < 18 → d < 10 → n * 10 + d < 2 ^ 64
room n i d small short digit =
    let high : suc i ≤ 18 = omega arith in
    let top : 10 ^ suc i ≤ 10 ^ 18 = pow-le-pow_right (lit< tt) {i = suc i} {j = 18} high in
    let step : 10 ^ suc i ≡ 10 ^ i * 10 = pow-suc 10 i in
    let whole : 10 ^ 18 < 2 ^ 64 = lit< tt in
    omega arith

pub overflow_mul-count : goal.overflow_mul-count
overflow_mul-count c =
    let h = room c.loop-digit.count c.loop-digit.digit-index 0 c.loop-digit.invariant.small (omega arith) (lit< tt) in
    omega arith

pub overflow_add-count : goal.overflow_add-count
overflow_add-count c =
    let digit : c.from.result < 10 = grind (arith, nat_tests, common_steps) in
    let h = room c.loop-digit.count c.loop-digit.digit-index c.from.result c.loop-digit.invariant.small
    (omega arith) digit in
    omega arith
