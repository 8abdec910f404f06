use Rattle.std.proofs.Common.{◌≡◌, ◌≤◌, ◌^◌, refl, arith, pow_mono}
use Rattle.std.specs.Prelude.{nat_le, Some, None}
use Rattle.std.specs.List.{range_with_len}
use Rattle.std.proofs.lemmas.Bool.Decides.{nat_tests}
use Rattle.base_trait.proofs.Tests.{at_choice}
use Rattle.base_trait.proofs.numbers.all_numbers.Goals as goal

pub returns-then-w-ge32 : goal.returns-then-w-ge32
returns-then-w-ge32 c =
    let large : 2 ^ 32 ≤ 2 ^ c.args.w = pow_mono c.if-w-ge32.true in
    let small = c.ranges.limit in
    at_choice (λ z. None ≡ z) (nat_le (2 ^ c.args.w) c.args.limit) (Some (range_with_len 0 (2 ^ c.args.w))) None (λ e. absurd (grind (arith, nat_tests, large, small, e))) (λ e. refl)
