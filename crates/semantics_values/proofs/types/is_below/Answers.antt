use Rattle.std.proofs.Common.{◌<◌, ◌≤◌, ◌^◌, arith, rules}
use Rattle.std.proofs.Math.Pow.{pow_mono}
use Rattle.std.proofs.lemmas.Bool.{lt-ltb}
use Rattle.semantics_values.proofs.types.is_below.Goals as goal

pub returns-then-w-ge64 : goal.returns-then-w-ge64
returns-then-w-ge64 c =
    let wide : 64 ≤ c.args.w = omega arith in
    let room = pow_mono wide in
    let below : c.args.v < 2 ^ c.args.w = omega (arith, room) in
    search (rules, lt-ltb c.args.v (2 ^ c.args.w) below)
