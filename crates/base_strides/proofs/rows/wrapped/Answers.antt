use Rattle.std.proofs.Common.{◌≤◌, ◌<◌, sym, subst}
use Rattle.std.proofs.Math.Nat.{le_of_dvd, pos_of_dvd_of_pos}
use Rattle.base_strides.specs.Gcd.{gcd_is}
use Rattle.base_strides.proofs.rows.wrapped.Goals as goal

pub by_class-requires-clause-some : goal.by_class-requires-clause-some
by_class-requires-clause-some c = subst (λ z. 0 < z) (sym c.gcd.ensures) (pos_of_dvd_of_pos (gcd_is c.args.step c.args.m).1 c.requires.some)

pub by_class-requires-clause-less : goal.by_class-requires-clause-less
by_class-requires-clause-less c = subst (λ z. z ≤ c.args.m) (sym c.gcd.ensures) (le_of_dvd c.requires.some (gcd_is c.args.step c.args.m).1)
