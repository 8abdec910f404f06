use Rattle.std.proofs.Common.{IsTrue, nat_le}
use Rattle.test_tail_fixpoint.proofs.tests.drives.Given as goal

abbrev pub invariant-loop-i : goal.invariant-loop-i
invariant-loop-i l = IsTrue l.driver.running × IsTrue (nat_le l.driver.args.high 99)
