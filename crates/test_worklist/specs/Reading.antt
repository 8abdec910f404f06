-- Tables while they are read.
use Rattle.std.specs.Prelude.{◌≡◌, ℕ, ◌≤◌, List, Some, IsTrue}
use Rattle.std.specs.Ordering.{nat_cmp}
use Rattle.std.specs.BTreeMap.{BTreeMap, get}
use Rattle.fixpoint_theory.specs.Code.{is_code}
use Rattle.fixpoint_theory.specs.declared.table.Block.{Block}
use Rattle.test_worklist.specs.declared.machine.Interval.{Interval}
use Rattle.test_worklist.specs.declared.machine.Word.{Word}
use Rattle.test_worklist.specs.Machine.{addresses}

-- each block stands at a code address, and its interval is of the machine
abbrev pub BlocksFit : List Word → BTreeMap ℕ (Block Interval) → Type 0
BlocksFit code blocks = (a : ℕ) (b : Block Interval) → get nat_cmp blocks a ≡ Some b → IsTrue (is_code (addresses code) a) × (b.elem.high ≤ 99)
