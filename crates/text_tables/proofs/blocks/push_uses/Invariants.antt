use Rattle.std.proofs.Common.{◌≡◌, ◌++◌, drop, map}
use Rattle.std.specs.String.{string_bytes}
use Rattle.spec_ir.specs.Views.{specification}
use Rattle.base_trait.specs.Uses.{seen}
use Rattle.text_tables.specs.Blocks.{use_lines}
use Rattle.text_tables.proofs.blocks.push_uses.Given as goal

abbrev pub invariant-loop-of : goal.invariant-loop-of
invariant-loop-of l = string_bytes l.fn.out ++ use_lines (specification l.spec) (map seen l.uses) ≡ string_bytes l.out ++ use_lines (specification l.spec) (map seen (drop l.of-index l.uses))
