use Rattle.std.proofs.Common.{◌≡◌, ◌≤◌, map, drop}
use Rattle.syntax_parser.specs.View.{item}
use Rattle.spec_declarations.specs.MachineRules.{function_from}
use Rattle.spec_declarations.proofs.state_machine.function_named.Given as goal

abbrev pub invariant-loop-item : goal.invariant-loop-item
invariant-loop-item l = record {
  found : function_from 0 (map item l.items) l.name ≡ function_from l.n (map item (drop l.item-index l.items)) l.name;
  bound : l.n ≤ l.item-index;
}
