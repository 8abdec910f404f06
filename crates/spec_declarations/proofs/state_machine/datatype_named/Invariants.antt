use Rattle.std.proofs.Common.{◌≡◌, ◌≤◌, map, drop}
use Rattle.syntax_parser.specs.View.{item}
use Rattle.spec_declarations.specs.MachineRules.{datatype_from}
use Rattle.spec_declarations.proofs.state_machine.datatype_named.Given as goal

abbrev pub invariant-loop-item : goal.invariant-loop-item
invariant-loop-item l = record {
  found : datatype_from 0 (map item l.items) l.name ≡ datatype_from l.n (map item (drop l.item-index l.items)) l.name;
  bound : l.n ≤ l.item-index;
}
