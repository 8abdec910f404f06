use Rattle.std.proofs.Common.{◌≡◌, map, drop}
use Rattle.syntax_parser.specs.View.{item}
use Rattle.spec_names.specs.Names.{items_fault}
use Rattle.spec_names.specs.Views.{seen}
use Rattle.spec_names.proofs.items.check_items.Given as goal

abbrev pub invariant-loop-item : goal.invariant-loop-item
invariant-loop-item l = items_fault (seen l.initial.before) (map item l.items) ≡ items_fault (seen l.before) (map item (drop l.item-index l.items))
