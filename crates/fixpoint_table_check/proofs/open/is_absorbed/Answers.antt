use Rattle.std.proofs.Common.{◌≡◌, Some, nat_cmp, option_map, rules, ap}
use Rattle.std.specs.BTreeMap.{get}
use Rattle.fixpoint_theory.specs.Views.{listing}
use Rattle.fixpoint_table_check.proofs.open.is_absorbed.Goals as goal

pub absorbs-requires-clause-left : goal.absorbs-requires-clause-left
absorbs-requires-clause-left g c =
    let b = c.in-Some.block.now in
    let found : get nat_cmp c.args.table.now.blocks c.args.at ≡ Some b = search rules in
    (c.requires.table c.args.at (listing g.A.Analyser.view b) (ap (option_map (listing g.A.Analyser.view)) found)).1
