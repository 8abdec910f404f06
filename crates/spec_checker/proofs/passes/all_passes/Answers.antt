use Rattle.std.proofs.Common.{◌≡◌, None, rules}
use Rattle.syntax_parser.specs.View.{tree as tree_of}
use Rattle.spec_names.specs.Names.{names_fault}
use Rattle.spec_checker.specs.Passes.{computed}
use Rattle.spec_checker.specs.Check.{type_passes}
use Rattle.spec_checker.proofs.Answering.{behind}
use Rattle.spec_checker.proofs.passes.all_passes.Goals as goal

pub returns : goal.returns
returns c =
    let t = tree_of c.args.tree.now in
    let w = c.args.wanted in
    let none : names_fault t ≡ None = search rules in
    behind (computed (names_fault t)) (type_passes w t) w t none c.behind_names.result c.behind_names.ensures
