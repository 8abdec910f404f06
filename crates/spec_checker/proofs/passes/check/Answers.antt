use Rattle.syntax_parser.specs.View.{tree as tree_of}
use Rattle.spec_checker.proofs.Settled.{checked}
use Rattle.spec_checker.proofs.passes.check.Goals as goal

pub returns : goal.returns
returns c = checked c.args.wanted (tree_of c.args.tree.now) c.all_passes.result c.all_passes.ensures
