use Rattle.std.proofs.Common.{ap}
use Rattle.std.specs.Prelude.{option_map}
use Rattle.fixpoint_theory.specs.Views.{listing}
use Rattle.fixpoint_worklist.proofs.Tables.{few_places}
use Rattle.fixpoint_open_tables.proofs.analysis.are_few.Goals as goal

pub returns : goal.returns
returns g c =
    few_places (g.A.Analyser.analysis c.args.analyser.now).code c.args.table.now.blocks (g.met.A.Analyser.laws c.args.analyser.now c.requires.ready).code.ascends c.iter-entries.ensures.ordered
    (λ a b is. (c.requires.table a (listing g.A.Analyser.view b) (ap (option_map (listing g.A.Analyser.view)) is)).0)
