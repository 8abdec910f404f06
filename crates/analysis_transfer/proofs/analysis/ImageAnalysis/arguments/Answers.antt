use Rattle.analysis_transfer_laws.proofs.Evaluated.{instruction_fits}
use Rattle.semantics_values.specs.Views.{val}
use Rattle.analysis_transfer.specs.Analysis.{calls_of, problem}
use Rattle.analysis_transfer.specs.Instance.{is_analysed}
use Rattle.analysis_transfer.proofs.analysis.ImageAnalysis.arguments.Goals as goal

pub of_value-requires : goal.of_value-requires
of_value-requires g c =
    let B = g.D.B.Base.algebra in
    let laws = g.met.D.B.Base.laws in
    let cap = g.D.B.Base.CAP in
    let it = c.args.self.now in
    let D = g.D.Domain.elements it.domain.now in
    let M = g.D.Domain.meaning it.domain.now in
    let p = problem it in
    let ready = c.requires.ready in
    let analysed = is_analysed B laws cap D M (g.D.Domain.is_for it.domain.now) it (g.met.D.Domain.laws it.domain.now p.spec ready.made) ready in
    record { value = instruction_fits B laws cap D M p (calls_of B cap M p) analysed c.args.at c.ranges.at.fits (g.D.Domain.view c.args.x.now) c.requires.fits c.args.word (val c.args.instruction.now) c.requires.decoded }
