use Rattle.test_analysis_cases.proofs.Tables.{replaced}
use Rattle.test_analysis_cases.proofs.cut.with_block.Goals as goal

pub returns : goal.returns
returns g c =
    let A = g.A.Analyser.analysis c.args.analyser.now in
    replaced g.A.Analyser.view A c.args.table.blocks c.insert.new.self c.args.at c.args.block c.in_ok-insert.ensures.updates c.requires.fits (c.requires.code, c.requires.elem)
