use Rattle.std.proofs.Common.{sym}
use Rattle.test_analysis_cases.proofs.Tables.{listed, taken}
use Rattle.test_analysis_cases.proofs.cut.without.Goals as goal

pub returns : goal.returns
returns g c =
    let view = g.A.Analyser.view in
    let A = g.A.Analyser.analysis c.args.analyser.now in
    let here = listed view A c.args.table.blocks c.args.at c.in_ok-block.block (sym c.in_ok-block.ensures.value) c.requires in
    record {
      fits = taken view A c.args.table.blocks c.remove.new.self c.args.at c.remove.ensures.updates c.requires;
      code = here.0;
      elem = here.1;
    }
