use Rattle.std.proofs.Common.{map}
use Rattle.syntax_parser.specs.View.{constructor}
use Rattle.spec_ir.specs.Views.{case_of}
use Rattle.spec_declarations.specs.Declarations.{case_declared}
use Rattle.spec_declarations.proofs.Pushes.{pushed_all, pushed_more}
use Rattle.spec_declarations.proofs.declare.cases.Goals as goal

pub loop-c-preserved : goal.loop-c-preserved
loop-c-preserved c =
    let names = c.args.names.now in
    pushed_more case_of (case_declared names) constructor c.case.result c.loop-c.declared.items c.in_ok-declared.declared.items c.args.cases.now c.loop-c.c-index c.c-item.result (map (case_declared names) (map constructor c.args.cases.now)) c.loop-c-test.true c.c-item.is
    c.in_ok-declared.ensures c.case.ensures c.loop-c.invariant

pub returns : goal.returns
returns c = pushed_all case_of (case_declared c.args.names.now) constructor c.loop-c.declared.items c.args.cases.now c.loop-c.c-index (map (case_declared c.args.names.now) (map constructor c.args.cases.now)) c.loop-c-test.false c.loop-c.invariant
