use Rattle.std.proofs.Common.{◌≡◌, ◌+◌, ◌∙◌, arith, map, drop, Some}
use Rattle.std.specs.Prelude.{bytes_eq}
use Rattle.spec_ir.specs.Environment.{case_from, field_types}
use Rattle.spec_ir.specs.Found.{found}
use Rattle.spec_ir.specs.Views.{case_of}
use Rattle.spec_ir.proofs.Entered.{or_if}
use Rattle.spec_ir.proofs.table.enter_cases.Goals as goal
use Rattle.spec_match_compiler.proofs.Loops.{drop_here}

pub loop-case-preserved : goal.loop-case-preserved
loop-case-preserved c = λ name.
    let i = c.loop-case.case in
    let a = c.index-cases-case.result in
    let here = drop_here c.args.cases.now i a c.index-cases-case.is (omega arith) in
    let h = rw here at (c.loop-case.invariant name) in
    let step = rw c.as_slice-fields.ensures.value at (c.in_ok-enter_case.ensures name) in
    rw step
    (or_if (found c.loop-case.table name) (bytes_eq a.name name) (record { ty = c.args.ty; case = i; fields = field_types (case_of a) })
    (case_from c.args.ty (i + 1) (map case_of (drop (i + 1) c.args.cases.now)) name) ∙ h)
