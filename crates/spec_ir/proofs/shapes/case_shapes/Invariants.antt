use Rattle.std.proofs.Common.{◌≡◌, ◌++◌, map, drop}
use Rattle.spec_ir.specs.Environment.{field_types, shape_of}
use Rattle.spec_ir.specs.Views.{case_of}
use Rattle.spec_ir.proofs.shapes.case_shapes.Given as goal

abbrev pub invariant-loop-case : goal.invariant-loop-case
invariant-loop-case l =
    map (λ c. map shape_of (field_types c)) (map case_of l.case-items)
    ≡ map (λ fields. fields.items) l.cases.items ++ map (λ c. map shape_of (field_types c)) (map case_of (drop l.case-index l.case-items))
