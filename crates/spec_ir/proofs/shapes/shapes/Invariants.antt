use Rattle.std.proofs.Common.{◌≡◌, ◌++◌, map, drop}
use Rattle.spec_ir.specs.Environment.{field_types, shape_of}
use Rattle.spec_ir.specs.Views.{data_of}
use Rattle.spec_ir.proofs.shapes.shapes.Given as goal

abbrev pub invariant-loop-data : goal.invariant-loop-data
invariant-loop-data l =
    map (λ d. map (λ c. map shape_of (field_types c)) d.cases) (map data_of l.data-items)
    ≡ map (λ cases. map (λ fields. fields.items) cases.items) l.datas.items ++ map (λ d. map (λ c. map shape_of (field_types c)) d.cases) (map data_of (drop l.data-index l.data-items))
