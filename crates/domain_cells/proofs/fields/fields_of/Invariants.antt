use Rattle.std.proofs.Common.{◌≡◌, ◌++◌, drop, map, true}
use Rattle.std.specs.List.{list_all}
use Rattle.spec_ir.specs.Views.{specification}
use Rattle.semantics_values.specs.Types.{environment_of}
use Rattle.domain_laws.specs.States.{fields_of, is_field}
use Rattle.domain_cells.proofs.fields.fields_of.Given as goal

abbrev pub invariant-loop-i : goal.invariant-loop-i
invariant-loop-i l =
    let left = fields_of (environment_of (specification l.spec)) (map (λ f. f.1) (drop l.i l.fields)) in
    record {
      whole : l.out.items ++ left ≡ fields_of (environment_of (specification l.spec)) (map (λ f. f.1) l.fields);
      right : list_all is_field left ≡ true;
    }
