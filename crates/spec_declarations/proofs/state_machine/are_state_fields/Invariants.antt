use Rattle.std.proofs.Common.{◌≡◌, [], map, drop}
use Rattle.spec_declarations.specs.Declarations.{type_in}
use Rattle.spec_declarations.specs.MachineRules.{are_state_fields}
use Rattle.spec_declarations.proofs.state_machine.are_state_fields.Given as goal

abbrev pub invariant-loop-f : goal.invariant-loop-f
invariant-loop-f l = are_state_fields [] (map (λ f. type_in l.names f.ty) l.fields) ≡ are_state_fields l.maps.items (map (λ f. type_in l.names f.ty) (drop l.f-index l.fields))
