use Rattle.std.proofs.Common.{◌≡◌, ◌++◌, map, drop, filter_map}
use Rattle.spec_names.specs.Names.{field_name}
use Rattle.spec_names.proofs.items.check_row.Given as goal

abbrev pub invariant-loop-p : goal.invariant-loop-p
invariant-loop-p l = filter_map field_name l.r.parts.items ≡ map (λ n. n.now) l.names.items ++ filter_map field_name (drop l.p-index l.r.parts.items)
