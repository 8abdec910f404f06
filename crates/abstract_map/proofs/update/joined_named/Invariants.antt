use Rattle.std.proofs.Common.{◌≡◌, map, take}
use Rattle.std.specs.Prelude.{if◌then◌else◌}
use Rattle.abstract_map_laws.specs.Cells.{join_cells}
use Rattle.abstract_map_laws.specs.Keys.{has_key}
use Rattle.abstract_map.proofs.update.joined_named.Given as goal

abbrev pub invariant-loop-key : goal.invariant-loop-key
invariant-loop-key g l = l.out ≡ map (λ e. (e.0, if has_key (take l.key-index l.named) e.0 then join_cells g.B.Base.algebra l.ctx l.w e.1 l.cell else e.1)) l.cells
