use Rattle.std.proofs.Common.{ap, ◌∙◌}
use Rattle.abstract_map_laws.specs.Maps.{cell_in}
use Rattle.abstract_cell_tree.specs.Entries.{listed_at}
use Rattle.abstract_map.proofs.ByKey.{found_none, found_some}
use Rattle.abstract_map.proofs.abstract_maps.AbstractMap.cell.Goals as goal

pub returns-in-Some : goal.returns-in-Some
returns-in-Some g c = record {
  value = found_some c.args.self.now.rest c.args.self.now.cells c.args.key c.in-Some.cell.now (c.in-Some.ensures ∙ ap (λ es. listed_at c.args.key es) c.cells.ensures.value);
}

pub returns-in-None : goal.returns-in-None
returns-in-None g c = record {
  value = found_none c.self.inside.rest c.args.self.now.cells c.args.key (c.in-None.ensures ∙ ap (λ es. listed_at c.args.key es) c.cells.ensures.value) ∙ ap (λ m. cell_in m.rest c.args.self.now.cells c.args.key) c.self.view_is;
}
