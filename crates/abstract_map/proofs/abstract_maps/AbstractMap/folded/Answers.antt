use Rattle.std.proofs.Common.{drop, take, sym, ap, subst, ◌∙◌}
use Rattle.abstract_map_laws.specs.Calls.{folded, rest_with}
use Rattle.abstract_map_laws.specs.Cells.{CellFits}
use Rattle.abstract_map_laws.specs.Maps.{Fits}
use Rattle.abstract_map.specs.Unfolded.{FitsUnfolded}
use Rattle.abstract_map.proofs.Folding.{fold_made, room_for}
use Rattle.abstract_map.proofs.Whole.{folded_fits_room}
use Rattle.abstract_map.proofs.abstract_maps.AbstractMap.folded.Goals as goal

pub folded_rest-requires-clause-rest : goal.folded_rest-requires-clause-rest
folded_rest-requires-clause-rest g c =
    let own = subst (λ t. FitsUnfolded g.B.Base.algebra c.args.ctx.now t) (sym c.self.view_is) c.requires.map in
    subst (λ x. CellFits g.B.Base.algebra c.args.ctx.now c.self.inside.width x) (sym c.in_ok-own.ensures.value) own.cells.0

pub folded_rest-requires-clause-cells : goal.folded_rest-requires-clause-cells
folded_rest-requires-clause-cells g c =
    let own = subst (λ t. FitsUnfolded g.B.Base.algebra c.args.ctx.now t) (sym c.self.view_is) c.requires.map in
    own.cells.1

pub returns-in-Ok-clause-value : goal.returns-in-Ok-clause-value
returns-in-Ok-clause-value g c =
    let B = g.B.Base.algebra in
    let ctx = c.args.ctx.now in
    let cap = g.B.Base.CAP in
    fold_made B ctx c.self.inside.width cap c.self.inside.rest c.in_ok-rest.rest c.self.inside.cells c.in-Ok.cells (room_for B cap _ c.args.self c.self.view_is g.met.B.Base.capacity c.requires.map.order c.requires.map.bound) (c.in_ok-rest.ensures ∙ ap (λ x. rest_with B ctx c.self.inside.width x (drop cap c.self.inside.cells)) c.in_ok-own.ensures.value)
    (c.in-Ok.ensures ∙ ap (λ n. take n c.self.inside.cells) c.CAP-2.ensures)
    ∙ ap (λ m. folded B ctx cap m) c.self.view_is

pub returns-in-Ok-clause-fits : goal.returns-in-Ok-clause-fits
returns-in-Ok-clause-fits g c =
    let B = g.B.Base.algebra in
    let ctx = c.args.ctx.now in
    let cap = g.B.Base.CAP in
    let same = fold_made B ctx c.self.inside.width cap c.self.inside.rest c.in_ok-rest.rest c.self.inside.cells c.in-Ok.cells (room_for B cap _ c.args.self c.self.view_is g.met.B.Base.capacity c.requires.map.order c.requires.map.bound) (c.in_ok-rest.ensures ∙ ap (λ x. rest_with B ctx c.self.inside.width x (drop cap c.self.inside.cells)) c.in_ok-own.ensures.value)
    (c.in-Ok.ensures ∙ ap (λ n. take n c.self.inside.cells) c.CAP-2.ensures)
    ∙ ap (λ m. folded B ctx cap m) c.self.view_is in
    subst (λ t. Fits B ctx cap t) (sym same) (folded_fits_room B ctx g.met.B.Base.laws cap c.args.self g.met.B.Base.capacity c.requires.map)
