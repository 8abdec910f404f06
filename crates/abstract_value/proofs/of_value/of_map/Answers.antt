use Rattle.std.proofs.Common.{◌≡◌, ap, sym, subst, ◌∙◌}
use Rattle.abstract_map_laws.specs.Calls.{folded}
use Rattle.abstract_map.specs.Unfolded.{FitsUnfolded}
use Rattle.abstract_map.proofs.Whole.{if_ok}
use Rattle.abstract_value.proofs.OfValues.{fits_unfolded, parts_are}
use Rattle.abstract_value.proofs.of_value.of_map.Goals as goal

pub of_cells-requires : goal.of_cells-requires
of_cells-requires g c =
    let b = g.B.Base.algebra in
    let ctx = c.args.ctx.now in
    let m = c.args.m.now in
    let same = parts_are b g.met.B.Base.laws ctx c.args.w m.rest m.cells.items c.in_ok-rest.rest c.in_ok-cells_of.field-0.items c.in_ok-rest.ensures.value c.in_ok-cells_of.ensures in
    record { map = subst (λ z. FitsUnfolded b ctx z) (sym same) (fits_unfolded b g.met.B.Base.laws ctx c.args.w m.rest m.cells.items c.requires.map) }

pub returns : goal.returns
returns g c =
    let b = g.B.Base.algebra in
    let ctx = c.args.ctx.now in
    let cap = g.B.Base.CAP in
    let m = c.args.m.now in
    let same = parts_are b g.met.B.Base.laws ctx c.args.w m.rest m.cells.items c.in_ok-rest.rest c.in_ok-cells_of.field-0.items c.in_ok-rest.ensures.value c.in_ok-cells_of.ensures in
    record { value = if_ok (λ r. r ≡ folded b ctx cap _) (λ r. r ≡ folded b ctx cap _) c.of_cells.result (λ r e. e ∙ ap (λ z. folded b ctx cap z) same) c.of_cells.ensures.value }
