use Rattle.std.proofs.Common.{◌≡◌, map, sym, subst}
use Rattle.abstract_map_laws.proofs.Fitting.{room}
use Rattle.abstract_value_laws.specs.Abs.{parts}
use Rattle.abstract_value_laws.specs.Calls.{join_parts}
use Rattle.abstract_map.proofs.Whole.{if_ok}
use Rattle.domain_laws.specs.Values.{FieldsFit}
use Rattle.domain_laws.proofs.Cells.{joined_fit}
use Rattle.abstract_value.specs.View.{abs}
use Rattle.domain_cells.proofs.domain.StateDomainDomain.join.Goals as goal

pub returns-clause-fits : goal.returns-clause-fits
returns-clause-fits g c =
    let B = g.B.Base.algebra in
    let ctx = c.args.self.now.ctx in
    let cap = g.B.Base.CAP in
    let fields = c.args.self.now.fields.items in
    let x = parts (map abs c.args.x.now.items) in
    let y = parts (map abs c.args.y.now.items) in
    if_ok (λ r. parts (map abs r.items) ≡ join_parts B ctx cap x y) (λ r. FieldsFit B ctx cap fields (parts (map abs r.items))) c.join_values.result
    (λ r e. subst (FieldsFit B ctx cap fields) (sym e) (joined_fit B g.met.B.Base.laws ctx cap fields x y (room B cap g.met.B.Base.capacity) c.requires.left c.requires.right)) (rw (c.deref.ensures.value, c.deref-2.ensures.value) at c.join_values.ensures)
