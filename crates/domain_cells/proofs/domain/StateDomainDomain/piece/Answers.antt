use Rattle.std.proofs.Common.{◌≡◌, ap, map, refl, sym, subst, ◌∙◌}
use Rattle.std.specs.Prelude.{IfSome, option_map}
use Rattle.abstract_value.specs.View.{abs}
use Rattle.abstract_value_laws.specs.Abs.{parts}
use Rattle.abstract_value_laws.specs.Fits.{PartsFit}
use Rattle.abstract_map.proofs.Whole.{if_ok}
use Rattle.spec_ir.specs.Views.{specification}
use Rattle.fixpoint_cases.specs.Same.{IsSamePiece}
use Rattle.domain_laws.specs.Cells.{cells}
use Rattle.domain_laws.specs.Values.{FieldsFit}
use Rattle.domain_laws.proofs.Pieces.{equal_pieces, seen_piece}
use Rattle.domain_cell_pieces.specs.Pieces.{field_piece}
use Rattle.domain_cells.specs.Instance.{cells_are_cut}
use Rattle.domain_cells.specs.Views.{states_of}
use Rattle.domain_cells.proofs.domain.StateDomainDomain.piece.Goals as goal

pub cell_piece-requires : goal.cell_piece-requires
cell_piece-requires g c =
    record { fits = subst (λ l. PartsFit g.B.Base.algebra c.args.self.now.ctx g.B.Base.CAP (parts (map abs l))) (sym c.deref-2.ensures.value) c.requires.fits.1 }

pub returns-clause-value : goal.returns-clause-value
returns-clause-value g c =
    let B = g.B.Base.algebra in
    let ctx = c.args.self.now.ctx in
    let cap = g.B.Base.CAP in
    let fields = c.args.self.now.fields.items in
    let cut = c.args.cut in
    let piece = field_piece B g.B.CutBase.cuts ctx cap fields cut.place cut.key cut.low cut.high (parts (map abs c.args.x.now.items)) in
    if_ok (λ r. option_map (λ v. parts (map abs v.items)) r ≡ piece) (λ r. IsSamePiece (cells B ctx cap fields) (option_map (λ v. parts (map abs v.items)) r) piece) c.cell_piece.result
    (λ r e. equal_pieces (cells B ctx cap fields) (λ x. refl) (option_map (λ v. parts (map abs v.items)) r) piece e) (rw (c.deref.ensures.value, c.deref-2.ensures.value) at c.cell_piece.ensures)

pub returns-clause-fits : goal.returns-clause-fits
returns-clause-fits g c =
    let B = g.B.Base.algebra in
    let ctx = c.args.self.now.ctx in
    let cap = g.B.Base.CAP in
    let fields = c.args.self.now.fields.items in
    let cut = c.args.cut in
    let x = parts (map abs c.args.x.now.items) in
    let piece = field_piece B g.B.CutBase.cuts ctx cap fields cut.place cut.key cut.low cut.high x in
    let laws = (cells_are_cut B g.met.B.Base.laws g.B.CutBase.cuts g.met.B.CutBase.cut_laws ctx cap (states_of c.args.self.now) (specification c.args._spec.now) c.requires.made).laws in
    if_ok (λ r. option_map (λ v. parts (map abs v.items)) r ≡ piece) (λ r. IfSome r (λ v. FieldsFit B ctx cap fields (parts (map abs v.items)))) c.cell_piece.result
    (λ r e. seen_piece (λ v. parts (map abs v.items)) (FieldsFit B ctx cap fields) r piece e (laws.piece_fits (cut.place, cut.key) cut.low cut.high x c.requires.fits)) (rw (c.deref.ensures.value, c.deref-2.ensures.value) at c.cell_piece.ensures)
