use Rattle.std.proofs.Common.{ap, sym, subst, ap₂, ◌∙◌}
use Rattle.abstract_value_laws.specs.Fits.{PartsFit}
use Rattle.fixpoint_cases.specs.Pieces.{both_there}
use Rattle.domain_cell_pieces.specs.Pieces.{field_piece}
use Rattle.domain_product_states.specs.Views.{seen}
use Rattle.domain_product_states.proofs.Seen.{first_taken, second_taken}
use Rattle.domain_product_states.proofs.pieces.piece_of_both.Goals as goal

pub cell_piece-requires : goal.cell_piece-requires
cell_piece-requires g c =
    let both = c.in_ok-both.both in
    let fit = subst (λ k. PartsFit g.A.Base.algebra k.0 g.A.Base.CAP (seen c.args.x.now).0) (sym c.ctx.view_is) c.requires.first in
    record { fits = subst (PartsFit g.A.Base.algebra c.ctx.inside.0 g.A.Base.CAP) (sym (first_taken both.0 both.1 (seen c.args.x.now) c.in_ok-both.ensures c.deref.result.now c.deref.ensures.value)) fit }

pub cell_piece-requires-2 : goal.cell_piece-requires-2
cell_piece-requires-2 g c =
    let both = c.in_ok-both.both in
    let fit = subst (λ k. PartsFit g.B.Base.algebra k.1 g.B.Base.CAP (seen c.args.x.now).1) (sym c.ctx.view_is) c.requires.second in
    record { fits = subst (PartsFit g.B.Base.algebra c.ctx.inside.1 g.B.Base.CAP) (sym (second_taken both.0 both.1 (seen c.args.x.now) c.in_ok-both.ensures c.deref-2.result.now c.deref-2.ensures.value)) fit }

pub returns : goal.returns
returns g c =
    let cut = c.args.cut in
    let k = c.ctx.inside in
    let both = c.in_ok-both.both in
    let x = seen c.args.x.now in
    rw (← c.ctx.view_is) (c.both_there.ensures
    ∙ ap₂ both_there
    (c.in_ok-first.ensures ∙ ap (field_piece g.A.Base.algebra g.A.CutBase.cuts k.0 g.A.Base.CAP c.args.fields.now cut.place cut.key cut.low cut.high) (first_taken both.0 both.1 x c.in_ok-both.ensures c.deref.result.now c.deref.ensures.value))
    (c.in_ok-second.ensures ∙ ap (field_piece g.B.Base.algebra g.B.CutBase.cuts k.1 g.B.Base.CAP c.args.fields.now cut.place cut.key cut.low cut.high) (second_taken both.0 both.1 x c.in_ok-both.ensures c.deref-2.result.now c.deref-2.ensures.value)))
