use Rattle.std.proofs.Common.{◌∙◌, ap, map, sym}
use Rattle.std.specs.Prelude.{not}
use Rattle.domain_laws.specs.Pieces.{number_of}
use Rattle.spec_ir.specs.Views.{specification}
use Rattle.fixpoint_cases.specs.Narrowing.{none_absorbs}
use Rattle.analysis_choices.specs.Views.{choice}
use Rattle.analysis_cuts.proofs.FirstChoices.{narrower_none, narrower_some}
use Rattle.analysis_cuts.proofs.narrowing.narrower.Goals as goal

pub returns-then-absorb-clause-value : goal.returns-then-absorb-clause-value
returns-then-absorb-clause-value g c =
    let domain = c.args.domain.now in let D = g.D.Domain.elements domain in let piece = g.D.Domain.pieces domain in let view = g.D.Domain.view in
    let spec = specification c.args.spec.now in
    narrower_none D piece (view c.args.x.now) (g.met.D.Domain.laws domain spec c.requires.made).elements number_of (g.met.D.Domain.cut_laws domain spec c.requires.made).laws c.requires.fits (choice c.args.by.now)
    (map view c.in_ok-pieces.pieces.items) c.in_ok-pieces.ensures.fits c.in_ok-pieces.ensures.value (ap (λ l. none_absorbs D piece (map view l) (view c.args.x.now)) (sym c.deref.ensures.value) ∙ sym c.absorb.ensures ∙ ap not c.if-absorb.true)

pub returns-else-absorb-clause-value : goal.returns-else-absorb-clause-value
returns-else-absorb-clause-value g c =
    let domain = c.args.domain.now in let D = g.D.Domain.elements domain in let piece = g.D.Domain.pieces domain in let view = g.D.Domain.view in
    let spec = specification c.args.spec.now in
    narrower_some D piece (view c.args.x.now) (g.met.D.Domain.laws domain spec c.requires.made).elements number_of (g.met.D.Domain.cut_laws domain spec c.requires.made).laws c.requires.fits (choice c.args.by.now)
    (map view c.in_ok-pieces.pieces.items) c.in_ok-pieces.ensures.fits c.in_ok-pieces.ensures.value (ap (λ l. none_absorbs D piece (map view l) (view c.args.x.now)) (sym c.deref.ensures.value) ∙ sym c.absorb.ensures ∙ ap not c.if-absorb.false)
