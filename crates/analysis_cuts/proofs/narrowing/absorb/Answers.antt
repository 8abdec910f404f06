use Rattle.std.proofs.Common.{◌∙◌, ◌+◌, ap, drop, map, sym}
use Rattle.std.specs.Prelude.{not, ◌&&◌}
use Rattle.fixpoint_theory.proofs.Lists.{each_seen}
use Rattle.fixpoint_cases.specs.Narrowing.{none_absorbs}
use Rattle.analysis_cuts.proofs.FirstChoices.{next_item}
use Rattle.analysis_cuts.proofs.narrowing.absorb.Goals as goal

pub absorbs-requires-clause-old : goal.absorbs-requires-clause-old
absorbs-requires-clause-old g c =
    each_seen (g.D.Domain.elements c.args.domain.now).fits g.D.Domain.view c.args.elements.now c.loop-element.element-index c.element-item.result c.loop-element-test.true c.element-item.is c.requires.elements

pub returns-then-absorbs : goal.returns-then-absorbs
returns-then-absorbs g c =
    let D = g.D.Domain.elements c.args.domain.now in let piece = g.D.Domain.pieces c.args.domain.now in let view = g.D.Domain.view in
    let x = view c.args.x.now in let i = c.loop-element.element-index in let xs = c.args.elements.now in
    sym (c.loop-element.invariant ∙ ap (λ l. none_absorbs D piece (map view l) x) (next_item xs i c.element-item.result c.loop-element-test.true c.element-item.is)
    ∙ ap (λ b. not b && none_absorbs D piece (map view (drop (i + 1) xs)) x) (sym c.absorbs.ensures.value ∙ c.if-absorbs.true))

pub loop-element-preserved : goal.loop-element-preserved
loop-element-preserved g c =
    let D = g.D.Domain.elements c.args.domain.now in let piece = g.D.Domain.pieces c.args.domain.now in let view = g.D.Domain.view in
    let x = view c.args.x.now in let i = c.loop-element.element-index in let xs = c.args.elements.now in
    c.loop-element.invariant ∙ ap (λ l. none_absorbs D piece (map view l) x) (next_item xs i c.element-item.result c.loop-element-test.true c.element-item.is)
    ∙ ap (λ b. not b && none_absorbs D piece (map view (drop (i + 1) xs)) x) (sym c.absorbs.ensures.value ∙ c.if-absorbs.false)
