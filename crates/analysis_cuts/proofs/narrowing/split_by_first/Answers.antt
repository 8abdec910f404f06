use Rattle.std.proofs.Common.{◌∙◌, ◌+◌, ap, drop, map, sym, subst}
use Rattle.std.specs.Prelude.{option_map}
use Rattle.fixpoint_cases.specs.Same.{AreSameSplits}
use Rattle.analysis_choices.specs.Views.{choice}
use Rattle.analysis_cuts.proofs.FirstChoices.{by_first, next_item, told_here, told_later}
use Rattle.analysis_cuts.proofs.narrowing.split_by_first.Goals as goal

pub returns-then-is_some-clause-value : goal.returns-then-is_some-clause-value
returns-then-is_some-clause-value g c =
    let D = g.D.Domain.elements c.args.domain.now in let piece = g.D.Domain.pieces c.args.domain.now in let view = g.D.Domain.view in
    let x = view c.args.x.now in let i = c.loop-by.by-index in let xs = c.args.choices.now in let by = c.by-item.result in
    let whole = c.loop-by.invariant ∙ ap (λ l. by_first D piece x (map choice l)) (next_item xs i by c.loop-by-test.true c.by-item.is) in
    subst (AreSameSplits D (option_map (λ v. map view v.items) c.in_ok-pieces.pieces)) (sym whole)
    (told_here D piece x (λ v. map view v.items) c.in_ok-pieces.pieces (choice by) (map choice (drop (i + 1) xs)) (sym c.is_some.ensures ∙ c.if-is_some.true) c.in_ok-pieces.ensures.value)

pub loop-by-preserved : goal.loop-by-preserved
loop-by-preserved g c =
    let D = g.D.Domain.elements c.args.domain.now in let piece = g.D.Domain.pieces c.args.domain.now in let view = g.D.Domain.view in
    let x = view c.args.x.now in let i = c.loop-by.by-index in let xs = c.args.choices.now in let by = c.by-item.result in
    c.loop-by.invariant ∙ ap (λ l. by_first D piece x (map choice l)) (next_item xs i by c.loop-by-test.true c.by-item.is)
    ∙ told_later D piece x (λ v. map view v.items) c.in_ok-pieces.pieces (choice by) (map choice (drop (i + 1) xs)) (sym c.is_some.ensures ∙ c.if-is_some.false) c.in_ok-pieces.ensures.value
