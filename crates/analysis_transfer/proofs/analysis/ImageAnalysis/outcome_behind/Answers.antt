use Rattle.std.proofs.Common.{◌∙◌, sym, ap, refl, subst}
use Rattle.abstract_value.specs.View.{abs}
use Rattle.base_trait.specs.Lists.{items_of}
use Rattle.base_trait.specs.Uses.{uses_of}
use Rattle.analysis_transfer.specs.Analysis.{problem}
use Rattle.analysis_transfer.proofs.Outcomes.{with_members, without_members}
use Rattle.analysis_transfer.proofs.analysis.ImageAnalysis.outcome_behind.Goals as goal

pub targets-requires : goal.targets-requires
targets-requires g c = record { counter = subst (λ k. g.D.B.Base.algebra.words.fits k 32 c.args.counter.now) (sym c.requires.context) c.requires.counter }

pub close-requires : goal.close-requires
close-requires g c = record { made = c.requires.ready.made; fits = c.requires.fits; state = c.requires.state }

pub returns-in_ok-uses-in-Some : goal.returns-in_ok-uses-in-Some
returns-in_ok-uses-in-Some g c =
    let B = g.D.B.Base.algebra in
    let it = c.args.self.now in
    let D = g.D.Domain.elements it.domain.now in
    let M = g.D.Domain.meaning it.domain.now in
    with_members B D M (problem it) g.D.Domain.view _ (g.D.Domain.view c.args.before.now) (abs c.args.state.now) (uses_of c.args.log.now) c.args.counter.now _ c.in-Some.targets.items _ _ refl
    (ap (λ (k : g.row.D-B-Ctx.Denot). B.words.members k 32 c.args.counter.now it.limit) (sym c.requires.context) ∙ sym c.in_ok-targets.ensures ∙ ap items_of c.in-Some.is)
    c.in_ok-post-in-Some.ensures.value c.in_ok-post-in-Some.ensures.fits c.in_ok-uses-in-Some.ensures

pub returns-in_ok-uses-in-None : goal.returns-in_ok-uses-in-None
returns-in_ok-uses-in-None g c =
    let B = g.D.B.Base.algebra in
    let it = c.args.self.now in
    let D = g.D.Domain.elements it.domain.now in
    let M = g.D.Domain.meaning it.domain.now in
    without_members B D M (problem it) g.D.Domain.view _ (g.D.Domain.view c.args.before.now) (abs c.args.state.now) (uses_of c.args.log.now) c.args.counter.now _ _ _ refl
    (ap (λ (k : g.row.D-B-Ctx.Denot). B.words.members k 32 c.args.counter.now it.limit) (sym c.requires.context) ∙ sym c.in_ok-targets.ensures ∙ ap items_of c.in-None.is)
    c.in_ok-shown-in-None.ensures.value c.in_ok-uses-in-None.ensures
