use Rattle.std.proofs.Common.{sym, subst, ap, ◌∙◌}
use Rattle.semantics_values.specs.declared.entry.GivenNumber.TheVariants.{Range}
use Rattle.abstract_value_laws.specs.Fits.{PartsFit}
use Rattle.analysis_query_laws.specs.Cells.{is_within, word_in}
use Rattle.domain_product_states.specs.Views.{seen}
use Rattle.domain_product_states.proofs.Seen.{first_taken, second_taken}
use Rattle.analysis_claims.specs.Words.{HasWordFor}
use Rattle.analysis_claims.proofs.Either.{either_off, either_on}
use Rattle.analysis_claims.proofs.pair_cells.either_within.Goals as goal

pub cell_within-requires : goal.cell_within-requires
cell_within-requires g c =
    let at = first_taken c.in_ok-apart.apart.0 c.in_ok-apart.apart.1 (seen c.args.values.now) c.in_ok-apart.ensures c.deref.result.now c.deref.ensures.value in
    record {
      fits = subst (PartsFit g.A.Base.algebra c.ctx.inside.0 g.A.Base.CAP) (sym at) (rw (← c.ctx.view_is) at c.requires.first);
      range = subst (λ x. HasWordFor g.A.Base.algebra c.ctx.inside.0 (Range c.args.lo c.args.hi) (word_in x c.args.field c.args.key)) (sym at) (rw (← c.ctx.view_is) at c.requires.left);
    }

pub cell_within-requires-2 : goal.cell_within-requires-2
cell_within-requires-2 g c =
    let at = second_taken c.in_ok-apart.apart.0 c.in_ok-apart.apart.1 (seen c.args.values.now) c.in_ok-apart.ensures c.deref-2.result.now c.deref-2.ensures.value in
    record {
      fits = subst (PartsFit g.B.Base.algebra c.ctx.inside.1 g.B.Base.CAP) (sym at) (rw (← c.ctx.view_is) at c.requires.second);
      range = subst (λ x. HasWordFor g.B.Base.algebra c.ctx.inside.1 (Range c.args.lo c.args.hi) (word_in x c.args.field c.args.key)) (sym at) (rw (← c.ctx.view_is) at c.requires.right);
    }

pub returns-then-first : goal.returns-then-first
returns-then-first g c =
    let A = g.A.Base.algebra in
    let B = g.B.Base.algebra in
    let k = c.ctx.inside in
    let x = seen c.args.values.now in
    let at = first_taken c.in_ok-apart.apart.0 c.in_ok-apart.apart.1 x c.in_ok-apart.ensures c.deref.result.now c.deref.ensures.value in
    rw (← c.ctx.view_is) (either_on c.in_ok-first.first (is_within A k.0 c.args.lo c.args.hi (word_in x.0 c.args.field c.args.key)) (is_within B k.1 c.args.lo c.args.hi (word_in x.1 c.args.field c.args.key))
    (c.in_ok-first.ensures ∙ ap (λ z. is_within A k.0 c.args.lo c.args.hi (word_in z c.args.field c.args.key)) at) c.if-first.true)

pub returns : goal.returns
returns g c =
    let A = g.A.Base.algebra in
    let B = g.B.Base.algebra in
    let k = c.ctx.inside in
    let x = seen c.args.values.now in
    let at = first_taken c.in_ok-apart.apart.0 c.in_ok-apart.apart.1 x c.in_ok-apart.ensures c.deref.result.now c.deref.ensures.value in
    let behind = second_taken c.in_ok-apart.apart.0 c.in_ok-apart.apart.1 x c.in_ok-apart.ensures c.deref-2.result.now c.deref-2.ensures.value in
    rw (← c.ctx.view_is) (either_off c.in_ok-first.first c.in_ok-second.second (is_within A k.0 c.args.lo c.args.hi (word_in x.0 c.args.field c.args.key)) (is_within B k.1 c.args.lo c.args.hi (word_in x.1 c.args.field c.args.key))
    (c.in_ok-first.ensures ∙ ap (λ z. is_within A k.0 c.args.lo c.args.hi (word_in z c.args.field c.args.key)) at) c.if-first.false
    (c.in_ok-second.ensures ∙ ap (λ z. is_within B k.1 c.args.lo c.args.hi (word_in z c.args.field c.args.key)) behind))
