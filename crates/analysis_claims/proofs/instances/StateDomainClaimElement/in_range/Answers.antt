use Rattle.std.proofs.Common.{sym, subst}
use Rattle.spec_ir.specs.Views.{specification}
use Rattle.semantics_values.specs.declared.entry.GivenNumber.TheVariants.{Range}
use Rattle.domain_cells.specs.Views.{context_of, states_of}
use Rattle.analysis_query_laws.specs.Laws.{IsOfCell}
use Rattle.analysis_claims.specs.Instance.{same_type}
use Rattle.analysis_claims.specs.Seen.{plain_values}
use Rattle.analysis_claims.proofs.Values.{has_word}
use Rattle.analysis_claims.proofs.instances.StateDomainClaimElement.in_range.Goals as goal

pub cell_within-requires-clause-range : goal.cell_within-requires-clause-range
cell_within-requires-clause-range g c =
    let it = c.args.self.now in
    let own = subst (λ t. IsOfCell t.fields c.args.field c.args.key.now (Range c.args.lo c.args.hi)) (sym (same_type g.B.Base.algebra g.met.B.Base.laws g.B.Base.CAP it (specification c.args._spec.now) c.requires.made)) c.requires.range in
    let base = has_word g.B.Base.algebra (context_of it) g.B.Base.CAP c.args.key.now (Range c.args.lo c.args.hi) (states_of it).fields (plain_values c.args.x.now) c.args.field c.requires.fits.0 c.requires.fits.1 own in
    rw (c.in_ok-ctx.ensures.value, c.deref.ensures.value) base
