use Rattle.std.proofs.Common.{sym, subst}
use Rattle.spec_ir.specs.Views.{specification}
use Rattle.semantics_values.specs.declared.entry.GivenNumber.TheVariants.{One}
use Rattle.abstract_value_laws.specs.Fits.{PartsFit}
use Rattle.domain_cells.specs.Views.{context_of, states_of}
use Rattle.analysis_query_laws.specs.Cells.{word_in}
use Rattle.analysis_query_laws.specs.Laws.{IsOfCell}
use Rattle.domain_product_states.specs.Views.{seen}
use Rattle.analysis_claims.specs.Instance.{paired_type}
use Rattle.analysis_claims.specs.Words.{HasWordFor}
use Rattle.analysis_claims.proofs.Values.{has_word}
use Rattle.analysis_claims.proofs.instances.PairedStatesClaimElement.excludes.Goals as goal

pub either_differs-requires-clause-first : goal.either_differs-requires-clause-first
either_differs-requires-clause-first g c =
    let A = g.A.Base.algebra in
    let m = g.A.Base.CAP in
    let x = seen c.args.x.now in
    let back = sym c.shared.ensures in
    subst (λ z. PartsFit A z.0 m x.0) back c.requires.fits.0.1

pub either_differs-requires-clause-second : goal.either_differs-requires-clause-second
either_differs-requires-clause-second g c =
    let B = g.B.Base.algebra in
    let n = g.B.Base.CAP in
    let x = seen c.args.x.now in
    let back = sym c.shared.ensures in
    subst (λ z. PartsFit B z.1 n x.1) back c.requires.fits.1.1

pub either_differs-requires-clause-left : goal.either_differs-requires-clause-left
either_differs-requires-clause-left g c =
    let A = g.A.Base.algebra in
    let B = g.B.Base.algebra in
    let m = g.A.Base.CAP in
    let n = g.B.Base.CAP in
    let k = context_of c.args.self.now.states in
    let t = states_of c.args.self.now.states in
    let x = seen c.args.x.now in
    let back = sym c.shared.ensures in
    let own = subst (λ u. IsOfCell u.fields c.args.field c.args.key.now (One c.args.value)) (sym (paired_type A B g.met.A.Base.laws g.met.B.Base.laws m n k t (specification c.args._spec.now) c.requires.made)) c.requires.number in
    subst (λ z. HasWordFor A z.0 (One c.args.value) (word_in x.0 c.args.field c.args.key.now)) back (has_word A k.0 m c.args.key.now (One c.args.value) t.fields x.0 c.args.field c.requires.fits.0.0 c.requires.fits.0.1 own)

pub either_differs-requires-clause-right : goal.either_differs-requires-clause-right
either_differs-requires-clause-right g c =
    let A = g.A.Base.algebra in
    let B = g.B.Base.algebra in
    let m = g.A.Base.CAP in
    let n = g.B.Base.CAP in
    let k = context_of c.args.self.now.states in
    let t = states_of c.args.self.now.states in
    let x = seen c.args.x.now in
    let back = sym c.shared.ensures in
    let own = subst (λ u. IsOfCell u.fields c.args.field c.args.key.now (One c.args.value)) (sym (paired_type A B g.met.A.Base.laws g.met.B.Base.laws m n k t (specification c.args._spec.now) c.requires.made)) c.requires.number in
    subst (λ z. HasWordFor B z.1 (One c.args.value) (word_in x.1 c.args.field c.args.key.now)) back (has_word B k.1 n c.args.key.now (One c.args.value) t.fields x.1 c.args.field c.requires.fits.1.0 c.requires.fits.1.1 own)
