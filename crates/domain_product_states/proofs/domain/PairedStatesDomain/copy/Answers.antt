use Rattle.std.proofs.Common.{◌≡◌, ap, subst, sym}
use Rattle.domain_laws.specs.Values.{FieldsFit}
use Rattle.abstract_map.proofs.Whole.{if_ok}
use Rattle.domain_cells.specs.Views.{context_of, states_of}
use Rattle.domain_product_states.specs.Views.{seen}
use Rattle.domain_product_states.proofs.domain.PairedStatesDomain.copy.Goals as goal

pub returns-clause-value : goal.returns-clause-value
returns-clause-value g c =
    let x = seen c.args.x.now in
    if_ok (λ r. seen r ≡ x) (λ r. ((seen r).0 ≡ x.0) × ((seen r).1 ≡ x.1)) c.copied_both.result (λ r h. (ap (λ p. p.0) h, ap (λ p. p.1) h)) c.copied_both.ensures

pub returns-clause-fits : goal.returns-clause-fits
returns-clause-fits g c =
    let k = context_of c.args.self.now.states in
    let t = states_of c.args.self.now.states in
    let x = seen c.args.x.now in
    if_ok (λ r. seen r ≡ x) (λ r. FieldsFit g.A.Base.algebra k.0 g.A.Base.CAP t.fields (seen r).0 × FieldsFit g.B.Base.algebra k.1 g.B.Base.CAP t.fields (seen r).1) c.copied_both.result
    (λ r h. subst (λ p. FieldsFit g.A.Base.algebra k.0 g.A.Base.CAP t.fields p.0 × FieldsFit g.B.Base.algebra k.1 g.B.Base.CAP t.fields p.1) (sym h) c.requires.fits) c.copied_both.ensures
