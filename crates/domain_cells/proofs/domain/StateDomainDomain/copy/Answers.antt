use Rattle.std.proofs.Common.{◌≡◌, map, ap, sym, subst, ◌∙◌}
use Rattle.abstract_value_laws.specs.Abs.{parts}
use Rattle.abstract_map.proofs.Whole.{if_ok}
use Rattle.domain_laws.specs.Values.{FieldsFit}
use Rattle.abstract_value.specs.View.{abs}
use Rattle.domain_cells.proofs.domain.StateDomainDomain.copy.Goals as goal

pub returns-clause-value : goal.returns-clause-value
returns-clause-value g c =
    let x = c.args.x.now.items in
    if_ok (λ r. map abs r.items ≡ map abs c.deref.result.now) (λ r. parts (map abs r.items) ≡ parts (map abs x)) c.copies.result (λ r e. ap parts (e ∙ ap (λ l. map abs l) c.deref.ensures.value)) c.copies.ensures

pub returns-clause-fits : goal.returns-clause-fits
returns-clause-fits g c =
    let B = g.B.Base.algebra in
    let ctx = c.args.self.now.ctx in
    let cap = g.B.Base.CAP in
    let fields = c.args.self.now.fields.items in
    if_ok (λ r. map abs r.items ≡ map abs c.deref.result.now) (λ r. FieldsFit B ctx cap fields (parts (map abs r.items))) c.copies.result
    (λ r e. subst (FieldsFit B ctx cap fields) (sym (ap parts (e ∙ ap (λ l. map abs l) c.deref.ensures.value))) c.requires.fits) c.copies.ensures
