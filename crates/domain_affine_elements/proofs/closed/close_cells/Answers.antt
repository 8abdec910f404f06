use Rattle.std.proofs.Common.{◌≡◌, ◌↔◌, map, subst, ◌∙◌}
use Rattle.support_modular_rows.specs.Submodule.{IsImage, IsMember}
use Rattle.domain_affine_base.specs.Exact.{form_of}
use Rattle.domain_affine_element_laws.proofs.Closed.{closes_to_image}
use Rattle.domain_affine_elements.proofs.closed.close_cells.Goals as goal

pub returns-clause-members : goal.returns-clause-members
returns-clause-members c y =
    let forms : c.deref.result.now ≡ map form_of c.args.words.now = c.deref.ensures.value ∙ c.in_ok-forms.ensures in
    let given : IsMember c.args.x.now.k c.image.new.into.rows y ↔ IsImage (record { k = c.args.x.now.k; rows = c.args.x.now.rows }) c.deref.result.now y = c.image.ensures.members y in
    let image : IsMember c.args.k c.image.new.into.rows y ↔ IsImage (record { k = c.args.k; rows = c.args.x.now.rows }) (map form_of c.args.words.now) y =
    subst (λ f. IsMember c.args.k c.image.new.into.rows y ↔ IsImage (record { k = c.args.k; rows = c.args.x.now.rows }) f y) forms
    (subst (λ k. IsMember k c.image.new.into.rows y ↔ IsImage (record { k = k; rows = c.args.x.now.rows }) c.deref.result.now y) c.requires.cells given) in
    let closes = closes_to_image c.args.k c.args.words.now c.args.x.now.rows c.requires.fit y in
    (λ h. closes.1 (image.0 h), λ h. image.1 (closes.0 h))
