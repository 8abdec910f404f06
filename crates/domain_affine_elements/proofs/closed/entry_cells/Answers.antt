use Rattle.std.proofs.Common.{◌≡◌, ◌↔◌, ◌+◌, ℕ, List, [], ◌∷◌, subst, ◌∙◌}
use Rattle.std.proofs.lemmas.Result.{IfOk-weaker}
use Rattle.support_modular_rows.specs.Submodule.{IsMember, unit_row}
use Rattle.domain_affine_element_laws.specs.Closed.{closed_of}
use Rattle.domain_affine_element_laws.specs.Elements.{SameMembers}
use Rattle.domain_affine_element_laws.specs.Entry.{entry_of}
use Rattle.domain_affine_element_laws.proofs.Closed.{closes_same}
use Rattle.domain_affine_elements.proofs.closed.entry_cells.Goals as goal

pub returns-clause-members : goal.returns-clause-members
returns-clause-members c =
    let row : c.deref.result.now ≡ unit_row (c.args.k + 1) 0 = c.deref.ensures.value ∙ c.first.view_is ∙ c.in_ok-first.ensures in
    let added : SameMembers c.args.k c.insert-grew.new.self.rows (c.deref.result.now ∷ []) =
    subst (λ s. (x : List ℕ) → IsMember s.k c.insert-grew.new.self.rows x ↔ IsMember s.k (c.deref.result.now ∷ s.rows) x) c.in_ok-start.ensures c.insert-grew.ensures.members in
    let start : SameMembers c.args.k c.insert-grew.new.self.rows (unit_row (c.args.k + 1) 0 ∷ []) = subst (λ r. SameMembers c.args.k c.insert-grew.new.self.rows (r ∷ [])) row added in
    let same = closes_same c.args.k c.args.words.now c.insert-grew.new.self.rows (unit_row (c.args.k + 1) 0 ∷ []) c.requires.fit start in
    IfOk-weaker c.close_cells.result (λ r. SameMembers c.args.k r.rows (closed_of c.args.k c.args.words.now c.insert-grew.new.self).rows) (λ r. SameMembers c.args.k r.rows (entry_of c.args.k c.args.words.now).rows)
    (λ r h x. (λ member. (same x).0 ((h x).0 member), λ member. (h x).1 ((same x).1 member))) c.close_cells.ensures.members
