use Rattle.std.proofs.Common.{ℕ, ◌∷◌, List, ◌↔◌, ◌++◌, subst, ◌∙◌, arith}
use Rattle.support_modular_rows.specs.Submodule.{IsMember}
use Rattle.domain_affine_element_laws.specs.Elements.{SameMembers}
use Rattle.domain_affine_elements.proofs.Adding.{adds_next, take_whole}
use Rattle.domain_affine_elements.proofs.joins.add_rows.Goals as goal

pub loop-i-preserved : goal.loop-i-preserved
loop-i-preserved c =
    let k = c.args.x.now.k in
    let same = c.loop-i.invariant.same in
    let adds : (x : List ℕ) → IsMember c.args.x.now.k c.insert-grew.new.self.rows x ↔ IsMember c.args.x.now.k (c.row.result.now ∷ c.loop-i.into.rows) x =
    subst (λ k. (x : List ℕ) → IsMember k c.insert-grew.new.self.rows x ↔ IsMember k (c.row.result.now ∷ c.loop-i.into.rows) x) same c.insert-grew.ensures.members in
    record {
      same = c.insert-grew.ensures.same ∙ same;
      members = adds_next c.args.x.now.k c.args.into.now.rows c.loop-i.into.rows c.args.x.now.rows c.insert-grew.new.self.rows c.loop-i.i c.row.result.now c.row.ensures.item c.loop-i.invariant.members adds;
    }

pub returns-clause-members : goal.returns-clause-members
returns-clause-members c =
    subst (λ l. SameMembers c.args.x.now.k c.loop-i.into.rows (c.args.into.now.rows ++ l))
    (take_whole c.loop-i.i c.args.x.now.rows (omega (arith, c.loop-i-test.false, c.len-i-end.ensures))) c.loop-i.invariant.members
