use Rattle.std.proofs.Common.{◌≡◌, subst, sym}
use Rattle.std.proofs.lemmas.Result.{IfOk-weaker}
use Rattle.domain_affine_element_laws.specs.Elements.{SameMembers}
use Rattle.domain_affine_elements.proofs.joins.copy.Goals as goal

pub returns-clause-members : goal.returns-clause-members
returns-clause-members c =
    IfOk-weaker c.copy.result (λ r. r ≡ c.args.x.now) (λ r. SameMembers c.args.k r.rows c.args.x.now.rows)
    (λ r same. subst (λ s. SameMembers c.args.k s.rows c.args.x.now.rows) (sym same) (λ y. (λ h. h, λ h. h))) c.copy.ensures
