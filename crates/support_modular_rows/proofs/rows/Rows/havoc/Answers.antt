use Rattle.std.proofs.Common.{◌≡◌, ◌≤◌, ◌<◌, ◌+◌, ap, ◌∙◌, subst, take, arith}
use Rattle.support_modular_rows.specs.Submodule.{Adds, unit_row}
use Rattle.support_modular_rows.proofs.Store.{unit_front}
use Rattle.support_modular_rows.proofs.rows.Rows.havoc.Goals as goal

pub returns-clause-members : goal.returns-clause-members
returns-clause-members c =
    let is : c.self.inside.k ≡ c.args.self.now.k = ap (λ s. s.k) c.self.view_is in
    let few : c.args.self.now.k + 1 ≤ 65 = omega (arith, c.self.invariant.few) in
    let within : c.args.cell + 1 < c.args.self.now.k + 1 = omega (arith, c.requires) in
    let row_is : take (c.self.inside.k + 1) c.unit_vector-unit.result ≡ unit_row (c.args.self.now.k + 1) (c.args.cell + 1) =
    ap (λ u. take (c.self.inside.k + 1) u) c.unit_vector-unit.ensures.value ∙ ap (λ n. take (n + 1) (unit_row 65 (c.args.cell + 1))) is
    ∙ unit_front (c.args.self.now.k + 1) (c.args.cell + 1) few within in
    subst (λ r. Adds c.args.self.now r c.insert-grew.new.self) row_is c.insert-grew.ensures.members
