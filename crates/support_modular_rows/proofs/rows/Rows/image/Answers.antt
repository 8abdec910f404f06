use Rattle.std.proofs.Common.{◌+◌, ◌<◌, arith, subst}
use Rattle.support_modular_rows.specs.Values.{Forgotten}
use Rattle.support_modular_rows.proofs.Forgets.{image_to, image_from}
use Rattle.support_modular_rows.proofs.rows.Rows.image.Goals as goal

pub returns-clause-members : goal.returns-clause-members
returns-clause-members c y =
    let fs = c.args.forms.now in
    let positive : 0 < c.args.self.now.k + 1 = omega arith in
    let cells : Forgotten fs (c.args.self.now.k + 1) c.args.self.now.k c.add_values.new.into.rows c.forget.new.into.rows =
    subst (λ k. Forgotten fs (k + 1) k c.add_values.new.into.rows c.forget.new.into.rows) c.add_values.ensures.same c.forget.ensures.cells in (
      image_to fs c.args.self.now c.add_values.new.into.rows c.forget.new.into.rows positive c.add_values.ensures.images cells y,
      image_from fs c.args.self.now c.add_values.new.into.rows c.forget.new.into.rows positive c.add_values.ensures.images cells y,
    )
