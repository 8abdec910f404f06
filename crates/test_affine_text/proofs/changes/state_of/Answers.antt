use Rattle.std.proofs.Common.{rules}
use Rattle.spec_ir.specs.Views.{specification}
use Rattle.domain_laws.specs.States.{state_type}
use Rattle.domain_laws.specs.Values.{AreOf}
use Rattle.abstract_value_laws.specs.Abs.{parts}
use Rattle.std.specs.Prelude.{map}
use Rattle.abstract_value.specs.View.{abs}
use Rattle.test_affine_text.proofs.Values.{state_is}
use Rattle.test_affine_text.proofs.changes.state_of.Goals as goal

pub returns : goal.returns
returns c =
    let are : AreOf c.args.fields.now (parts (map abs c.args.values.items)) = search rules in
    state_is c.args.setting.now.ctx.now (state_type (specification c.args.setting.now.spec.now)) c.state_number.result c.in_ok-cases.cases c.args.fields.now c.args.values.items
    c.state_number.ensures c.in_ok-cases.ensures c.requires.fields are c.requires.values
