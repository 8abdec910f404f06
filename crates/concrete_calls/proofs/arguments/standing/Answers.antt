use Rattle.spec_ir.specs.Views.{specification}
use Rattle.semantics_values.specs.Types.{environment_of}
use Rattle.concrete_calls.proofs.Typed.{fits_at}
use Rattle.concrete_calls.proofs.arguments.standing.Goals as goal

pub of_value-requires : goal.of_value-requires
of_value-requires c =
    record { value = fits_at (environment_of (specification c.args.spec.now)) c.args.values.now c.loop-value.value-index c.value-item.result c.value-item.is c.loop-value-test.true c.requires.fit }
