use Rattle.std.proofs.Common.{◌≤◌, ◌^◌, subst}
use Rattle.spec_ir.specs.Views.{specification}
use Rattle.semantics_values.specs.Types.{environment_of, key_count}
use Rattle.domain_cells.proofs.Lists.{small_power}
use Rattle.domain_cells.proofs.fields.key_count.Goals as goal

pub overflow_shl-result : goal.overflow_shl-result
overflow_shl-result c = small_power c.in-Word.w (subst (λ t. key_count (environment_of (specification c.args.spec.now)) t ≤ 2 ^ 32) c.in-Word.is c.requires.few)
