-- What an analysis needs of a specification, as the code has it.
use Rattle.std.specs.Prelude.{◌≡◌}
use Rattle.eval_code.specs.Lowered.{IsCodeOf}
use Rattle.eval_code.specs.Views.{code}
use Rattle.code_image.specs.Decoders.{IsDecoderOf}
use Rattle.spec_ir.specs.Specification.{Spec}
use Rattle.domain_laws.specs.States.{state_type}
use Rattle.program_domain_tasks.specs.declared.prepared.Prepared.{Prepared}

-- The fields of states, the decoder and the code are the specification's.
pub record IsPrepared (spec : Spec) (p : Prepared) : Type 0 where
  pub fields_are : p.fields.items ≡ (state_type spec).fields
  pub decoder_is : IsDecoderOf spec.rows p.decoder
  pub code_is : IsCodeOf (code p.cir) spec
