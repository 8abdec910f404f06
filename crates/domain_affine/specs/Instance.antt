-- The laws of elements of affine relations, where a map may list 256 cells.
use Rattle.std.specs.Prelude.{IsTrue}
use Rattle.spec_ir.specs.Specification.{Spec}
use Rattle.domain_laws.specs.Domain.{DomainLaws}
use Rattle.domain_laws.specs.Pieces.{AreCut}
use Rattle.domain_laws.specs.States.{StateType}
use Rattle.domain_laws.proofs.Pieces.{stay_whole}
use Rattle.fixpoint_cases.specs.Pieces.{whole_piece}
use Rattle.domain_affine_base.specs.Meaning.{affine}
use Rattle.domain_affine_laws.specs.Calls.{affine_calls, affine_elements, is_for}
use Rattle.domain_affine_laws.proofs.Domain as proofs
use Rattle.std.proofs.Common.{arith}

pub has_the_laws : (t : StateType) (spec : Spec) → IsTrue (is_for t spec) → DomainLaws affine 256 spec (affine_elements t) (affine_calls t)
has_the_laws t spec made = proofs.affine_keeps_the_laws 256 t spec (omega arith) made

-- They are never cut.
pub relations_stay : (t : StateType) → AreCut (affine_elements t) whole_piece
relations_stay t = stay_whole (affine_elements t)
