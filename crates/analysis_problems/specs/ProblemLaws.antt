-- What is read is a well-posed problem.
use Rattle.std.specs.Prelude.{◌≡◌, ℕ, List, Ok, Some}
use Rattle.spec_ir.specs.declared.spec.Machine.{Machine}
use Rattle.spec_ir.specs.Specification.{Spec}
use Rattle.semantics_laws.specs.Accepted.{IsAccepted}
use Rattle.code_image.specs.Faults.{IsImage}
use Rattle.code_image.specs.Image.{Image}
use Rattle.state_text.specs.Reading.{Entry, read}
use Rattle.analysis_transfer_laws.specs.Problem.{IsWellFormedProblem}
use Rattle.analysis_problems.specs.Problems.{problem_of}

-- The machine of an accepted specification, an image without faults and an entry that is read are a well-posed problem, under any limit, with any number of joins and however often elements are split.
abbrev pub ReadProblemsAreWellPosed : Type 0
ReadProblemsAreWellPosed = (spec : Spec) (m : Machine) (image : Image) (bytes : List ℕ) (e : Entry) (limit joins cases : ℕ)
    → IsAccepted spec → spec.machine ≡ Some m → IsImage image → read spec bytes ≡ Ok e → IsWellFormedProblem (problem_of spec m image e limit joins cases)
