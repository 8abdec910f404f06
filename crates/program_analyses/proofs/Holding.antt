-- Where a slice answers it holds every chain, and where claims are answered each yes is true.
use Rattle.std.proofs.Common.{◌≡◌, ℕ, Bool, List, IsTrue, Some, false, subst, true}
use Rattle.std.specs.Prelude.{Ok}
use Rattle.support_command_line.specs.Bases.{is_stamped}
use Rattle.support_command_line.specs.Requests.{AnalyseRequest}
use Rattle.spec_ir.specs.declared.spec.Machine.{Machine}
use Rattle.analysis_transfer_laws.specs.Problem.{IsWellFormedProblem}
use Rattle.program_domains.specs.Laws.{HasWordsOf}
use Rattle.program_domains.specs.Named.{Claimed, ClaimedOpen, ClaimsHold, ClaimsHoldOpen, Done, SliceHolds, SliceHoldsOpen, Sliced, SlicedOpen}
use Rattle.program_domains.specs.Tasks.{Task, claims, claims_open, slice, slice_open}
use Rattle.program_domains.proofs.Claims as claiming
use Rattle.program_domains.proofs.OpenClaims as open_claiming
use Rattle.program_domains.proofs.OpenSlices as open_slicing
use Rattle.program_domains.proofs.Slices as slicing
use Rattle.program_common.specs.Outcome.{text}
use Rattle.program_machine.specs.Inputs.{AnalysisInputs, SliceInputs}
use Rattle.program_analyses.specs.Problems.{problem_in}
use Rattle.program_analyses.specs.Steps.{ClaimedBy, ClaimsOf, OpenClaimedBy, OpenSlicedBy, SliceOf, SlicedBy}
use Rattle.program_analyses.proofs.Problems.{closed_is, open_is}

-- ---- slices

module _ (request : AnalyseRequest) (sought : SliceInputs) (at : ℕ) (bytes line : List ℕ) (stamped : IsTrue (is_stamped request.base)) where
  pub slice_holds : request.open ≡ false → SliceOf request sought at bytes (Ok (text line)) → SlicedBy request sought at bytes line
  slice_holds closed is =
      let posed = sought.posed in
      let p = problem_in request posed is.machine in
      let sliced : Sliced posed.image p request.base bytes at sought.asked (Ok (text line)) =
      subst (λ (task : Task). Done posed.image task request.base (Ok (text line))) (closed_is (slice_open p bytes at sought.asked) (slice p bytes at sought.asked) request.open closed) is.sliced in
      let found = slicing.slices_hold posed.image p request.base bytes at sought.asked (text line) stamped sliced in
      let same : text line ≡ text found.0 = found.1 in
      let lines : found.0 ≡ line = cc in
      record { machine = is.machine; is_machine = is.is_machine; holds = subst (λ (written : List ℕ). SliceHolds posed.image p request.base bytes at sought.asked written) lines found.2 }

  -- So it does where the table may be left open, until there.
  pub open_slice_holds : request.open ≡ true → SliceOf request sought at bytes (Ok (text line)) → OpenSlicedBy request sought at bytes line
  open_slice_holds opened is =
      let posed = sought.posed in
      let p = problem_in request posed is.machine in
      let sliced : SlicedOpen posed.image p request.base bytes at sought.asked (Ok (text line)) =
      subst (λ (task : Task). Done posed.image task request.base (Ok (text line))) (open_is (slice_open p bytes at sought.asked) (slice p bytes at sought.asked) request.open opened) is.sliced in
      let found = open_slicing.open_slices_hold posed.image p request.base bytes at sought.asked (text line) stamped sliced in
      let same : text line ≡ text found.0 = found.1 in
      let lines : found.0 ≡ line = cc in
      record { machine = is.machine; is_machine = is.is_machine; holds = subst (λ (written : List ℕ). SliceHoldsOpen posed.image p request.base bytes at sought.asked written) lines found.2 }

-- ---- claims

module _ (request : AnalyseRequest) (posed : AnalysisInputs) (bytes list line : List ℕ)
    (well : (m : Machine) → posed.spec.machine ≡ Some m → IsWellFormedProblem (problem_in request posed m)) (words : (m : Machine) → HasWordsOf posed.image (problem_in request posed m)) where
  pub claims_hold : request.open ≡ false → ClaimsOf request posed bytes list (Ok (text line)) → ClaimedBy request posed bytes list line
  claims_hold closed is =
      let p = problem_in request posed is.machine in
      let claimed : Claimed posed.image p request.base bytes list (Ok (text line)) =
      subst (λ (task : Task). Done posed.image task request.base (Ok (text line))) (closed_is (claims_open p bytes list) (claims p bytes list) request.open closed) is.claimed in
      let found = claiming.claims_hold posed.image p request.base bytes list (text line) (well is.machine is.is_machine) (words is.machine) claimed in
      let same : text line ≡ text found.0 = found.1 in
      let lines : found.0 ≡ line = cc in
      record { machine = is.machine; is_machine = is.is_machine; holds = subst (λ (written : List ℕ). ClaimsHold posed.image p request.base bytes list written) lines found.2 }

  -- So they do where the table may be left open, until there.
  pub open_claims_hold : request.open ≡ true → ClaimsOf request posed bytes list (Ok (text line)) → OpenClaimedBy request posed bytes list line
  open_claims_hold opened is =
      let p = problem_in request posed is.machine in
      let claimed : ClaimedOpen posed.image p request.base bytes list (Ok (text line)) =
      subst (λ (task : Task). Done posed.image task request.base (Ok (text line))) (open_is (claims_open p bytes list) (claims p bytes list) request.open opened) is.claimed in
      let found = open_claiming.open_claims_hold posed.image p request.base bytes list (text line) (well is.machine is.is_machine) (words is.machine) claimed in
      let same : text line ≡ text found.0 = found.1 in
      let lines : found.0 ≡ line = cc in
      record { machine = is.machine; is_machine = is.is_machine; holds = subst (λ (written : List ℕ). ClaimsHoldOpen posed.image p request.base bytes list written) lines found.2 }
