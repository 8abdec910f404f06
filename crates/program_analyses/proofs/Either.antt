-- The work on a table that is asked for has one outcome, whether the table may be left open or not.
use Rattle.std.proofs.Common.{◌≡◌, ℕ, Bool, List, false, true}
use Rattle.std.specs.Prelude.{if◌then◌else◌}
use Rattle.support_command_line.specs.declared.bases.BaseName.{BaseName}
use Rattle.code_image.specs.Image.{Image}
use Rattle.text_slices.specs.declared.slice_cell.SliceCell.{SliceCell}
use Rattle.analysis_transfer_laws.specs.Problem.{IsWellFormedProblem, Problem}
use Rattle.program_domains.specs.Laws.{HasWordsOf}
use Rattle.program_domains.specs.Named.{Done}
use Rattle.program_domains.specs.Tasks.{Task, check, check_open, claims, claims_open, slice, slice_open}
use Rattle.program_domains.proofs.Claims.{claims_are_one, claims_have_some}
use Rattle.program_domains.proofs.OpenReadings.{open_checks_are_one, open_checks_have_some}
use Rattle.program_domains.proofs.OpenClaims.{open_claims_are_one, open_claims_have_some}
use Rattle.program_domains.proofs.OpenSlices.{open_slices_are_one, open_slices_have_some}
use Rattle.program_domains.proofs.Readings.{checks_are_one, checks_have_some}
use Rattle.program_domains.proofs.Slices.{slices_are_one, slices_have_some}
use Rattle.program_common.specs.Outcome.{Outcome}

module _ (image : Image) (p : Problem) (base : BaseName) (bytes : List ℕ) (posed : IsWellFormedProblem p) where
  -- ---- checks
  abbrev pub EitherCheck : Bool → Task
  EitherCheck b = if b then check_open p bytes else check p bytes

  pub check_is_one : (b : Bool) (found other : Outcome) → Done image (EitherCheck b) base found → Done image (EitherCheck b) base other → found ≡ other
  check_is_one true found other h k = open_checks_are_one image p base bytes found other posed h k
  check_is_one false found other h k = checks_are_one image p base bytes found other posed h k

  pub check_is_some : HasWordsOf image p → (b : Bool) → (found : Outcome) × Done image (EitherCheck b) base found
  check_is_some words true = open_checks_have_some image p base bytes posed words
  check_is_some words false = checks_have_some image p base bytes posed words

  -- ---- slices
  module _ (at : ℕ) (asked : SliceCell) where
    abbrev pub EitherSlice : Bool → Task
    EitherSlice b = if b then slice_open p bytes at asked else slice p bytes at asked

    pub slice_is_one : (b : Bool) (found other : Outcome) → Done image (EitherSlice b) base found → Done image (EitherSlice b) base other → found ≡ other
    slice_is_one true found other h k = open_slices_are_one image p base bytes at asked found other posed h k
    slice_is_one false found other h k = slices_are_one image p base bytes at asked found other posed h k

    pub slice_is_some : HasWordsOf image p → (b : Bool) → (found : Outcome) × Done image (EitherSlice b) base found
    slice_is_some words true = open_slices_have_some image p base bytes at asked posed words
    slice_is_some words false = slices_have_some image p base bytes at asked posed words

  -- ---- claims
  module _ (list : List ℕ) where
    abbrev pub EitherClaims : Bool → Task
    EitherClaims b = if b then claims_open p bytes list else claims p bytes list

    pub claims_is_one : (b : Bool) (found other : Outcome) → Done image (EitherClaims b) base found → Done image (EitherClaims b) base other → found ≡ other
    claims_is_one true found other h k = open_claims_are_one image p base bytes list found other posed h k
    claims_is_one false found other h k = claims_are_one image p base bytes list found other posed h k

    pub claims_is_some : HasWordsOf image p → (b : Bool) → (found : Outcome) × Done image (EitherClaims b) base found
    claims_is_some words true = open_claims_have_some image p base bytes list posed words
    claims_is_some words false = claims_have_some image p base bytes list posed words
