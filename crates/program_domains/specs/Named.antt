-- What is asked over a base comes to.
use Rattle.std.specs.Prelude.{ℕ, Bool, true, false, List, Option, Some, None}
use Rattle.support_modular_rows.specs.Submodule.{Submodule}
use Rattle.support_command_line.specs.declared.bases.BaseName.{BaseName}
use Rattle.support_command_line.specs.declared.bases.BaseName.TheVariants as b
use Rattle.support_command_line.specs.Bases.{base_text}
use Rattle.code_image.specs.Image.{Image}
use Rattle.spec_ir.specs.Specification.{Spec}
use Rattle.domain_laws.specs.States.{StateType, state_type}
use Rattle.analysis_transfer_laws.specs.Problem.{Problem}
use Rattle.program_common.specs.Outcome.{Outcome}
use Rattle.text_slices.specs.declared.slice_cell.SliceCell.{SliceCell}
use Rattle.program_domains.specs.Checks.{IsAccepted}
use Rattle.program_domains.specs.Claims.{HoldsClaims}
use Rattle.program_domains.specs.OpenChecks.{IsOpenAccepted}
use Rattle.program_domains.specs.OpenClaims.{HoldsOpenClaims}
use Rattle.program_domains.specs.OpenSlices.{HoldsOpenChains}
use Rattle.program_domains.specs.Slices.{HoldsChains}
use Rattle.program_domains.specs.Tasks.{Comes, Task, analyse, analyse_open, check, check_open, claims, claims_open, convert, measure, slice, slice_open, spec_of}
use Rattle.program_domains.specs.Domains.{DomainOf, definitions, intervals, known_bits, pair_of, relations, sets, strided_sets}

-- A domain, with the types of its elements, words, notes and contexts.
pub record AnyDomain : Type 1 where
  pub Element : Type 0
  pub Word : Type 0
  pub Note : Type 0
  pub Ctx : Type 0
  pub domain : DomainOf Element Word Note Ctx

abbrev pub any : {E W N C : Type 0} → DomainOf E W N C → AnyDomain
any {E = E} {W = W} {N = N} {C = C} domain = record { Element = E; Word = W; Note = N; Ctx = C; domain = domain }

-- the domain of each base, for states of a type
abbrev pub domain_of : StateType → BaseName → AnyDomain
domain_of t b.Const = any (sets t 1)
domain_of t b.KSet = any (sets t 16)
domain_of t b.Interval = any (intervals t)
domain_of t b.Affine = any (relations t)
domain_of t b.DefUse = any (definitions t)
domain_of t b.ConstInterval = any (pair_of (sets t 1) (intervals t))
domain_of t b.KSetInterval = any (pair_of (sets t 16) (intervals t))
domain_of t b.KSetAffine = any (pair_of (sets t 16) (relations t))
domain_of t b.KSetDefUse = any (pair_of (sets t 16) (definitions t))
domain_of t b.IntervalAffine = any (pair_of (intervals t) (relations t))
domain_of t b.IntervalDefUse = any (pair_of (intervals t) (definitions t))
domain_of t b.AffineDefUse = any (pair_of (relations t) (definitions t))
domain_of t b.Bits = any (known_bits t)
domain_of t b.KSetBits = any (pair_of (sets t 16) (known_bits t))
domain_of t b.IntervalBits = any (pair_of (intervals t) (known_bits t))
domain_of t b.BitsDefUse = any (pair_of (known_bits t) (definitions t))
domain_of t b.Strides = any (strided_sets t)
domain_of t b.StridesAffine = any (pair_of (strided_sets t) (relations t))
domain_of t b.StridesDefUse = any (pair_of (strided_sets t) (definitions t))

-- The outcome of what is asked over a base, with the states of its specification.
abbrev pub Done : Image → Task → BaseName → Outcome → Type 0
Done image task base = Comes (domain_of (state_type (spec_of task)) base).domain image (base_text base) task

-- That of the analysis of a problem,
abbrev pub Analysed : Image → Problem → BaseName → Outcome → Type 0
Analysed image p base = Done image (analyse p) base

-- that where what has no decoding or too many targets is left open,
abbrev pub AnalysedOpen : Image → Problem → BaseName → Outcome → Type 0
AnalysedOpen image p base = Done image (analyse_open p) base

-- what is measured of it,
abbrev pub Measured : Image → Problem → BaseName → Outcome → Type 0
Measured image p base = Done image (measure p) base

-- that of the check of a text,
abbrev pub Checked : Image → Problem → BaseName → List ℕ → Outcome → Type 0
Checked image p base bytes = Done image (check p bytes) base

-- and that of a text which is written anew.
abbrev pub Converted : Image → Spec → BaseName → List ℕ → Outcome → Type 0
Converted image spec base bytes = Done image (convert spec bytes) base

-- That of the slice of a text, at an address for a cell,
abbrev pub Sliced : Image → Problem → BaseName → List ℕ → ℕ → SliceCell → Outcome → Type 0
Sliced image p base bytes at asked = Done image (slice p bytes at asked) base

-- and that of the claims of a text, of which another is the table.
abbrev pub Claimed : Image → Problem → BaseName → List ℕ → List ℕ → Outcome → Type 0
Claimed image p base bytes list = Done image (claims p bytes list) base

-- Those of the same, where blocks may be left open: of the check of a text,
abbrev pub CheckedOpen : Image → Problem → BaseName → List ℕ → Outcome → Type 0
CheckedOpen image p base bytes = Done image (check_open p bytes) base

-- of its slice,
abbrev pub SlicedOpen : Image → Problem → BaseName → List ℕ → ℕ → SliceCell → Outcome → Type 0
SlicedOpen image p base bytes at asked = Done image (slice_open p bytes at asked) base

-- and of claims.
abbrev pub ClaimedOpen : Image → Problem → BaseName → List ℕ → List ℕ → Outcome → Type 0
ClaimedOpen image p base bytes list = Done image (claims_open p bytes list) base

-- The text is that of a table over a base that is accepted: closed, and true of every run.
abbrev pub Accepted : Image → Problem → BaseName → List ℕ → Type 0
Accepted image p base bytes = IsAccepted (domain_of (state_type p.spec) base).domain p image (base_text base) bytes

-- The text is that of a slice over a base, of a table that is accepted, and holds every chain of reads.
abbrev pub SliceHolds : Image → Problem → BaseName → List ℕ → ℕ → SliceCell → List ℕ → Type 0
SliceHolds image p base bytes at asked text = HoldsChains (domain_of (state_type p.spec) base).domain p image (base_text base) bytes at asked text

-- The text is that of the answers over a base to claims, of a table that is accepted, and each claim that is answered yes is true of every run.
abbrev pub ClaimsHold : Image → Problem → BaseName → List ℕ → List ℕ → List ℕ → Type 0
ClaimsHold image p base bytes list text = HoldsClaims (domain_of (state_type p.spec) base).domain p image (base_text base) bytes list text

-- So it is of a table that is accepted with its endings: it is closed but where it is left open, and true of every run up to and with the first state there.
abbrev pub AcceptedOpen : Image → Problem → BaseName → List ℕ → Type 0
AcceptedOpen image p base bytes = IsOpenAccepted (domain_of (state_type p.spec) base).domain p image (base_text base) bytes

-- Its slice holds every chain of reads until then,
abbrev pub SliceHoldsOpen : Image → Problem → BaseName → List ℕ → ℕ → SliceCell → List ℕ → Type 0
SliceHoldsOpen image p base bytes at asked text = HoldsOpenChains (domain_of (state_type p.spec) base).domain p image (base_text base) bytes at asked text

-- and each claim that it answers with yes is true until then.
abbrev pub ClaimsHoldOpen : Image → Problem → BaseName → List ℕ → List ℕ → List ℕ → Type 0
ClaimsHoldOpen image p base bytes list text = HoldsOpenClaims (domain_of (state_type p.spec) base).domain p image (base_text base) bytes list text

-- Its elements are affine relations, or have them as a part: such an element has several texts.
abbrev pub has_relations : BaseName → Bool
has_relations b.Affine = true
has_relations b.KSetAffine = true
has_relations b.IntervalAffine = true
has_relations b.AffineDefUse = true
has_relations b.StridesAffine = true
has_relations _ = false

-- the affine relations that an element is, or has as a part
abbrev pub relations_in : (t : StateType) (base : BaseName) → (domain_of t base).Element → Option Submodule
relations_in t b.Affine x = Some x
relations_in t b.KSetAffine x = Some x.1
relations_in t b.IntervalAffine x = Some x.1
relations_in t b.AffineDefUse x = Some x.0
relations_in t b.StridesAffine x = Some x.1
relations_in t _ x = None
