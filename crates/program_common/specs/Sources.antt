-- The sources of specifications.
use Rattle.std.specs.Prelude.{◌≡◌, ℕ, List, [], ◌∷◌, Result, Ok, Err}
use Rattle.support_command_line.specs.SpecNames.{SpecName, input, power_pc, risc_v}
use Rattle.syntax_parser.specs.Tree.{Tree}
use Rattle.spec_ir.specs.declared.spec.SpecUse.{SpecUse}
use Rattle.spec_ir.specs.Specification.{Spec}
use Rattle.spec_checker.specs.Check.{IsFaultless, IsSpecOf}
use Rattle.program_common.specs.Outcome.{Refusal, spec_refused}
use Rattle.program_common.specs.Reading.{Capped, Reading}
use Rattle.program_common.specs.Shipped.{power_pc_text, risc_v_text}
use Rattle.program_common.specs.SpecFaults.{HasFault, IsParsedFrom}

-- how many bytes a source may have
abbrev pub source_cap : ℕ
source_cap = 262144

-- The source of a specification: what its input gives, or the text that is shipped.
abbrev pub SourceOf : Reading → SpecName → Result (List ℕ) Refusal → Type 0
SourceOf reads (input name) found = reads source_cap name found
SourceOf reads power_pc found = found ≡ Ok power_pc_text
SourceOf reads risc_v found = found ≡ Ok risc_v_text

-- the input that is opened for it
abbrev pub source_inputs : SpecName → List Capped
source_inputs (input name) = (name, source_cap) ∷ []
source_inputs power_pc = []
source_inputs risc_v = []

-- The source has a tree that breaks no static rule for this use, and this is its specification.
pub record IsSpecification (wanted : SpecUse) (source : List ℕ) (spec : Spec) : Type 0 where
  pub tree : Tree
  pub parsed : IsParsedFrom source tree
  pub faultless : IsFaultless wanted tree
  pub checked : IsSpecOf tree wanted spec

-- A source gives its specification for a use, or its first fault.
abbrev pub Specifies : SpecUse → List ℕ → Result Spec Refusal → Type 0
Specifies wanted source (Ok spec) = IsSpecification wanted source spec
Specifies wanted source (Err (spec_refused fault)) = HasFault wanted source fault
Specifies wanted source (Err _) = ⊥
