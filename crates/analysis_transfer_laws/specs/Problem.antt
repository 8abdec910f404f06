-- What is analysed, whatever the domain.
use Rattle.std.specs.Prelude.{◌≡◌, ℕ, ◌<◌, ◌^◌, is_some, Option, Some, List, IsTrue}
use Rattle.spec_ir.specs.declared.spec.Machine.{Machine}
use Rattle.spec_ir.specs.Specification.{Spec}
use Rattle.semantics_values.specs.declared.entry.Line.{Line}
use Rattle.semantics_laws.specs.Accepted.{IsAccepted}
use Rattle.fixpoint_theory.specs.Code.{IsImage, is_code}
use Rattle.domain_laws.specs.Entries.{LinesFit}
use Rattle.domain_laws.specs.States.{state_type}

-- A machine with its specification, code, an entry, how many targets an instruction may have, how many changes of an element join before
-- later ones widen, and how often over an element is split before its transfer.
pub record Problem : Type 0 where
  pub spec : Spec
  pub machine : Machine
  -- the addresses of code words, and the word at an address
  pub addresses : List ℕ
  pub word_at : ℕ → Option ℕ
  -- the entry's counter and lines
  pub pc : ℕ
  pub lines : List Line
  pub limit : ℕ
  pub joins : ℕ
  pub cases : ℕ

-- The specification is accepted, and the machine is its own. The addresses are those of an image (ascending, and not too many), have 32 bits,
-- and are those at which a code word stands. The counter has 32 bits, and the lines of the entry fit.
pub record IsWellFormedProblem (p : Problem) : Type 0 where
  pub accepted : IsAccepted p.spec
  pub machine : p.spec.machine ≡ Some p.machine
  pub image : IsImage p.addresses
  pub words : (a : ℕ) → is_code p.addresses a ≡ is_some (p.word_at a)
  pub addressed : (a : ℕ) → IsTrue (is_code p.addresses a) → a < 2 ^ 32
  pub counter : p.pc < 2 ^ 32
  pub lines : LinesFit (state_type p.spec).fields p.lines
