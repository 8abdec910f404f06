-- What a case analyses.
use Rattle.std.specs.Prelude.{◌≡◌, ℕ, ◌<◌, ◌^◌, List, length, Ok, Some}
use Rattle.spec_ir.specs.Specification.{Spec}
use Rattle.spec_ir.specs.Views.{specification}
use Rattle.semantics_laws.specs.Accepted.{IsAccepted}
use Rattle.state_text.specs.Reading.{Entry, entry_of, read}
use Rattle.domain_laws.specs.States.{state_type}
use Rattle.test_analysis_cases.specs.declared.subject.Subject.{Subject}

-- Some text is read as the entry.
abbrev pub IsRead : Spec → Entry → Type 0
IsRead spec e = (bytes : List ℕ) × (read spec bytes ≡ Ok e)

-- Its specification is accepted and has this machine, and the entry is one that is read.
pub record IsSubject (s : Subject) : Type 0 where
  pub accepted : IsAccepted (specification s.spec)
  pub few : length (state_type (specification s.spec)).fields < 2 ^ 32
  pub machine : (specification s.spec).machine ≡ Some s.machine
  pub read : IsRead (specification s.spec) (entry_of s.entry)
