-- Whether a table is closed, by the verdict on it.
use Rattle.std.specs.Prelude.{◌≡◌, ℕ, List, Result, Ok, Err}
use Rattle.fixpoint_theory.specs.declared.verdict.Verdict.{Verdict}
use Rattle.fixpoint_theory.specs.declared.verdict.Verdict.TheVariants as v
use Rattle.program_common.specs.declared.outcome.Halt.{Halt}
use Rattle.program_common.specs.declared.outcome.Halt.TheVariants.{NoMemory, Refused}
use Rattle.program_common.specs.Outcomes.{refusal_of}
use Rattle.program_domains.specs.Checks.{outcome_of}

-- It is closed, or the refusal is the one to which the verdict comes, where memory lasts.
abbrev pub IsClosedOr : {W : Type 0} → (ℕ → W → List ℕ) → Verdict W → Result (Unit {0}) Halt → Type 0
IsClosedOr word_text verdict (Ok u) = verdict ≡ v.Accepted
IsClosedOr word_text verdict (Err (Refused refusal)) = outcome_of word_text verdict ≡ Err (refusal_of refusal)
IsClosedOr word_text verdict (Err NoMemory) = Unit {0}
