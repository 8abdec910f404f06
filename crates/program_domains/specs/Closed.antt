-- What is answered of a table that is closed.
use Rattle.std.specs.Prelude.{◌≡◌, ℕ, List, Ok}
use Rattle.fixpoint_theory.specs.declared.verdict.Verdict.{Verdict}
use Rattle.fixpoint_theory.specs.declared.verdict.Verdict.TheVariants as v
use Rattle.program_common.specs.Outcome.{Outcome, text}
use Rattle.program_domains.specs.Checks.{outcome_of}

-- The outcome is a text of this kind.
abbrev pub Answers : (List ℕ → Type 0) → Outcome → Type 0
Answers Is (Ok (text bytes)) = Is bytes
Answers Is _ = ⊥

-- By the verdict on a table: where it is closed, the outcome is a text of this kind, and else that of the check. Words of the counter have these texts.
abbrev pub ByVerdict : {W : Type 0} → (ℕ → W → List ℕ) → (List ℕ → Type 0) → Verdict W → Outcome → Type 0
ByVerdict word_text Is v.Accepted outcome = Answers Is outcome
ByVerdict word_text Is verdict outcome = outcome ≡ outcome_of word_text verdict
