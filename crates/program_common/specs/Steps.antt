-- Steps one after another.
use Rattle.std.specs.Prelude.{Result, Ok, Err}
use Rattle.program_common.specs.Outcome.{Refusal}

-- A step says what it may give: something for the next one, or a refusal. A refusal of the first is one of both; else the
-- next one is made of what the first gave.
pub data Then {A B : Type 0} (first : Result A Refusal → Type 0) (next : A → Result B Refusal → Type 0) : Result B Refusal → Type 0 where
  refused : {refusal : Refusal} → first (Err refusal) → Then first next (Err refusal)
  goes_on : {given : A} {end : Result B Refusal} → first (Ok given) → next given end → Then first next end
