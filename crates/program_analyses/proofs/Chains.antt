-- A table behind what it is of.
use Rattle.std.proofs.Common.{List, ℕ}
use Rattle.program_common.specs.Outcome.{Outcome}
use Rattle.program_machine.specs.Inputs.{claims_cap, table_cap}
use Rattle.program_common.specs.Outcome.{Answer}
use Rattle.program_machine.proofs.InputChains.{IsMonotone, Step, both, both_wider, input, input_wider, plain, plain_wider}

-- it is read, and something is made of its bytes
abbrev pub table_behind : List ℕ → (List ℕ → Outcome → Type 0) → Step Answer
table_behind name made = both (input table_cap name) (λ bytes. plain (made bytes))

pub table_behind_wider : (name : List ℕ) (made : List ℕ → Outcome → Type 0) → IsMonotone (table_behind name made)
table_behind_wider name made = both_wider (input table_cap name) (λ bytes. plain (made bytes)) (input_wider table_cap name) (λ bytes. plain_wider (made bytes))

-- ---- claims behind a table

-- they are read, and something is made of their bytes
abbrev pub claims_behind : List ℕ → (List ℕ → Outcome → Type 0) → Step Answer
claims_behind name made = both (input claims_cap name) (λ bytes. plain (made bytes))

pub claims_behind_wider : (name : List ℕ) (made : List ℕ → Outcome → Type 0) → IsMonotone (claims_behind name made)
claims_behind_wider name made = both_wider (input claims_cap name) (λ bytes. plain (made bytes)) (input_wider claims_cap name) (λ bytes. plain_wider (made bytes))

-- a table is read, then claims, and something is made of the bytes of both
module _ (table claims : List ℕ) (made : List ℕ → List ℕ → Outcome → Type 0) where
  abbrev pub both_behind : Step Answer
  both_behind = both (input table_cap table) (λ bytes. claims_behind claims (made bytes))

  pub both_behind_wider : IsMonotone both_behind
  both_behind_wider = both_wider (input table_cap table) (λ bytes. claims_behind claims (made bytes)) (input_wider table_cap table) (λ bytes. claims_behind_wider claims (made bytes))
