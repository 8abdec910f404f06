-- The answers to claims as text.
use Rattle.std.specs.Prelude.{ℕ, Bool, List, [], ◌∷◌, ◌++◌, codes, if◌then◌else◌}
use Rattle.fixpoint_theory.specs.Table.{Listings}
use Rattle.analysis_query_laws.specs.Answers.{Telling, answer}
use Rattle.analysis_query_laws.specs.Claims.{Claim}

abbrev pub answer_line : Bool → List ℕ
answer_line told = if told then codes "yes\n" else codes "open\n"

-- a line for each claim, in their order
abbrev pub answers : {E : Type 0} → Telling E → Listings E → List Claim → List ℕ
answers K t [] = []
answers K t (c ∷ claims) = answer_line (answer K t c) ++ answers K t claims
