-- What an instruction makes of an element, in any domain.
use Rattle.std.specs.Prelude.{ℕ, Option, Some, None, List, [], ◌∷◌}
use Rattle.support_tail_fixpoint.specs.Answer.{fails, gives}
use Rattle.base_trait.specs.Algebra.{Algebra}
use Rattle.base_trait.specs.Uses.{Seen}
use Rattle.semantics_values.specs.Types.{environment_of}
use Rattle.semantics_values.specs.Values.{Val}
use Rattle.semantics.specs.Decode.{decoded}
use Rattle.abstract_value_laws.specs.Abs.{Abs, word, made, no_case, present, part}
use Rattle.abstract_value_laws.specs.OfValues.{of_value}
use Rattle.abstract_semantics.specs.Answers.{Answer}
use Rattle.fixpoint_theory.specs.Outcome.{Outcome, moves, too_many, undecodable}
use Rattle.domain_laws.specs.Domain.{Meaning}
use Rattle.domain_laws.specs.States.{state_type}
use Rattle.analysis_transfer_laws.specs.Problem.{Problem}
use Rattle.analysis_transfer_laws.specs.Uses.{merged_uses}

-- the width and the word of the counter of a state: the first field of the one constructor
abbrev pub counter_of : {W N : Type 0} → Abs W N → Option (ℕ × W)
counter_of (made t (present (part (word w x) xs) no_case)) = Some (w, x)
counter_of _ = None

-- the instruction and the opened state
abbrev pub arguments : {E W N C : Type 0} → Algebra W N C → ℕ → Meaning E W N C → Problem → ℕ → E → Val → List (Abs W N)
arguments B cap M p a x instruction = of_value B M.context cap (environment_of p.spec) instruction ∷ M.opened a x ∷ []

-- the uses of the reads in a log
abbrev pub uses_in : Problem → List Seen → List Seen
uses_in p log = merged_uses (state_type p.spec).fields log

module _ {E W N C : Type 0} (B : Algebra W N C) (M : Meaning E W N C) (p : Problem) where
  -- behind an instruction before which this element stood: the targets are the members of the new counter
  abbrev pub moved_to : E → Abs W N → List Seen → W → Option (List ℕ) → Outcome E W
  moved_to before state log counter None = too_many counter (uses_in p log)
  moved_to before state log counter (Some targets) = moves targets (Some (M.closed before state)) (uses_in p log)

  abbrev pub moved : E → Abs W N → List Seen → Option (ℕ × W) → Outcome E W
  moved before state log None = moves [] None (uses_in p log)
  moved before state log (Some counter) = moved_to before state log counter.1 (B.words.members M.context counter.0 counter.1 p.limit)

  -- without a state there are no targets
  abbrev pub outcome_of : E → Answer (Abs W N) → Outcome E W
  outcome_of before (fails i) = moves [] None []
  outcome_of before (gives None log) = moves [] None (uses_in p log)
  outcome_of before (gives (Some state) log) = moved before state log (counter_of state)

-- `calls` is what a call of a function by the instruction at an address gives
module _ {E W N C : Type 0} (B : Algebra W N C) (cap : ℕ) (M : Meaning E W N C) (p : Problem) (calls : ℕ → ℕ → List (Abs W N) → Answer (Abs W N)) where
  abbrev pub executed : ℕ → E → ℕ → Option Val → Outcome E W
  executed a x code_word None = undecodable code_word
  executed a x code_word (Some instruction) = outcome_of B M p x (calls a p.machine.interp (arguments B cap M p a x instruction))

  -- where there is no code word there are no targets
  abbrev pub fetched : ℕ → E → Option ℕ → Outcome E W
  fetched a x None = moves [] None []
  fetched a x (Some code_word) = executed a x code_word (decoded p.machine.instr p.spec.rows code_word)

  -- The instruction at an address is evaluated on the opened element.
  abbrev pub transfer_of : ℕ → E → Outcome E W
  transfer_of a x = fetched a x (p.word_at a)
