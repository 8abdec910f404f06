-- When a call of the code answers what the reinterpretation gives.
use Rattle.std.specs.Prelude.{◌≡◌, Option, Result, Ok, Err, List, option_map, ⊤}
use Rattle.base_trait.specs.Uses.{Seen}
use Rattle.support_tail_fixpoint.specs.Answer.{fails, gives}
use Rattle.abstract_semantics.specs.Answers.{Answer}
use Rattle.eval_memo.specs.declared.error.EvalError.{EvalError}
use Rattle.eval_memo.specs.declared.error.EvalError.TheVariants as e

-- The result is the answer, with the log as it is then. Want of memory is free.
abbrev pub Gives : {V A : Type 0} → (V → A) → Result (Option V) EvalError → List Seen → Answer A → Type 0
Gives view (Ok v) log answer = answer ≡ gives (option_map view v) log
Gives view (Err (e.OutOfFuel f)) log answer = answer ≡ fails f
Gives view (Err e.NoMemory) log answer = ⊤
