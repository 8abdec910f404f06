-- The decision that asks, and is another where the answer is no.
use Rattle.std.specs.Prelude.{ℕ, List, [], ◌∷◌, Option, Some, None}
use Rattle.spec_match_compiler.specs.Decisions.{Decision, on_word, on_flag}
use Rattle.spec_match_compiler.specs.Values.{Place}
use Rattle.spec_match_compiler.specs.Views.{tree}
use Rattle.eval_code_lowering.specs.declared.decisions.DecisionTest.{DecisionTest}

abbrev pub asked_at : Place → Option ℕ → Decision → Decision → Decision
asked_at at (Some n) a b = on_word at n a b
asked_at at None a b = on_flag at a b

abbrev pub asked_of : DecisionTest → Decision → Decision
asked_of q other = asked_at q.at.steps.items q.number (tree q.yes) other

-- one question after another
abbrev pub asked_first : List DecisionTest → Decision → Decision
asked_first [] last = last
asked_first (q ∷ rest) last = asked_of q (asked_first rest last)
