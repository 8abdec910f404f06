-- What holds of calls by words.
use Rattle.std.specs.Prelude.{◌≡◌, ℕ, ◌<◌, ◌^◌, List}
use Rattle.spec_ir.specs.Specification.{Spec}
use Rattle.semantics_values.specs.Values.{Val, flag, word}
use Rattle.semantics_laws.specs.Accepted.{IsAccepted}
use Rattle.concrete_function_calls.specs.Calls.{call_end, value}

-- a word of its width, or a truth value
abbrev pub IsWritten : Val → Type 0
IsWritten (word w v) = v < 2 ^ w
IsWritten (flag b) = Unit {0}
IsWritten _ = ⊥

abbrev pub ValuesAreWritten : Type 0
ValuesAreWritten = (spec : Spec) (turns : ℕ) (fun : List ℕ) (texts : List (List ℕ)) (v : Val) → IsAccepted spec → call_end spec turns fun texts ≡ value v → IsWritten v
