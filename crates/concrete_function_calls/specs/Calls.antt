-- Calls of functions by words.
use Rattle.std.specs.Prelude.{ℕ, Bool, true, false, List, [], ◌∷◌, ◌++◌, Option, Some, None, bytes_eq, codes, if◌then◌else◌, option_and_then, position, slice_get}
use Rattle.state_cell_text.specs.Digits.{digits_of, hex_digits}
use Rattle.spec_ir.specs.declared.ty.Ty.{Ty}
use Rattle.spec_ir.specs.declared.ty.Ty.TheVariants as t
use Rattle.spec_ir.specs.Specification.{Fun, Spec}
use Rattle.semantics_values.specs.Values.{Val, flag, word}
use Rattle.semantics.specs.Outcomes as o
use Rattle.semantics.specs.Runs.{meaning}
use Rattle.concrete_function_calls.specs.Arguments.{arguments_in}

-- the number of the function of a name
abbrev pub number_of : Spec → List ℕ → Option ℕ
number_of spec name = position (λ f. bytes_eq f.name name) spec.funs

-- whether values of a type are written on the command line
abbrev pub is_written : Ty → Bool
is_written (t.Word w) = true
is_written t.Bool = true
is_written _ = false

-- the arguments of a function, whose result can be written
abbrev pub arguments_of : Fun → List (List ℕ) → Option (List Val)
arguments_of function texts = if is_written function.result_type then arguments_in function.params texts else None

-- the function and the arguments that the words name
abbrev pub called : Spec → List ℕ → List (List ℕ) → Option (ℕ × List Val)
called spec fun texts =
    option_and_then (λ number. option_and_then (λ function. option_and_then (λ args. Some (number, args)) (arguments_of function texts)) (slice_get spec.funs number)) (number_of spec fun)

-- what a call by words comes to: a value; that the words name no function or no arguments; or that the turns ran out
pub data End : Type 0 where
  value : Val → End
  bad_words : End
  spent : End

-- what a meaning comes to. That of an accepted specification is never wrong
abbrev pub end_of_meaning : o.Outcome Val → End
end_of_meaning (o.gives v reads) = value v
end_of_meaning (o.deep function) = spent
end_of_meaning o.wrong = bad_words

abbrev pub end_of_call : Spec → ℕ → Option (ℕ × List Val) → End
end_of_call spec turns None = bad_words
end_of_call spec turns (Some call) = end_of_meaning (meaning spec 0 turns call.0 call.1 [])

-- the call of the function of a name on the arguments that the texts write
unfoldable pub call_end : Spec → ℕ → List ℕ → List (List ℕ) → End
call_end spec turns fun texts = end_of_call spec turns (called spec fun texts)

-- the line of a value: a word in hex digits, one for four bits, rounded up, or the name of a truth value. Others are not written
abbrev pub value_line : Val → List ℕ
value_line (word w v) = hex_digits (digits_of w) v ++ 10 ∷ []
value_line (flag true) = codes "true" ++ 10 ∷ []
value_line (flag false) = codes "false" ++ 10 ∷ []
value_line _ = []
