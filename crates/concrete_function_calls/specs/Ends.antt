-- How the code says what a call comes to.
use Rattle.semantics_values.specs.Views.{val}
use Rattle.concrete_function_calls.specs.declared.calls.CallEnd.{CallEnd}
use Rattle.concrete_function_calls.specs.declared.calls.CallEnd.TheVariants.{Value, BadWords, Spent}
use Rattle.concrete_function_calls.specs.Calls.{End, value, bad_words, spent}

abbrev pub end_of : CallEnd → End
end_of (Value v) = value (val v)
end_of BadWords = bad_words
end_of Spent = spent
