-- What is told of an element by its plain form.
use Rattle.std.specs.Prelude.{map, Vec}
use Rattle.std.specs.declared.alloc.Global.{Global}
use Rattle.abstract_value_laws.specs.Abs.{Parts, parts}
use Rattle.abstract_value.specs.View.{abs}
use Rattle.abstract_value.specs.declared.value.AbstractValue.{AbstractValue}
use Rattle.analysis_query_laws.specs.Answers.{Telling}

abbrev pub seen_by : {X E : Type 0} → (X → E) → Telling E → Telling X
seen_by view K = record {
  takes_ranges = K.takes_ranges;
  takes_sums = K.takes_sums;
  tracked = K.tracked;
  in_range = λ x. K.in_range (view x);
  excludes = λ x. K.excludes (view x);
  meets = λ x. K.meets (view x);
}

-- values of the fields of a state as plain data
abbrev pub plain_values : {X W N C : Type 0} → Vec (AbstractValue X W N C) Global → Parts W N
plain_values x = parts (map abs x.items)
