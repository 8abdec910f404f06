-- What an `AbstractValue` is as plain data: one level, with each value inside already seen.
use Rattle.std.specs.Prelude.{List, Option, Some, None, map}
use Rattle.abstract_value_laws.specs.Abs as v
use Rattle.abstract_value_laws.specs.Abs.{Abs, Cases, Parts, no_case, parts, cases}
use Rattle.abstract_value.specs.Constructors.{spread}
use Rattle.abstract_value.specs.declared.constructors.Constructors.{Constructors}
use Rattle.abstract_value.specs.declared.value.AbstractValue.{AbstractValue, fold-AbstractValue}
use Rattle.abstract_value.specs.declared.value.AbstractValue.TheOpen.{AbstractValue-F}

abbrev pub seen : {W N : Type 0} → Option (List (Abs W N)) → Option (Parts W N)
seen None = None
seen (Some xs) = Some (parts xs)

abbrev pub abs_step : (X W N C : Type 0) → AbstractValue-F X W N C (Abs W N) → Abs W N
abs_step X W N C (AbstractValue-F.Flag t) = v.flag t
abs_step X W N C (AbstractValue-F.Word w x) = v.word w x
abs_step X W N C (AbstractValue-F.Data ty cs) = v.made ty (cases (map seen (spread cs)))
abs_step X W N C (AbstractValue-F.Map m x) = v.map m x

-- the plain value
abbrev pub abs : {X W N C : Type 0} → AbstractValue X W N C → Abs W N
abs {X} {W} {N} {C} = fold-AbstractValue X W N C (Abs W N) (abs_step X W N C)

-- the fields of one constructor
abbrev pub case_of : {X W N C : Type 0} → Option (List (AbstractValue X W N C)) → Option (Parts W N)
case_of None = None
case_of (Some xs) = Some (parts (map abs xs))

-- the constructors of a value
abbrev pub cases_of : {X W N C : Type 0} → Constructors (AbstractValue X W N C) → Cases W N
cases_of cs = cases (map case_of (spread cs))

-- the constructors of what may be a constructor value
abbrev pub cases_if : {X W N C : Type 0} → Option (Constructors (AbstractValue X W N C)) → Cases W N
cases_if None = no_case
cases_if (Some cs) = cases_of cs
