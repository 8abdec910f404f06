-- What lists of arguments and group arguments are as plain data.
use Rattle.std.specs.Prelude.{Option, Vec, List, map, option_map}
use Rattle.std.specs.declared.alloc.Global.{Global}
use Rattle.abstract_value_laws.specs.Abs.{Abs}
use Rattle.abstract_value.specs.View.{abs}
use Rattle.abstract_value.specs.declared.value.AbstractValue.{AbstractValue}
use Rattle.abstract_semantics.specs.Terms.{GroupArgs}

-- a list of values
abbrev pub all_abs : {X W N C : Type 0} → Vec (AbstractValue X W N C) Global → List (Abs W N)
all_abs xs = map abs xs.items

-- for each function, by its number, a list or none
abbrev pub each_abs : {X W N C : Type 0} → List (Option (Vec (AbstractValue X W N C) Global)) → GroupArgs W N
each_abs lists = map (option_map all_abs) lists

-- group arguments
abbrev pub group_args : {X W N C : Type 0} → Vec (Option (Vec (AbstractValue X W N C) Global)) Global → GroupArgs W N
group_args args = each_abs args.items
