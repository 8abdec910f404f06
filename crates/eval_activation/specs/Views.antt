-- What the types of turns are as plain data.
use Rattle.std.specs.Prelude.{Option, Vec, List, map, option_map}
use Rattle.std.specs.declared.alloc.Global.{Global}
use Rattle.support_tail_fixpoint.specs.Answer.{Yield}
use Rattle.abstract_value_laws.specs.Abs.{Abs}
use Rattle.abstract_value.specs.View.{abs}
use Rattle.abstract_value.specs.declared.value.AbstractValue.{AbstractValue}
use Rattle.abstract_semantics.specs.Terms.{GroupArgs}
use Rattle.eval_activation.specs.declared.turn_yield.TurnYield.{TurnYield}

-- a list of values
abbrev pub all_abs : {X W N C : Type 0} → Vec (AbstractValue X W N C) Global → List (Abs W N)
all_abs xs = map abs xs.items

-- group arguments
abbrev pub group_args : {X W N C : Type 0} → Vec (Option (Vec (AbstractValue X W N C) Global)) Global → GroupArgs W N
group_args args = map (option_map all_abs) args.items

-- what a turn gives
abbrev pub yield : {X W N C : Type 0} → TurnYield X W N C → Yield (GroupArgs W N) (Abs W N)
yield g = record { out = option_map abs g.out; next = option_map group_args g.next }
