-- What values and states are as plain data.
use Rattle.std.specs.Prelude.{map}
use Rattle.semantics_values.specs.declared.value.Value.{Value, fold-Value}
use Rattle.semantics_values.specs.declared.value.Value.TheOpen.{Value-F}
use Rattle.semantics_values.specs.declared.value.MapValue.{MapValue}
use Rattle.base_trait.specs.Uses.{Read}
use Rattle.semantics_values.specs.declared.value.ReadSeen.{ReadSeen}
use Rattle.semantics_values.specs.declared.value.State.{State as StateOf}
use Rattle.semantics_values.specs.Values as v
use Rattle.semantics_values.specs.Values.{Val}
use Rattle.semantics_values.specs.States.{State}

-- the value of a `MapValue`
abbrev pub map_val : MapValue → Val
map_val m = v.map m.map m.rest m.cells.items

abbrev pub val_step : Value-F Val → Val
val_step (Value-F.Flag b) = v.flag b
val_step (Value-F.Word w n) = v.word w n
val_step (Value-F.Made ty case parts) = v.made ty case (v.vals parts.items)
val_step (Value-F.Map m) = map_val m

-- the value of a `Value`
abbrev pub val : Value → Val
val = fold-Value Val val_step

-- the state of a `State`
abbrev pub state : StateOf → State
state s = record { pc = s.pc; parts = map val s.parts.items }

-- the read of a `ReadSeen`
abbrev pub read : ReadSeen → Read
read r = record { of_map = r.map; key = r.key; stamp = r.stamp }
