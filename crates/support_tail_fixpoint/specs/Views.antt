-- What drivers hold and answer, as plain data.
use Rattle.std.specs.Prelude.{option_map}
use Rattle.support_tail_fixpoint.specs.declared.after.After.{After}
use Rattle.support_tail_fixpoint.specs.declared.after.After.TheVariants.{Another, Ended, TooDeep}
use Rattle.support_tail_fixpoint.specs.declared.driver_request.DriverRequest.{DriverRequest}
use Rattle.support_tail_fixpoint.specs.declared.driver_request.DriverRequest.TheVariants.{Turn, Out, OutOfFuel}
use Rattle.support_tail_fixpoint.specs.Activation.{Activation}

-- an activation, by the views of its arguments and its leaves
abbrev pub activation : {A B O P : Type 0} → (A → B) → (O → P) → Activation A O → Activation B P
activation args out now = record { running = now.running; left = now.left; args = args now.args; leaves = option_map out now.leaves }

-- what a driver answers, by the view of its leaves
abbrev pub asked : {O P : Type 0} → (O → P) → DriverRequest O → DriverRequest P
asked out Turn = Turn
asked out (Out leaves) = Out (option_map out leaves)
asked out OutOfFuel = OutOfFuel

-- what follows a turn, by the view of its arguments
abbrev pub after : {A B : Type 0} → (A → B) → After A → After B
after args (Another left new) = Another left (args new)
after args Ended = Ended
after args TooDeep = TooDeep
