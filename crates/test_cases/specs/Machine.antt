-- The machine, and intervals of its number.
use Rattle.std.specs.Prelude.{◌≡◌, ℕ, ◌+◌, ◌%◌, ◌^◌, ◌≤◌, ◌==◌, ◌&&◌, min, max, nat_lt, nat_le, true, List, [], ◌∷◌, map, length, IsTrue, Option, Some, None, if◌then◌else◌}
use Rattle.base_trait.specs.Lists.{ascends_from}
use Rattle.base_trait.specs.Uses.{Read, Seen}
use Rattle.base_trait.specs.declared.uses.Stamp.TheVariants.{Entry}
use Rattle.fixpoint_theory.specs.Analysis.{Analysis}
use Rattle.fixpoint_theory.specs.Code.{is_code}
use Rattle.fixpoint_theory.specs.Elements.{Elements}
use Rattle.fixpoint_theory.specs.Outcome.{Outcome, moves, too_many, undecodable}
use Rattle.fixpoint_theory.specs.Runs.{Machine, Step, deep, goes, left, no_decoding, stops}
use Rattle.test_cases.specs.declared.machine.Interval.{Interval}
use Rattle.test_cases.specs.declared.machine.Instr.{Instr}
use Rattle.test_cases.specs.declared.machine.Instr.TheVariants.{Set, Add, Goto, Fork, Wild, Spin, Bad}
use Rattle.test_cases.specs.declared.machine.State.{State}
use Rattle.test_cases.specs.declared.machine.Word.{Word}

-- the number of the state lies between the ends
abbrev pub IsWithin : Interval → State → Type 0
IsWithin x s = (x.low ≤ s.number) × (s.number ≤ x.high)

-- intervals of numbers up to 99; the number's cell is the entry's throughout
abbrev pub intervals : Elements Interval State
intervals = record {
  holds = IsWithin;
  fits = λ x. x.high ≤ 99;
  same = λ x y. x ≡ y;
  join = λ x y. record { low = min x.low y.low; high = max x.high y.high };
  widen = λ old new. record { low = if nat_lt new.low old.low then 0 else old.low; high = if nat_lt old.high new.high then 99 else old.high };
  absorbs = λ old new. nat_le old.low new.low && nat_le new.high old.high;
  listed = λ x. Entry ∷ [];
  rank = λ stamps x. (if x.low == 0 then 0 else 1) + (if x.high == 99 then 0 else 1);
  height = λ n. 2;
}

abbrev pub behind : ℕ → ℕ
behind at = (at + 4) % 2 ^ 32

-- two addresses, ascending and without doubles
abbrev pub fork_targets : ℕ → ℕ → List ℕ
fork_targets next to = if nat_lt next to then next ∷ to ∷ [] else (if nat_lt to next then to ∷ next ∷ [] else next ∷ [])

-- the use of the number
abbrev pub number_used : List Seen
number_used = (record { of_map = 0; key = None; stamps = Entry ∷ [] }) ∷ []

-- what an instruction makes of an interval
abbrev pub executed : ℕ → Instr → Interval → Outcome Interval Interval
executed at (Set n) x = moves (behind at ∷ []) (Some (record { low = min n 99; high = min n 99 })) []
executed at (Add n) x = moves (behind at ∷ []) (Some (record { low = min (min x.low 99 + min n 99) 99; high = min (x.high + min n 99) 99 })) number_used
executed at (Goto to) x = moves (to ∷ []) (Some x) []
executed at (Fork to) x = moves (if nat_lt x.high 50 then to ∷ [] else (if nat_lt x.low 50 then fork_targets (behind at) to else behind at ∷ [])) (Some x) number_used
executed at Wild x = too_many x number_used
executed at Spin x = moves [] None []
executed at Bad x = undecodable 0

-- an interval below 50 and from 50 on is split there
abbrev pub split_at : ℕ → Interval → Option (List Interval)
split_at at x = if nat_lt x.low 50 && nat_le 50 x.high then Some (record { low = x.low; high = 49 } ∷ record { low = 50; high = x.high } ∷ []) else None

abbrev pub executed_at : ℕ → Option Instr → Interval → Outcome Interval Interval
executed_at at None x = undecodable 0
executed_at at (Some instr) x = executed at instr x

abbrev pub addresses : List Word → List ℕ
addresses code = map (λ (w : Word). w.at) code

-- the addresses of the code ascend, and they are few; the entry's numbers are of the machine
pub record IsProgram (code : List Word) (entry : Interval) : Type 0 where
  pub ascends : IsTrue (ascends_from 0 (addresses code))
  pub few : length code ≤ 262144
  pub entry_fits : entry.high ≤ 99

-- the instruction at an address
abbrev pub instr_at : List Word → ℕ → Option Instr
instr_at [] at = None
instr_at (w ∷ rest) at = if w.at == at then Some w.instr else instr_at rest at

abbrev pub analysis_of : List Word → ℕ → Interval → Analysis Interval Interval State
analysis_of code start entry = record {
  elements = intervals;
  joins = 3;
  code = addresses code;
  start = start;
  entry = entry;
  stamped = true;
  transfer = λ at x. executed_at at (instr_at code at) x;
}

-- ---- the machine
abbrev pub number_read : Read
number_read = record { of_map = 0; key = 0; stamp = Entry }

abbrev pub stepped : Instr → State → Step State
stepped (Set n) s = goes (record { counter = behind s.counter; number = min n 99 }) []
stepped (Add n) s = goes (record { counter = behind s.counter; number = min (s.number + min n 99) 99 }) (number_read ∷ [])
stepped (Goto to) s = goes (record { counter = to; number = s.number }) []
stepped (Fork to) s = goes (record { counter = if nat_lt s.number 50 then to else behind s.counter; number = s.number }) (number_read ∷ [])
stepped Wild s = goes (record { counter = s.number; number = s.number }) (number_read ∷ [])
stepped Spin s = stops deep
stepped Bad s = stops (no_decoding 0)

abbrev pub stepped_at : Option Instr → State → Step State
stepped_at None s = stops (no_decoding 0)
stepped_at (Some instr) s = stepped instr s

abbrev pub step_of : List Word → State → Step State
step_of code s = if is_code (addresses code) s.counter then stepped_at (instr_at code s.counter) s else stops left

abbrev pub machine_of : List Word → ℕ → Interval → Machine State
machine_of code start entry = record {
  counter = λ s. s.counter;
  step = λ d s. step_of code s;
  starts = λ s. (s.counter ≡ start) × IsWithin entry s;
}
