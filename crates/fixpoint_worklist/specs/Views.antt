-- What a worklist is as a worklist state.
use Rattle.std.specs.Prelude.{◌≡◌, ℕ, true, IsSome, option_map}
use Rattle.std.specs.Ordering.{nat_cmp}
use Rattle.std.specs.Option.{unwrap_or}
use Rattle.std.specs.BTreeMap.{BTreeMap, get}
use Rattle.std.specs.BTreeSet.{contains}
use Rattle.fixpoint_theory.specs.WorklistState.{WorklistState, Reached}
use Rattle.fixpoint_theory.specs.declared.table.Block.{Block}
use Rattle.fixpoint_worklist.specs.declared.worklist.Worklist.{Worklist}

-- how often the element of an address changed: where nothing was counted, it did not
abbrev pub count_in : BTreeMap ℕ ℕ → ℕ → ℕ
count_in changes a = unwrap_or (get nat_cmp changes a) 0

-- what stands at an address that has this block
abbrev pub reached_at : {E P : Type 0} → (E → P) → Worklist E → ℕ → Block E → Reached P
reached_at view w a b = record { elem = view b.elem; changes = count_in w.changes a; pending = contains nat_cmp w.pending a }

abbrev pub worklist_state_in : {E P : Type 0} → (E → P) → Worklist E → WorklistState P
worklist_state_in view w a = option_map (reached_at view w a) (get nat_cmp w.blocks a)

-- Each pending address was reached.
abbrev pub IsReached : {E : Type 0} → Worklist E → Type 0
IsReached w = (a : ℕ) → contains nat_cmp w.pending a ≡ true → IsSome (get nat_cmp w.blocks a)
