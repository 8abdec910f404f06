-- What follows from how a run ends, where one text is owed.
use Rattle.std.specs.Prelude.{◌≡◌, ℕ, ◌≤◌, List, None, All, Contains, IsTrue, length}
use Rattle.std.specs.Bool.{IsFalse}
use Rattle.support_io.specs.Faults.{Rose}
use Rattle.support_io.specs.InputState.{InputState}
use Rattle.support_io.specs.SinkState.{SinkState}
use Rattle.program_common.specs.declared.status.Status.{Status}
use Rattle.program_run.specs.Follows.{Finishes}
use Rattle.program_run.specs.Owed.{OwesAlone}
use Rattle.program_run.specs.Words.{input_names}

module _ (words : List (List ℕ)) (old new : InputState) (sink_old sink_new : SinkState) (result : Status) where
  -- Over inputs that tell: what alone is owed is answered and written where the names are sure and there is room; where there is room
  -- and each name that is not sure holds nothing; and where no fault was counted.
  pub record IsExact : Type 0 where
    pub complete : IsTrue old.tells → (status : Status) (text : List ℕ) → OwesAlone words old.held status text
        → All (λ name. IsTrue (old.sure name)) (input_names words) → length text ≤ sink_old.room → Finishes words old new sink_old sink_new result status text
    pub complete_in_memory : IsTrue old.tells → (status : Status) (text : List ℕ) → OwesAlone words old.held status text
        → ((name : List ℕ) → Contains (input_names words) name → IsFalse (old.sure name) → old.held name ≡ None)
        → length text ≤ sink_old.room → Finishes words old new sink_old sink_new result status text
    pub complete_without_faults : IsTrue old.tells → (status : Status) (text : List ℕ) → OwesAlone words old.held status text
        → ¬ Rose old.faults new.faults → ¬ Rose sink_old.faults sink_new.faults → Finishes words old new sink_old sink_new result status text
