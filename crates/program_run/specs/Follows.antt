-- What follows from how a run ends.
use Rattle.std.specs.Prelude.{◌≡◌, ◌≢◌, ◌⊎◌, ℕ, ◌<◌, List, Some, None, All, Contains, IsTrue, length, true, false}
use Rattle.std.specs.Bool.{IsFalse}
use Rattle.support_io.specs.Faults.{Rose}
use Rattle.support_io.specs.InputState.{InputState}
use Rattle.support_io.specs.SinkState.{SinkState, Appends, AppendsFront}
use Rattle.program_common.specs.declared.status.Status.{Status}
use Rattle.program_common.specs.declared.status.Status.TheVariants as s
use Rattle.program_domains.specs.Checks.{accepted_line}
use Rattle.program_common.specs.Lines.{bad_words_line, cannot_read_line}
use Rattle.program_common.specs.Reading.{CouldNotRead}
use Rattle.program_analyses.specs.StressLaws.{IsStress}
use Rattle.program_run.specs.Owed.{Owes}
use Rattle.program_run.specs.Possible.{IsLineOf}
use Rattle.program_common.specs.Statuses.{IsAnswer}
use Rattle.support_command_line.specs.Requests.{AnalyseRequest, CheckRequest, ClaimsRequest, SliceRequest, StressRequest, analyse, check, claims, slice, stress}
use Rattle.support_command_line.specs.Words.{asked}
use Rattle.program_run.specs.Tables.{AreClaimsFor, AreOpenClaimsFor, IsAcceptedFor, IsOpenAcceptedFor, IsOpenSliceFor, IsOpenTableFor, IsSliceFor, IsTableFor}
use Rattle.program_run.specs.Words.{input_names}

-- An input of the words could not be read, as the text says.
pub record Unread (words : List (List ℕ)) (old new : InputState) (text : List ℕ) : Type 0 where
  pub name : List ℕ
  pub named : Contains (input_names words) name
  pub cause : CouldNotRead old new name
  pub line : text ≡ cannot_read_line name

-- What is to be written in the end: what is owed, or after a failed read the line that says so.
pub data Due (words : List (List ℕ)) (old new : InputState) : Status → List ℕ → Type 0 where
  owed : {status : Status} {text : List ℕ} → status ≢ s.ReadFault → Owes words old.held status text → Due words old new status text
  unread : {text : List ℕ} → Unread words old new text → Due words old new s.ReadFault text

module _ (words : List (List ℕ)) (old new : InputState) (sink_old sink_new : SinkState) (result : Status) where
  -- A front of a text was written, which had no room as a whole.
  pub record IsCut (text : List ℕ) : Type 0 where
    pub no_room : sink_old.room < length text
    pub front : AppendsFront sink_old sink_new text

  -- The run ends with this status and its text, or with a front of a text that had no room, as far as memory lasts.
  abbrev pub EndsWith : Status → List ℕ → Type 0
  EndsWith status text = ((result ≡ status) × Appends sink_old sink_new text)
      ⊎ ((result ≡ s.WriteFault) × IsCut text)
      ⊎ (result ≡ s.NoMemory)

  -- The run ends with this status and its text, as far as memory lasts.
  abbrev pub Finishes : Status → List ℕ → Type 0
  Finishes status text = ((result ≡ status) × Appends sink_old sink_new text) ⊎ (result ≡ s.NoMemory)

  -- The status and the text that it ends with are owed.
  abbrev pub EndsAsOwed : Type 0
  EndsAsOwed = (status : Status) × (text : List ℕ) × Owes words old.held status text × EndsWith status text

  -- The status and the text that it finishes with are owed.
  abbrev pub FinishesAsOwed : Type 0
  FinishesAsOwed = (status : Status) × (text : List ℕ) × Owes words old.held status text × Finishes status text

  pub record Follows : Type 0 where
    -- Over inputs that tell: what is answered is owed, and its text is written.
    pub answered : IsTrue old.tells → IsAnswer result
        → (text : List ℕ) × Owes words old.held result text × Appends sink_old sink_new text
    -- Over inputs that tell: what is owed is answered, but for a fault and want of memory.
    pub owed : IsTrue old.tells → (status : Status) (text : List ℕ) → Owes words old.held status text → (result ≡ status) ⊎ ¬ IsAnswer result
    -- Over inputs that tell: an analysis that is not left open and ends well has written a table that is true of every run of the machine: the element at each address
    -- describes every state that the meaning puts there, and where the base tells stamps each use list holds every definition that a read sees.
    -- (specs/Tables names the definition of this, `IsTrueOfRuns`.)
    pub table : IsTrue old.tells → (request : AnalyseRequest) → asked words ≡ Some (analyse request) → request.open ≡ false → result ≡ s.Ok
        → (text : List ℕ) × IsTableFor old.held request text × Appends sink_old sink_new text
    -- Over inputs that tell: an analysis that is left open and ends well has written a table that is true of every run of the machine up to and with
    -- the first state at an address that is open, in the same sense. (specs/Tables names the definition of this, `IsTrueUntilOpen`.)
    pub open_table : IsTrue old.tells → (request : AnalyseRequest) → asked words ≡ Some (analyse request) → request.open ≡ true → result ≡ s.Ok
        → (text : List ℕ) × IsOpenTableFor old.held request text × Appends sink_old sink_new text
    -- Over inputs that tell: a check whose table may not be left open, and that ends well, was of a table that is true of every run of the machine, in the same
    -- sense, and says so.
    pub accepted : IsTrue old.tells → (request : CheckRequest) → asked words ≡ Some (check request) → request.analysis.open ≡ false → result ≡ s.Ok
        → IsAcceptedFor old.held request × Appends sink_old sink_new accepted_line
    -- Over inputs that tell: a check whose table may be left open, and that ends well, was of a table that is true of every run of the machine up to and with
    -- the first state at an address that is open, and says that it is accepted. (specs/Tables)
    pub accepted_open : IsTrue old.tells → (request : CheckRequest) → asked words ≡ Some (check request) → request.analysis.open ≡ true → result ≡ s.Ok
        → IsOpenAcceptedFor old.held request × Appends sink_old sink_new accepted_line
    -- Over inputs that tell: a slice whose table may not be left open, and that ends well, was of a table that is true of every run, and holds every chain of
    -- every read that it is of: what it leaves out no chain reaches. (specs/Tables)
    pub sliced : IsTrue old.tells → (request : SliceRequest) → asked words ≡ Some (slice request) → request.check.analysis.open ≡ false → result ≡ s.Ok
        → (text : List ℕ) × IsSliceFor old.held request text × Appends sink_old sink_new text
    -- Over inputs that tell: one whose table may be left open, and that ends well, holds every such chain until a run is at an address that is open. (specs/Tables)
    pub sliced_open : IsTrue old.tells → (request : SliceRequest) → asked words ≡ Some (slice request) → request.check.analysis.open ≡ true → result ≡ s.Ok
        → (text : List ℕ) × IsOpenSliceFor old.held request text × Appends sink_old sink_new text
    -- Over inputs that tell: claims that end well, on a table that may not be left open, were on one that is true of every run, and each that is answered with
    -- yes is true of every state that a run has at its address. (specs/Tables)
    pub claimed : IsTrue old.tells → (request : ClaimsRequest) → asked words ≡ Some (claims request) → request.check.analysis.open ≡ false → result ≡ s.Ok
        → (text : List ℕ) × AreClaimsFor old.held request text × Appends sink_old sink_new text
    -- Over inputs that tell: where the table may be left open, each is true of every such state until the run is at an address that is open. (specs/Tables)
    pub claimed_open : IsTrue old.tells → (request : ClaimsRequest) → asked words ≡ Some (claims request) → request.check.analysis.open ≡ true → result ≡ s.Ok
        → (text : List ℕ) × AreOpenClaimsFor old.held request text × Appends sink_old sink_new text
    -- Over all inputs: a stress that ends well has written what its analysis and its run come to. Its table is true of every run of the code that was made, and a
    -- check accepts it. (program_analyses specs/StressLaws)
    pub stressed : (request : StressRequest) → asked words ≡ Some (stress request) → result ≡ s.Ok → (text : List ℕ) × IsStress request text × Appends sink_old sink_new text
    -- Words that ask for nothing are refused.
    pub bad_words : asked words ≡ None → EndsWith s.BadWords bad_words_line
    -- A fault of an input has its cause in this run, at a name that is not sure, and is written.
    pub read_fault : result ≡ s.ReadFault → (text : List ℕ) × Unread words old new text × Appends sink_old sink_new text
    -- Over inputs that tell: a fault of the sink comes only where the text that is due has no room, and a front of it is written.
    pub cut : IsTrue old.tells → result ≡ s.WriteFault → (status : Status) × (text : List ℕ) × Due words old new status text × IsCut text
    -- Over all inputs: one line of the status is written, or a front of a line that had no room.
    pub one_line : result ≢ s.WriteFault → result ≢ s.NoMemory → (text : List ℕ) × IsLineOf words result text × Appends sink_old sink_new text
    pub cut_line : result ≡ s.WriteFault → (status : Status) × (text : List ℕ) × IsLineOf words status text × IsCut text
    -- Over inputs that tell: what is owed is answered and written, or a front of it where it has no room, where the names are sure, and where
    -- each name that is not sure holds nothing. It is answered and written where no fault was counted.
    pub complete : IsTrue old.tells → All (λ name. IsTrue (old.sure name)) (input_names words) → EndsAsOwed
    pub complete_in_memory : IsTrue old.tells → ((name : List ℕ) → Contains (input_names words) name → IsFalse (old.sure name) → old.held name ≡ None) → EndsAsOwed
    pub complete_without_faults : IsTrue old.tells → ¬ Rose old.faults new.faults → ¬ Rose sink_old.faults sink_new.faults → FinishesAsOwed
