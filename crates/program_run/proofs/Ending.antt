-- What follows from how a run ends.
use Rattle.std.proofs.Common.{◌≡◌, ◌≢◌, ℕ, ◌<◌, ◌⊎◌, inl, inr, All, Bool, List, Option, Some, None, IsTrue, length, true, false, refl, sym, ◌∙◌, ap, subst, arith}
use Rattle.std.specs.Prelude.{Contains, IsSomeAnd, Result, Ok, Err}
use Rattle.std.specs.Bool.{IsFalse}
use Rattle.std.proofs.lemmas.List.Elements.{All-contains}
use Rattle.support_io.specs.Faults.{Rose, RoseByOne}
use Rattle.support_io.specs.InputState.{InputState}
use Rattle.support_io.specs.SinkState.{SinkState, Appends, AppendsFront}
use Rattle.program_common.specs.declared.status.Status.{Status}
use Rattle.program_common.specs.declared.status.Status.TheVariants as s
use Rattle.program_common.specs.Outcome as answers
use Rattle.program_common.specs.Outcome.{Outcome, Refusal, bad_words, cannot_read, too_long, spec_refused, code_refused, entry_refused, calls_spent, undecodable_at, too_many_targets, table_refused, claims_refused, rejected, line_of, status_of}
use Rattle.program_common.specs.Reading as owing
use Rattle.program_common.specs.Reading.{CouldNotRead, Gave, Holds}
use Rattle.program_common.specs.Statuses.{IsAnswer}
use Rattle.program_common.proofs.Steps.{Fails}
use Rattle.support_command_line.specs.Requests.{AnalyseRequest, CheckRequest, ClaimsRequest, Request, SliceRequest, StressRequest, analyse, check, slice, claims, stress}
use Rattle.support_command_line.specs.Words.{asked}
use Rattle.program_domains.specs.Checks.{accepted_line}
use Rattle.program_analyses.specs.StressLaws.{IsStress}
use Rattle.program_analyses.specs.StressSteps.{StressSteps}
use Rattle.program_analyses.proofs.StressAccepted.{stress_is_accepted}
use Rattle.program_run.specs.Follows.{Due, EndsAsOwed, EndsWith, FinishesAsOwed, IsCut, Unread, owed, unread}
use Rattle.program_run.specs.Laws.{EndsFollow}
use Rattle.program_run.specs.Output as output
use Rattle.program_run.specs.Output.{Ends}
use Rattle.program_run.specs.Owed.{ComesTo, IsOwed, Owes}
use Rattle.program_run.specs.Possible as possible
use Rattle.program_run.specs.Possible.{IsLineOf, IsPossible}
use Rattle.program_run.specs.Steps.{Steps}
use Rattle.program_run.specs.Tables.{AreClaimsFor, AreOpenClaimsFor, IsAcceptedFor, IsOpenAcceptedFor, IsOpenSliceFor, IsOpenTableFor, IsSliceFor, IsTableFor}
use Rattle.program_run.specs.Words.{capped_in, input_names, names_in}
use Rattle.program_run.proofs.Causes.{Caused, asked_known, is_named}
use Rattle.program_run.proofs.Exists.{some_answer}
use Rattle.program_run.proofs.Faults.{work_told}
use Rattle.program_run.proofs.Others.{asked_either}
use Rattle.program_run.proofs.Tables.{owed_acceptance, owed_claims, owed_open_acceptance, owed_open_claims, owed_open_slice, owed_open_table, owed_slice, owed_table}
use Rattle.program_run.proofs.Unique.{one_answer}

-- ---- the cause of each outcome

module _ (words : List (List ℕ)) (old new : InputState) where
  pub caused : (outcome : Outcome) → ComesTo words old new outcome → Caused old new (asked words) outcome
  caused outcome comes = asked_known old new (asked words) outcome comes

  possible_outcome : (what : Option Request) (outcome : Outcome) → Caused old new what outcome → IsPossible what outcome
  possible_outcome what (Ok answer) cause = possible.answered cause
  possible_outcome what (Err bad_words) cause = possible.bad_words cause
  possible_outcome what (Err (cannot_read name)) cause = possible.cannot_read cause.0
  possible_outcome what (Err (too_long name)) cause = possible.too_long cause
  possible_outcome what (Err (spec_refused fault)) cause = possible.spec_refused cause
  possible_outcome what (Err (code_refused fault)) cause = possible.code_refused cause.0 cause.1
  possible_outcome what (Err (entry_refused fault)) cause = possible.entry_refused cause.0 cause.1
  possible_outcome what (Err calls_spent) cause = possible.calls_spent
  possible_outcome what (Err (undecodable_at at word)) cause = possible.undecodable_at cause
  possible_outcome what (Err (too_many_targets at shown)) cause = possible.too_many_targets cause
  possible_outcome what (Err (table_refused fault)) cause = possible.table_refused cause (work_told what (table_refused fault) cause)
  possible_outcome what (Err (claims_refused fault)) cause = possible.claims_refused cause (work_told what (claims_refused fault) cause)
  possible_outcome what (Err (rejected rejection)) cause = possible.rejected cause

  line_of_outcome : (outcome : Outcome) → ComesTo words old new outcome → IsLineOf words (status_of outcome) (line_of outcome)
  line_of_outcome outcome comes = record { outcome = outcome; possible = possible_outcome (asked words) outcome (caused outcome comes); has_status = refl; has_line = refl }

  -- an outcome of a read fault
  unread_outcome : (outcome : Outcome) → ComesTo words old new outcome → status_of outcome ≡ s.ReadFault → Unread words old new (line_of outcome)
  unread_outcome (Ok (answers.text bytes)) comes is = absurd (cc)
  unread_outcome (Ok (answers.undecodable bytes)) comes is = absurd (cc)
  unread_outcome (Ok (answers.calls_ended bytes)) comes is = absurd (cc)
  unread_outcome (Err bad_words) comes is = absurd (cc)
  unread_outcome (Err (cannot_read name)) comes is =
      let cause = caused (Err (cannot_read name)) comes in record { name = name; named = cause.0; cause = cause.1; line = refl }
  unread_outcome (Err (too_long name)) comes is = absurd (cc)
  unread_outcome (Err (spec_refused fault)) comes is = absurd (cc)
  unread_outcome (Err (code_refused fault)) comes is = absurd (cc)
  unread_outcome (Err (entry_refused fault)) comes is = absurd (cc)
  unread_outcome (Err calls_spent) comes is = absurd (cc)
  unread_outcome (Err (undecodable_at at word)) comes is = absurd (cc)
  unread_outcome (Err (too_many_targets at shown)) comes is = absurd (cc)
  unread_outcome (Err (table_refused fault)) comes is = absurd (cc)
  unread_outcome (Err (claims_refused fault)) comes is = absurd (cc)
  unread_outcome (Err (rejected rejection)) comes is = absurd (cc)

-- ---- what is owed

-- a fault of reading
ReadFault : Refusal → Type 0
ReadFault refusal = status_of (Err refusal) ≡ s.ReadFault

Never : Refusal → Type 0
Never refusal = ⊥

long_held : (old : InputState) (cap : ℕ) (name : List ℕ) (held : Option (List ℕ)) → old.held name ≡ held → IsSomeAnd held (λ bytes. cap < length bytes) → Holds old.held cap name (Err (too_long name))
long_held old cap name None is past = absurd past
long_held old cap name (Some bytes) is past = owing.long is past

reading_held : (old new : InputState) (cap : ℕ) (name : List ℕ) → IsTrue old.tells → (found : Result (List ℕ) Refusal) → Gave old new cap name found → Holds old.held cap name found ⊎ Fails ReadFault found
unfolding ReadFault
reading_held old new cap name told found (owing.whole holds fits) = inl (owing.whole (holds told) fits)
reading_held old new cap name told found (owing.long far) = inl (long_held old cap name (old.held name) refl (far told))
reading_held old new cap name told found (owing.unread cause) = inr refl

fault_of : (outcome : Outcome) → Fails ReadFault outcome → status_of outcome ≡ s.ReadFault
unfolding ReadFault
fault_of (Ok answer) none = absurd none
fault_of (Err refusal) is = is

no_fault_of : (outcome : Outcome) → Fails Never outcome → ⊥
unfolding Never
no_fault_of (Ok answer) none = none
no_fault_of (Err refusal) none = none

asked_owed : (old new : InputState) → IsTrue old.tells → (what : Option Request) (outcome : Outcome) → Steps (Gave old new) what outcome → Steps (Holds old.held) what outcome ⊎ (status_of outcome ≡ s.ReadFault)
asked_owed old new told what outcome steps =
    elim (asked_either (Gave old new) (Holds old.held) ReadFault what (λ cap name named found gave. reading_held old new cap name told found gave) outcome steps) [
      | inl owes ↦ inl owes
      | inr fault ↦ inr (fault_of outcome fault)
    ]

reading_whole : (old new : InputState) (cap : ℕ) (name : List ℕ) → IsTrue old.tells → (CouldNotRead old new name → old.held name ≡ None) → (found : Result (List ℕ) Refusal) → Gave old new cap name found → Holds old.held cap name found
reading_whole old new cap name told none found (owing.whole holds fits) = owing.whole (holds told) fits
reading_whole old new cap name told none found (owing.long far) = long_held old cap name (old.held name) refl (far told)
reading_whole old new cap name told none found (owing.unread cause) = owing.none (none cause)

asked_whole : (old new : InputState) → IsTrue old.tells → (what : Option Request) → ((name : List ℕ) → Contains (names_in what) name → CouldNotRead old new name → old.held name ≡ None)
    → (outcome : Outcome) → Steps (Gave old new) what outcome → Steps (Holds old.held) what outcome
asked_whole old new told what none outcome steps =
    elim (asked_either (Gave old new) (Holds old.held) Never what
    (λ cap name named found gave. inl (reading_whole old new cap name told (none name (is_named (capped_in what) name cap named)) found gave)) outcome steps) [
      | inl owes ↦ owes
      | inr fault ↦ absurd (no_fault_of outcome fault)
    ]

module _ (words : List (List ℕ)) (old new : InputState) (told : IsTrue old.tells) where
  -- an outcome is owed, but for a read fault
  pub comes_owed : (outcome : Outcome) → ComesTo words old new outcome → status_of outcome ≢ s.ReadFault → IsOwed words old.held outcome
  comes_owed outcome comes other = elim (asked_owed old new told (asked words) outcome comes) [ inl owes ↦ owes | inr fault ↦ absurd (other fault) ]

  owes_outcome : (outcome : Outcome) → IsOwed words old.held outcome → Owes words old.held (status_of outcome) (line_of outcome)
  owes_outcome outcome owes = record { outcome = outcome; owed = owes; has_status = refl; has_line = refl }

  due_outcome : (outcome : Outcome) → ComesTo words old new outcome → Due words old new (status_of outcome) (line_of outcome)
  due_outcome (Ok (answers.text bytes)) comes = owed (λ e. cc) (owes_outcome (Ok (answers.text bytes)) (comes_owed (Ok (answers.text bytes)) comes (λ e. cc)))
  due_outcome (Ok (answers.undecodable bytes)) comes = owed (λ e. cc) (owes_outcome (Ok (answers.undecodable bytes)) (comes_owed (Ok (answers.undecodable bytes)) comes (λ e. cc)))
  due_outcome (Ok (answers.calls_ended bytes)) comes = owed (λ e. cc) (owes_outcome (Ok (answers.calls_ended bytes)) (comes_owed (Ok (answers.calls_ended bytes)) comes (λ e. cc)))
  due_outcome (Err bad_words) comes = owed (λ e. cc) (owes_outcome (Err bad_words) (comes_owed (Err bad_words) comes (λ e. cc)))
  due_outcome (Err (cannot_read name)) comes = unread (unread_outcome words old new (Err (cannot_read name)) comes refl)
  due_outcome (Err (too_long name)) comes = owed (λ e. cc) (owes_outcome (Err (too_long name)) (comes_owed (Err (too_long name)) comes (λ e. cc)))
  due_outcome (Err (spec_refused fault)) comes = owed (λ e. cc) (owes_outcome (Err (spec_refused fault)) (comes_owed (Err (spec_refused fault)) comes (λ e. cc)))
  due_outcome (Err (code_refused fault)) comes = owed (λ e. cc) (owes_outcome (Err (code_refused fault)) (comes_owed (Err (code_refused fault)) comes (λ e. cc)))
  due_outcome (Err (entry_refused fault)) comes = owed (λ e. cc) (owes_outcome (Err (entry_refused fault)) (comes_owed (Err (entry_refused fault)) comes (λ e. cc)))
  due_outcome (Err calls_spent) comes = owed (λ e. cc) (owes_outcome (Err calls_spent) (comes_owed (Err calls_spent) comes (λ e. cc)))
  due_outcome (Err (undecodable_at at word)) comes = owed (λ e. cc) (owes_outcome (Err (undecodable_at at word)) (comes_owed (Err (undecodable_at at word)) comes (λ e. cc)))
  due_outcome (Err (too_many_targets at shown)) comes = owed (λ e. cc) (owes_outcome (Err (too_many_targets at shown)) (comes_owed (Err (too_many_targets at shown)) comes (λ e. cc)))
  due_outcome (Err (table_refused fault)) comes = owed (λ e. cc) (owes_outcome (Err (table_refused fault)) (comes_owed (Err (table_refused fault)) comes (λ e. cc)))
  due_outcome (Err (claims_refused fault)) comes = owed (λ e. cc) (owes_outcome (Err (claims_refused fault)) (comes_owed (Err (claims_refused fault)) comes (λ e. cc)))
  due_outcome (Err (rejected rejection)) comes = owed (λ e. cc) (owes_outcome (Err (rejected rejection)) (comes_owed (Err (rejected rejection)) comes (λ e. cc)))

  -- where an input fails only because there is nothing to read, what comes is owed
  module _ (none : (name : List ℕ) → Contains (input_names words) name → CouldNotRead old new name → old.held name ≡ None) where
    pub comes_whole : (outcome : Outcome) → ComesTo words old new outcome → Owes words old.held (status_of outcome) (line_of outcome)
    comes_whole outcome comes = owes_outcome outcome (asked_whole old new told (asked words) none outcome comes)

-- ---- what follows

no_write_fault : (outcome : Outcome) → status_of outcome ≡ s.WriteFault → ⊥
no_write_fault (Ok (answers.text bytes)) is = cc
no_write_fault (Ok (answers.undecodable bytes)) is = cc
no_write_fault (Ok (answers.calls_ended bytes)) is = cc
no_write_fault (Err bad_words) is = cc
no_write_fault (Err (cannot_read name)) is = cc
no_write_fault (Err (too_long name)) is = cc
no_write_fault (Err (spec_refused fault)) is = cc
no_write_fault (Err (code_refused fault)) is = cc
no_write_fault (Err (entry_refused fault)) is = cc
no_write_fault (Err calls_spent) is = cc
no_write_fault (Err (undecodable_at at word)) is = cc
no_write_fault (Err (too_many_targets at shown)) is = cc
no_write_fault (Err (table_refused fault)) is = cc
no_write_fault (Err (claims_refused fault)) is = cc
no_write_fault (Err (rejected rejection)) is = cc

no_ok : (refusal : Refusal) → status_of (Err refusal) ≡ s.Ok → ⊥
no_ok bad_words is = cc
no_ok (cannot_read name) is = cc
no_ok (too_long name) is = cc
no_ok (spec_refused fault) is = cc
no_ok (code_refused fault) is = cc
no_ok (entry_refused fault) is = cc
no_ok calls_spent is = cc
no_ok (undecodable_at at word) is = cc
no_ok (too_many_targets at shown) is = cc
no_ok (table_refused fault) is = cc
no_ok (claims_refused fault) is = cc
no_ok (rejected rejection) is = cc

no_answer : (status other : Status) → status ≡ other → IsAnswer status → IsAnswer other
no_answer status other is answer = subst IsAnswer is answer

clash : (b : Bool) → IsTrue b → IsFalse b → ⊥
clash b is not = cc

rose : (old new : ℕ) → RoseByOne old new → Rose old new
rose old new by_one = omega (arith, by_one)

asks_bad : (words : List (List ℕ)) (old new : InputState) (outcome : Outcome) → asked words ≡ None → ComesTo words old new outcome → outcome ≡ Err bad_words
asks_bad words old new outcome asks comes = subst (λ (what : Option Request). Steps (Gave old new) what outcome) asks comes

module _ (words : List (List ℕ)) (old new : InputState) (sink_old sink_new : SinkState) (result : Status) where
  abbrev pub End : Type 0
  End = Ends words old new sink_old sink_new result

  -- an appended line is the text that it is equal to
  as_text : (line text : List ℕ) → line ≡ text → Appends sink_old sink_new line → Appends sink_old sink_new text
  as_text line text is appends = subst (λ (bytes : List ℕ). Appends sink_old sink_new bytes) is appends

  cut_of : (line : List ℕ) → sink_old.room < length line → AppendsFront sink_old sink_new line → IsCut words old new sink_old sink_new result line
  cut_of line no_room front = record { no_room = no_room; front = front }

  pub by_answered : IsTrue old.tells → IsAnswer result → End → (text : List ℕ) × Owes words old.held result text × Appends sink_old sink_new text
  by_answered told answer (output.written outcome comes is appends) =
      let other : status_of outcome ≢ s.ReadFault = λ fault. no_answer result s.ReadFault (is ∙ fault) answer in
      (line_of outcome, record { outcome = outcome; owed = comes_owed words old new told outcome comes other; has_status = is; has_line = refl }, appends)
  by_answered told answer (output.cut outcome comes is no_room front) = absurd (no_answer result s.WriteFault is answer)
  by_answered told answer (output.no_memory is) = absurd (no_answer result s.NoMemory is answer)

  by_owed : IsTrue old.tells → (status : Status) (text : List ℕ) → Owes words old.held status text → End → (result ≡ status) ⊎ ¬ IsAnswer result
  by_owed told status text owes (output.written outcome comes is appends) = by (due_outcome words old new told outcome comes)
    where
      of_due : (found : Status) (line : List ℕ) → result ≡ found → Due words old new found line → (result ≡ status) ⊎ ¬ IsAnswer result
      of_due found line is (owed other too) = inl (is ∙ (one_answer words old.held found status line text too owes).0)
      of_due found line is (unread cause) = inr (λ answer. no_answer result s.ReadFault is answer)

      by : Due words old new (status_of outcome) (line_of outcome) → (result ≡ status) ⊎ ¬ IsAnswer result
      by due = of_due (status_of outcome) (line_of outcome) is due
  by_owed told status text owes (output.cut outcome comes is no_room front) = inr (λ answer. no_answer result s.WriteFault is answer)
  by_owed told status text owes (output.no_memory is) = inr (λ answer. no_answer result s.NoMemory is answer)

  -- where the outcome is known
  by_known : (known : Outcome) → ((outcome : Outcome) → ComesTo words old new outcome → outcome ≡ known) → End
      → EndsWith words old new sink_old sink_new result (status_of known) (line_of known)
  by_known known same (output.written outcome comes is appends) =
      let one = same outcome comes in
      inl (is ∙ ap status_of one, as_text (line_of outcome) (line_of known) (ap line_of one) appends)
  by_known known same (output.cut outcome comes is no_room front) =
      let one = same outcome comes in
      inr (inl (is, subst (λ (o : Outcome). IsCut words old new sink_old sink_new result (line_of o)) one (cut_of (line_of outcome) no_room front)))
  by_known known same (output.no_memory is) = inr (inr is)

  by_read_fault : result ≡ s.ReadFault → End → (text : List ℕ) × Unread words old new text × Appends sink_old sink_new text
  by_read_fault fault (output.written outcome comes is appends) = (line_of outcome, unread_outcome words old new outcome comes (sym is ∙ fault), appends)
  by_read_fault fault (output.cut outcome comes is no_room front) = absurd (let wrong : s.ReadFault ≡ s.WriteFault = sym fault ∙ is in cc)
  by_read_fault fault (output.no_memory is) = absurd (let wrong : s.ReadFault ≡ s.NoMemory = sym fault ∙ is in cc)

  by_cut : IsTrue old.tells → result ≡ s.WriteFault → End → (status : Status) × (text : List ℕ) × Due words old new status text × IsCut words old new sink_old sink_new result text
  by_cut told fault (output.written outcome comes is appends) = absurd (no_write_fault outcome (sym is ∙ fault))
  by_cut told fault (output.cut outcome comes is no_room front) =
      (status_of outcome, line_of outcome, due_outcome words old new told outcome comes, cut_of (line_of outcome) no_room front)
  by_cut told fault (output.no_memory is) = absurd (let wrong : s.WriteFault ≡ s.NoMemory = sym fault ∙ is in cc)

  by_one_line : result ≢ s.WriteFault → result ≢ s.NoMemory → End → (text : List ℕ) × IsLineOf words result text × Appends sink_old sink_new text
  by_one_line no_fault memory (output.written outcome comes is appends) =
      (line_of outcome, subst (λ (status : Status). IsLineOf words status (line_of outcome)) (sym is) (line_of_outcome words old new outcome comes), appends)
  by_one_line no_fault memory (output.cut outcome comes is no_room front) = absurd (no_fault is)
  by_one_line no_fault memory (output.no_memory is) = absurd (memory is)

  by_cut_line : result ≡ s.WriteFault → End → (status : Status) × (text : List ℕ) × IsLineOf words status text × IsCut words old new sink_old sink_new result text
  by_cut_line fault (output.written outcome comes is appends) = absurd (no_write_fault outcome (sym is ∙ fault))
  by_cut_line fault (output.cut outcome comes is no_room front) = (status_of outcome, line_of outcome, line_of_outcome words old new outcome comes, cut_of (line_of outcome) no_room front)
  by_cut_line fault (output.no_memory is) = absurd (let wrong : s.WriteFault ≡ s.NoMemory = sym fault ∙ is in cc)

  -- where no input fails
  by_whole : IsTrue old.tells → ((name : List ℕ) → Contains (input_names words) name → CouldNotRead old new name → old.held name ≡ None) → End → EndsAsOwed words old new sink_old sink_new result
  by_whole told none (output.written outcome comes is appends) =
      (status_of outcome, line_of outcome, comes_whole words old new told none outcome comes, inl (is, appends))
  by_whole told none (output.cut outcome comes is no_room front) =
      (status_of outcome, line_of outcome, comes_whole words old new told none outcome comes, inr (inl (is, cut_of (line_of outcome) no_room front)))
  by_whole told none (output.no_memory is) = let some = some_answer words old.held in (some.0, some.1, some.2, inr (inr is))

  -- nor the sink
  by_calm : (result ≡ s.WriteFault → ⊥) → EndsAsOwed words old new sink_old sink_new result → FinishesAsOwed words old new sink_old sink_new result
  by_calm calm ends = elim ends.3 [
    | inl written ↦ (ends.0, ends.1, ends.2, inl written)
    | inr further ↦ elim further [
      | inl cut ↦ absurd (calm cut.0)
      | inr none ↦ (ends.0, ends.1, ends.2, inr none)
    ]
  ]

  -- where a run ends well, its outcome is a text
  of_ok : IsTrue old.tells → result ≡ s.Ok → End → (bytes : List ℕ) × IsOwed words old.held (Ok (answers.text bytes)) × Appends sink_old sink_new bytes
  of_ok told ok (output.written outcome comes is appends) = of_text outcome comes (sym is ∙ ok) appends
    where
      of_text : (outcome : Outcome) → ComesTo words old new outcome → status_of outcome ≡ s.Ok → Appends sink_old sink_new (line_of outcome)
          → (bytes : List ℕ) × IsOwed words old.held (Ok (answers.text bytes)) × Appends sink_old sink_new bytes
      of_text (Ok (answers.text bytes)) comes is appends = (bytes, comes_owed words old new told (Ok (answers.text bytes)) comes (λ e. cc), appends)
      of_text (Ok (answers.undecodable bytes)) comes is appends = absurd (cc)
      of_text (Ok (answers.calls_ended bytes)) comes is appends = absurd (cc)
      of_text (Err refusal) comes is appends = absurd (no_ok refusal is)
  of_ok told ok (output.cut outcome comes is no_room front) = absurd (let wrong : s.Ok ≡ s.WriteFault = sym ok ∙ is in cc)
  of_ok told ok (output.no_memory is) = absurd (let wrong : s.Ok ≡ s.NoMemory = sym ok ∙ is in cc)

  -- an analysis
  by_table : IsTrue old.tells → (request : AnalyseRequest) → asked words ≡ Some (analyse request) → request.open ≡ false → result ≡ s.Ok → End
      → (text : List ℕ) × IsTableFor old.held request text × Appends sink_old sink_new text
  by_table told request asks closed ok end = let found = of_ok told ok end in (found.0, owed_table words old.held request found.0 asks closed found.1, found.2)

  -- one that is left open
  by_open_table : IsTrue old.tells → (request : AnalyseRequest) → asked words ≡ Some (analyse request) → request.open ≡ true → result ≡ s.Ok → End
      → (text : List ℕ) × IsOpenTableFor old.held request text × Appends sink_old sink_new text
  by_open_table told request asks left_open ok end = let found = of_ok told ok end in (found.0, owed_open_table words old.held request found.0 asks left_open found.1, found.2)

  -- a check
  by_accepted : IsTrue old.tells → (request : CheckRequest) → asked words ≡ Some (check request) → request.analysis.open ≡ false → result ≡ s.Ok → End
      → IsAcceptedFor old.held request × Appends sink_old sink_new accepted_line
  by_accepted told request asks closed ok end =
      let found = of_ok told ok end in
      let accepted = owed_acceptance words old.held request found.0 asks closed found.1 in
      (accepted.0, as_text found.0 accepted_line accepted.1 found.2)

  -- one whose table may be left open
  by_open_accepted : IsTrue old.tells → (request : CheckRequest) → asked words ≡ Some (check request) → request.analysis.open ≡ true → result ≡ s.Ok → End
      → IsOpenAcceptedFor old.held request × Appends sink_old sink_new accepted_line
  by_open_accepted told request asks left_open ok end =
      let found = of_ok told ok end in
      let accepted = owed_open_acceptance words old.held request found.0 asks left_open found.1 in
      (accepted.0, as_text found.0 accepted_line accepted.1 found.2)

  -- a slice
  by_slice : IsTrue old.tells → (request : SliceRequest) → asked words ≡ Some (slice request) → request.check.analysis.open ≡ false → result ≡ s.Ok → End
      → (text : List ℕ) × IsSliceFor old.held request text × Appends sink_old sink_new text
  by_slice told request asks closed ok end = let found = of_ok told ok end in (found.0, owed_slice words old.held request found.0 asks closed found.1, found.2)

  -- one whose table may be left open
  by_open_slice : IsTrue old.tells → (request : SliceRequest) → asked words ≡ Some (slice request) → request.check.analysis.open ≡ true → result ≡ s.Ok → End
      → (text : List ℕ) × IsOpenSliceFor old.held request text × Appends sink_old sink_new text
  by_open_slice told request asks left_open ok end = let found = of_ok told ok end in (found.0, owed_open_slice words old.held request found.0 asks left_open found.1, found.2)

  -- claims
  by_claims : IsTrue old.tells → (request : ClaimsRequest) → asked words ≡ Some (claims request) → request.check.analysis.open ≡ false → result ≡ s.Ok → End
      → (text : List ℕ) × AreClaimsFor old.held request text × Appends sink_old sink_new text
  by_claims told request asks closed ok end = let found = of_ok told ok end in (found.0, owed_claims words old.held request found.0 asks closed found.1, found.2)

  -- those on a table that may be left open
  by_open_claims : IsTrue old.tells → (request : ClaimsRequest) → asked words ≡ Some (claims request) → request.check.analysis.open ≡ true → result ≡ s.Ok → End
      → (text : List ℕ) × AreOpenClaimsFor old.held request text × Appends sink_old sink_new text
  by_open_claims told request asks left_open ok end = let found = of_ok told ok end in (found.0, owed_open_claims words old.held request found.0 asks left_open found.1, found.2)

  -- a stress
  by_stress : (request : StressRequest) → asked words ≡ Some (stress request) → result ≡ s.Ok → End → (text : List ℕ) × IsStress request text × Appends sink_old sink_new text
  by_stress request asks ok (output.written outcome comes is appends) = of_text outcome (subst (λ (what : Option Request). Steps (Gave old new) what outcome) asks comes) (sym is ∙ ok) appends
    where
      of_text : (outcome : Outcome) → StressSteps request outcome → status_of outcome ≡ s.Ok → Appends sink_old sink_new (line_of outcome) → (text : List ℕ) × IsStress request text × Appends sink_old sink_new text
      of_text (Ok (answers.text bytes)) steps is appends = (bytes, stress_is_accepted request bytes steps, appends)
      of_text (Ok (answers.undecodable bytes)) steps is appends = absurd (cc)
      of_text (Ok (answers.calls_ended bytes)) steps is appends = absurd (cc)
      of_text (Err refusal) steps is appends = absurd (no_ok refusal is)
  by_stress request asks ok (output.cut outcome comes is no_room front) = absurd (let wrong : s.Ok ≡ s.WriteFault = sym ok ∙ is in cc)
  by_stress request asks ok (output.no_memory is) = absurd (let wrong : s.Ok ≡ s.NoMemory = sym ok ∙ is in cc)

  unsure_names : All (λ name. IsTrue (old.sure name)) (input_names words) → (name : List ℕ) → Contains (input_names words) name → CouldNotRead old new name → ⊥
  unsure_names sure name named cause =
      clash (old.sure name) (All-contains (λ name. IsTrue (old.sure name)) (input_names words) name sure named) cause.unsure

pub ends_follow : EndsFollow
ends_follow words old new sink_old sink_new result end write_fault = record {
  answered = λ told answer. by_answered words old new sink_old sink_new result told answer end;
  table = λ told request asks closed ok. by_table words old new sink_old sink_new result told request asks closed ok end;
  open_table = λ told request asks left_open ok. by_open_table words old new sink_old sink_new result told request asks left_open ok end;
  accepted = λ told request asks closed ok. by_accepted words old new sink_old sink_new result told request asks closed ok end;
  accepted_open = λ told request asks left_open ok. by_open_accepted words old new sink_old sink_new result told request asks left_open ok end;
  sliced = λ told request asks closed ok. by_slice words old new sink_old sink_new result told request asks closed ok end;
  sliced_open = λ told request asks left_open ok. by_open_slice words old new sink_old sink_new result told request asks left_open ok end;
  claimed = λ told request asks closed ok. by_claims words old new sink_old sink_new result told request asks closed ok end;
  claimed_open = λ told request asks left_open ok. by_open_claims words old new sink_old sink_new result told request asks left_open ok end;
  stressed = λ request asks ok. by_stress words old new sink_old sink_new result request asks ok end;
  owed = λ told status text owes. by_owed words old new sink_old sink_new result told status text owes end;
  bad_words = λ asks. by_known words old new sink_old sink_new result (Err bad_words) (λ outcome comes. asks_bad words old new outcome asks comes) end;
  read_fault = λ fault. by_read_fault words old new sink_old sink_new result fault end;
  cut = λ told fault. by_cut words old new sink_old sink_new result told fault end;
  one_line = λ no_fault memory. by_one_line words old new sink_old sink_new result no_fault memory end;
  cut_line = λ fault. by_cut_line words old new sink_old sink_new result fault end;
  complete = λ told sure.
      by_whole words old new sink_old sink_new result told (λ name named cause. absurd (unsure_names words old new sink_old sink_new result sure name named cause)) end;
  complete_in_memory = λ told none.
      by_whole words old new sink_old sink_new result told (λ name named cause. none name named cause.unsure) end;
  complete_without_faults = λ told calm sink_calm.
      by_calm words old new sink_old sink_new result (λ fault. sink_calm (rose sink_old.faults sink_new.faults (write_fault fault)))
      (by_whole words old new sink_old sink_new result told (λ name named cause. absurd (calm (rose old.faults new.faults cause.fault))) end);
}
