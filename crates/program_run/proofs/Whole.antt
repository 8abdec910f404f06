-- A run over memory that does not fail.
use Rattle.std.proofs.Common.{◌≡◌, ℕ, ◌<◌, ◌≤◌, ◌⊎◌, ◌++◌, [], Bool, List, Option, Some, None, IsTrue, length, true, false, refl, sym, ◌∙◌, ap, subst, inl, inr}
use Rattle.std.specs.Bool.{IsFalse}
use Rattle.std.specs.Prelude.{Contains, is_some}
use Rattle.support_io.specs.Faults.{RoseByOne}
use Rattle.support_io.specs.FileList.{is_held}
use Rattle.support_io.specs.InputState.{InputState}
use Rattle.support_io.specs.SinkState.{SinkState, Appends}
use Rattle.support_command_line.specs.Requests.{AnalyseRequest, CheckRequest, ClaimsRequest, SliceRequest, StressRequest, analyse, check, claims, slice, stress}
use Rattle.support_command_line.specs.Words.{asked}
use Rattle.program_domains.specs.Checks.{accepted_line}
use Rattle.program_common.specs.declared.status.Status.{Status}
use Rattle.program_common.specs.declared.status.Status.TheVariants as s
use Rattle.program_analyses.specs.StressLaws.{IsStress}
use Rattle.program_run.specs.Output.{Ends}
use Rattle.program_common.specs.Reading.{Held}
use Rattle.program_run.specs.Follows.{Follows}
use Rattle.program_run.specs.Owed.{Owes, OwesAlone, OwesLonger}
use Rattle.program_run.specs.Tables.{AreClaimsFor, AreOpenClaimsFor, IsAcceptedFor, IsOpenAcceptedFor, IsOpenSliceFor, IsOpenTableFor, IsSliceFor, IsTableFor}
use Rattle.program_run.specs.Words.{input_names}
use Rattle.program_run.proofs.Ending.{ends_follow}
use Rattle.program_run.proofs.Exact.{exact_answers}

not_held : (found : Option (List ℕ)) → IsFalse (is_some found) → found ≡ None
not_held None is_not = refl
not_held (Some bytes) is_not = absurd (cc)

unsure_is_not_held : (held : Held) (sure : List ℕ → Bool) (name : List ℕ) → sure ≡ is_held held → IsFalse (sure name) → held name ≡ None
unsure_is_not_held held sure name is unsure =
    not_held (held name) (subst (λ (names : List ℕ → Bool). IsFalse (names name)) is unsure)

module _ (words : List (List ℕ)) (old new : InputState) (sink_old sink_new : SinkState) (result : Status) (held : Held) (told : IsTrue old.tells) (holds : old.held ≡ held)
    (sure : old.sure ≡ is_held held) (sink_told : IsTrue sink_old.tells) (empty : sink_old.written ≡ [])
    (ends : Ends words old new sink_old sink_new result) (fault : result ≡ s.WriteFault → RoseByOne sink_old.faults sink_new.faults) (memory : result ≡ s.NoMemory → ⊥) where
  follows : Follows words old new sink_old sink_new result
  follows = ends_follow words old new sink_old sink_new result ends fault

  -- an input that is not sure holds nothing
  none_held : (name : List ℕ) → Contains (input_names words) name → IsFalse (old.sure name) → old.held name ≡ None
  none_held name named unsure = unsure_is_not_held old.held old.sure name (sure ∙ ap (λ (h : Held). is_held h) (sym holds)) unsure

  -- a copy of what the sink has, and its room
  module _ (copy : List ℕ) (most : ℕ) (copied : copy ≡ sink_new.written) (room : sink_old.room ≡ most) where
    all_of : (text : List ℕ) → Appends sink_old sink_new text → copy ≡ text
    all_of text appends = copied ∙ appends sink_told ∙ ap (λ (front : List ℕ). front ++ text) empty

    -- the status and the copy are owed; or what is owed has no room
    pub whole : Owes words held result copy ⊎ ((result ≡ s.WriteFault) × OwesLonger words held most)
    whole =
        let ended = follows.complete_in_memory told none_held in
        let owed = subst (λ (h : Held). Owes words h ended.0 ended.1) holds ended.2 in
        elim ended.3 [
          | inl written ↦ inl (subst (λ (text : List ℕ). Owes words held result text) (sym (all_of ended.1 written.1)) (subst (λ (status : Status). Owes words held status ended.1) (sym written.0) owed))
          | inr further ↦ elim further [
            | inl cut ↦ inr (cut.0, record { status = ended.0; text = ended.1; owed = owed; longer = subst (λ (limit : ℕ). limit < length ended.1) room cut.1.no_room })
            | inr none ↦ absurd (memory none)
          ]
        ]

    -- what alone is owed is the status and the copy
    pub exactly : (status : Status) (text : List ℕ) → OwesAlone words held status text → length text ≤ most → (result ≡ status) × (copy ≡ text)
    exactly status text alone fits =
        elim ((exact_answers words old new sink_old sink_new result follows).complete_in_memory told status text (subst (λ (h : Held). OwesAlone words h status text) (sym holds) alone) none_held
        (subst (λ (limit : ℕ). length text ≤ limit) (sym room) fits)) [
          | inl finished ↦ (finished.0, all_of text finished.1)
          | inr none ↦ absurd (memory none)
        ]

    -- a table is the copy
    pub tables : (request : AnalyseRequest) → asked words ≡ Some (analyse request) → request.open ≡ false → result ≡ s.Ok → IsTableFor held request copy
    tables request asks closed ok =
        let found = follows.table told request asks closed ok in
        subst (λ (h : Held). IsTableFor h request copy) holds (subst (λ (text : List ℕ). IsTableFor old.held request text) (sym (all_of found.0 found.2)) found.1)

    -- and so is one that is left open
    pub open_tables : (request : AnalyseRequest) → asked words ≡ Some (analyse request) → request.open ≡ true → result ≡ s.Ok → IsOpenTableFor held request copy
    open_tables request asks left_open ok =
        let found = follows.open_table told request asks left_open ok in
        subst (λ (h : Held). IsOpenTableFor h request copy) holds (subst (λ (text : List ℕ). IsOpenTableFor old.held request text) (sym (all_of found.0 found.2)) found.1)

    -- and what says that a table is accepted
    pub acceptances : (request : CheckRequest) → asked words ≡ Some (check request) → request.analysis.open ≡ false → result ≡ s.Ok → IsAcceptedFor held request × (copy ≡ accepted_line)
    acceptances request asks closed ok =
        let found = follows.accepted told request asks closed ok in
        (subst (λ (h : Held). IsAcceptedFor h request) holds found.0, all_of accepted_line found.1)

    pub open_acceptances : (request : CheckRequest) → asked words ≡ Some (check request) → request.analysis.open ≡ true → result ≡ s.Ok → IsOpenAcceptedFor held request × (copy ≡ accepted_line)
    open_acceptances request asks left_open ok =
        let found = follows.accepted_open told request asks left_open ok in
        (subst (λ (h : Held). IsOpenAcceptedFor h request) holds found.0, all_of accepted_line found.1)

    -- the slice is the copy
    pub slices : (request : SliceRequest) → asked words ≡ Some (slice request) → request.check.analysis.open ≡ false → result ≡ s.Ok → IsSliceFor held request copy
    slices request asks closed ok =
        let found = follows.sliced told request asks closed ok in
        subst (λ (h : Held). IsSliceFor h request copy) holds (subst (λ (text : List ℕ). IsSliceFor old.held request text) (sym (all_of found.0 found.2)) found.1)

    pub open_slices : (request : SliceRequest) → asked words ≡ Some (slice request) → request.check.analysis.open ≡ true → result ≡ s.Ok → IsOpenSliceFor held request copy
    open_slices request asks left_open ok =
        let found = follows.sliced_open told request asks left_open ok in
        subst (λ (h : Held). IsOpenSliceFor h request copy) holds (subst (λ (text : List ℕ). IsOpenSliceFor old.held request text) (sym (all_of found.0 found.2)) found.1)

    -- and the answers to claims
    pub answers : (request : ClaimsRequest) → asked words ≡ Some (claims request) → request.check.analysis.open ≡ false → result ≡ s.Ok → AreClaimsFor held request copy
    answers request asks closed ok =
        let found = follows.claimed told request asks closed ok in
        subst (λ (h : Held). AreClaimsFor h request copy) holds (subst (λ (text : List ℕ). AreClaimsFor old.held request text) (sym (all_of found.0 found.2)) found.1)

    pub open_answers : (request : ClaimsRequest) → asked words ≡ Some (claims request) → request.check.analysis.open ≡ true → result ≡ s.Ok → AreOpenClaimsFor held request copy
    open_answers request asks left_open ok =
        let found = follows.claimed_open told request asks left_open ok in
        subst (λ (h : Held). AreOpenClaimsFor h request copy) holds (subst (λ (text : List ℕ). AreOpenClaimsFor old.held request text) (sym (all_of found.0 found.2)) found.1)

    -- and the summary
    pub summaries : (request : StressRequest) → asked words ≡ Some (stress request) → result ≡ s.Ok → IsStress request copy
    summaries request asks ok = let found = follows.stressed request asks ok in subst (λ (text : List ℕ). IsStress request text) (sym (all_of found.0 found.2)) found.1
