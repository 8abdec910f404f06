-- What follows where one text is owed.
use Rattle.std.proofs.Common.{ℕ, ◌<◌, ◌≤◌, inl, inr, List, length, sym, ◌∙◌, subst, arith}
use Rattle.support_io.specs.InputState.{InputState}
use Rattle.support_io.specs.SinkState.{SinkState, Appends}
use Rattle.program_common.specs.declared.status.Status.{Status}
use Rattle.program_run.specs.Follows.{EndsAsOwed, Finishes, FinishesAsOwed}
use Rattle.program_run.specs.Laws.{ExactAnswers}
use Rattle.program_run.specs.Owed.{OwesAlone}
use Rattle.program_run.proofs.Unique.{one_answer}

module _ (words : List (List ℕ)) (old new : InputState) (sink_old sink_new : SinkState) (result : Status) where
  module _ (status : Status) (text : List ℕ) (alone : OwesAlone words old.held status text) where
    -- what it finishes with is that text
    finished : FinishesAsOwed words old new sink_old sink_new result → Finishes words old new sink_old sink_new result status text
    finished ends =
        let same = one_answer words old.held status ends.0 text ends.1 alone.owed ends.2 in
        elim ends.3 [
          | inl written ↦ inl (written.0 ∙ sym same.0, subst (λ (bytes : List ℕ). Appends sink_old sink_new bytes) (sym (same.1 alone.alone)) written.1)
          | inr none ↦ inr none
        ]

    -- what it ends with is that text, which has room
    ended : length text ≤ sink_old.room → EndsAsOwed words old new sink_old sink_new result → Finishes words old new sink_old sink_new result status text
    ended room ends =
        let same = one_answer words old.held status ends.0 text ends.1 alone.owed ends.2 in
        elim ends.3 [
          | inl written ↦ finished (ends.0, ends.1, ends.2, inl written)
          | inr further ↦ elim further [
            | inl cut ↦ absurd (let past : sink_old.room < length text = subst (λ (bytes : List ℕ). sink_old.room < length bytes) (sym (same.1 alone.alone)) cut.1.no_room in omega arith)
            | inr none ↦ inr none
          ]
        ]

pub exact_answers : ExactAnswers
exact_answers words old new sink_old sink_new result follows = record {
  complete = λ told status text alone sure room. ended words old new sink_old sink_new result status text alone room (follows.complete told sure);
  complete_in_memory = λ told status text alone none room. ended words old new sink_old sink_new result status text alone room (follows.complete_in_memory told none);
  complete_without_faults = λ told status text alone calm sink_calm. finished words old new sink_old sink_new result status text alone (follows.complete_without_faults told calm sink_calm);
}
