-- What is answered of a table that is closed: there is one outcome, where there is one text, and there is one where there is a text.
use Rattle.std.proofs.Common.{◌≡◌, ◌∙◌, ℕ, List, ap, refl, sym, subst}
use Rattle.std.specs.Prelude.{Ok, Err}
use Rattle.fixpoint_theory.specs.declared.verdict.Verdict.{Verdict}
use Rattle.fixpoint_theory.specs.declared.verdict.Verdict.TheVariants as v
use Rattle.program_common.specs.Outcome as o
use Rattle.program_common.specs.Outcome.{Outcome, text}
use Rattle.program_domains.specs.Checks.{outcome_of}
use Rattle.program_domains.specs.Closed.{Answers, ByVerdict}

-- the text that is answered
pub answered : (Is : List ℕ → Type 0) (found : Outcome) → Answers Is found → (bytes : List ℕ) × (found ≡ Ok (text bytes)) × Is bytes
answered Is (Ok (text bytes)) is = (bytes, refl, is)
answered Is (Ok (o.undecodable bytes)) is = absurd is
answered Is (Ok (o.calls_ended bytes)) is = absurd is
answered Is (Err refusal) is = absurd is

module _ {W : Type 0} (word_text : ℕ → W → List ℕ) (Is : List ℕ → Type 0) where
  module _ (Also : List ℕ → Type 0) (one : (bytes other : List ℕ) → Is bytes → Also other → bytes ≡ other) where
    one_answer : (found other : Outcome) → Answers Is found → Answers Also other → found ≡ other
    one_answer found other h k =
        let first = answered Is found h in
        let second = answered Also other k in
        first.1 ∙ ap (λ (bytes : List ℕ). Ok (text bytes)) (one first.0 second.0 first.2 second.2) ∙ sym second.1

    of_one : (x : Verdict W) (found other : Outcome) → ByVerdict word_text Is x found → ByVerdict word_text Also x other → found ≡ other
    of_one v.Accepted found other h k = one_answer found other h k
    of_one v.Entry found other h k = h ∙ sym k
    of_one (v.Open at to) found other h k = h ∙ sym k
    of_one (v.Undecodable at word) found other h k = h ∙ sym k
    of_one (v.TooManyTargets at shown) found other h k = h ∙ sym k
    of_one (v.Targets at) found other h k = h ∙ sym k
    of_one (v.Use at) found other h k = h ∙ sym k

    pub verdicts_are_one : (x y : Verdict W) (found other : Outcome) → x ≡ y → ByVerdict word_text Is x found → ByVerdict word_text Also y other → found ≡ other
    verdicts_are_one x y found other same h k = of_one y found other (subst (λ z. ByVerdict word_text Is z found) same h) k

  pub verdicts_have_some : (x : Verdict W) → (x ≡ v.Accepted → (bytes : List ℕ) × Is bytes) → (found : Outcome) × ByVerdict word_text Is x found
  verdicts_have_some v.Accepted some = let bytes = some refl in (Ok (text bytes.0), bytes.1)
  verdicts_have_some v.Entry some = (outcome_of word_text v.Entry, refl)
  verdicts_have_some (v.Open at to) some = (outcome_of word_text (v.Open at to), refl)
  verdicts_have_some (v.Undecodable at word) some = (outcome_of word_text (v.Undecodable at word), refl)
  verdicts_have_some (v.TooManyTargets at shown) some = (outcome_of word_text (v.TooManyTargets at shown), refl)
  verdicts_have_some (v.Targets at) some = (outcome_of word_text (v.Targets at), refl)
  verdicts_have_some (v.Use at) some = (outcome_of word_text (v.Use at), refl)

  -- an answer is a text of a table that is closed
  pub is_closed : (answer : o.Answer) (x : Verdict W) → ByVerdict word_text Is x (Ok answer) → (x ≡ v.Accepted) × ((bytes : List ℕ) × (answer ≡ text bytes) × Is bytes)
  is_closed answer v.Accepted is = let found = answered Is (Ok answer) is in (refl, (found.0, (let same : Ok answer ≡ Ok (text found.0) = found.1 in cc), found.2))
  is_closed answer v.Entry is = cc
  is_closed answer (v.Open at to) is = cc
  is_closed answer (v.Undecodable at word) is = cc
  is_closed answer (v.TooManyTargets at shown) is = cc
  is_closed answer (v.Targets at) is = cc
  is_closed answer (v.Use at) is = cc

  -- texts of one kind are of another
  module _ (Also : List ℕ → Type 0) (to : (bytes : List ℕ) → Is bytes → Also bytes) where
    answers_to : (found : Outcome) → Answers Is found → Answers Also found
    answers_to (Ok (text bytes)) is = to bytes is
    answers_to (Ok (o.undecodable bytes)) is = absurd is
    answers_to (Ok (o.calls_ended bytes)) is = absurd is
    answers_to (Err refusal) is = absurd is

    pub verdicts_to : (x : Verdict W) (found : Outcome) → ByVerdict word_text Is x found → ByVerdict word_text Also x found
    verdicts_to v.Accepted found is = answers_to found is
    verdicts_to v.Entry found is = is
    verdicts_to (v.Open at to) found is = is
    verdicts_to (v.Undecodable at word) found is = is
    verdicts_to (v.TooManyTargets at shown) found is = is
    verdicts_to (v.Targets at) found is = is
    verdicts_to (v.Use at) found is = is
