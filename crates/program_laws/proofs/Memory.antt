-- What follows for two runs in memory.
use Rattle.std.proofs.Common.{◌≡◌, ◌∙◌, ◌⊎◌, ℕ, ◌<◌, ◌≤◌, Bool, List, Some, false, true, arith, inl, inr, length, refl, sym, ap, subst}
use Rattle.std.specs.Prelude.{Ok}
use Rattle.support_command_line.specs.Requests.{AnalyseRequest, Request, analyse, check}
use Rattle.support_command_line.specs.Words.{asked}
use Rattle.program_common.specs.declared.status.Status.{Status}
use Rattle.program_common.specs.declared.status.Status.TheVariants as s
use Rattle.program_common.specs.Outcome.{Outcome, line_of, status_of, text}
use Rattle.program_common.specs.Reading.{Held, Holds}
use Rattle.program_common.specs.Steps.{goes_on}
use Rattle.std.specs.Prelude.{Option}
use Rattle.program_machine.specs.Inputs.{table_cap}
use Rattle.program_domains.specs.Checks.{accepted_line}
use Rattle.program_analyses.specs.Steps.{AnalyseSteps}
use Rattle.program_analyses.proofs.Problems.{open_tabled_is, tabled_is}
use Rattle.program_run.specs.Owed.{IsOwed, Owes, OwesLonger}
use Rattle.program_run.specs.Steps.{Steps}
use Rattle.program_run.specs.Tables.{IsOpenTableFor, IsTableFor}
use Rattle.program_laws.specs.AgreementLaws.{HoldBytes, HoldTheSame}
use Rattle.program_laws.proofs.Runs.{analyse_then_check}

module _ (words check_words : List (List ℕ)) (held later : Held) (request : AnalyseRequest) (joins : ℕ) (table bytes : List ℕ) (asks : asked words ≡ Some (analyse request))
    (also : asked check_words ≡ Some (check (record { analysis = record request { joins = joins }; table = table }))) (are : request.open ≡ true → HoldBytes words held) (same : HoldTheSame words held later)
    (wrote : request.open ≡ false → IsTableFor held request bytes) (wrote_open : request.open ≡ true → IsOpenTableFor held request bytes) (holds : later table ≡ Some bytes) (fits : length bytes ≤ table_cap) where
  analysed : (b : Bool) → request.open ≡ b → AnalyseSteps (Holds held) request (Ok (text bytes))
  analysed false closed = let w = wrote closed in goes_on w.is_posed (tabled_is request w.posed bytes closed w.tabled)
  analysed true left_open = let w = wrote_open left_open in goes_on w.is_posed (open_tabled_is request w.posed bytes left_open w.tabled)

  -- what was written is owed
  owed : IsOwed words held (Ok (text bytes))
  owed = subst (λ (what : Option Request). Steps (Holds held) what (Ok (text bytes))) (sym asks) (analysed request.open refl)

  -- and so what the check owes is that line
  accepted : (found : Outcome) → IsOwed check_words later found → found ≡ Ok (text accepted_line)
  accepted found is = analyse_then_check words check_words held later request joins table bytes found asks also are owed same holds fits is

  too_long : (n : ℕ) (line : List ℕ) → line ≡ accepted_line → n < length line → 9 ≤ n → ⊥
  too_long n line is longer most = let nine : length line ≡ 9 = ap (λ (xs : List ℕ). length xs) is in omega (arith, nine, longer, most)

  pub ends_accepted : (status : Status) (line : List ℕ) → Owes check_words later status line ⊎ ((status ≡ s.WriteFault) × OwesLonger check_words later 67108864) → (status ≡ s.Ok) × (line ≡ accepted_line)
  ends_accepted status line (inl o) = let is = accepted o.outcome o.owed in (o.has_status ∙ ap status_of is, o.has_line ∙ ap line_of is)
  ends_accepted status line (inr h) = let o = h.1.owed in absurd (too_long 67108864 h.1.text (o.has_line ∙ ap line_of (accepted o.outcome o.owed)) h.1.longer (omega arith))
