-- The analysis is sound for the machine.
use Rattle.std.specs.Prelude.{◌≡◌, ℕ, ◌≤◌, Bool, true, false, nat_lt, List, [], ◌∷◌, Option, Some, None, IsTrue, refl, if◌then◌else◌}
use Rattle.std.proofs.Common.{inl, inr, arith, sym, ap, ◌∙◌, subst}
use Rattle.std.proofs.lemmas.Bool.Decides.{nat_tests}
use Rattle.base_trait.specs.Lists.{Each, IsAmong}
use Rattle.base_trait.specs.Uses.{AreCovering}
use Rattle.fixpoint_theory.specs.Analysis.{Analysis}
use Rattle.fixpoint_theory.specs.Code.{is_code}
use Rattle.fixpoint_theory.specs.Runs.{Describes, IsSound, Machine, left, stops}
use Rattle.fixpoint_theory.proofs.Growth.{by_bool}
use Rattle.test_cases.specs.declared.machine.Interval.{Interval}
use Rattle.test_cases.specs.declared.machine.Instr.{Instr}
use Rattle.test_cases.specs.declared.machine.Instr.TheVariants.{Set, Add, Goto, Fork, Wild, Spin, Bad}
use Rattle.test_cases.specs.declared.machine.State.{State}
use Rattle.test_cases.specs.declared.machine.Word.{Word}
use Rattle.test_cases.specs.Machine.{IsWithin, analysis_of, behind, executed_at, fork_targets, instr_at, machine_of, number_read, number_used, step_of, stepped_at}

fork_has : (next to pc : ℕ) (low : Bool) → pc ≡ (if low then to else next) → IsAmong pc (fork_targets next to)
fork_has next to pc true is =
    by_bool (nat_lt next to) (λ b. IsAmong pc (if b then next ∷ to ∷ [] else (if nat_lt to next then to ∷ next ∷ [] else next ∷ [])))
    (λ e. inr (inl is))
    (λ e. by_bool (nat_lt to next) (λ b. IsAmong pc (if b then to ∷ next ∷ [] else next ∷ []))
    (λ f. inl is)
    (λ f. let same : to ≡ next = grind (arith, nat_tests) in inl (is ∙ same)))
fork_has next to pc false is =
    by_bool (nat_lt next to) (λ b. IsAmong pc (if b then next ∷ to ∷ [] else (if nat_lt to next then to ∷ next ∷ [] else next ∷ [])))
    (λ e. inl is)
    (λ e. by_bool (nat_lt to next) (λ b. IsAmong pc (if b then to ∷ next ∷ [] else next ∷ []))
    (λ f. inr (inl is))
    (λ f. inl is))

-- where the interval tells which way a fork goes, it goes so
decided : (x : Interval) (n next to : ℕ) → x.low ≤ n → n ≤ x.high
    → IsAmong (if nat_lt n 50 then to else next) (if nat_lt x.high 50 then to ∷ [] else (if nat_lt x.low 50 then fork_targets next to else next ∷ []))
decided x n next to low high =
    by_bool (nat_lt x.high 50) (λ b. nat_lt x.high 50 ≡ b → IsAmong (if nat_lt n 50 then to else next) (if b then to ∷ [] else (if nat_lt x.low 50 then fork_targets next to else next ∷ [])))
    (λ e is. let below : nat_lt n 50 ≡ true = grind (arith, nat_tests) in inl (ap (λ b. if b then to else next) below))
    (λ e is. by_bool (nat_lt x.low 50) (λ b. nat_lt x.low 50 ≡ b → IsAmong (if nat_lt n 50 then to else next) (if b then fork_targets next to else next ∷ []))
    (λ f less. fork_has next to (if nat_lt n 50 then to else next) (nat_lt n 50) refl)
    (λ f less. let past : nat_lt n 50 ≡ false = grind (arith, nat_tests) in inl (ap (λ b. if b then to else next) past))
    refl)
    refl

module _ (code : List Word) (start : ℕ) (entry : Interval) where
  abbrev A : Analysis Interval Interval State
  A = analysis_of code start entry

  abbrev M : Machine State
  M = machine_of code start entry

  covers_read : Each (AreCovering number_used) (number_read ∷ [])
  covers_read = (inl (record { of_map = refl; key = tt; stamp = inl refl }), tt)

  -- what an instruction makes of an interval describes its step
  executed_sound : (i : Option Instr) (x : Interval) (s : State) → x.high ≤ 99 → IsWithin x s → Describes A M (executed_at s.counter i x) (stepped_at i s)
  executed_sound None x s fits within = tt
  executed_sound (Some (Set n)) x s fits within = (inl refl, (omega arith, omega arith), λ stamped. tt)
  executed_sound (Some (Add n)) x s fits within = let low = within.0 in let high = within.1 in (inl refl, (omega arith, omega arith), λ stamped. covers_read)
  executed_sound (Some (Goto to)) x s fits within = (inl refl, within, λ stamped. tt)
  executed_sound (Some (Fork to)) x s fits within = (decided x s.number (behind s.counter) to within.0 within.1, within, λ stamped. covers_read)
  executed_sound (Some Wild) x s fits within = λ stamped. covers_read
  executed_sound (Some Spin) x s fits within = tt
  executed_sound (Some Bad) x s fits within = tt

  step_sound : (x : Interval) (s : State) → x.high ≤ 99 → IsTrue (is_code A.code s.counter) → IsWithin x s
      → Describes A M (executed_at s.counter (instr_at code s.counter) x) (step_of code s)
  step_sound x s fits here within =
      subst (λ b. Describes A M (executed_at s.counter (instr_at code s.counter) x) (if b then stepped_at (instr_at code s.counter) s else stops left)) (sym here)
      (executed_sound (instr_at code s.counter) x s fits within)

  outside : (s : State) → is_code A.code s.counter ≡ false → step_of code s ≡ stops left
  outside s other = ap (λ b. if b then stepped_at (instr_at code s.counter) s else stops left) other

  pub machine_sound : IsSound A M
  machine_sound = record {
    entry = λ s starts. starts;
    transfer = λ d x s fits here within. step_sound x s fits here within;
    leaves = λ d s other. outside s other;
  }
