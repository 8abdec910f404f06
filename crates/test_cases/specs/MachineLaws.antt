-- The analysis of the machine keeps the laws.
use Rattle.std.specs.Prelude.{◌≡◌, ℕ, ◌≤◌, nat_lt, List, [], ◌∷◌, Option, Some, None, IsTrue, refl, if◌then◌else◌}
use Rattle.std.proofs.Common.{arith, inl, inr, sym, ap, ap₂, ◌∙◌, subst}
use Rattle.std.proofs.lemmas.List.{length-map}
use Rattle.fixpoint_theory.proofs.Growth.{by_bool}
use Rattle.std.proofs.lemmas.Bool.Decides.{nat_tests}
use Rattle.base_trait.specs.Lists.{AreAmong, IsAscending}
use Rattle.base_trait.specs.declared.uses.Stamp.TheVariants.{At}
use Rattle.base_trait.proofs.Lists.{ascends_told}
use Rattle.fixpoint_theory.specs.Analysis.{AnalysisLaws}
use Rattle.fixpoint_theory.specs.Elements.{ElementLaws}
use Rattle.fixpoint_theory.specs.Outcome.{AreOfStamps, AreSameArrivals, HasTargets, IfPost, IfUses, Outcome, SameOutcome, moves, sends, too_many, undecodable}
use Rattle.test_cases.specs.declared.machine.Interval.{Interval}
use Rattle.test_cases.specs.declared.machine.Instr.{Instr}
use Rattle.test_cases.specs.declared.machine.Instr.TheVariants.{Set, Add, Goto, Fork, Wild, Spin, Bad}
use Rattle.test_cases.specs.declared.machine.Word.{Word}
use Rattle.test_cases.specs.Machine.{IsProgram, addresses, analysis_of, behind, executed_at, fork_targets, instr_at, intervals}

both : {B : Type 0} (f : Interval → Interval → B) (x x' y y' : Interval) → x ≡ x' → y ≡ y' → f x y ≡ f x' y'
both f x x' y y' h k = ap (λ z. f z y) h ∙ ap (f x') k

abbrev from_to : ℕ → ℕ → Interval
from_to low high = record { low = low; high = high }

widen_kept : (x y : Interval) → IsTrue (intervals.absorbs x y) → intervals.widen x y ≡ x
widen_kept x y h =
    let low : (if nat_lt y.low x.low then 0 else x.low) ≡ x.low = grind (arith, nat_tests) in
    let high : (if nat_lt x.high y.high then 99 else x.high) ≡ x.high = grind (arith, nat_tests) in
    ap₂ from_to low high

pub interval_laws : ElementLaws intervals
interval_laws = record {
  join_fits = λ x y p q. grind (arith, nat_tests);
  widen_fits = λ x y p q. grind (arith, nat_tests);
  join_absorbs = λ x y p q. (grind (arith, nat_tests), grind (arith, nat_tests));
  widen_absorbs = λ x y p q. (grind (arith, nat_tests), grind (arith, nat_tests));
  absorbs_itself = λ x p. grind (arith, nat_tests);
  absorbs_on = λ x y z p q r h k. grind (arith, nat_tests);
  absorbs_holds = λ x y s p q h within. let low = within.0 in let high = within.1 in (grind (arith, nat_tests), grind (arith, nat_tests));
  widen_keeps = λ x y p q h. widen_kept x y h;
  widen_falls = λ stamps x y p q lx ly h. grind (arith, nat_tests);
  rank_height = λ stamps x p. grind (arith, nat_tests);
  join_lists = λ x y p q. (inl refl, tt);
  widen_lists = λ x y p q. (inl refl, tt);
  same_itself = λ x. refl;
  same_back = λ x y h. sym h;
  same_on = λ x y z h k. h ∙ k;
  same_join = λ x x' y y' p p' q q' h k. both intervals.join x x' y y' h k;
  same_widen = λ x x' y y' p p' q q' h k. both intervals.widen x x' y y' h k;
  same_absorbs = λ x x' y y' p p' q q' h k. both intervals.absorbs x x' y y' h k;
  same_lists = λ x y h. (inl refl, tt);
  same_rank = λ stamps x y p q h. ap (intervals.rank stamps) h;
}

post_fits : (at : ℕ) (i : Option Instr) (x : Interval) → x.high ≤ 99 → IfPost intervals.fits (executed_at at i x)
post_fits at None x fits = tt
post_fits at (Some (Set n)) x fits = omega arith
post_fits at (Some (Add n)) x fits = omega arith
post_fits at (Some (Goto to)) x fits = fits
post_fits at (Some (Fork to)) x fits = fits
post_fits at (Some Wild) x fits = tt
post_fits at (Some Spin) x fits = tt
post_fits at (Some Bad) x fits = tt

post_lists : (at : ℕ) (i : Option Instr) (x : Interval) → IfPost (λ post. AreAmong (intervals.listed post) (At at ∷ intervals.listed x)) (executed_at at i x)
post_lists at None x = tt
post_lists at (Some (Set n)) x = (inr (inl refl), tt)
post_lists at (Some (Add n)) x = (inr (inl refl), tt)
post_lists at (Some (Goto to)) x = (inr (inl refl), tt)
post_lists at (Some (Fork to)) x = (inr (inl refl), tt)
post_lists at (Some Wild) x = tt
post_lists at (Some Spin) x = tt
post_lists at (Some Bad) x = tt

uses_list : (at : ℕ) (i : Option Instr) (x : Interval) → IfUses (AreOfStamps (At at ∷ intervals.listed x)) (executed_at at i x)
uses_list at None x = tt
uses_list at (Some (Set n)) x = tt
uses_list at (Some (Add n)) x = ((inr (inl refl), tt), tt)
uses_list at (Some (Goto to)) x = tt
uses_list at (Some (Fork to)) x = ((inr (inl refl), tt), tt)
uses_list at (Some Wild) x = ((inr (inl refl), tt), tt)
uses_list at (Some Spin) x = tt
uses_list at (Some Bad) x = tt

one_ascends : (a : ℕ) → IsAscending (a ∷ [])
one_ascends a = (omega arith, tt)

fork_ascends : (next to : ℕ) → IsAscending (fork_targets next to)
fork_ascends next to =
    by_bool (nat_lt next to) (λ b. nat_lt next to ≡ b → IsAscending (if b then next ∷ to ∷ [] else (if nat_lt to next then to ∷ next ∷ [] else next ∷ [])))
    (λ e is. (omega arith, (grind (arith, nat_tests), tt)))
    (λ e is. by_bool (nat_lt to next) (λ b. nat_lt to next ≡ b → IsAscending (if b then to ∷ next ∷ [] else next ∷ []))
    (λ f less. (omega arith, (grind (arith, nat_tests), tt)))
    (λ f less. one_ascends next)
    refl)
    refl

has_targets : (at : ℕ) (i : Option Instr) (x : Interval) → HasTargets (executed_at at i x)
has_targets at None x = tt
has_targets at (Some (Set n)) x = one_ascends (behind at)
has_targets at (Some (Add n)) x = one_ascends (behind at)
has_targets at (Some (Goto to)) x = one_ascends to
has_targets at (Some (Fork to)) x =
    by_bool (nat_lt x.high 50) (λ b. IsAscending (if b then to ∷ [] else (if nat_lt x.low 50 then fork_targets (behind at) to else behind at ∷ [])))
    (λ e. one_ascends to)
    (λ e. by_bool (nat_lt x.low 50) (λ b. IsAscending (if b then fork_targets (behind at) to else behind at ∷ [])) (λ f. fork_ascends (behind at) to) (λ f. one_ascends (behind at)))
has_targets at (Some Wild) x = tt
has_targets at (Some Spin) x = refl
has_targets at (Some Bad) x = tt

same_arrivals : (xs : List (ℕ × Interval)) → AreSameArrivals intervals xs xs
same_arrivals [] = tt
same_arrivals (x ∷ xs) = (refl, refl, same_arrivals xs)

pub same_as_itself : (o : Outcome Interval Interval) → SameOutcome intervals o o
same_as_itself (undecodable w) = refl
same_as_itself (too_many x us) = (refl, refl)
same_as_itself (moves ts None us) = (refl, tt, refl)
same_as_itself (moves ts (Some x) us) = (refl, refl, refl)
same_as_itself (sends arrivals us) = (same_arrivals arrivals, refl)

pub analysis_laws : (code : List Word) (start : ℕ) (entry : Interval) → IsProgram code entry → AnalysisLaws (analysis_of code start entry)
analysis_laws code start entry is = record {
  elements = interval_laws;
  code = record {
    ascends = (ascends_told 0 (addresses code)).0 is.ascends;
    few = let many = is.few in omega (arith, many, length-map code (λ (w : Word). w.at));
  };
  entry_fits = is.entry_fits;
  entry_lists = (inl refl, tt);
  transfer_fits = λ at x here fits. post_fits at (instr_at code at) x fits;
  transfer_lists = λ at x here fits. post_lists at (instr_at code at) x;
  transfer_targets = λ at x here fits. has_targets at (instr_at code at) x;
  transfer_uses = λ at x here fits. uses_list at (instr_at code at) x;
  transfer_unstamped = λ at x here fits e. cc;
  transfer_same = λ at x y here fx fy same.
      subst (λ y. SameOutcome intervals (executed_at at (instr_at code at) x) (executed_at at (instr_at code at) y)) same
      (same_as_itself (executed_at at (instr_at code at) x));
}
