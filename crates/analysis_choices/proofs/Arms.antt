-- Arms of matches as plain data.
use Rattle.std.proofs.Common.{◌≡◌, ◌∙◌, ℕ, zero, suc, ◌<◌, ◌≤◌, List, [], ◌∷◌, None, length, get_or, slice_get, map, option_map, Vec, Global, refl, sym, ap, arith}
use Rattle.spec_match_compiler.specs.declared.decision.Decision.{Decision, OnCase, fold-roll-Decision}
use Rattle.spec_match_compiler.specs.declared.decision.Decision.TheOpen.{Decision-F}
use Rattle.spec_match_compiler.specs.declared.decision.Decision.TheViews.{rolls-OnCase}
use Rattle.spec_match_compiler.specs.declared.decision.Path.{Path}
use Rattle.spec_match_compiler.specs.Decisions as plain
use Rattle.spec_match_compiler.specs.Decisions.{on_case, trees}
use Rattle.spec_match_compiler.specs.Views.{decision_step, tree}
use Rattle.spec_ir.specs.declared.core_term.Core.{Core}
use Rattle.spec_ir.specs.CoreTerms.{cores}
use Rattle.spec_ir.specs.declared.spec.Fun.{Fun}
use Rattle.spec_ir.specs.Views.{core, fun_of}
use Rattle.semantics_values.specs.declared.value.Value.{Made, Value, fold-roll-Value}
use Rattle.semantics_values.specs.declared.value.Value.TheOpen.{Value-F}
use Rattle.semantics_values.specs.declared.value.Value.TheViews.{rolls-Made}
use Rattle.semantics_values.specs.Values as v
use Rattle.semantics_values.specs.Values.{Val, val_list, vals}
use Rattle.semantics_values.specs.Views.{val, val_step}
use Rattle.analysis_choices.specs.declared.comparison.CellComparison.{CellComparison}
use Rattle.analysis_choices.specs.declared.symbol.Symbol.{Symbol}
use Rattle.analysis_choices.specs.declared.symbol.Symbol.TheVariants.{Instruction, Other, State}
use Rattle.analysis_choices.specs.Choice.{compared_in}
use Rattle.analysis_choices.specs.Comparisons.{arm_at, compared}
use Rattle.analysis_choices.specs.Matches as of
use Rattle.analysis_choices.specs.Matches.{arm_of, in_instruction, named, only_row, row_of}
use Rattle.analysis_choices.specs.Symbols.{constructor}

pub tree_OnCase : (at : Path) (arms : Vec Decision Global) → tree (OnCase at arms) ≡ on_case at.steps.items (trees (map tree arms.items))
tree_OnCase at arms = ap tree (sym (rolls-OnCase at arms)) ∙ fold-roll-Decision plain.Decision decision_step (Decision-F.OnCase at arms)

val_Made : (ty k : ℕ) (ps : Vec Value Global) → val (Made ty k ps) ≡ v.made ty k (vals (map val ps.items))
val_Made ty k ps = ap val (sym (rolls-Made ty k ps)) ∙ fold-roll-Value Val val_step (Value-F.Made ty k ps)

list_again : (ps : List Val) → val_list (vals ps) ≡ ps
list_again [] = refl
list_again (p ∷ ps) = ap (λ qs. p ∷ qs) (list_again ps)

-- the row of the decision of a number
pub row_there : (ts : List Decision) (k : ℕ) (t : Decision) → k < length ts → t ≡ get_or ts k t → only_row (tree t) ≡ of.row_at k (trees (map tree ts))
row_there [] k t l e = absurd (omega (arith, l))
row_there (y ∷ ts) zero t l e = ap (λ d. only_row (tree d)) e
row_there (y ∷ ts) (suc k) t l e = row_there ts k t (omega (arith, l)) e

pub row_past : (ts : List Decision) (k : ℕ) → length ts ≤ k → None ≡ of.row_at k (trees (map tree ts))
row_past [] k l = refl
row_past (y ∷ ts) zero l = absurd (omega (arith, l))
row_past (y ∷ ts) (suc k) l = row_past ts k (omega (arith, l))

-- what is compared in the term of a number
module _ (instruction : Val) (env : List Symbol) where
  pub arm_there : (ts : List Core) (k : ℕ) (t : Core) → k < length ts → t ≡ get_or ts k t → compared instruction env (core t) ≡ arm_at instruction env (cores (map core ts)) k
  arm_there [] k t l e = absurd (omega (arith, l))
  arm_there (y ∷ ts) zero t l e = ap (λ d. compared instruction env (core d)) e
  arm_there (y ∷ ts) (suc k) t l e = arm_there ts k t (omega (arith, l)) e

  pub arm_past : (ts : List Core) (k : ℕ) → length ts ≤ k → ◌≡◌ {A = List CellComparison} [] (arm_at instruction env (cores (map core ts)) k)
  arm_past [] k l = refl
  arm_past (y ∷ ts) zero l = absurd (omega (arith, l))
  arm_past (y ∷ ts) (suc k) l = arm_past ts k (omega (arith, l))

-- the arm that an instruction takes
pub arm_taken : (ty k : ℕ) (ps : Vec Value Global) (by : plain.Decision)
    → option_map (named (in_instruction (map val ps.items))) (row_of k by) ≡ arm_of (val (Made ty k ps)) Instruction by
arm_taken ty k ps by =
    ap (λ qs. option_map (named (in_instruction qs)) (row_of k by)) (sym (list_again (map val ps.items)))
    ∙ ap (λ x. arm_of x Instruction by) (sym (val_Made ty k ps))

-- a constructor with fields
pub other_made : (k : ℕ) (ts : List Core) → 1 ≤ length ts → Other ≡ constructor k (cores (map core ts))
other_made k [] l = absurd (omega (arith, l))
other_made k (t ∷ ts) l = refl

-- the comparison of the function of a number
module _ (instruction : Val) where
  pub interp_there : (fs : List Fun) (k : ℕ) (f : Fun) → k < length fs → compared instruction (Instruction ∷ State ∷ []) (core (get_or fs k f).core) ≡ compared_in instruction (slice_get (map fun_of fs) k)
  interp_there [] k f l = absurd (omega (arith, l))
  interp_there (y ∷ fs) zero f l = refl
  interp_there (y ∷ fs) (suc k) f l = interp_there fs k f (omega (arith, l))

  pub interp_past : (fs : List Fun) (k : ℕ) → length fs ≤ k → ◌≡◌ {A = List CellComparison} [] (compared_in instruction (slice_get (map fun_of fs) k))
  interp_past [] k l = refl
  interp_past (y ∷ fs) zero l = absurd (omega (arith, l))
  interp_past (y ∷ fs) (suc k) l = interp_past fs k (omega (arith, l))
