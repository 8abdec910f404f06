-- Sums are exact where affine relations describe some numbers.
use Rattle.std.proofs.Common.{◌≡◌, ℕ, List, [], ◌∷◌, Some, IsTrue, ◌↔◌, subst}
use Rattle.std.specs.Prelude.{IsSome}
use Rattle.base_trait.specs.Lists.{Each}
use Rattle.support_command_line.specs.declared.bases.BaseName.TheVariants as b
use Rattle.support_modular_rows.specs.Submodule.{Congruent, Submodule, dot}
use Rattle.domain_laws.specs.States.{StateType}
use Rattle.domain_affine_laws.specs.Calls.{cell_count}
use Rattle.domain_affine_laws.specs.Tracked.{tracked_cells}
use Rattle.analysis_query_laws.specs.Affine.{IsDescribed, meets_all}
use Rattle.analysis_query_laws.specs.Answers.{column_of, form_of}
use Rattle.analysis_query_laws.specs.Claims.{Multiple}
use Rattle.analysis_query_laws.proofs.Forms.{forms_are_sums}
use Rattle.analysis_query_laws.proofs.Relations.{sums_are_exact as forms_are_exact}
use Rattle.program_domains.specs.Laws.{SumsAreExact}

module _ (t : StateType) (x relations : Submodule) (c : ℕ) (parts : List Multiple) (some : List ℕ) where
  exact : Some x ≡ Some relations → Each (λ part. IsSome (column_of (tracked_cells t) part.1 part.2)) parts → IsDescribed (cell_count t) relations.rows some
      → IsTrue (meets_all x.rows (form_of (tracked_cells t) c parts))
      ↔ ((numbers : List ℕ) → IsDescribed (cell_count t) relations.rows numbers → Congruent (dot (form_of (tracked_cells t) c parts) (1 ∷ numbers)) 0)
  exact same tracked described =
      let form = form_of (tracked_cells t) c parts in
      let one : relations ≡ x = cc in
      let long = (forms_are_sums (tracked_cells t) c parts (record { pc = 0; parts = [] }) tracked).0 in
      subst (λ (z : Submodule). IsTrue (meets_all z.rows form) ↔ ((numbers : List ℕ) → IsDescribed (cell_count t) relations.rows numbers → Congruent (dot form (1 ∷ numbers)) 0)) one
      (forms_are_exact (cell_count t) relations.rows form some long described)

pub sums_are_exact : SumsAreExact
sums_are_exact t b.Affine x relations at c parts some same tracked described = exact t x relations c parts some same tracked described
sums_are_exact t b.KSetAffine x relations at c parts some same tracked described = exact t x.1 relations c parts some same tracked described
sums_are_exact t b.IntervalAffine x relations at c parts some same tracked described = exact t x.1 relations c parts some same tracked described
sums_are_exact t b.AffineDefUse x relations at c parts some same tracked described = exact t x.0 relations c parts some same tracked described
sums_are_exact t b.StridesAffine x relations at c parts some same tracked described = exact t x.1 relations c parts some same tracked described
sums_are_exact t b.Const x relations at c parts some same tracked described = absurd cc
sums_are_exact t b.KSet x relations at c parts some same tracked described = absurd cc
sums_are_exact t b.Interval x relations at c parts some same tracked described = absurd cc
sums_are_exact t b.DefUse x relations at c parts some same tracked described = absurd cc
sums_are_exact t b.ConstInterval x relations at c parts some same tracked described = absurd cc
sums_are_exact t b.KSetInterval x relations at c parts some same tracked described = absurd cc
sums_are_exact t b.KSetDefUse x relations at c parts some same tracked described = absurd cc
sums_are_exact t b.IntervalDefUse x relations at c parts some same tracked described = absurd cc
sums_are_exact t b.Bits x relations at c parts some same tracked described = absurd cc
sums_are_exact t b.KSetBits x relations at c parts some same tracked described = absurd cc
sums_are_exact t b.IntervalBits x relations at c parts some same tracked described = absurd cc
sums_are_exact t b.BitsDefUse x relations at c parts some same tracked described = absurd cc
sums_are_exact t b.Strides x relations at c parts some same tracked described = absurd cc
sums_are_exact t b.StridesDefUse x relations at c parts some same tracked described = absurd cc
