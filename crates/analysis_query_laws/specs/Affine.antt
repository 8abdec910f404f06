-- What elements of affine relations tell of claims: sums alone.
use Rattle.std.specs.Prelude.{◌≡◌, ℕ, ◌%◌, ◌^◌, ◌==◌, ◌<◌, Bool, true, false, List, ◌∷◌, length}
use Rattle.std.specs.List.{list_all}
use Rattle.base_trait.specs.Lists.{Each}
use Rattle.support_modular_rows.specs.Submodule.{IsMember, Submodule, dot}
use Rattle.domain_laws.specs.States.{StateType}
use Rattle.domain_affine_laws.specs.Tracked.{tracked_cells}
use Rattle.analysis_query_laws.specs.Answers.{Telling}

-- whether a form is 0 over each row
abbrev pub meets_all : List (List ℕ) → List ℕ → Bool
meets_all rows form = list_all (λ r. dot form r % 2 ^ 32 == 0) rows

abbrev pub affine_tell : StateType → Telling Submodule
affine_tell t = record {
  takes_ranges = false;
  takes_sums = true;
  tracked = tracked_cells t;
  in_range = λ x field key lo hi. false;
  excludes = λ x field key v. false;
  meets = λ x form. meets_all x.rows form;
}

-- The rows describe k numbers of 32 bits: behind 1 they are a member.
pub record IsDescribed (k : ℕ) (rows : List (List ℕ)) (numbers : List ℕ) : Type 0 where
  pub many : length numbers ≡ k
  pub small : Each (λ n. n < 2 ^ 32) numbers
  pub member : IsMember k rows (1 ∷ numbers)
