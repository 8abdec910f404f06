-- Elements of an affine analysis: submodules of the vectors that begin with 1 and go on with the numbers of k tracked
-- cells.
use Rattle.std.specs.Prelude.{ℕ, ◌+◌, ◌*◌, List, [], ◌∷◌, ◌++◌, ◌≡◌, ◌↔◌}
use Rattle.support_modular_rows.specs.Submodule.{IsMember, Submodule}
use Rattle.fixpoint_theory.specs.Elements.{Elements}
use Rattle.domain_affine_element_laws.specs.Membership.{are_members}
use Rattle.domain_affine_element_laws.specs.Ranks.{rank_of}

-- both lists of rows generate the same members
abbrev pub SameMembers : ℕ → List (List ℕ) → List (List ℕ) → Type 0
SameMembers k rows others = (x : List ℕ) → IsMember k rows x ↔ IsMember k others x

-- the submodule of the rows of both
abbrev pub joined : ℕ → Submodule → Submodule → Submodule
joined k x y = record { k = k; rows = x.rows ++ y.rows }

module _ {S : Type 0} (k : ℕ) (valuation : S → List ℕ) where
  -- A submodule holds of a state where 1 and the numbers of its tracked cells are a member.
  abbrev pub submodules : Elements Submodule S
  submodules = record {
    holds = λ x s. IsMember k x.rows (1 ∷ valuation s);
    fits = λ x. x.k ≡ k;
    same = λ x y. SameMembers k x.rows y.rows;
    join = λ x y. joined k x y;
    widen = λ old new. joined k old new;
    absorbs = λ old new. are_members k old.rows new.rows;
    listed = λ x. [];
    rank = λ stamps x. rank_of k x.rows;
    height = λ n. 32 * (k + 1);
  }
