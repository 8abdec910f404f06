-- The ranks of arguments: what falls where group arguments are widened.
use Rattle.std.specs.Prelude.{ℕ, ◌+◌, List, [], ◌∷◌, length}
use Rattle.base_trait.specs.Algebra.{Algebra}
use Rattle.base_trait.specs.declared.uses.Stamp.{Stamp}
use Rattle.spec_ir.specs.declared.ty.Ty.{Ty}
use Rattle.spec_ir.specs.Specification.{Spec}
use Rattle.semantics_values.specs.Types.{environment_of}
use Rattle.abstract_value_laws.specs.Abs.{Abs}
use Rattle.abstract_value_laws.specs.Shapes.{height_of, rank_of}
use Rattle.abstract_value_laws.specs.TypeShapes.{shape_of}
use Rattle.support_tail_fixpoint.specs.Ranks.{ranks}
use Rattle.abstract_semantics.specs.Terms.{GroupArgs, params_of}

module _ {W N C : Type 0} (B : Algebra W N C) (c : C) (cap : ℕ) (spec : Spec) (stamps : List Stamp) where
  -- the rank of an argument list, along the types of parameters, and the most that it can be
  abbrev pub args_rank : List Ty → List (Abs W N) → ℕ
  args_rank (t ∷ ts) (x ∷ xs) = rank_of B cap c stamps (shape_of (environment_of spec) t) x + args_rank ts xs
  args_rank _ _ = 0

  abbrev pub args_height : List Ty → ℕ
  args_height [] = 0
  args_height (t ∷ ts) = height_of B cap (length stamps) (shape_of (environment_of spec) t) + args_height ts

  abbrev pub group_rank : GroupArgs W N → ℕ
  group_rank = ranks (λ f xs. args_rank (params_of spec f) xs) (λ f. args_height (params_of spec f)) (length spec.funs)
