-- What the turns of a group of functions are made of.
use Rattle.std.specs.Prelude.{ℕ, Bool, ◌&&◌, ◌==◌, nat_lt, List, ◌∷◌, length}
use Rattle.base_trait.specs.Algebra.{Algebra}
use Rattle.base_trait.specs.declared.uses.Stamp.{Stamp}
use Rattle.base_trait.specs.declared.uses.Stamp.TheVariants.{At}
use Rattle.spec_ir.specs.Specification.{Spec}
use Rattle.semantics_values.specs.Types.{environment_of}
use Rattle.semantics.specs.Direct.{group_of}
use Rattle.abstract_value_laws.specs.Abs.{Abs, parts}
use Rattle.abstract_value_laws.specs.Types.{have_types}
use Rattle.support_tail_fixpoint.specs.Meaning.{Meaning}
use Rattle.support_tail_fixpoint.specs.Groups.{each_passes}
use Rattle.abstract_semantics.specs.Calls.{moves}
use Rattle.abstract_semantics.specs.Terms.{GroupArgs, params_of}
use Rattle.abstract_semantics.specs.Ranks.{group_rank}
use Rattle.abstract_semantics.specs.OwnStamps.{part_stamps}
use Rattle.abstract_semantics.specs.Tests.{parts_fit, value_fits}
use Rattle.eval_group_turns.specs.Listing.{parts_list}

-- the stamps of an activation that began with these arguments, by the instruction at an address
abbrev pub stamps_from : {W N C : Type 0} → Algebra W N C → ℕ → List (Abs W N) → List Stamp
stamps_from B a origin = At a ∷ part_stamps B (parts origin)

module _ {W N C : Type 0} (B : Algebra W N C) (c : C) (cap : ℕ) (spec : Spec) (stamps : List Stamp) (g : ℕ) where
  -- whether a list may be one of arguments of function f: that is one of group g, and the values have the types of its parameters, fit, and list
  -- these stamps alone
  abbrev pub may_be_of : ℕ → List (Abs W N) → Bool
  may_be_of f xs =
      nat_lt f (length spec.funs)
      && (group_of spec f == g && (have_types (environment_of spec) (parts xs) (params_of spec f) && (parts_fit B c cap (parts xs) && parts_list B stamps (parts xs))))

  -- the turns of group g
  abbrev pub turning : Meaning (GroupArgs W N) (Abs W N)
  turning = record {
    moves = moves B c cap;
    fits_args = each_passes may_be_of;
    fits_out = value_fits B c cap;
    rank = group_rank B c cap spec stamps;
  }
