-- What holds of the turns of a group.
use Rattle.std.specs.Prelude.{◌≡◌, ℕ, ◌<◌, ◌≤◌, List, [], length, ◌↔◌, IsTrue}
use Rattle.base_trait.specs.Algebra.{Algebra}
use Rattle.base_trait.specs.declared.uses.Stamp.{Stamp}
use Rattle.spec_ir.specs.Specification.{Spec}
use Rattle.spec_ir.specs.WellFormed.{IsWellFormed}
use Rattle.semantics_values.specs.Types.{environment_of}
use Rattle.semantics.specs.Direct.{group_of}
use Rattle.abstract_value_laws.specs.Abs.{Abs, parts}
use Rattle.abstract_value_laws.specs.Shapes.{PartsList}
use Rattle.support_tail_fixpoint.specs.Fitting.{WideningLowersRank}
use Rattle.support_tail_fixpoint.specs.Meaning.{ArgsFit}
use Rattle.support_tail_fixpoint.specs.Groups.{EachIs}
use Rattle.abstract_semantics.specs.Calls.{AreArguments}
use Rattle.abstract_semantics.specs.Terms.{GroupArgs}
use Rattle.eval_group_turns.specs.Turning.{turning}

module _ {W N C : Type 0} (B : Algebra W N C) (c : C) (cap : ℕ) (spec : Spec) (stamps : List Stamp) (g : ℕ) where
  -- A list is one of arguments of function f of group g, and lists these stamps alone.
  pub record IsListOf (f : ℕ) (xs : List (Abs W N)) : Type 0 where
    pub there : f < length spec.funs
    pub of_group : group_of spec f ≡ g
    pub are : AreArguments B c cap spec f xs
    pub lists : PartsList B stamps (parts xs)

module _ {W N C : Type 0} (B : Algebra W N C) where
  -- Group arguments fit exactly where each list is one of arguments of its function.
  abbrev pub ArgumentsAreTold : Type 0
  ArgumentsAreTold = (c : C) (cap : ℕ) (spec : Spec) (stamps : List Stamp) (g : ℕ) (args : GroupArgs W N)
      → ArgsFit (turning B c cap spec stamps g) args ↔ EachIs (IsListOf B c cap spec stamps g) args

  -- Over a base that joins, the widening of arguments that do not absorb the new ones lowers their rank.
  abbrev pub WideningLowers : Type 0
  WideningLowers = (c : C) (cap : ℕ) (spec : Spec) (stamps : List Stamp) (g : ℕ) → IsWellFormed (environment_of spec) → IsTrue B.joins
      → WideningLowersRank (turning B c cap spec stamps g).moves (ArgsFit (turning B c cap spec stamps g)) (turning B c cap spec stamps g).rank

  -- No rank is greater than that of no arguments at all.
  abbrev pub RanksAreBounded : Type 0
  RanksAreBounded = (c : C) (cap : ℕ) (spec : Spec) (stamps : List Stamp) (g : ℕ) (args : GroupArgs W N) → IsWellFormed (environment_of spec)
      → ArgsFit (turning B c cap spec stamps g) args → (turning B c cap spec stamps g).rank args ≤ (turning B c cap spec stamps g).rank []
