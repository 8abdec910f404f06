-- Laws of the reinterpretation, over any base.
use Rattle.std.specs.Prelude.{◌≡◌, ℕ, ◌≤◌, true, false, List, [], ◌∷◌, Some, slice_get, IsTrue}
use Rattle.support_tail_fixpoint.specs.declared.policy.Policy.{Policy}
use Rattle.support_tail_fixpoint.specs.declared.policy.Policy.TheVariants.{Stop, Widen}
use Rattle.support_tail_fixpoint.specs.Activation.{HasTurn}
use Rattle.support_tail_fixpoint.specs.Answer.{IfGives, Succeeds}
use Rattle.base_trait.specs.Algebra.{Algebra}
use Rattle.base_trait.specs.Uses.{Read}
use Rattle.base_trait.specs.declared.uses.Stamp.{Stamp}
use Rattle.base_trait.specs.declared.uses.Stamp.TheVariants.{At}
use Rattle.abstract_map_laws.specs.Laws.{HasRoom}
use Rattle.spec_ir.specs.Specification.{Spec, Fun}
use Rattle.semantics_values.specs.Values.{Val, vals}
use Rattle.semantics_values.specs.Types.{environment_of, have_types as have_concrete_types}
use Rattle.semantics.specs.Direct.{run}
use Rattle.semantics_laws.specs.Accepted.{IsAccepted}
use Rattle.abstract_value_laws.specs.Abs.{Abs, parts}
use Rattle.abstract_value_laws.specs.Describes.{Describes, PartsDescribe}
use Rattle.abstract_value_laws.specs.Fits.{Fits}
use Rattle.abstract_value_laws.specs.Shapes.{ListsStamps, PartsList}
use Rattle.abstract_value_laws.specs.Types.{has_type}
use Rattle.abstract_semantics.specs.Answers.{Answer}
use Rattle.abstract_semantics.specs.Calls.{AreArguments, AreRight}
use Rattle.abstract_semantics.specs.Sound.{AreSingle, IsExact, IsSound}

module _ {W N C : Type 0} (B : Algebra W N C) where
  -- Of an accepted specification, calls have a reinterpretation: under `Stop`, and over a base that joins under `Widen`.
  abbrev pub StoppedCallsExist : Type 0
  StoppedCallsExist =
      (spec : Spec) (c : C) (cap a turns : ℕ) → IsAccepted spec → HasRoom B cap → 1 ≤ turns
      → (calls : ℕ → List (Abs W N) → Answer (Abs W N)) × AreRight B c cap spec a (Stop turns) calls

  abbrev pub WidenedCallsExist : Type 0
  WidenedCallsExist =
      (spec : Spec) (c : C) (cap a unroll delay : ℕ) → IsAccepted spec → IsTrue B.joins
      → (calls : ℕ → List (Abs W N) → Answer (Abs W N)) × AreRight B c cap spec a (Widen unroll delay) calls

  -- And one alone, on arguments of the parameters' types that fit.
  abbrev pub CallsAreSettled : Type 0
  CallsAreSettled =
      (spec : Spec) (c : C) (cap a : ℕ) (policy : Policy) (calls others : ℕ → List (Abs W N) → Answer (Abs W N)) (f : ℕ) (xs : List (Abs W N))
      → IsAccepted spec → HasRoom B cap → HasTurn policy → AreRight B c cap spec a policy calls → AreRight B c cap spec a policy others
      → AreArguments B c cap spec f xs → calls f xs ≡ others f xs

  -- A value that a call gives has the type of the function's result, and fits.
  pub record IsResult (c : C) (cap : ℕ) (spec : Spec) (fun : Fun) (x : Abs W N) : Type 0 where
    pub typed : has_type (environment_of spec) x fun.result_type ≡ true
    pub fits : Fits B c cap x

  abbrev pub CallsKeepTypes : Type 0
  CallsKeepTypes =
      (spec : Spec) (c : C) (cap a : ℕ) (policy : Policy) (calls : ℕ → List (Abs W N) → Answer (Abs W N)) (f : ℕ) (fun : Fun) (xs : List (Abs W N))
      → IsAccepted spec → HasRoom B cap → HasTurn policy → AreRight B c cap spec a policy calls → slice_get spec.funs f ≡ Some fun
      → AreArguments B c cap spec f xs → IfGives (calls f xs) (IsResult c cap spec fun)

  -- Under `Widen` no call is too deep.
  abbrev pub WidenedCallsSucceed : Type 0
  WidenedCallsSucceed =
      (spec : Spec) (c : C) (cap a unroll delay : ℕ) (calls : ℕ → List (Abs W N) → Answer (Abs W N)) (f : ℕ) (xs : List (Abs W N))
      → IsAccepted spec → HasRoom B cap → AreRight B c cap spec a (Widen unroll delay) calls
      → AreArguments B c cap spec f xs → Succeeds (calls f xs)

  -- A value that a call gives lists no stamps but those of the arguments and that of the instruction.
  abbrev pub CallsListStamps : Type 0
  CallsListStamps =
      (spec : Spec) (c : C) (cap a : ℕ) (policy : Policy) (calls : ℕ → List (Abs W N) → Answer (Abs W N)) (stamps : List Stamp) (f : ℕ) (xs : List (Abs W N))
      → IsAccepted spec → HasRoom B cap → HasTurn policy → AreRight B c cap spec a policy calls
      → AreArguments B c cap spec f xs → PartsList B (At a ∷ stamps) (parts xs) → IfGives (calls f xs) (ListsStamps B (At a ∷ stamps))

  -- Calls are sound at every bound: over a base that joins, a call under `Widen` on arguments that describe concrete ones of their types in a
  -- valuation has a value that describes that of the direct meaning, whatever bound d on turns this has; and its log covers the reads,
  -- where the base is stamped. Where n is less than calls of other groups go deep, nothing is said.
  abbrev pub CallsAreSound : Type 0
  CallsAreSound =
      (spec : Spec) (c : C) (cap a unroll delay : ℕ) (calls : ℕ → List (Abs W N) → Answer (Abs W N)) (valuation : List ℕ) (d n f : ℕ) (fun : Fun) (xs : List (Abs W N)) (vs : List Val) (m : List Read)
      → IsAccepted spec → IsTrue B.joins → AreRight B c cap spec a (Widen unroll delay) calls
      → slice_get spec.funs f ≡ Some fun → AreArguments B c cap spec f xs → have_concrete_types (environment_of spec) (vals vs) fun.params ≡ true → PartsDescribe B valuation (parts xs) (vals vs)
      → IsSound (IsTrue B.notes.stamped) (Describes B valuation) [] m (calls f xs) (run spec a d n f vs m)

  -- Over a base that does not join, a call under `Stop` on single arguments is the direct meaning under the same bound: it has a value
  -- that describes the meaning's, and covers its reads where the base is stamped; and it is deep exactly where the meaning is, at
  -- the same function.
  abbrev pub CallsAreTheMeaning : Type 0
  CallsAreTheMeaning =
      (spec : Spec) (c : C) (cap a d : ℕ) (calls : ℕ → List (Abs W N) → Answer (Abs W N)) (valuation : List ℕ) (n f : ℕ) (fun : Fun) (xs : List (Abs W N)) (vs : List Val) (m : List Read)
      → IsAccepted spec → B.joins ≡ false → HasRoom B cap → 1 ≤ d → AreRight B c cap spec a (Stop d) calls
      → slice_get spec.funs f ≡ Some fun → AreArguments B c cap spec f xs → AreSingle (parts xs) → have_concrete_types (environment_of spec) (vals vs) fun.params ≡ true → PartsDescribe B valuation (parts xs) (vals vs)
      → IsExact (IsTrue B.notes.stamped) (Describes B valuation) [] m (calls f xs) (run spec a d n f vs m)
