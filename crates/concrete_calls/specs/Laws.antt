-- What holds of values over single numbers, and of calls on them.
use Rattle.std.specs.Prelude.{◌≡◌, ℕ, ◌≤◌, ◌^◌, true, List, [], ◌∷◌, Some, None, slice_get}
use Rattle.base_trait.specs.declared.uses.Stamp.{Stamp}
use Rattle.base_concrete.specs.Meaning.{concrete}
use Rattle.support_tail_fixpoint.specs.declared.policy.Policy.TheVariants.{Stop}
use Rattle.support_tail_fixpoint.specs.Answer.{fails, gives}
use Rattle.spec_ir.specs.Environment.{Environment}
use Rattle.spec_ir.specs.Specification.{Fun, Spec}
use Rattle.semantics_values.specs.Types.{environment_of, have_types as have_concrete_types}
use Rattle.semantics_values.specs.Values.{Val, vals}
use Rattle.semantics.specs.Outcomes as o
use Rattle.semantics.specs.Outcomes.{Outcome}
use Rattle.semantics.specs.Runs.{meaning}
use Rattle.semantics_laws.specs.Accepted.{IsAccepted}
use Rattle.abstract_value_laws.specs.Abs.{Abs, parts}
use Rattle.abstract_value_laws.specs.Describes.{Describes}
use Rattle.abstract_value_laws.specs.Fits.{Fits}
use Rattle.abstract_value_laws.specs.OfValues.{ValueFits, of_value}
use Rattle.abstract_value_laws.specs.Types.{has_type}
use Rattle.abstract_semantics.specs.Answers.{Answer}
use Rattle.abstract_semantics.specs.Calls.{AreArguments}
use Rattle.abstract_semantics.specs.Sound.{IsSingle}
use Rattle.abstract_semantics.specs.CallAnswers.{answers}
use Rattle.concrete_calls.specs.Same.{AreSame}
use Rattle.concrete_calls.specs.Values.{value_in}

-- how many cells a map may list: one for each key
abbrev pub room : ℕ
room = 2 ^ 32

-- The value stands for the concrete one: it describes that, and nothing in it is several.
pub record StandsFor (x : Abs ℕ Stamp) (v : Val) : Type 0 where
  pub describes : Describes concrete [] x v
  pub single : IsSingle x

abbrev pub AllStandFor : List (Abs ℕ Stamp) → List Val → Type 0
AllStandFor [] [] = Unit {0}
AllStandFor (x ∷ xs) (v ∷ vs) = StandsFor x v × AllStandFor xs vs
AllStandFor _ _ = ⊥

-- What stands for a concrete value is the same value.
abbrev pub StandingIsSame : Type 0
StandingIsSame = (x : Abs ℕ Stamp) (v : Val) → StandsFor x v → AreSame (value_in x) v

-- The value of a concrete one stands for it.
abbrev pub ValueStands : Type 0
ValueStands = (env : Environment) (v : Val) → ValueFits env v → StandsFor (of_value concrete tt room env v) v

-- Arguments of a function that stand for concrete ones of the parameters' types.
pub record AreArgumentsFor (spec : Spec) (f : ℕ) (fun : Fun) (xs : List (Abs ℕ Stamp)) (vs : List Val) : Type 0 where
  pub there : slice_get spec.funs f ≡ Some fun
  pub arguments : AreArguments concrete tt room spec f xs
  pub stand : AllStandFor xs vs
  pub typed : have_concrete_types (environment_of spec) (vals vs) fun.params ≡ true

-- The answer of a call of a function is what the direct meaning gives: a value that stands for the meaning's, has the type of the
-- function's result and fits; or it is deep, as the meaning is.
module _ (spec : Spec) (fun : Fun) where
  pub record IsResultFor (x : Abs ℕ Stamp) (v : Val) : Type 0 where
    pub stands : StandsFor x v
    pub typed : has_type (environment_of spec) x fun.result_type ≡ true
    pub fits : Fits concrete tt room x

  abbrev pub IsMeant : Answer (Abs ℕ Stamp) → Outcome Val → Type 0
  IsMeant (fails i) (o.deep j) = i ≡ j
  IsMeant (gives (Some x) log) (o.gives v reads) = IsResultFor x v
  IsMeant _ _ = ⊥

-- Of an accepted specification the answers of calls over single numbers, under a bound on turns, are the direct meaning under that bound.
abbrev pub CallsAreMeant : Type 0
CallsAreMeant =
    (spec : Spec) (a d f : ℕ) (fun : Fun) (xs : List (Abs ℕ Stamp)) (vs : List Val) → IsAccepted spec → 1 ≤ d → AreArgumentsFor spec f fun xs vs
    → IsMeant spec fun (answers concrete tt room spec a (Stop d) f xs) (meaning spec a d f vs [])
