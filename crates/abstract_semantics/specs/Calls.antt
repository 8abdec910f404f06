-- The reinterpretation of calls: what functions give whose activations go by the rule of turns.
use Rattle.std.specs.Prelude.{◌≡◌, ℕ, ◌<◌, ◌≤◌, Bool, true, false, ◌&&◌, List, [], ◌∷◌, None, length}
use Rattle.support_tail_fixpoint.specs.declared.policy.Policy.{Policy}
use Rattle.support_tail_fixpoint.specs.Answer.{gives}
use Rattle.support_tail_fixpoint.specs.Moves.{Moves}
use Rattle.support_tail_fixpoint.specs.Evaluation.{IsAnswer}
use Rattle.base_trait.specs.Algebra.{Algebra}
use Rattle.spec_ir.specs.Specification.{Spec}
use Rattle.semantics_values.specs.Types.{environment_of}
use Rattle.semantics.specs.Direct.{group_of}
use Rattle.abstract_value_laws.specs.Abs.{Abs, parts}
use Rattle.abstract_value_laws.specs.Calls.{join_of, widen_of, absorbs_of}
use Rattle.abstract_value_laws.specs.Fits.{PartsFit}
use Rattle.abstract_value_laws.specs.Types.{have_types}
use Rattle.abstract_semantics.specs.Answers.{Answer}
use Rattle.support_tail_fixpoint.specs.Groups.{group_moves, only}
use Rattle.abstract_semantics.specs.Terms.{GroupArgs, params_of, merge_all, group_turn}

abbrev pub all_absorb : {A : Type 0} → (A → A → Bool) → List A → List A → Bool
all_absorb f (x ∷ xs) (y ∷ ys) = f x y && all_absorb f xs ys
all_absorb f _ _ = true

-- how results of an activation, and arguments of one function, are joined, widened and compared
abbrev pub list_moves : {W N C : Type 0} → Algebra W N C → C → ℕ → Moves (List (Abs W N)) (Abs W N)
list_moves B c cap = record {
  join_out = join_of B c cap;
  join_args = merge_all (join_of B c cap);
  widen_args = merge_all (widen_of B c);
  absorbs = all_absorb (absorbs_of B c);
}

-- the same of group arguments, function by function
abbrev pub moves : {W N C : Type 0} → Algebra W N C → C → ℕ → Moves (GroupArgs W N) (Abs W N)
moves B c cap = group_moves (list_moves B c cap)

module _ {W N C : Type 0} (B : Algebra W N C) (c : C) (cap : ℕ) (spec : Spec) where
  -- Arguments of a function: they have the types of its parameters, and fit.
  pub record AreArguments (f : ℕ) (xs : List (Abs W N)) : Type 0 where
    pub typed : have_types (environment_of spec) (parts xs) (params_of spec f) ≡ true
    pub fit : PartsFit B c cap (parts xs)

  module _ (a : ℕ) (policy : Policy) where
    -- The answer is that of an activation that begins with function f, where calls of other groups give what `calls` says.
    abbrev pub IsCallAnswer : (calls : ℕ → List (Abs W N) → Answer (Abs W N)) → ℕ → List (Abs W N) → Answer (Abs W N) → Type 0
    IsCallAnswer calls f args answer = IsAnswer f (group_turn B c cap spec a calls (group_of spec f)) (moves B c cap) policy (only f args) [] answer

    -- `calls` is the reinterpretation of the functions: each call of one on arguments that are its has the answer of an activation,
    -- from an empty log. Calls of a function that is missing, and on arguments of other types, have no value.
    pub record AreRight (calls : ℕ → List (Abs W N) → Answer (Abs W N)) : Type 0 where
      pub missing : (f : ℕ) (args : List (Abs W N)) → length spec.funs ≤ f → calls f args ≡ gives None []
      pub untyped : (f : ℕ) (args : List (Abs W N)) → have_types (environment_of spec) (parts args) (params_of spec f) ≡ false → calls f args ≡ gives None []
      pub answered : (f : ℕ) (args : List (Abs W N)) → f < length spec.funs → AreArguments f args → IsCallAnswer calls f args (calls f args)
