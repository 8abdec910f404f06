-- Laws of the meaning of code, over any base.
use Rattle.std.specs.Prelude.{◌≡◌, ℕ, Some, List, length}
use Rattle.base_trait.specs.Algebra.{Algebra}
use Rattle.base_trait.specs.Uses.{Seen}
use Rattle.abstract_map_laws.specs.Laws.{HasRoom}
use Rattle.spec_ir.specs.Specification.{Spec, Fun}
use Rattle.semantics.specs.Direct.{group_of}
use Rattle.semantics_laws.specs.Accepted.{IsAccepted}
use Rattle.abstract_value_laws.specs.Abs.{Abs}
use Rattle.support_tail_fixpoint.specs.Groups.{EachIs}
use Rattle.support_tail_fixpoint.specs.declared.policy.Policy.{Policy}
use Rattle.abstract_semantics.specs.Answers.{Answer}
use Rattle.abstract_semantics.specs.Calls.{AreRight}
use Rattle.abstract_semantics.specs.Terms.{GroupArgs, body_turn, group_turn as term_turn, params_of}
use Rattle.eval_code.specs.Code.{FunCode}
use Rattle.eval_code.specs.Lowered.{IsCodeOf, lowered_fun}
use Rattle.eval_code.specs.Scopes.{InScope}
use Rattle.eval_code_meaning.specs.Calls.{AreOfCode}
use Rattle.eval_code_meaning.specs.Meaning.{code_turn, group_turn}

module _ {W N C : Type 0} (B : Algebra W N C) where
  -- The code of a function gives to a turn what its core term gives, whatever calls give, on as many arguments as it has parameters.
  abbrev pub CodeMeansTheSame : Type 0
  CodeMeansTheSame =
      (spec : Spec) (c : C) (cap a : ℕ) (calls : ℕ → List (Abs W N) → Answer (Abs W N)) (fun : Fun) (xs : List (Abs W N)) (l : List Seen)
      → InScope (length fun.params) fun.core → length xs ≡ length fun.params
      → code_turn B c cap spec a calls (Some (lowered_fun spec fun)) xs l ≡ body_turn B c cap spec a calls fun.group (Some fun) xs l

  -- In an accepted specification a turn of a group by its code is the turn by its core terms, whatever calls give, on as many arguments of
  -- each of its functions as this has parameters.
  abbrev pub GroupsMeanTheSame : Type 0
  GroupsMeanTheSame =
      (spec : Spec) (code : List FunCode) (c : C) (cap a : ℕ) (calls : ℕ → List (Abs W N) → Answer (Abs W N)) (g : ℕ) (args : GroupArgs W N) (l : List Seen)
      → IsAccepted spec → IsCodeOf code spec → EachIs (λ f xs. (group_of spec f ≡ g) × (length xs ≡ length (params_of spec f))) args
      → group_turn B c cap spec a calls code args l ≡ term_turn B c cap spec a calls g args l

  -- And calls are what the code means exactly where they are the reinterpretation of the core terms.
  abbrev pub CallsMeanTheSame : Type 0
  CallsMeanTheSame =
      (spec : Spec) (code : List FunCode) (c : C) (cap a : ℕ) (policy : Policy) (calls : ℕ → List (Abs W N) → Answer (Abs W N)) → IsAccepted spec → HasRoom B cap → IsCodeOf code spec
      → (AreOfCode B c cap spec code a policy calls → AreRight B c cap spec a policy calls) × (AreRight B c cap spec a policy calls → AreOfCode B c cap spec code a policy calls)
