-- What the evaluator answers is what the direct meaning gives.
use Rattle.std.proofs.Common.{◌≡◌, ℕ, zero, suc, ◌≤◌, List, [], ◌∷◌, Option, Some, None, Result, Ok, Err, option_map, refl, sym, ap, subst, ◌∙◌, arith}
use Rattle.base_trait.specs.Uses.{Seen}
use Rattle.base_trait.specs.declared.uses.Stamp.{Stamp}
use Rattle.base_concrete.specs.declared.Concrete.{Concrete}
use Rattle.base_concrete.specs.Meaning.{concrete}
use Rattle.support_tail_fixpoint.specs.declared.policy.Policy.TheVariants.{Stop}
use Rattle.support_tail_fixpoint.specs.Answer.{fails, gives}
use Rattle.spec_ir.specs.Specification.{Fun, Spec}
use Rattle.semantics_values.specs.Values.{Val}
use Rattle.semantics.specs.Outcomes as o
use Rattle.semantics.specs.Outcomes.{Outcome}
use Rattle.semantics.specs.Runs.{meaning}
use Rattle.semantics_laws.specs.Accepted.{IsAccepted}
use Rattle.abstract_value_laws.specs.Abs.{Abs}
use Rattle.abstract_value.specs.View.{abs}
use Rattle.abstract_value.specs.declared.value.AbstractValue.{AbstractValue}
use Rattle.abstract_semantics.specs.Answers.{Answer, behind}
use Rattle.abstract_semantics.specs.CallAnswers.{answers}
use Rattle.eval_memo.specs.Given.{Gives}
use Rattle.eval_memo.specs.declared.error.EvalError.{EvalError}
use Rattle.eval_memo.specs.declared.error.EvalError.TheVariants as e
use Rattle.concrete_calls.specs.Laws as values
use Rattle.concrete_calls.specs.Laws.{AreArgumentsFor, IsMeant, room}
use Rattle.concrete_calls.proofs.Meant.{calls_are_meant}
use Rattle.concrete_calls.specs.declared.outcome.CallResult.{CallResult}
use Rattle.concrete_calls.specs.declared.outcome.CallResult.TheVariants.{OutOfFuel, Done}
use Rattle.concrete_calls.specs.Calls.{IsCall, IsMeantBy}

-- an answer behind no reads
behind_none : (old : List Seen) (r : Answer (Abs ℕ Stamp)) → old ≡ [] → behind old r ≡ r
behind_none old (fails i) e = refl
behind_none old (gives x own) e = ap (λ l. behind l (gives x own)) e

module _ (spec : Spec) (a d f : ℕ) (xs : List (Abs ℕ Stamp)) (ok : IsAccepted spec) (some : 1 ≤ d) (r : Result (Option (AbstractValue Concrete ℕ Stamp (Unit {0}))) EvalError) (log old : List Seen) (empty : old ≡ [])
    (gave : Gives abs r log (behind old (answers concrete tt room spec a (Stop d) f xs))) where
  answer_is : Gives abs r log (answers concrete tt room spec a (Stop d) f xs)
  answer_is = subst (Gives abs r log) (behind_none old (answers concrete tt room spec a (Stop d) f xs) empty) gave

  -- the call has a value
  pub done : (x : AbstractValue Concrete ℕ Stamp (Unit {0})) → r ≡ Ok (Some x) → (fun : Fun) (vs : List Val) → AreArgumentsFor spec f fun xs vs → IsMeantBy spec fun (Done x) (meaning spec a d f vs [])
  done x is fun vs args =
      let answer : answers concrete tt room spec a (Stop d) f xs ≡ gives (Some (abs x)) log = subst (λ r. Gives abs r log (answers concrete tt room spec a (Stop d) f xs)) is answer_is in
      at (meaning spec a d f vs []) (subst (λ z. IsMeant spec fun z (meaning spec a d f vs [])) answer (calls_are_meant spec a d f fun xs vs ok some args))
    where
      at : (out : Outcome Val) → IsMeant spec fun (gives (Some (abs x)) log) out → IsMeantBy spec fun (Done x) out
      at (o.deep i) h = h
      at o.wrong h = h
      at (o.gives v reads) h = h

  -- it has none: never
  pub none : r ≡ Ok None → IsCall spec f xs → ⊥
  none is call =
      let answer : answers concrete tt room spec a (Stop d) f xs ≡ gives None log = subst (λ r. Gives abs r log (answers concrete tt room spec a (Stop d) f xs)) is answer_is in
      subst (λ z. IsMeant spec call.function z (meaning spec a d f call.values [])) answer (calls_are_meant spec a d f call.function xs call.values ok some call.are)

  -- it is deep
  pub deep : (i : ℕ) → r ≡ Err (e.OutOfFuel i) → (fun : Fun) (vs : List Val) → AreArgumentsFor spec f fun xs vs → IsMeantBy spec fun OutOfFuel (meaning spec a d f vs [])
  deep i is fun vs args =
      let answer : answers concrete tt room spec a (Stop d) f xs ≡ fails i = subst (λ r. Gives abs r log (answers concrete tt room spec a (Stop d) f xs)) is answer_is in
      at (meaning spec a d f vs []) (subst (λ z. IsMeant spec fun z (meaning spec a d f vs [])) answer (calls_are_meant spec a d f fun xs vs ok some args))
    where
      at : (out : Outcome Val) → IsMeant spec fun (fails i) out → IsMeantBy spec fun OutOfFuel out
      at (o.deep j) h = tt
      at o.wrong h = h
      at (o.gives v reads) h = h
