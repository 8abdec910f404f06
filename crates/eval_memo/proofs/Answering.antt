-- Results that are answers.
use Rattle.std.proofs.Common.{◌≡◌, ◌++◌, ℕ, List, Option, Some, None, Result, Ok, Err, option_map, refl, ap, subst}
use Rattle.std.specs.Prelude.{IfOk, IfSome}
use Rattle.std.specs.Result.{IsErr, IsErrAnd}
use Rattle.base_trait.specs.Uses.{Seen}
use Rattle.support_tail_fixpoint.specs.Answer.{IfGives, fails, gives}
use Rattle.abstract_semantics.specs.Answers.{Answer, behind}
use Rattle.eval_memo.specs.Given.{Gives}
use Rattle.eval_memo.specs.declared.error.EvalError.{EvalError}
use Rattle.eval_memo.specs.declared.error.EvalError.TheVariants as e

same_value : {A : Type 0} (r : Answer A) (x y : Option A) (l m : List Seen) → r ≡ gives x l → r ≡ gives y m → x ≡ y
same_value r x y l m h k = cc

viewed : {V A : Type 0} (view : V → A) (P : A → Type 0) (v : Option V) → IfSome (option_map view v) P → IfSome v (λ x. P (view x))
viewed view P None h = tt
viewed view P (Some v) h = h

-- what an answer behind a log gives is such
pub behind_is : {V A : Type 0} (view : V → A) (P : A → Type 0) (r : Result (Option V) EvalError) (l log : List Seen) (answer : Answer A) → Gives view r log (behind l answer) → IfGives answer P → IfOk r (λ o. IfSome o (λ x. P (view x)))
behind_is view P (Ok v) l log (gives x own) h k = viewed view P v (subst (λ o. IfSome o P) (same_value (gives x (l ++ own)) x (option_map view v) (l ++ own) log refl h) k)
behind_is view P (Ok v) l log (fails i) h k = absurd cc
behind_is view P (Err er) l log answer h k = tt

-- an error that is passed on
pub passed : {V U A D : Type 0} (view : V → A) (other : U → D) (er : EvalError) (log m : List Seen) (answer : Answer A) (later : Answer D) → Gives view (Err er) log answer → ((i : ℕ) → answer ≡ fails i → later ≡ fails i) → Gives other (Err er) m later
passed view other (e.OutOfFuel i) log m answer later h k = k i h
passed view other e.NoMemory log m answer later h k = tt

-- and what an answer gives
pub gave_fits : {V A : Type 0} (view : V → A) (P : A → Type 0) (v : Option V) (log : List Seen) (answer : Answer A) → answer ≡ gives (option_map view v) log → IfGives answer P → IfSome v (λ x. P (view x))
gave_fits view P v log (gives x own) h k = viewed view P v (subst (λ o. IfSome o P) (same_value (gives x own) x (option_map view v) own log refl h) k)
gave_fits view P v log (fails i) h k = absurd cc

-- an error that `?` passes on
pub err_is : {A E : Type 0} (r : Result A E) (x : E) → IsErr r × IsErrAnd r (λ y. y ≡ x) → r ≡ Err x
err_is (Ok a) x h = let no = h.0 in absurd cc
err_is (Err y) x h = ap (λ z. Err z) h.1
