-- How a function ends: with a fault that is passed on, and with a term that was made unless memory ran out.
use Rattle.std.proofs.Common.{◌≡◌, ◌∙◌, Result, Ok, Err, refl, sym, ap, subst}
use Rattle.std.specs.Prelude.{◌≢◌, IfOk, MatchResult}
use Rattle.std.specs.declared.alloc.AllocError.{AllocError}
use Rattle.std.specs.Result.{IsErr, IsErrAnd}
use Rattle.syntax_grammar.specs.declared.rules.RuleFault.{RuleFault}
use Rattle.syntax_grammar.specs.declared.rules.RuleFault.TheVariants.{NoMemory}
use Rattle.syntax_grammar.specs.State.{At}
use Rattle.syntax_grammar.specs.Parsing.{Outcome, GivesBy}

-- a fault that `?` passes on
pub passed : {A B : Type 0} (view : A → B) (outcome : Outcome B) (r : Result A RuleFault) (e : RuleFault) (new : At)
    → IsErr r × IsErrAnd r (λ y. y ≡ e) → (e ≢ NoMemory → outcome ≡ (Err e, new)) → GivesBy view outcome r new
passed view outcome (Ok a) e new h k = let no = h.0 in absurd cc
passed view outcome (Err y) e new h k = subst (λ z. z ≢ NoMemory → outcome ≡ (Err z, new)) (sym h.1) k

-- a term that was made, unless memory ran out
pub given_is : {A B : Type 0} (view : A → B) (outcome : Outcome B) (made : Result A AllocError) (r : Result A RuleFault) (x : B) (new : At)
    → MatchResult made (λ e. r ≡ Ok e) (λ _. r ≡ Err NoMemory) → IfOk made (λ e. view e ≡ x) → outcome ≡ (Ok x, new) → GivesBy view outcome r new
given_is view outcome (Ok e) r x new is seen h = subst (λ o. GivesBy view outcome o new) (sym is) (h ∙ ap (λ v. (Ok v, new)) (sym seen))
given_is view outcome (Err e) r x new is seen h = subst (λ o. GivesBy view outcome o new) (sym is) (λ no. absurd (no refl))

-- want of memory that `?` passes on
pub no_memory : {A B : Type 0} (view : A → B) (outcome : Outcome B) (r : Result A RuleFault) (new : At)
    → IsErr r × IsErrAnd r (λ y. y ≡ NoMemory) → GivesBy view outcome r new
no_memory view outcome r new h = passed view outcome r NoMemory new h (λ no. absurd (no refl))

-- an answer that another rule gives
pub same_as : {A B : Type 0} (view : A → B) (outcome other : Outcome B) (r : Result A RuleFault) (new : At)
    → outcome ≡ other → GivesBy view other r new → GivesBy view outcome r new
same_as view outcome other r new e h = subst (λ o. GivesBy view o r new) (sym e) h
