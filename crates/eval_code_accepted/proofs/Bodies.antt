-- The code of a function that is there.
use Rattle.std.proofs.Common.{◌≡◌, ℕ, Option, Some, None, List, length, option_map, slice_get, refl, sym, ap, ◌∙◌, subst, arith}
use Rattle.std.proofs.lemmas.Option.{slice_get-map, same_Some as some_same}
use Rattle.spec_ir.specs.Specification.{Spec, Fun}
use Rattle.semantics.specs.Direct.{group_of}
use Rattle.eval_code.specs.Code.{FunCode}
use Rattle.eval_code.specs.Lowered.{IsCodeOf, lowered_fun, slots_from}
use Rattle.eval_code.specs.Scopes.{InScope}
use Rattle.eval_code.specs.Valid.{IsValid}
use Rattle.eval_code.proofs.Names.{slots_long}
use Rattle.eval_code.proofs.Reading.{below_from, tail_reads}
use Rattle.eval_code_accepted.specs.Laws.{AcceptedCodeIsValid}
use Rattle.eval_code_accepted.proofs.Scoped.{accepted_terms_are_in_scope}

-- the code of a function that is there, or is not
pub code_at : (spec : Spec) (code : List FunCode) (f : ℕ) (o : Option Fun) → IsCodeOf code spec → slice_get spec.funs f ≡ o → slice_get code f ≡ option_map (lowered_fun spec) o
code_at spec code f o is e = ap (λ z. slice_get z f) is ∙ slice_get-map (lowered_fun spec) spec.funs f ∙ ap (option_map (lowered_fun spec)) e

-- the function whose code stands there
pub record BodyOf (spec : Spec) (f : ℕ) (body : FunCode) : Type 0 where
  pub fun : Fun
  pub there : slice_get spec.funs f ≡ Some fun
  pub same : lowered_fun spec fun ≡ body

pub body_of : (spec : Spec) (code : List FunCode) (f : ℕ) (body : FunCode) → IsCodeOf code spec → slice_get code f ≡ Some body → BodyOf spec f body
body_of spec code f body is e = at (slice_get spec.funs f) refl
  where
    at : (o : Option Fun) → slice_get spec.funs f ≡ o → BodyOf spec f body
    at None d = let h = code_at spec code f None is d in absurd cc
    at (Some fun) d = record { fun = fun; there = d; same = some_same (lowered_fun spec fun) body (sym (code_at spec code f (Some fun) is d) ∙ e) }

pub accepted_code_is_valid : AcceptedCodeIsValid
accepted_code_is_valid spec code f body ok is e =
    let found = body_of spec code f body is e in
    let n = length found.fun.params in
    let scope = accepted_terms_are_in_scope spec f found.fun ok found.there in
    subst IsValid found.same (tail_reads (group_of spec) found.fun.group found.fun.core (slots_from 0 n) n (below_from 0 n n (omega arith)) (subst (λ n. InScope n found.fun.core) (sym (slots_long 0 n)) scope))
