-- The test of arguments tells what are arguments of a function.
use Rattle.std.proofs.Common.{◌≡◌, ℕ, ◌<◌, ◌≤◌, Bool, true, false, List, length, Option, Some, None, slice_get, refl, sym, ◌∙◌, arith, IsTrue}
use Rattle.std.specs.Prelude.{◌&&◌, nat_lt}
use Rattle.std.proofs.lemmas.Bool.{false≢true}
use Rattle.std.proofs.lemmas.Bool.Decides.{nat_tests}
use Rattle.base_trait.specs.Algebra.{Algebra}
use Rattle.base_trait.specs.Laws.{Laws}
use Rattle.base_trait.proofs.Tests.{and_both, and_parts}
use Rattle.spec_ir.specs.Specification.{Spec, Fun}
use Rattle.semantics_values.specs.Types.{environment_of}
use Rattle.abstract_value_laws.specs.Abs.{Abs, parts}
use Rattle.abstract_value_laws.specs.Types.{have_types}
use Rattle.abstract_semantics.specs.Calls.{AreArguments}
use Rattle.abstract_semantics.specs.Terms.{params_of}
use Rattle.abstract_semantics.proofs.Plain.{past}
use Rattle.abstract_semantics.specs.Tests.{parts_fit}
use Rattle.abstract_semantics.proofs.Tested.{parts_tell, parts_told}
use Rattle.abstract_semantics.specs.CallAnswers.{are_arguments}

below_told : (m n : ℕ) → IsTrue (nat_lt m n) → m < n
below_told m n h = grind (arith, nat_tests)

below_tell : (m n : ℕ) → m < n → IsTrue (nat_lt m n)
below_tell m n h = grind (arith, nat_tests)

module _ {W N C : Type 0} (B : Algebra W N C) (laws : Laws W N C B) (c : C) (cap : ℕ) (spec : Spec) (f : ℕ) (xs : List (Abs W N)) where
  -- a function that is there, and its arguments
  pub record IsCall : Type 0 where
    pub fun : Fun
    pub is : slice_get spec.funs f ≡ Some fun
    pub args : AreArguments B c cap spec f xs

  abbrev typed_and_fit : Bool
  typed_and_fit = have_types (environment_of spec) (parts xs) (params_of spec f) && parts_fit B c cap (parts xs)

  there : f < length spec.funs → AreArguments B c cap spec f xs → (o : Option Fun) → slice_get spec.funs f ≡ o → IsCall
  there lt args None e = let le = past spec.funs f e in absurd (omega (arith, lt, le))
  there lt args (Some fun) e = record { fun = fun; is = e; args = args }

  pub is_call : are_arguments B c cap spec f xs ≡ true → IsCall
  is_call h =
      let p = and_parts (nat_lt f (length spec.funs)) typed_and_fit h in
      let q = and_parts (have_types (environment_of spec) (parts xs) (params_of spec f)) (parts_fit B c cap (parts xs)) p.1 in
      there (below_told f (length spec.funs) p.0) (record { typed = q.0; fit = parts_told B laws c cap (parts xs) q.1 }) (slice_get spec.funs f) refl

  pub arguments_tell : f < length spec.funs → AreArguments B c cap spec f xs → are_arguments B c cap spec f xs ≡ true
  arguments_tell lt args =
      and_both (nat_lt f (length spec.funs)) typed_and_fit (below_tell f (length spec.funs) lt)
      (and_both (have_types (environment_of spec) (parts xs) (params_of spec f)) (parts_fit B c cap (parts xs)) args.typed (parts_tell B laws c cap (parts xs) args.fit))

  not_true : (b : Bool) → (b ≡ true → ⊥) → b ≡ false
  not_true true h = absurd (h refl)
  not_true false h = refl

  pub missing_tells : length spec.funs ≤ f → are_arguments B c cap spec f xs ≡ false
  missing_tells le = not_true (are_arguments B c cap spec f xs) (λ h.
      let lt = below_told f (length spec.funs) (and_parts (nat_lt f (length spec.funs)) typed_and_fit h).0 in omega (arith, le, lt))

  pub untyped_tells : have_types (environment_of spec) (parts xs) (params_of spec f) ≡ false → are_arguments B c cap spec f xs ≡ false
  untyped_tells e = not_true (are_arguments B c cap spec f xs) (λ h. false≢true (sym e ∙ (is_call h).args.typed))
