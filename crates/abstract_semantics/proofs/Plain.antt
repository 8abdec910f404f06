-- Values of calls have the types of results; and under widening no call fails.
use Rattle.std.proofs.Common.{◌≡◌, ℕ, zero, suc, ◌≤◌, true, List, [], ◌∷◌, length, Option, Some, None, option_map, slice_get, refl, sym, ap, subst, ◌∙◌, arith}
use Rattle.std.proofs.lemmas.Bool.{false≢true}
use Rattle.std.proofs.lemmas.Option.{slice_get-map}
use Rattle.spec_match_compiler.proofs.Truth.{and_left, and_right}
use Rattle.base_trait.specs.Algebra.{Algebra}
use Rattle.base_trait.specs.Laws.{Laws}
use Rattle.base_trait.specs.Lists.{Each}
use Rattle.abstract_map_laws.specs.Laws.{HasRoom}
use Rattle.spec_ir.specs.declared.ty.Ty.{Ty}
use Rattle.spec_ir.specs.Environment.{Environment}
use Rattle.spec_ir.specs.Specification.{Spec, Fun}
use Rattle.semantics_values.specs.Types.{environment_of}
use Rattle.semantics.specs.Direct.{group_of}
use Rattle.semantics_laws.specs.Accepted.{IsAccepted}
use Rattle.semantics_laws.proofs.Turns.{signature_of}
use Rattle.abstract_value_laws.specs.Abs.{Abs, parts}
use Rattle.abstract_value_laws.specs.Calls.{widen_of}
use Rattle.abstract_value_laws.specs.Fits.{PartsFit}
use Rattle.abstract_value_laws.specs.Types.{has_type, have_types}
use Rattle.support_tail_fixpoint.specs.declared.policy.Policy.{Policy}
use Rattle.support_tail_fixpoint.specs.declared.policy.Policy.TheVariants.{Widen}
use Rattle.support_tail_fixpoint.specs.Answer.{IfGives, Succeeds, fails, gives}
use Rattle.abstract_semantics.specs.Answers.{Answer}
use Rattle.abstract_semantics.specs.Calls.{AreArguments, AreRight}
use Rattle.abstract_semantics.specs.Laws.{CallsKeepTypes, IsResult, WidenedCallsSucceed}
use Rattle.abstract_semantics.specs.Terms.{params_in}
use Rattle.abstract_semantics.proofs.Called.{FailsFine, all_fine, calls_kept, none_fails}
use Rattle.abstract_semantics.proofs.Kept.{IsKept}
use Rattle.abstract_semantics.proofs.Stepped.{Invariant}
use Rattle.abstract_semantics.proofs.Typed.{AreOf, IsOf}

-- nothing beside types and fitting
abbrev pub Nothing : {W N : Type 0} → Abs W N → Type 0
Nothing x = Unit {0}

pub keeps_nothing : {W N C : Type 0} (B : Algebra W N C) (c : C) (cap : ℕ) (env : Environment) (a : ℕ) → Invariant B c cap env a Nothing
keeps_nothing B c cap env a = record {
  flags = λ t. tt;
  words = λ w x. tt;
  makes = λ d k ts xs h. tt;
  fields = λ place x y h e. tt;
  joins = λ x y h k. tt;
  puts = λ m ty x ks v d b h. tt;
}

pub each_nothing : {W N : Type 0} (xs : List (Abs W N)) → Each Nothing xs
each_nothing [] = tt
each_nothing (x ∷ xs) = (tt, each_nothing xs)

-- what is not there is past the end
pub past : {A : Type 0} (xs : List A) (n : ℕ) → slice_get xs n ≡ None → length xs ≤ n
past [] n e = omega arith
past (x ∷ xs) zero e = absurd cc
past (x ∷ xs) (suc n) e = let h = past xs n e in omega (arith, h)

-- the signature of a function
pub signed : (spec : Spec) (f : ℕ) (fun : Fun) → slice_get spec.funs f ≡ Some fun → slice_get (environment_of spec).funs f ≡ Some (signature_of fun)
signed spec f fun e = slice_get-map signature_of spec.funs f ∙ ap (option_map signature_of) e

module _ {W N C : Type 0} (B : Algebra W N C) (c : C) (cap : ℕ) (P : Abs W N → Type 0) where
  -- values that have types, fit, and have what P says
  pub are_given : (env : Environment) (ts : List Ty) (xs : List (Abs W N)) → have_types env (parts xs) ts ≡ true → PartsFit B c cap (parts xs) → Each P xs → AreOf B c cap env P ts xs
  are_given env [] [] h f k = tt
  are_given env [] (x ∷ xs) h f k = absurd (false≢true h)
  are_given env (t ∷ ts) [] h f k = absurd (false≢true h)
  are_given env (t ∷ ts) (x ∷ xs) h f k = (
    record { has = and_left (has_type env x t) _ h; fits = f.0; also = k.0 },
    are_given env ts xs (and_right (has_type env x t) _ h) f.1 k.1,
  )

  pub are_arguments : (spec : Spec) (f : ℕ) (fun : Fun) (xs : List (Abs W N)) → slice_get spec.funs f ≡ Some fun → AreArguments B c cap spec f xs → Each P xs → AreOf B c cap (environment_of spec) P fun.params xs
  are_arguments spec f fun xs e args k = are_given (environment_of spec) fun.params xs (subst (λ o. have_types (environment_of spec) (parts xs) (params_in o) ≡ true) e args.typed) args.fit k

module _ {W N C : Type 0} (B : Algebra W N C) (laws : Laws W N C B) where
  -- a call on arguments keeps what an invariant says
  pub call_kept : (c : C) (cap : ℕ) (spec : Spec) (a : ℕ) (P : Abs W N → Type 0) → Invariant B c cap (environment_of spec) a P → ((x y : Abs W N) → P x → P y → P (widen_of B c x y)) → HasRoom B cap → IsAccepted spec
      → (Fine : Type 0) (policy : Policy) (calls : ℕ → List (Abs W N) → Answer (Abs W N)) → FailsFine B c cap policy Fine → AreRight B c cap spec a policy calls
      → (f : ℕ) (fun : Fun) (xs : List (Abs W N)) → slice_get spec.funs f ≡ Some fun → AreArguments B c cap spec f xs → Each P xs → IsKept Fine (IsOf B c cap (environment_of spec) P fun.result_type) [] (calls f xs)
  call_kept c cap spec a P inv widens room ok Fine policy calls fails_fine right f fun xs e args k =
      calls_kept B laws c cap spec a P inv widens room ok Fine policy calls fails_fine right (suc (ok.rank (group_of spec f))) f (signature_of fun) xs (omega arith) (signed spec f fun e)
      (are_arguments B c cap P spec f fun xs e args k)

  pub calls_keep_types : CallsKeepTypes B
  calls_keep_types spec c cap a policy calls f fun xs ok room turn right e args =
      result (calls f xs) (call_kept c cap spec a Nothing (keeps_nothing B c cap (environment_of spec) a) (λ x y h k. tt) room ok (Unit {0}) policy calls (all_fine B c cap policy) right f fun xs e args (each_nothing xs))
    where
      result : (r : Answer (Abs W N)) → IsKept (Unit {0}) (IsOf B c cap (environment_of spec) Nothing fun.result_type) [] r → IfGives r (IsResult B c cap spec fun)
      result (fails i) h = tt
      result (gives None l) h = tt
      result (gives (Some x) l) h = record { typed = h.0.has; fits = h.0.fits }

  pub widened_calls_succeed : WidenedCallsSucceed B
  widened_calls_succeed spec c cap a unroll delay calls f xs ok room right args = at (slice_get spec.funs f) refl
    where
      does : (Q : Abs W N → Type 0) (r : Answer (Abs W N)) → IsKept ⊥ Q [] r → Succeeds r
      does Q (fails i) h = h
      does Q (gives x l) h = tt

      at : (o : Option Fun) → slice_get spec.funs f ≡ o → Succeeds (calls f xs)
      at None e = subst Succeeds (sym (right.missing f xs (past spec.funs f e))) tt
      at (Some fun) e = does _ (calls f xs) (call_kept c cap spec a Nothing (keeps_nothing B c cap (environment_of spec) a) (λ x y h k. tt) room ok ⊥ (Widen unroll delay) calls (none_fails B c cap unroll delay) right f fun xs e args (each_nothing xs))
