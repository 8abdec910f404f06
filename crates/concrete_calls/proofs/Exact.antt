-- Calls under a bound on turns meet the direct meaning, and what they give is single.
use Rattle.std.proofs.Common.{◌≡◌, ℕ, zero, suc, ◌<◌, ◌≤◌, true, false, List, [], Some, slice_get, refl, sym, ap, subst, arith, IsTrue}
use Rattle.base_trait.specs.Algebra.{Algebra}
use Rattle.base_trait.specs.Laws.{Laws}
use Rattle.base_trait.specs.Uses.{Read}
use Rattle.abstract_map_laws.specs.Laws.{HasRoom}
use Rattle.spec_ir.specs.Environment.{Signature}
use Rattle.spec_ir.specs.Specification.{Spec, Fun}
use Rattle.semantics_values.specs.Types.{environment_of}
use Rattle.semantics_values.specs.Values.{Val}
use Rattle.semantics.specs.Direct.{group_of}
use Rattle.semantics_laws.specs.Accepted.{IsAccepted}
use Rattle.semantics_laws.proofs.Turns.{FunOf, fun_of}
use Rattle.semantics_laws.specs.CoreDirect.{core_run}
use Rattle.abstract_value_laws.specs.Abs.{Abs}
use Rattle.std.proofs.lemmas.Option.{slice_get_within}
use Rattle.support_tail_fixpoint.specs.declared.policy.Policy.TheVariants.{Stop}
use Rattle.support_tail_fixpoint.specs.Groups.{only as only_of}
use Rattle.support_tail_fixpoint.proofs.Groups.{only_holds, only_is}
use Rattle.abstract_semantics.specs.Answers.{Answer}
use Rattle.abstract_semantics.specs.Calls.{AreRight}
use Rattle.abstract_semantics.specs.Terms.{params_in, params_of}
use Rattle.abstract_semantics.proofs.Called.{all_fine, calls_kept}
use Rattle.abstract_semantics.proofs.ExactCalls.{activation_exact}
use Rattle.abstract_semantics.proofs.Kept.{IsKept}
use Rattle.abstract_semantics.proofs.Meeting.{IsMet}
use Rattle.abstract_semantics.proofs.Plain.{Nothing, keeps_nothing}
use Rattle.abstract_semantics.proofs.Standing.{AllStand, Stands}
use Rattle.abstract_semantics.proofs.Termed.{ArgsOf}
use Rattle.abstract_semantics.proofs.Typed.{AreOf, IsOf, are_fit, are_typed}

module _ {W N C : Type 0} (B : Algebra W N C) (laws : Laws W N C B) (c : C) (cap : ℕ) (spec : Spec) (a : ℕ) (valuation : List ℕ) (single : B.joins ≡ false) (room : HasRoom B cap) (ok : IsAccepted spec) (d : ℕ) (some_turn : 1 ≤ d)
    (calls : ℕ → List (Abs W N) → Answer (Abs W N)) (right : AreRight B c cap spec a (Stop d) calls) where
  kept_below : (n : ℕ) (h : ℕ) (s : Signature) (xs : List (Abs W N)) → ok.rank (group_of spec h) < n → slice_get (environment_of spec).funs h ≡ Some s → AreOf B c cap (environment_of spec) Nothing s.params xs
      → IsKept (Unit {0}) (IsOf B c cap (environment_of spec) Nothing s.result_type) [] (calls h xs)
  kept_below n = calls_kept B laws c cap spec a Nothing (keeps_nothing B c cap (environment_of spec) a) (λ x y h k. tt) room ok (Unit {0}) (Stop d) calls (all_fine B c cap (Stop d)) right n

  pub calls_met : (n f : ℕ) (fun : Fun) (xs : List (Abs W N)) (ps : List Val) (m : List Read) → slice_get spec.funs f ≡ Some fun → AreOf B c cap (environment_of spec) Nothing fun.params xs → AllStand B valuation true xs ps
      → IsMet true (IsTrue B.notes.stamped) (Stands B valuation true) [] m (calls f xs) (core_run spec a d n f ps m)
  calls_met zero f fun xs ps m e h st = tt
  calls_met (suc n) f fun xs ps m e h st =
      let are : AreOf B c cap (environment_of spec) Nothing (params_of spec f) xs = subst (λ ts. AreOf B c cap (environment_of spec) Nothing ts xs) (sym (ap params_in e)) h in
      let here = slice_get_within spec.funs f fun e in
      let answer = right.answered f xs here (record { typed = are_typed B c cap (environment_of spec) Nothing (params_of spec f) xs are; fit = are_fit B c cap (environment_of spec) Nothing (params_of spec f) xs are }) in
      activation_exact B laws c cap spec a valuation single room ok d calls (core_run spec a d n) f fun e (kept_below (ok.rank (group_of spec f)))
      (λ h s ys qs r lt e k sy. at_signature h s ys qs r (fun_of spec h s e) k sy (λ g ys qs r e k sy. calls_met n h g ys qs r e k sy))
      (only_of f xs) (calls f xs) (only_is (ArgsOf B laws c cap spec a Nothing (group_of spec f)) f xs (record { there = here; of_group = refl; are = are })) answer some_turn f ps m
      (record { holds = only_holds (λ xs. AllStand B valuation true xs ps) f xs st; alone = λ t. (xs, refl) })
    where
      at_signature : (h : ℕ) (s : Signature) (ys : List (Abs W N)) (qs : List Val) (r : List Read) → FunOf spec h s → AreOf B c cap (environment_of spec) Nothing s.params ys → AllStand B valuation true ys qs
          → ((g : Fun) (ys : List (Abs W N)) (qs : List Val) (r : List Read) → slice_get spec.funs h ≡ Some g → AreOf B c cap (environment_of spec) Nothing g.params ys → AllStand B valuation true ys qs
          → IsMet true (IsTrue B.notes.stamped) (Stands B valuation true) [] r (calls h ys) (core_run spec a d n h qs r))
          → IsMet true (IsTrue B.notes.stamped) (Stands B valuation true) [] r (calls h ys) (core_run spec a d n h qs r)
      at_signature h s ys qs r g k sy go = go g.fun ys qs r g.is (subst (λ ts. AreOf B c cap (environment_of spec) Nothing ts ys) (ap (λ z. z.params) (sym g.same)) k) sy
