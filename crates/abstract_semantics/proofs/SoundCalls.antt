-- Calls under widening describe the direct meaning at every bound on its turns.
use Rattle.std.proofs.Common.{◌≡◌, ℕ, zero, suc, ◌<◌, inl, Bool, false, List, [], ◌∷◌, length, Some, None, slice_get, refl, sym, ap, subst, arith, IsTrue}
use Rattle.base_trait.specs.Algebra.{Algebra}
use Rattle.base_trait.specs.Laws.{Laws}
use Rattle.base_trait.specs.Uses.{Seen}
use Rattle.spec_ir.specs.Environment.{Signature}
use Rattle.spec_ir.specs.Specification.{Spec, Fun}
use Rattle.semantics_values.specs.Types.{environment_of}
use Rattle.semantics.specs.Direct.{group_of}
use Rattle.abstract_value_laws.specs.Abs.{Abs, parts}
use Rattle.support_tail_fixpoint.specs.Groups.{only as only_of}
use Rattle.support_tail_fixpoint.proofs.Groups.{only_is}
use Rattle.support_tail_fixpoint.specs.Answer.{gives}
use Rattle.abstract_semantics.specs.Answers.{Answer}
use Rattle.abstract_semantics.specs.Terms.{group_turn, params_in, params_of}
use Rattle.abstract_semantics.proofs.Kept.{IsKept}
use Rattle.abstract_semantics.proofs.Typed.{IsOf, AreOf, are_typed}
use Rattle.base_trait.specs.Uses.{Read}
use Rattle.semantics.specs.Outcomes as o
use Rattle.semantics.specs.Outcomes.{Outcome, ◌>>=◌ as ◌>>>>◌}
use Rattle.semantics_values.specs.Values.{Val, vals}
use Rattle.abstract_semantics.proofs.Meeting.{IsMet}
use Rattle.abstract_semantics.proofs.Standing.{AllStand, Stands}
use Rattle.std.proofs.lemmas.Option.{slice_get_within}
use Rattle.semantics_laws.proofs.Turns.{FunOf, fun_of}
use Rattle.support_tail_fixpoint.proofs.Groups.{only_holds}
use Rattle.abstract_semantics.proofs.Termed.{ArgsOf}
use Rattle.support_tail_fixpoint.specs.declared.policy.Policy.TheVariants.{Widen}
use Rattle.support_tail_fixpoint.specs.Evaluation.{IsAnswer}
use Rattle.semantics_laws.specs.Accepted.{IsAccepted}
use Rattle.semantics_laws.specs.CoreDirect.{core_turns}
use Rattle.support_tail_fixpoint.specs.Answer.{fails}
use Rattle.abstract_semantics.specs.Calls.{AreRight, moves}
use Rattle.abstract_semantics.proofs.Plain.{Nothing, keeps_nothing}
use Rattle.abstract_semantics.proofs.Called.{none_fails}
use Rattle.semantics.specs.Direct.{run}
use Rattle.semantics_laws.specs.CoreDirect.{core_run}
use Rattle.semantics_laws.proofs.SameRuns.{cores_mean_the_same}
use Rattle.abstract_value_laws.specs.Describes.{Describes, PartsDescribe}
use Rattle.abstract_semantics.specs.Laws.{CallsAreSound}
use Rattle.abstract_semantics.specs.Sound.{AreSingle}
use Rattle.abstract_semantics.proofs.Called.{calls_kept}
use Rattle.abstract_semantics.proofs.Meeting.{sound_if}
use Rattle.abstract_semantics.proofs.Plain.{are_arguments, each_nothing, signed}
use Rattle.abstract_semantics.proofs.Typed.{are_fit}
use Rattle.abstract_semantics.proofs.Activating.{activation_sound}

module _ {W N C : Type 0} (B : Algebra W N C) (laws : Laws W N C B) (c : C) (cap : ℕ) (spec : Spec) (a : ℕ) (valuation : List ℕ) (joins : IsTrue B.joins) (ok : IsAccepted spec) (unroll delay : ℕ)
    (calls : ℕ → List (Abs W N) → Answer (Abs W N)) (right : AreRight B c cap spec a (Widen unroll delay) calls) where
  kept_below : (n : ℕ) (h : ℕ) (s : Signature) (xs : List (Abs W N)) → ok.rank (group_of spec h) < n → slice_get (environment_of spec).funs h ≡ Some s → AreOf B c cap (environment_of spec) Nothing s.params xs
      → IsKept ⊥ (IsOf B c cap (environment_of spec) Nothing s.result_type) [] (calls h xs)
  kept_below n = calls_kept B laws c cap spec a Nothing (keeps_nothing B c cap (environment_of spec) a) (λ x y h k. tt) (inl joins) ok ⊥ (Widen unroll delay) calls (none_fails B c cap unroll delay) right n

  arguments_are : (f : ℕ) (fun : Fun) (xs : List (Abs W N)) → slice_get spec.funs f ≡ Some fun → AreOf B c cap (environment_of spec) Nothing fun.params xs → AreOf B c cap (environment_of spec) Nothing (params_of spec f) xs
  arguments_are f fun xs e h = subst (λ ts. AreOf B c cap (environment_of spec) Nothing ts xs) (sym (ap params_in e)) h

  calls_met : (d n f : ℕ) (fun : Fun) (xs : List (Abs W N)) (ps : List Val) (m : List Read) → slice_get spec.funs f ≡ Some fun → AreOf B c cap (environment_of spec) Nothing fun.params xs → AllStand B valuation false xs ps
      → IsMet false (IsTrue B.notes.stamped) (Stands B valuation false) [] m (calls f xs) (core_run spec a d n f ps m)
  calls_met d zero f fun xs ps m e h st = tt
  calls_met d (suc n) f fun xs ps m e h st = by (calls f xs) refl
      (kept_below (suc (ok.rank (group_of spec f))) f _ xs (omega arith) (signed spec f fun e) h)
      (λ h s ys qs r lt e k sy. at_signature h s ys qs r (fun_of spec h s e) k sy (λ g ys qs r e k sy. calls_met d n h g ys qs r e k sy))
    where
      at_signature : (h : ℕ) (s : Signature) (ys : List (Abs W N)) (qs : List Val) (r : List Read) → FunOf spec h s → AreOf B c cap (environment_of spec) Nothing s.params ys → AllStand B valuation false ys qs
          → ((g : Fun) (ys : List (Abs W N)) (qs : List Val) (r : List Read) → slice_get spec.funs h ≡ Some g → AreOf B c cap (environment_of spec) Nothing g.params ys → AllStand B valuation false ys qs
          → IsMet false (IsTrue B.notes.stamped) (Stands B valuation false) [] r (calls h ys) (core_run spec a d n h qs r))
          → IsMet false (IsTrue B.notes.stamped) (Stands B valuation false) [] r (calls h ys) (core_run spec a d n h qs r)
      at_signature h s ys qs r g k sy go = go g.fun ys qs r g.is (subst (λ ts. AreOf B c cap (environment_of spec) Nothing ts ys) (ap (λ z. z.params) (sym g.same)) k) sy

      are : AreOf B c cap (environment_of spec) Nothing (params_of spec f) xs
      are = arguments_are f fun xs e h

      here : f < length spec.funs
      here = slice_get_within spec.funs f fun e

      by : (r : Answer (Abs W N)) → calls f xs ≡ r → IsKept ⊥ (IsOf B c cap (environment_of spec) Nothing fun.result_type) [] (calls f xs)
          → ((h : ℕ) (s : Signature) (ys : List (Abs W N)) (qs : List Val) (r : List Read) → ok.rank (group_of spec h) < ok.rank (group_of spec f) → slice_get (environment_of spec).funs h ≡ Some s → AreOf B c cap (environment_of spec) Nothing s.params ys
          → AllStand B valuation false ys qs → IsMet false (IsTrue B.notes.stamped) (Stands B valuation false) [] r (calls h ys) (core_run spec a d n h qs r))
          → IsMet false (IsTrue B.notes.stamped) (Stands B valuation false) [] m (calls f xs) (core_turns spec a (core_run spec a d n) f d f ps m)
      by (fails i) is k below = absurd (subst (IsKept ⊥ (IsOf B c cap (environment_of spec) Nothing fun.result_type) []) is k)
      by (gives leaves last) is k below =
          let answer = right.answered f xs here (record { typed = are_typed B c cap (environment_of spec) Nothing (params_of spec f) xs are; fit = are_fit B c cap (environment_of spec) Nothing (params_of spec f) xs are }) in
          subst (λ r. IsMet false (IsTrue B.notes.stamped) (Stands B valuation false) [] m r (core_turns spec a (core_run spec a d n) f d f ps m)) (sym is)
          (activation_sound B laws c cap spec a valuation joins ok unroll delay calls (core_run spec a d n) f fun e (kept_below (ok.rank (group_of spec f))) (λ h s ys qs r lt e k sy. below h s ys qs r lt e k sy)
          (only_of f xs) (only_is (ArgsOf B laws c cap spec a Nothing (group_of spec f)) f xs (record { there = here; of_group = refl; are = are })) leaves last
          (subst (IsAnswer f (group_turn B c cap spec a calls (group_of spec f)) (moves B c cap) (Widen unroll delay) (only_of f xs) []) is answer)
          d f ps m (record { holds = only_holds (λ xs. AllStand B valuation false xs ps) f xs st; alone = λ t. absurd cc }))

-- ---- arguments that describe
pub all_stand : {W N C : Type 0} (B : Algebra W N C) (valuation : List ℕ) (exact : Bool) (xs : List (Abs W N)) (ps : List Val) → (IsTrue exact → AreSingle (parts xs)) → PartsDescribe B valuation (parts xs) (vals ps) → AllStand B valuation exact xs ps
all_stand B valuation exact [] [] s h = tt
all_stand B valuation exact [] (p ∷ ps) s h = absurd h
all_stand B valuation exact (x ∷ xs) [] s h = absurd h
all_stand B valuation exact (x ∷ xs) (p ∷ ps) s h = (record { describes = h.0; single = λ t. (s t).0 }, all_stand B valuation exact xs ps (λ t. (s t).1) h.1)

-- what stands for a value describes it
pub met_describes : {W N C : Type 0} (B : Algebra W N C) (valuation : List ℕ) (exact : Bool) (l : List Seen) (m : List Read) (r : Answer (Abs W N)) (x : Outcome Val) → IsMet exact (IsTrue B.notes.stamped) (Stands B valuation exact) l m r x
    → IsMet exact (IsTrue B.notes.stamped) (Describes B valuation) l m r x
met_describes B valuation exact l m r (o.deep i) h = h
met_describes B valuation exact l m r o.wrong h = tt
met_describes B valuation exact l m (fails i) (o.gives n more) h = h
met_describes B valuation exact l m (gives None k) (o.gives n more) h = h
met_describes B valuation exact l m (gives (Some x) k) (o.gives n more) h = (h.0.describes, h.1)

pub calls_are_sound : {W N C : Type 0} (B : Algebra W N C) → Laws W N C B → CallsAreSound B
calls_are_sound B laws spec c cap a unroll delay calls valuation d n f fun xs vs m ok joins right e args typed h =
    let are = are_arguments B c cap Nothing spec f fun xs e args (each_nothing xs) in
    let met = calls_met B laws c cap spec a valuation joins ok unroll delay calls right d n f fun xs vs m e are (all_stand B valuation false xs vs (λ t. absurd cc) h) in
    sound_if (IsTrue B.notes.stamped) (Describes B valuation) [] m (calls f xs) (run spec a d n f vs m)
    (subst (IsMet false (IsTrue B.notes.stamped) (Describes B valuation) [] m (calls f xs)) (cores_mean_the_same spec a d n f fun vs m ok e typed) (met_describes B valuation false [] m (calls f xs) (core_run spec a d n f vs m) met))
