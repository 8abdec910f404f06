-- An answer by some calls is one by others that give the same.
use Rattle.std.proofs.Common.{◌≡◌, ℕ, ◌<◌, List, [], Some, None, slice_get}
use Rattle.std.specs.Prelude.{IfSome}
use Rattle.base_trait.specs.Algebra.{Algebra}
use Rattle.base_trait.specs.Laws.{Laws}
use Rattle.base_trait.specs.Uses.{Seen}
use Rattle.abstract_map_laws.specs.Laws.{HasRoom}
use Rattle.spec_ir.specs.declared.ty.Ty.{Ty}
use Rattle.spec_ir.specs.Environment.{Signature}
use Rattle.spec_ir.specs.Specification.{Spec, Fun}
use Rattle.semantics_values.specs.Types.{environment_of}
use Rattle.semantics.specs.Direct.{group_of}
use Rattle.semantics_laws.specs.Accepted.{IsAccepted}
use Rattle.abstract_value_laws.specs.Abs.{Abs}
use Rattle.abstract_value_laws.specs.Calls.{widen_of}
use Rattle.support_tail_fixpoint.specs.Groups.{EachIs, only as only_of}
use Rattle.support_tail_fixpoint.specs.declared.policy.Policy.{Policy}
use Rattle.support_tail_fixpoint.specs.Answer.{IfGives, Yield, fails, gives}
use Rattle.support_tail_fixpoint.specs.Evaluation.{TurnsGive}
use Rattle.support_tail_fixpoint.proofs.Answered.{answers_carry_over}
use Rattle.abstract_semantics.specs.Answers.{Answer}
use Rattle.abstract_semantics.specs.Calls.{IsCallAnswer, moves}
use Rattle.abstract_semantics.specs.Terms.{GroupArgs, group_turn}
use Rattle.abstract_semantics.proofs.AlikeTurns.{group_alike}
use Rattle.abstract_semantics.proofs.Called.{all_fine, keeps_args, keys_fine, right_of, turn_gives}
use Rattle.abstract_semantics.proofs.Kept.{IsKept}
use Rattle.abstract_semantics.proofs.Stepped.{Invariant}
use Rattle.abstract_semantics.proofs.Termed.{ArgsOf, IsYield}
use Rattle.abstract_semantics.proofs.Typed.{AreOf, IsOf}

module _ {W N C : Type 0} (B : Algebra W N C) (laws : Laws W N C B) (c : C) (cap : ℕ) (spec : Spec) (a : ℕ) (P : Abs W N → Type 0) (inv : Invariant B c cap (environment_of spec) a P)
    (widens : (x y : Abs W N) → P x → P y → P (widen_of B c x y)) (room : HasRoom B cap) (ok : IsAccepted spec) (policy : Policy) (calls : ℕ → List (Abs W N) → Answer (Abs W N))
    (f : ℕ) (fun : Fun) (e : slice_get spec.funs f ≡ Some fun)
    (below : (h : ℕ) (s : Signature) (xs : List (Abs W N)) → ok.rank (group_of spec h) < ok.rank (group_of spec f) → slice_get (environment_of spec).funs h ≡ Some s → AreOf B c cap (environment_of spec) P s.params xs
    → IsKept (Unit {0}) (IsOf B c cap (environment_of spec) P s.result_type) [] (calls h xs)) where
  next_fits : (g : ℕ) (ty : Ty) (l : List Seen) (r : Answer (Yield (GroupArgs W N) (Abs W N))) → IsKept (Unit {0}) (IsYield B laws c cap spec a P g ty) l r → IfGives r (λ y. IfSome y.next (EachIs (ArgsOf B laws c cap spec a P g)))
  next_fits g ty l (fails i) h = tt
  next_fits g ty l (gives None m) h = tt
  next_fits g ty l (gives (Some y) m) h = h.0.next

  -- turns on arguments of a group ask for such
  pub asks_fit : TurnsGive (group_turn B c cap spec a calls (group_of spec f)) (EachIs (ArgsOf B laws c cap spec a P (group_of spec f))) (λ y. IfSome y.next (EachIs (ArgsOf B laws c cap spec a P (group_of spec f))))
  asks_fit args l h = next_fits (group_of spec f) fun.result_type l (group_turn B c cap spec a calls (group_of spec f) args l)
      (turn_gives B laws c cap spec a P inv widens room ok (Unit {0}) policy calls (all_fine B c cap policy) f fun e below args h l)

  pub carried : (others : ℕ → List (Abs W N) → Answer (Abs W N))
      → ((h : ℕ) (s : Signature) (xs : List (Abs W N)) → ok.rank (group_of spec h) < ok.rank (group_of spec f) → slice_get (environment_of spec).funs h ≡ Some s → AreOf B c cap (environment_of spec) P s.params xs → calls h xs ≡ others h xs)
      → (xs : List (Abs W N)) (answer : Answer (Abs W N)) → EachIs (ArgsOf B laws c cap spec a P (group_of spec f)) (only_of f xs) → IsCallAnswer B c cap spec a policy calls f xs answer
      → IsCallAnswer B c cap spec a policy others f xs answer
  carried others same xs answer fit is =
      answers_carry_over (EachIs (ArgsOf B laws c cap spec a P (group_of spec f))) (moves B c cap) policy f (group_turn B c cap spec a calls (group_of spec f)) (group_turn B c cap spec a others (group_of spec f))
      (only_of f xs) [] answer (keeps_args B laws c cap spec a P inv widens room ok (group_of spec f)) asks_fit fit
      (λ args l k. group_alike B laws c cap spec a P inv room ok.types (keys_fine spec ok) (Unit {0}) calls others ok.rank (group_of spec f) below same fun.result_type
      (right_of B laws c cap spec a P inv widens room ok f fun e) args k l) is
