-- The conditions under which an evaluation takes place.
use Rattle.std.specs.Prelude.{◌≡◌, ℕ, zero, suc, ◌<◌, List, Option, IfSome, length}
use Rattle.base_trait.specs.Algebra.{Algebra}
use Rattle.abstract_map_laws.specs.Laws.{HasRoom}
use Rattle.spec_ir.specs.Specification.{Spec}
use Rattle.semantics_laws.specs.Accepted.{IsAccepted}
use Rattle.abstract_semantics.specs.CallLaws.{JoinsUnder}
use Rattle.eval_code.specs.Lowered.{IsCodeOf}
use Rattle.eval_code.specs.Views.{code}
use Rattle.support_tail_fixpoint.specs.Activation.{HasTurn}
use Rattle.support_tail_fixpoint.specs.Answer.{IfGives, Yield}
use Rattle.abstract_value_laws.specs.Abs.{Abs}
use Rattle.abstract_value_laws.specs.Fits.{Fits}
use Rattle.support_tail_fixpoint.specs.Groups.{EachIs}
use Rattle.abstract_semantics.specs.Answers.{Answer}
use Rattle.abstract_semantics.specs.Calls.{AreArguments, AreRight}
use Rattle.abstract_semantics.specs.Terms.{GroupArgs}
use Rattle.eval_memo.specs.declared.setting.Setting.{Setting}
use Rattle.eval_memo.specs.Settings.{group_of, spec_of}

-- Each list that is there, from that of function i on, is such as its function has.
abbrev pub EachFrom : {A : Type 0} → (ℕ → A → Type 0) → ℕ → List (Option A) → Type 0
EachFrom P zero xs = EachIs P xs
EachFrom P (suc i) xs = EachFrom (λ k. P (suc k)) i xs

module _ {X W N C : Type 0} (B : Algebra W N C) (cap : ℕ) (s : Setting X W N C) where
  -- This is the specification, it is accepted, the code is its own, and `calls` is its reinterpretation and gives what fits.
  pub record IsReady (spec : Spec) (calls : ℕ → List (Abs W N) → Answer (Abs W N)) : Type 0 where
    pub spec_is : spec ≡ spec_of s
    pub accepted : IsAccepted (spec_of s)
    pub code_is : IsCodeOf (code s.cir.now) (spec_of s)
    pub room : HasRoom B cap
    pub has_turn : HasTurn s.policy
    pub joins : JoinsUnder B s.policy
    pub right : AreRight B s.ctx.now cap (spec_of s) s.at s.policy calls
    pub results : (f : ℕ) (xs : List (Abs W N)) → f < length (spec_of s).funs → AreArguments B s.ctx.now cap (spec_of s) f xs → IfGives (calls f xs) (Fits B s.ctx.now cap)

  -- a list of arguments of function f, which is one of group g
  pub record ArgsOf (g f : ℕ) (xs : List (Abs W N)) : Type 0 where
    pub there : f < length (spec_of s).funs
    pub of_group : group_of s f ≡ g
    pub are : AreArguments B s.ctx.now cap (spec_of s) f xs

  -- Group arguments of group g.
  abbrev pub AreGroupArgs : ℕ → GroupArgs W N → Type 0
  AreGroupArgs g args = EachIs (ArgsOf g) args

  -- What a turn of group g gives fits.
  pub record YieldFits (g : ℕ) (y : Yield (GroupArgs W N) (Abs W N)) : Type 0 where
    pub out : IfSome y.out (Fits B s.ctx.now cap)
    pub next : IfSome y.next (AreGroupArgs g)
