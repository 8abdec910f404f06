-- Branches of code, the arms that nodes and ends go on with, and what they give.
use Rattle.std.specs.Prelude.{⊤, ℕ, zero, suc, List, [], Option, Some, None, option_and_then, option_map, slice_get}
use Rattle.base_trait.specs.Algebra.{Algebra}
use Rattle.base_trait.specs.Uses.{Seen}
use Rattle.spec_match_compiler.specs.Decisions.{Decision}
use Rattle.spec_ir.specs.Specification.{Spec}
use Rattle.abstract_value_laws.specs.Abs.{Abs}
use Rattle.support_tail_fixpoint.specs.Answer.{Yield, gives}
use Rattle.abstract_semantics.specs.Answers.{Answer, Evaluation}
use Rattle.abstract_semantics.specs.Choices.{flag_there}
use Rattle.abstract_semantics.specs.Terms.{GroupArgs, asked_with}
use Rattle.eval_code.specs.Asks.{AllAskWithin, AsksWithin}
use Rattle.eval_code.specs.Code as code
use Rattle.eval_code.specs.Code.{End, Node, Nodes, Stretch, Stretches, Tail, Tails, no_stretch, no_tail, stretch_then, tail_then}
use Rattle.eval_code_meaning.specs.Meaning as of
use Rattle.eval_memo.specs.declared.setting.Setting.{Setting}
use Rattle.eval_memo.specs.Settings.{join_yields, leaf_of, spec_of}
use Rattle.eval_plans.specs.Plans.{Plan, arm, either, given_plan as plan_gives, planned}

-- a stretch, which gives a value, or a tail, which gives to a turn
pub data Branch : Type 0 where
  stretch_branch : Stretch → Branch
  tail_branch : Tail → Branch

-- those that may follow: all are stretches, or all are tails
pub data Arms : Type 0 where
  stretch_arms : Stretches → Arms
  tail_arms : Tails → Arms

-- the stretches that a node goes on with
abbrev pub arms_of : Node → Stretches
arms_of (code.if_else k x y) = stretch_then x (stretch_then y no_stretch)
arms_of (code.choose x by arms) = arms
arms_of _ = no_stretch

-- the tails that an end goes on with
abbrev pub ways_of : End → Tails
ways_of (code.either k x y) = tail_then x (tail_then y no_tail)
ways_of (code.pick x by arms) = arms
ways_of _ = no_tail

abbrev pub stretch_at : Stretches → ℕ → Option Stretch
stretch_at no_stretch i = None
stretch_at (stretch_then x rest) zero = Some x
stretch_at (stretch_then x rest) (suc i) = stretch_at rest i

abbrev pub tail_at : Tails → ℕ → Option Tail
tail_at no_tail i = None
tail_at (tail_then x rest) zero = Some x
tail_at (tail_then x rest) (suc i) = tail_at rest i

abbrev pub arm_at : Arms → ℕ → Option Branch
arm_at (stretch_arms ss) i = option_map stretch_branch (stretch_at ss i)
arm_at (tail_arms ts) i = option_map tail_branch (tail_at ts i)

-- ---- what may be asked for: n functions are there, and `group` is the group of one
module _ (n : ℕ) (group : ℕ → ℕ) (g : ℕ) where
  abbrev pub BranchAsksWithin : Branch → Type 0
  BranchAsksWithin (stretch_branch x) = ⊤
  BranchAsksWithin (tail_branch t) = AsksWithin n group g t

  abbrev pub ArmsAskWithin : Arms → Type 0
  ArmsAskWithin (stretch_arms ss) = ⊤
  ArmsAskWithin (tail_arms ts) = AllAskWithin n group g ts

-- ---- which arms may follow
-- A node goes on with one of its arms.
abbrev pub IsChoice : Node → Type 0
IsChoice (code.if_else k x y) = ⊤
IsChoice (code.choose x by arms) = ⊤
IsChoice _ = ⊥

-- An end goes on with one of its tails.
abbrev pub GoesOn : End → Type 0
GoesOn (code.either k x y) = ⊤
GoesOn (code.pick x by arms) = ⊤
GoesOn _ = ⊥

-- those that a condition may take, where there is one
abbrev pub condition_plan : {W N : Type 0} → Option (Abs W N) → Option (Plan W N)
condition_plan o = option_map (λ p. either (flag_there (Some p)) (arm 0 []) (arm 1 [])) o

module _ {W N C : Type 0} (B : Algebra W N C) (c : C) where
  -- those that a decision on a value may pick, where there is one
  abbrev pub decision_plan : Option (Abs W N) → Decision → Option (Plan W N)
  decision_plan o by = option_map (λ p. planned B c p by) o

  abbrev pub node_plan : List (Abs W N) → Node → Option (Plan W N)
  node_plan frame (code.if_else k x y) = condition_plan (slice_get frame k)
  node_plan frame (code.choose x by arms) = decision_plan (slice_get frame x) by
  node_plan frame _ = None

  abbrev pub end_plan : List (Abs W N) → End → Option (Plan W N)
  end_plan frame (code.either k x y) = condition_plan (slice_get frame k)
  end_plan frame (code.pick x by arms) = decision_plan (slice_get frame x) by
  end_plan frame _ = None

-- what a call within the group asks for, where all arguments are there
abbrev pub asked_on : {W N : Type 0} → Spec → ℕ → Option (List (Abs W N)) → Option (Yield (GroupArgs W N) (Abs W N))
asked_on spec f o = option_and_then (λ ps. asked_with spec f ps) o

-- ---- what code gives, where the evaluation takes place in a setting: cap is the room of a map, and `on` what calls give
module _ {X W N C : Type 0} (B : Algebra W N C) (cap : ℕ) (on : ℕ → List (Abs W N) → Answer (Abs W N)) (s : Setting X W N C) (frame : List (Abs W N)) where
  abbrev pub value_of_node : Node → List Seen → Answer (Abs W N)
  value_of_node = of.node_value B s.ctx.now cap (spec_of s) s.at on frame

  abbrev pub frame_behind : Nodes → List Seen → Answer (List (Abs W N))
  frame_behind = of.frame_after B s.ctx.now cap (spec_of s) s.at on frame

  abbrev pub value_of_stretch : Stretch → List Seen → Answer (Abs W N)
  value_of_stretch = of.stretch_value B s.ctx.now cap (spec_of s) s.at on frame

  abbrev pub given_tail : Tail → List Seen → Answer (Yield (GroupArgs W N) (Abs W N))
  given_tail = of.tail_turn B s.ctx.now cap (spec_of s) s.at on frame

  abbrev pub given_end : End → List Seen → Answer (Yield (GroupArgs W N) (Abs W N))
  given_end = of.end_turn B s.ctx.now cap (spec_of s) s.at on frame

  -- what a branch gives to a turn: a value is a leaf
  abbrev pub given_branch : Branch → Evaluation (Yield (GroupArgs W N) (Abs W N))
  given_branch (stretch_branch x) l = leaf_of B cap on s (value_of_stretch x l)
  given_branch (tail_branch t) l = given_tail t l

  -- what arm number r gives, behind what its variables name
  abbrev pub given_arm : Arms → ℕ → List (Abs W N) → Evaluation (Yield (GroupArgs W N) (Abs W N))
  given_arm (stretch_arms ss) r vs l = leaf_of B cap on s (of.arm_value B s.ctx.now cap (spec_of s) s.at on frame ss r vs l)
  given_arm (tail_arms ts) r vs l = of.arm_turn B s.ctx.now cap (spec_of s) s.at on frame ts r vs l

  -- what the arms of a plan give
  abbrev pub given_plan : Arms → Plan W N → Evaluation (Yield (GroupArgs W N) (Abs W N))
  given_plan arms p l = plan_gives (join_yields B cap on s) (given_arm arms) p l

  -- where there is a plan
  abbrev pub given_if_planned : Arms → Option (Plan W N) → Evaluation (Yield (GroupArgs W N) (Abs W N))
  given_if_planned arms None l = gives None l
  given_if_planned arms (Some p) l = given_plan arms p l
