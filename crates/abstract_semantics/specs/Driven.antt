-- The answer of an activation, computed turn by turn. For example, where a turn on n gives the leaf n and asks for n - 1 down
-- to 0, under `Stop 3` three turns on 2 give the join of 2, 1 and 0.
use Rattle.std.specs.Prelude.{ℕ, zero, suc, ◌+◌, ◌*◌, true, Option, None}
use Rattle.support_tail_fixpoint.specs.declared.after.After.{After}
use Rattle.support_tail_fixpoint.specs.declared.after.After.TheVariants.{Another, Ended, TooDeep}
use Rattle.support_tail_fixpoint.specs.declared.policy.Policy.{Policy}
use Rattle.support_tail_fixpoint.specs.Activation.{Activation, after_turn}
use Rattle.support_tail_fixpoint.specs.Answer.{Answer, Yield, fails, gives, next_of, out_of}
use Rattle.support_tail_fixpoint.specs.Leaves.{join_leaves}
use Rattle.support_tail_fixpoint.specs.Measure.{turns_left}
use Rattle.support_tail_fixpoint.specs.Moves.{Moves}

-- `turn_on` says what a turn gives, and `deep` is how an activation fails that has no turn left.
module _ {F S A O : Type 0} (m : Moves A O) (deep : F) (turn_on : A → S → Answer F S (Yield A O)) where
  -- what comes of what follows a turn, where `later` comes of another turn and `leaves` are those of all turns so far
  abbrev pub followed : (later : Activation A O → S → Answer F S O) → After A → Option O → S → Answer F S O
  followed later (Another left args) leaves state = later (record { running = true; left = left; args = args; leaves = leaves }) state
  followed later Ended leaves state = gives leaves state
  followed later TooDeep leaves state = fails deep

  -- what comes of a turn that gave this
  abbrev pub turned : (later : Activation A O → S → Answer F S O) → Activation A O → Answer F S (Yield A O) → Answer F S O
  turned later now (fails f) = fails f
  turned later now (gives y state) = followed later (after_turn m now.left now.args (next_of y)) (join_leaves m now.leaves (out_of y)) state

  -- what an activation comes to in so many turns; where they do not do, this says nothing
  abbrev pub driven : ℕ → Activation A O → S → Answer F S O
  driven zero now state = gives None state
  driven (suc turns) now state = turned (driven turns) now (turn_on now.args state)

-- turns that do, where no arguments have a rank above the height
abbrev pub enough_turns : Policy → (height : ℕ) → ℕ
enough_turns policy height = turns_left policy * (height + 1) + height + 1
