-- The joins of what several branches give.
use Rattle.std.specs.Prelude.{List, [], ◌∷◌, Option}
use Rattle.support_tail_fixpoint.specs.Groups.{join_some}
use Rattle.support_tail_fixpoint.specs.Answer.{gives}
use Rattle.abstract_semantics.specs.Answers.{Answer, then_on}

module _ {A : Type 0} (j : A → A → A) where
  -- from the last one on
  abbrev pub join_all : List (Option A) → Option A → Option A
  join_all [] y = y
  join_all (x ∷ xs) y = join_some j x (join_all xs y)

  -- what comes last, joined behind others
  abbrev pub joined_behind : List (Option A) → Answer A → Answer A
  joined_behind xs r = then_on r (λ y l. gives (join_all xs y) l)
