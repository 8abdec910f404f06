-- What a reinterpretation gives: an optional value with a log of reads, or a function had no turn left.
use Rattle.std.specs.Prelude.{ℕ, List, [], ◌∷◌, ◌++◌, Option, Some, None, if◌then◌else◌}
use Rattle.base_trait.specs.Uses.{Seen}
use Rattle.base_trait.specs.declared.tri.Tri.{Tri}
use Rattle.support_tail_fixpoint.specs.Answer as r
use Rattle.support_tail_fixpoint.specs.Answer.{fails, gives}
use Rattle.support_tail_fixpoint.specs.Groups.{join_some}

-- The failure is the number of the function that an activation began with which had no turn left.
abbrev pub Answer : Type 0 → Type 0
Answer A = r.Answer ℕ (List Seen) A

-- Where there is no value, what comes later is not evaluated.
infixl 10 ◌>>=◌
abbrev pub ◌>>=◌ : {A B : Type 0} → Answer A → (A → List Seen → Answer B) → Answer B
(fails i) >>= f = fails i
(gives None l) >>= f = gives None l
(gives (Some x) l) >>= f = f x l

-- an answer with reads of its own, behind those before
abbrev pub behind : {A : Type 0} → List Seen → Answer A → Answer A
behind l (fails i) = fails i
behind l (gives x own) = gives x (l ++ own)

-- what follows, on the value if there is one
abbrev pub then_on : {A B : Type 0} → Answer A → (Option A → List Seen → Answer B) → Answer B
then_on (fails i) f = fails i
then_on (gives x l) f = f x l

-- what an evaluation gives from a log on
abbrev pub Evaluation : Type 0 → Type 0
Evaluation A = List Seen → Answer A

module _ {A : Type 0} (j : A → A → A) where
  -- all of several, one after the other, and the join of their values with an earlier one
  abbrev pub joined_from : Option A → List (Evaluation A) → Evaluation A
  joined_from x [] l = gives x l
  joined_from x (f ∷ fs) l = then_on (f l) (λ y l. joined_from (join_some j x y) fs l)

  abbrev pub joined : List (Evaluation A) → Evaluation A
  joined = joined_from None

  -- the branches that a condition may take; one that may be neither has no value
  abbrev pub branches : Tri → Evaluation A → Evaluation A → List (Evaluation A)
  branches t x y = (if t.may_true then x ∷ [] else []) ++ (if t.may_false then y ∷ [] else [])

  abbrev pub branch : Tri → Evaluation A → Evaluation A → Evaluation A
  branch t x y = joined (branches t x y)
