-- What an evaluation gives.
use Rattle.std.specs.Prelude.{ℕ, List, [], ◌∷◌, ◌++◌, Option, Some, None, true, false}
use Rattle.base_trait.specs.Uses.{Read}
use Rattle.semantics_values.specs.Values.{Val, flag}

-- A value with the reads of map cells that were seen, in their order; or a function had no turn left, in an
-- activation that began with the function of this number; or the term has no type.
pub data Outcome (A : Type 0) : Type 0 where
  deep : ℕ → Outcome A
  wrong : Outcome A
  gives : A → List Read → Outcome A

infixl 10 ◌>>=◌
abbrev pub ◌>>=◌ : {A B : Type 0} → Outcome A → (A → List Read → Outcome B) → Outcome B
(deep i) >>= f = deep i
wrong >>= f = wrong
(gives x l) >>= f = f x l

-- what is there, with the reads so far
abbrev pub given : {A : Type 0} → Option A → List Read → Outcome A
given None l = wrong
given (Some x) l = gives x l

-- a number that was read, with the reads so far and its own
abbrev pub seen : {A : Type 0} → Option (A × Read) → List Read → Outcome A
seen None l = wrong
seen (Some x) l = gives x.0 (l ++ x.1 ∷ [])

-- the branch that a truth value takes
abbrev pub branch : {A : Type 0} → Val → Outcome A → Outcome A → Outcome A
branch (flag true) x y = x
branch (flag false) x y = y
branch _ x y = wrong
