-- A choice by a decision: the arms that may be picked, joined in the order of the decision.
use Rattle.std.specs.Prelude.{ℕ, zero, suc, ◌^◌, nat_lt, if◌then◌else◌, false, Option, Some, None, List, [], ◌∷◌}
use Rattle.word_operations.specs.declared.kinds.WordComparison.TheVariants.{Eq}
use Rattle.base_trait.specs.Algebra.{Algebra}
use Rattle.base_trait.specs.declared.tri.Tri.{Tri}
use Rattle.spec_match_compiler.specs.Values.{Place}
use Rattle.spec_match_compiler.specs.Decisions.{Decision, Decisions, row, on_case, on_word, on_flag, tree_then}
use Rattle.semantics_laws.specs.Places.{all_of}
use Rattle.abstract_value_laws.specs.Abs.{Abs, Cases, Parts, flag, word, made, no_case, absent, present, no_part, part}
use Rattle.support_tail_fixpoint.specs.Answer.{gives}
use Rattle.abstract_semantics.specs.Answers.{Evaluation, branch, joined}

-- no truth value
abbrev pub neither : Tri
neither = record { may_true = false; may_false = false }

module _ {W N : Type 0} where
  abbrev mutual
    -- what stands at a place of a value
    pub abs_at : Place → Abs W N → Option (Abs W N)
    abs_at [] x = Some x
    abs_at (step ∷ place) (made t cs) = abs_in place step.0 step.1 cs
    abs_at (step ∷ place) _ = None

    -- what stands at a place of field i of constructor k
    pub abs_in : Place → ℕ → ℕ → Cases W N → Option (Abs W N)
    abs_in place k i no_case = None
    abs_in place zero i (absent cs) = None
    abs_in place zero i (present xs cs) = abs_part place i xs
    abs_in place (suc k) i (absent cs) = abs_in place k i cs
    abs_in place (suc k) i (present xs cs) = abs_in place k i cs

    pub abs_part : Place → ℕ → Parts W N → Option (Abs W N)
    abs_part place i no_part = None
    abs_part place zero (part x xs) = abs_at place x
    abs_part place (suc i) (part x xs) = abs_part place i xs

  -- what the variables of a row name
  abbrev pub abs_named : Abs W N → List (ℕ × Place) → Option (List (Abs W N))
  abs_named x binds = all_of (λ b. abs_at b.1 x) binds

  -- the constructors of what stands at a place
  abbrev pub cases_there : Option (Abs W N) → Cases W N
  cases_there (Some (made t cs)) = cs
  cases_there _ = no_case

  -- the truth values that it may be
  abbrev pub flag_there : Option (Abs W N) → Tri
  flag_there (Some (flag t)) = t
  flag_there _ = neither

  -- whether the word there may be, and may not be, a number of its width
  abbrev pub word_there : {C : Type 0} → Algebra W N C → C → Option (Abs W N) → ℕ → Tri
  word_there B c (Some (word w x)) n = if nat_lt n (2 ^ w) then B.words.cmp c Eq w x (B.words.constant c w n) else neither
  word_there B c _ n = neither

-- an arm on what the variables of its row name
abbrev pub arm_on : {A V : Type 0} → (List V → Evaluation A) → Option (List V) → Evaluation A
arm_on arm None l = gives None l
arm_on arm (Some vs) l = arm vs l

-- `arm` is what an arm gives, by its number, on what its variables name.
module _ {W N C A : Type 0} (B : Algebra W N C) (c : C) (j : A → A → A) (arm : ℕ → List (Abs W N) → Evaluation A) (x : Abs W N) where
  abbrev mutual
    pub decided : Decision → Evaluation A
    decided (row r binds) l = arm_on (arm r) (abs_named x binds) l
    decided (on_case at arms) l = joined j (arms_present arms (cases_there (abs_at at x))) l
    decided (on_word at n a b) l = branch j (word_there B c (abs_at at x) n) (decided a) (decided b) l
    decided (on_flag at a b) l = branch j (flag_there (abs_at at x)) (decided a) (decided b) l

    -- those of the constructors that are present, in declared order
    pub arms_present : Decisions → Cases W N → List (Evaluation A)
    arms_present (tree_then t ts) (absent cs) = arms_present ts cs
    arms_present (tree_then t ts) (present xs cs) = decided t ∷ arms_present ts cs
    arms_present _ _ = []
