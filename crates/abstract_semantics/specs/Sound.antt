-- What a reinterpretation owes to the direct meaning.
use Rattle.std.specs.Prelude.{◌≡◌, not, List, [], ◌∷◌, Some, None, ⊤}
use Rattle.base_trait.specs.Uses.{Seen, Read, AreCovering}
use Rattle.semantics.specs.Outcomes as v
use Rattle.semantics.specs.Outcomes.{Outcome}
use Rattle.abstract_value_laws.specs.Abs.{Abs, Cases, Parts, flag, word, made, map, no_case, absent, present, no_part, part}
use Rattle.support_tail_fixpoint.specs.Answer.{fails, gives}
use Rattle.abstract_semantics.specs.Answers.{Answer}

-- The log covers each read of the list.
abbrev pub Covered : List Seen → List Read → Type 0
Covered log [] = ⊤
Covered log (r ∷ rs) = AreCovering log r × Covered log rs

-- What one log covers the other does.
abbrev pub Keeps : List Seen → List Seen → Type 0
Keeps old new = (r : Read) → AreCovering old r → AreCovering new r

-- From a log and the reads before to those after, nothing is lost: what covers the log after, and the reads before, covers the
-- reads after, on a base that is stamped.
pub record Follows (stamped : Type 0) (before : List Seen) (reads : List Read) (after : List Seen) (more : List Read) : Type 0 where
  pub keeps : Keeps before after
  pub covers : stamped → (log : List Seen) → Keeps after log → Covered log reads → Covered log more

module _ {A V : Type 0} (stamped : Type 0) (R : A → V → Type 0) where
  -- The answer is a value that stands for this one, and its log covers the reads.
  abbrev pub IsGood : List Seen → List Read → V → List Read → Answer A → Type 0
  IsGood l m n more (fails i) = ⊥
  IsGood l m n more (gives None after) = ⊥
  IsGood l m n more (gives (Some x) after) = R x n × Follows stamped l m after more

  -- Where the direct meaning has a value, the answer is one that stands for it, and covers its reads.
  abbrev pub IsSound : List Seen → List Read → Answer A → Outcome V → Type 0
  IsSound l m answer (v.deep i) = ⊤
  IsSound l m answer v.wrong = ⊤
  IsSound l m answer (v.gives n more) = IsGood l m n more answer

  -- And where that is deep, the answer is so at the same function.
  abbrev pub IsExact : List Seen → List Read → Answer A → Outcome V → Type 0
  IsExact l m answer (v.deep i) = answer ≡ fails i
  IsExact l m answer v.wrong = ⊤
  IsExact l m answer (v.gives n more) = IsGood l m n more answer

-- ---- values over a base that does not join: one truth value a flag, and one constructor
module _ {W N : Type 0} where
  abbrev mutual
    pub IsSingle : Abs W N → Type 0
    IsSingle (flag t) = (t.may_true ≡ not t.may_false)
    IsSingle (word w x) = ⊤
    IsSingle (made t cs) = IsSingleCase cs
    IsSingle (map m x) = ⊤

    pub IsSingleCase : Cases W N → Type 0
    IsSingleCase no_case = ⊥
    IsSingleCase (absent cs) = IsSingleCase cs
    IsSingleCase (present xs cs) = AreSingle xs × AreAbsent cs

    pub AreSingle : Parts W N → Type 0
    AreSingle no_part = ⊤
    AreSingle (part x xs) = IsSingle x × AreSingle xs

    pub AreAbsent : Cases W N → Type 0
    AreAbsent no_case = ⊤
    AreAbsent (absent cs) = AreAbsent cs
    AreAbsent (present xs cs) = ⊥
