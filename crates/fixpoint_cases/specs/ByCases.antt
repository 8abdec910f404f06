-- An analysis by cases: an element is split before its transfer, and each case goes its own way.
use Rattle.std.specs.Prelude.{◌≡◌, ℕ, zero, suc, List, [], map}
use Rattle.base_trait.specs.Uses.{AreCovering, Read, Seen}
use Rattle.base_trait.specs.declared.uses.Stamp.{Stamp}
use Rattle.fixpoint_theory.specs.Analysis.{Analysis}
use Rattle.fixpoint_theory.specs.Outcome.{AreOfStamps, Outcome}
use Rattle.fixpoint_cases.specs.Cases.{Split, cases}
use Rattle.fixpoint_cases.specs.Sent.{merged, sent_by_cases, unless_many, where_split}

-- What an element's transfer by cases comes to, where it is split at most so many times over: its transfer where it is not split, or where a case
-- has too many targets, and else what the transfers of its cases come to.
abbrev pub case_transfer : {E W S : Type 0} → Analysis E W S → Split E → (List Seen → List Seen) → ℕ → ℕ → E → Outcome E W
case_transfer A split merge zero a x = A.transfer a x
case_transfer A split merge (suc depth) a x =
    where_split (A.transfer a x) (split a x) (unless_many (A.transfer a x) (merged merge (sent_by_cases A.elements (map (A.transfer a) (cases split (suc depth) a x)))))

-- The same analysis with the transfers by cases. Where no element is split, and at depth 0, its transfers are those of the analysis itself.
abbrev pub by_cases : {E W S : Type 0} → Analysis E W S → Split E → (List Seen → List Seen) → ℕ → Analysis E W S
by_cases A split merge depth = record A { transfer = λ a x. case_transfer A split merge depth a x }

-- Merged uses cover what the uses do, and name no other stamp.
pub record MergeLaws (merge : List Seen → List Seen) : Type 0 where
  pub none : merge [] ≡ []
  pub covers : (uses : List Seen) (r : Read) → AreCovering uses r → AreCovering (merge uses) r
  pub stamps : (stamps : List Stamp) (uses : List Seen) → AreOfStamps stamps uses → AreOfStamps stamps (merge uses)
