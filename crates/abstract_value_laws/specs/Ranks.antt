-- Ranks of values with each note counted as 0.
use Rattle.std.specs.Prelude.{ℕ, ◌+◌, [], ⊤}
use Rattle.base_trait.specs.Algebra.{Algebra}
use Rattle.abstract_map_laws.specs.Calls.{rank_of as rank_map}
use Rattle.abstract_map_laws.specs.Maps.{Map}
use Rattle.abstract_value_laws.specs.Abs.{Abs, flag, word, made, map}
use Rattle.abstract_value_laws.specs.Shapes.{Shape, lacks, rank_of}

-- the value is no constructor value
abbrev pub IsLeaf : {W N : Type 0} → Abs W N → Type 0
IsLeaf (made t cs) = ⊥
IsLeaf _ = ⊤

module _ {W N C : Type 0} (B : Algebra W N C) where
  -- the base, with notes that count nothing
  abbrev pub unnoted : Algebra W N C
  unnoted = record { joins = B.joins; words = B.words; notes = record B.notes { rank = λ stamps x. 0; height = λ n. 0 } }

  -- along the shape of its type: what falls where words of the value are widened
  abbrev pub word_rank : ℕ → C → Shape → Abs W N → ℕ
  word_rank cap c = rank_of unnoted cap c []

  abbrev pub map_rank : C → Map W N → ℕ
  map_rank c = rank_map unnoted c []

  -- the same of a value that is no constructor value, whatever its shape
  abbrev pub leaf_rank : C → Abs W N → ℕ
  leaf_rank c (flag t) = lacks t.may_true + lacks t.may_false
  leaf_rank c (word w x) = B.words.rank c w x
  leaf_rank c (made t cs) = 0
  leaf_rank c (map m x) = map_rank c x
