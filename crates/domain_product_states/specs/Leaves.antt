-- Values that are words and maps.
use Rattle.std.specs.Prelude.{⊤}
use Rattle.abstract_value_laws.specs.Abs.{Abs, Parts, word, map, no_part, part}

module _ {W N : Type 0} where
  abbrev pub IsLeaf : Abs W N → Type 0
  IsLeaf (word w x) = ⊤
  IsLeaf (map m x) = ⊤
  IsLeaf _ = ⊥

  abbrev pub AreLeaves : Parts W N → Type 0
  AreLeaves no_part = ⊤
  AreLeaves (part x xs) = IsLeaf x × AreLeaves xs
