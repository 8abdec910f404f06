-- The two ways in which values are merged.
use Rattle.std.specs.Prelude.{ℕ, Option}
use Rattle.base_trait.specs.Algebra.{Algebra}
use Rattle.abstract_map_laws.specs.Maps.{Map}
use Rattle.abstract_map_laws.specs.Calls.{join_of as join_map, widen_of as widen_map}
use Rattle.abstract_value_laws.specs.Abs.{Abs, Cases, Parts}
use Rattle.abstract_value_laws.specs.Calls.{merge_of, merge_case, merge_cases, merge_parts}
use Rattle.abstract_value.specs.declared.way.Way.{Way}
use Rattle.abstract_value.specs.declared.way.Way.TheVariants.{Join, Widen}

module _ {W N C : Type 0} (B : Algebra W N C) (c : C) (cap : ℕ) where
  abbrev pub words_by : Way → ℕ → W → W → W
  words_by Join = B.words.join c
  words_by Widen = B.words.widen c

  abbrev pub maps_by : Way → Map W N → Map W N → Map W N
  maps_by Join = join_map B c cap
  maps_by Widen = widen_map B c

  abbrev pub merged : Way → Abs W N → Abs W N → Abs W N
  merged way = merge_of (words_by way) (maps_by way)

  abbrev pub merged_cases : Way → Cases W N → Cases W N → Cases W N
  merged_cases way = merge_cases (words_by way) (maps_by way)

  abbrev pub merged_parts : Way → Parts W N → Parts W N → Parts W N
  merged_parts way = merge_parts (words_by way) (maps_by way)

  abbrev pub merged_case : Way → Option (Parts W N) → Option (Parts W N) → Option (Parts W N)
  merged_case way = merge_case (words_by way) (maps_by way)
