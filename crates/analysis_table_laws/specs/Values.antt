-- Values each of whose maps has a property.
use Rattle.std.specs.Prelude.{ℕ, ⊤}
use Rattle.abstract_map_laws.specs.Maps.{EachCell, Map}
use Rattle.abstract_value_laws.specs.Abs.{Abs, Cases, Parts, flag, word, made, map, no_case, absent, present, no_part, part}

-- by the number of a map type, and the map
module _ {W N : Type 0} (Q : ℕ → Map W N → Type 0) where
  abbrev mutual
    pub MapsAre : Abs W N → Type 0
    MapsAre (flag t) = ⊤
    MapsAre (word w x) = ⊤
    MapsAre (made t cs) = CaseMapsAre cs
    MapsAre (map m x) = Q m x

    pub CaseMapsAre : Cases W N → Type 0
    CaseMapsAre no_case = ⊤
    CaseMapsAre (absent cs) = CaseMapsAre cs
    CaseMapsAre (present xs cs) = PartMapsAre xs × CaseMapsAre cs

    pub PartMapsAre : Parts W N → Type 0
    PartMapsAre no_part = ⊤
    PartMapsAre (part x xs) = MapsAre x × PartMapsAre xs

module _ {W N : Type 0} (F : N → Type 0) where
  -- the note of the rest, and that of each listed cell, has the property
  abbrev pub MapHasNotes : ℕ → Map W N → Type 0
  MapHasNotes m x = EachCell (λ cell. F cell.note) x

  -- so has each note of the value
  abbrev pub HasNotes : Abs W N → Type 0
  HasNotes = MapsAre MapHasNotes

  abbrev pub PartsHaveNotes : Parts W N → Type 0
  PartsHaveNotes = PartMapsAre MapHasNotes
