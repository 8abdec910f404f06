-- Values over two bases put side by side, and values over a pair of bases taken apart.
use Rattle.std.specs.Prelude.{ℕ, false, List, [], ◌∷◌}
use Rattle.base_trait.specs.Algebra.{Algebra}
use Rattle.base_product.specs.Meaning.{both_allow, paired}
use Rattle.abstract_map_laws.specs.declared.cell.AbstractCell.{AbstractCell}
use Rattle.abstract_map_laws.specs.Calls.{folded}
use Rattle.abstract_map_laws.specs.Keys.{either_key}
use Rattle.abstract_map_laws.specs.Maps.{Map, cell, cells_at, keys}
use Rattle.abstract_value_laws.specs.Abs.{Abs, Cases, Parts, flag, word, made, map, no_case, absent, present, no_part, part}

module _ {V W M N : Type 0} where
  abbrev pub zip_cells : AbstractCell V M → AbstractCell W N → AbstractCell (V × W) (M × N)
  zip_cells x y = record { word = (x.word, y.word); note = (x.note, y.note) }

  -- the keys of either, where a missing cell is that side's rest, at the width of the first
  abbrev pub zipped : Map V M → Map W N → Map (V × W) (M × N)
  zipped x y = record {
    width = x.width;
    rest = zip_cells x.rest y.rest;
    cells = cells_at (either_key (keys x) (keys y)) (λ k. zip_cells (cell x k) (cell y k));
  }

-- the value that describes nothing
abbrev pub nothing : {W N : Type 0} → Abs W N
nothing = flag (record { may_true = false; may_false = false })

-- Values over words V and W, of a pair's context, in maps of at most cap cells. Values of two forms give the one that
-- describes nothing; of one form, widths and types are those of the first.
module _ {V W M N C D : Type 0} (A : Algebra V M C) (B : Algebra W N D) (c : C × D) (cap : ℕ) where
  -- the same, with room for cap cells
  abbrev pub zip_map : Map V M → Map W N → Map (V × W) (M × N)
  zip_map x y = folded (paired A B) c cap (zipped x y)

  abbrev mutual
    -- a flag may be what both allow, and a constructor is there where both have it
    pub zip_value : Abs V M → Abs W N → Abs (V × W) (M × N)
    zip_value (flag t) (flag u) = flag (both_allow t u)
    zip_value (word w x) (word u y) = word w (x, y)
    zip_value (made ty cs) (made tz ds) = made ty (zip_cases cs ds)
    zip_value (map m x) (map n y) = map m (zip_map x y)
    zip_value _ _ = nothing

    pub zip_cases : Cases V M → Cases W N → Cases (V × W) (M × N)
    zip_cases (absent cs) (absent ds) = absent (zip_cases cs ds)
    zip_cases (absent cs) (present ys ds) = absent (zip_cases cs ds)
    zip_cases (present xs cs) (absent ds) = absent (zip_cases cs ds)
    zip_cases (present xs cs) (present ys ds) = present (zip_parts xs ys) (zip_cases cs ds)
    zip_cases _ _ = no_case

    pub zip_parts : Parts V M → Parts W N → Parts (V × W) (M × N)
    zip_parts (part x xs) (part y ys) = part (zip_value x y) (zip_parts xs ys)
    zip_parts _ _ = no_part

-- a value with each word and each note replaced
module _ {V W M N : Type 0} (f : V → W) (g : M → N) where
  abbrev pub mapped_cell : AbstractCell V M → AbstractCell W N
  mapped_cell x = record { word = f x.word; note = g x.note }

  abbrev pub mapped_cells : List (ℕ × AbstractCell V M) → List (ℕ × AbstractCell W N)
  mapped_cells [] = []
  mapped_cells (e ∷ es) = (e.0, mapped_cell e.1) ∷ mapped_cells es

  abbrev pub mapped_map : Map V M → Map W N
  mapped_map m = record { width = m.width; rest = mapped_cell m.rest; cells = mapped_cells m.cells }

  abbrev mutual
    pub mapped_value : Abs V M → Abs W N
    mapped_value (flag t) = flag t
    mapped_value (word w x) = word w (f x)
    mapped_value (made ty cs) = made ty (mapped_cases cs)
    mapped_value (map m x) = map m (mapped_map x)

    pub mapped_cases : Cases V M → Cases W N
    mapped_cases no_case = no_case
    mapped_cases (absent cs) = absent (mapped_cases cs)
    mapped_cases (present xs cs) = present (mapped_parts xs) (mapped_cases cs)

    pub mapped_parts : Parts V M → Parts W N
    mapped_parts no_part = no_part
    mapped_parts (part x xs) = part (mapped_value x) (mapped_parts xs)

-- The parts of a value over pairs: those of each word and of each note.
module _ {V W M N : Type 0} where
  abbrev pub first_map : Map (V × W) (M × N) → Map V M
  first_map = mapped_map (λ x. x.0) (λ x. x.0)

  abbrev pub second_map : Map (V × W) (M × N) → Map W N
  second_map = mapped_map (λ x. x.1) (λ x. x.1)

  abbrev pub first_value : Abs (V × W) (M × N) → Abs V M
  first_value = mapped_value (λ x. x.0) (λ x. x.0)

  abbrev pub second_value : Abs (V × W) (M × N) → Abs W N
  second_value = mapped_value (λ x. x.1) (λ x. x.1)
