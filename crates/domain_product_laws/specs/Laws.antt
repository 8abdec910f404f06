-- What holds of values over two bases put side by side, and of the parts of a value over a pair.
use Rattle.std.specs.Prelude.{◌≡◌, ℕ, List}
use Rattle.base_trait.specs.Algebra.{Algebra}
use Rattle.base_trait.specs.declared.uses.Stamp.{Stamp}
use Rattle.base_product.specs.Meaning.{paired}
use Rattle.abstract_map_laws.specs.Cells.{Held}
use Rattle.abstract_map_laws.specs.Laws.{HasRoom}
use Rattle.abstract_map_laws.specs.Maps as maps
use Rattle.abstract_map_laws.specs.Maps.{EachCell, Map}
use Rattle.semantics_values.specs.Values.{Val}
use Rattle.abstract_value_laws.specs.Abs.{Abs}
use Rattle.abstract_value_laws.specs.Describes.{Describes}
use Rattle.abstract_value_laws.specs.Fits.{Fits}
use Rattle.abstract_value_laws.specs.Shapes.{HasShape, ListsStamps, Shape}
use Rattle.domain_laws.specs.States.{StateType}
use Rattle.domain_laws.specs.Values.{IsStateValue}
use Rattle.domain_product_laws.specs.Calls.{first_map, first_value, second_map, second_value, zip_map, zip_value}

module _ {V W M N C D : Type 0} (A : Algebra V M C) (B : Algebra W N D) where
  -- ---- maps

  -- Two maps put side by side describe what both describe.
  abbrev pub ZipMapDescribes : Type 0
  ZipMapDescribes = (c : C × D) (cap : ℕ) (valuation : List ℕ) (f : ℕ → Held) (x : Map V M) (y : Map W N)
      → maps.Fits A c.0 cap x → maps.Fits B c.1 cap y → x.width ≡ y.width
      → maps.Describes A valuation f x → maps.Describes B valuation f y → maps.Describes (paired A B) valuation f (zip_map A B c cap x y)

  abbrev pub ZipMapFits : Type 0
  ZipMapFits = (c : C × D) (cap : ℕ) (x : Map V M) (y : Map W N) → HasRoom (paired A B) cap
      → maps.Fits A c.0 cap x → maps.Fits B c.1 cap y → x.width ≡ y.width → maps.Fits (paired A B) c cap (zip_map A B c cap x y)

  -- What a map of pairs describes both parts describe.
  abbrev pub MapPartsDescribe : Type 0
  MapPartsDescribe = (valuation : List ℕ) (f : ℕ → Held) (m : Map (V × W) (M × N)) → maps.Describes (paired A B) valuation f m
      → maps.Describes A valuation f (first_map m) × maps.Describes B valuation f (second_map m)

  abbrev pub MapPartsFit : Type 0
  MapPartsFit = (c : C × D) (cap : ℕ) (m : Map (V × W) (M × N)) → maps.Fits (paired A B) c cap m
      → maps.Fits A c.0 cap (first_map m) × maps.Fits B c.1 cap (second_map m)

  -- ---- values

  -- Two values of one shape put side by side describe what both describe.
  abbrev pub ZipDescribes : Type 0
  ZipDescribes = (c : C × D) (cap : ℕ) (valuation : List ℕ) (v : Val) (s : Shape) (x : Abs V M) (y : Abs W N)
      → Fits A c.0 cap x → Fits B c.1 cap y → HasShape s x → HasShape s y
      → Describes A valuation x v → Describes B valuation y v → Describes (paired A B) valuation (zip_value A B c cap x y) v

  abbrev pub ZipFits : Type 0
  ZipFits = (c : C × D) (cap : ℕ) (s : Shape) (x : Abs V M) (y : Abs W N) → HasRoom (paired A B) cap
      → Fits A c.0 cap x → Fits B c.1 cap y → HasShape s x → HasShape s y → Fits (paired A B) c cap (zip_value A B c cap x y)

  abbrev pub ZipShapes : Type 0
  ZipShapes = (c : C × D) (cap : ℕ) (s : Shape) (x : Abs V M) (y : Abs W N) → HasShape s x → HasShape s y → HasShape s (zip_value A B c cap x y)

  -- What is listed is listed by a part.
  abbrev pub ZipLists : Type 0
  ZipLists = (c : C × D) (cap : ℕ) (stamps : List Stamp) (x : Abs V M) (y : Abs W N)
      → ListsStamps A stamps x → ListsStamps B stamps y → ListsStamps (paired A B) stamps (zip_value A B c cap x y)

  -- What a value over pairs describes both parts describe.
  abbrev pub PartsDescribe : Type 0
  PartsDescribe = (valuation : List ℕ) (v : Val) (x : Abs (V × W) (M × N)) → Describes (paired A B) valuation x v
      → Describes A valuation (first_value x) v × Describes B valuation (second_value x) v

  abbrev pub PartsFit : Type 0
  PartsFit = (c : C × D) (cap : ℕ) (x : Abs (V × W) (M × N)) → Fits (paired A B) c cap x
      → Fits A c.0 cap (first_value x) × Fits B c.1 cap (second_value x)

  abbrev pub PartsList : Type 0
  PartsList = (stamps : List Stamp) (x : Abs (V × W) (M × N)) → ListsStamps (paired A B) stamps x
      → ListsStamps A stamps (first_value x) × ListsStamps B stamps (second_value x)

  -- ---- values of states

  abbrev pub ZipIsState : Type 0
  ZipIsState = (c : C × D) (cap : ℕ) (t : StateType) (x : Abs V M) (y : Abs W N) → HasRoom (paired A B) cap
      → IsStateValue A c.0 cap t x → IsStateValue B c.1 cap t y → IsStateValue (paired A B) c cap t (zip_value A B c cap x y)

  abbrev pub PartsAreStates : Type 0
  PartsAreStates = (c : C × D) (cap : ℕ) (t : StateType) (x : Abs (V × W) (M × N)) → IsStateValue (paired A B) c cap t x
      → IsStateValue A c.0 cap t (first_value x) × IsStateValue B c.1 cap t (second_value x)

-- The parts of a value have its shape.
abbrev pub PartsShape : Type 0 → Type 0 → Type 0 → Type 0 → Type 0
PartsShape V W M N = (s : Shape) (x : Abs (V × W) (M × N)) → HasShape s x → HasShape s (first_value x) × HasShape s (second_value x)
