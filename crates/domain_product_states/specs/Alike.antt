-- Values over two bases that differ in their words and notes alone.
use Rattle.std.specs.Prelude.{◌≡◌, ⊤}
use Rattle.abstract_map_laws.specs.Maps.{keys}
use Rattle.abstract_value_laws.specs.Abs.{Abs, Parts, word, map, no_part, part}

module _ {V W M N : Type 0} where
  -- words of one width, or maps of one type that list the same keys
  abbrev pub Alike : Abs V M → Abs W N → Type 0
  Alike (word w x) (word u y) = w ≡ u
  Alike (map m x) (map n y) = (m ≡ n) × (x.width ≡ y.width) × (keys x ≡ keys y)
  Alike _ _ = ⊥

  abbrev pub AreAlike : Parts V M → Parts W N → Type 0
  AreAlike no_part no_part = ⊤
  AreAlike (part x xs) (part y ys) = Alike x y × AreAlike xs ys
  AreAlike _ _ = ⊥
