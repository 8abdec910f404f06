-- Abstract values of states and of their fields.
use Rattle.std.specs.Prelude.{◌≡◌, ℕ, ◌<◌, List, [], ◌∷◌, ⊤}
use Rattle.base_trait.specs.Algebra.{Algebra}
use Rattle.base_trait.specs.Lists.{Each}
use Rattle.abstract_map_laws.specs.Maps.{keys}
use Rattle.abstract_value_laws.specs.Abs.{Abs, Parts, word, made, map, no_case, present, no_part, part}
use Rattle.abstract_value_laws.specs.Fits.{Fits, PartsFit}
use Rattle.domain_laws.specs.declared.field.Field.{Field}
use Rattle.domain_laws.specs.declared.field.Field.TheVariants.{Word, Map}
use Rattle.domain_laws.specs.States.{StateType}

module _ {W N : Type 0} where
  -- The value is one of the field: of its width, and a map that lists keys of its type alone.
  abbrev pub IsOf : Field → Abs W N → Type 0
  IsOf (Word w) (word u x) = u ≡ w
  IsOf (Map m bound width default) (map n x) = (n ≡ m) × (x.width ≡ width) × Each (λ k. k < bound) (keys x)
  IsOf _ _ = ⊥

  -- The values are those of the fields.
  abbrev pub AreOf : List Field → Parts W N → Type 0
  AreOf [] no_part = ⊤
  AreOf (f ∷ fields) (part x xs) = IsOf f x × AreOf fields xs
  AreOf _ _ = ⊥

  -- The value is made by the one constructor of states.
  abbrev pub IsStateForm : StateType → Abs W N → Type 0
  IsStateForm t (made ty (present (part (word w x) xs) no_case)) = (ty ≡ t.number) × (w ≡ 32) × AreOf t.fields xs
  IsStateForm t _ = ⊥

module _ {W N C : Type 0} (B : Algebra W N C) (c : C) (cap : ℕ) where
  -- A value of each field, each of which fits.
  abbrev pub FieldsFit : List Field → Parts W N → Type 0
  FieldsFit fields xs = AreOf fields xs × PartsFit B c cap xs

  -- A value of states that fits.
  abbrev pub IsStateValue : StateType → Abs W N → Type 0
  IsStateValue t x = IsStateForm t x × Fits B c cap x
