-- Declared types, and which values and patterns have a shape.
use Rattle.std.specs.Prelude.{◌≡◌, ℕ, ◌^◌, ◌<◌, ◌≤◌, Option, Some, List, [], ◌∷◌, length, slice_get, unwrap_or}
use Rattle.word_operations.specs.Width.{IsWidth}
use Rattle.spec_match_compiler.specs.declared.shape.Shape.{Shape}
use Rattle.spec_match_compiler.specs.declared.shape.Shape.TheVariants.{Bool as Flag, Word, Data, Opaque}
use Rattle.spec_match_compiler.specs.Values.{Value, Values, flag, word, made, thing, no_value, value_then}
use Rattle.spec_match_compiler.specs.Patterns.{Pattern, Patterns, any, bind, flag_is, word_is, case_is, no_pat, pat_then}

-- types by their numbers, their constructors by theirs, and the shapes of the fields of each
abbrev pub Types : Type 0
Types = List (List (List Shape))

-- the constructors of type t
abbrev pub cases_of : Types → ℕ → List (List Shape)
cases_of types t = unwrap_or (slice_get types t) []

-- the fields of constructor c of type t, where it is one
abbrev pub fields_of : Types → ℕ → ℕ → Option (List Shape)
fields_of types t c = slice_get (cases_of types t) c

module _ (types : Types) where
  abbrev mutual
    pub HasShape : Shape → Value → Type 0
    HasShape Flag (flag b) = Unit {0}
    HasShape (Word w) (word n) = n < 2 ^ w
    HasShape (Data t) (made c vs) = (shapes : List Shape) × (fields_of types t c ≡ Some shapes) × HaveShapes shapes vs
    HasShape Opaque (thing n) = Unit {0}
    HasShape _ _ = ⊥

    pub HaveShapes : List Shape → Values → Type 0
    HaveShapes [] no_value = Unit {0}
    HaveShapes (s ∷ shapes) (value_then v vs) = HasShape s v × HaveShapes shapes vs
    HaveShapes _ _ = ⊥

  abbrev mutual
    -- A pattern that may stand where values have a shape.
    pub Suits : Shape → Pattern → Type 0
    Suits s any = Unit {0}
    Suits s (bind n) = Unit {0}
    Suits Flag (flag_is b) = Unit {0}
    Suits (Word w) (word_is n) = n < 2 ^ w
    Suits (Data t) (case_is c ps) = (shapes : List Shape) × (fields_of types t c ≡ Some shapes) × AllSuit shapes ps
    Suits _ _ = ⊥

    pub AllSuit : List Shape → Patterns → Type 0
    AllSuit [] no_pat = Unit {0}
    AllSuit (s ∷ shapes) (pat_then p ps) = Suits s p × AllSuit shapes ps
    AllSuit _ _ = ⊥

  -- A shape names a type, by its number, or has a width of 1 to 64.
  abbrev pub IsShape : Shape → Type 0
  IsShape (Word w) = IsWidth w
  IsShape (Data t) = t < length types
  IsShape _ = Unit {0}

  abbrev pub AreShapes : List Shape → Type 0
  AreShapes [] = Unit {0}
  AreShapes (s ∷ shapes) = IsShape s × AreShapes shapes

  -- A shape of lower rank: that of a type where each type has a rank.
  abbrev pub RanksBelow : (ℕ → ℕ) → ℕ → List Shape → Type 0
  RanksBelow rank n [] = Unit {0}
  RanksBelow rank n (Data t ∷ shapes) = (rank t < n) × RanksBelow rank n shapes
  RanksBelow rank n (_ ∷ shapes) = RanksBelow rank n shapes

  -- Declared types.
  pub record AreTypes : Type 0 where
    -- each type has a constructor, and their numbers are of 32 bits
    pub some_case : (t : ℕ) → t < length types → 1 ≤ length (cases_of types t)
    pub cases : (t : ℕ) → length (cases_of types t) < 2 ^ 32
    -- so are the numbers of fields
    pub fields : (t c : ℕ) (shapes : List Shape) → fields_of types t c ≡ Some shapes → length shapes < 2 ^ 32
    pub shapes : (t c : ℕ) (shapes : List Shape) → fields_of types t c ≡ Some shapes → AreShapes shapes
    -- no type contains itself, directly or through others: types have ranks that fall
    pub rank : ℕ → ℕ
    pub falls : (t c : ℕ) (shapes : List Shape) → fields_of types t c ≡ Some shapes → RanksBelow rank (rank t) shapes
