-- Tests of the premises of a match: types declared in order, and rows that suit a shape.
use Rattle.std.specs.Prelude.{ℕ, ◌+◌, ◌-◌, ◌/◌, ◌^◌, Bool, true, false, ◌&&◌, nat_lt, nat_le, List, [], ◌∷◌, length, is_some, unwrap_or}
use Rattle.spec_match_compiler.specs.declared.shape.Shape.{Shape}
use Rattle.spec_match_compiler.specs.declared.shape.Shape.TheVariants.{Bool as Flag, Word, Data, Opaque}
use Rattle.spec_match_compiler.specs.Patterns.{Pattern, Patterns, any, bind, flag_is, word_is, case_is, no_pat, pat_then}
use Rattle.spec_match_compiler.specs.Shapes.{Types, fields_of}

-- a shape that a field of type n may have
abbrev pub shape_fits : ℕ → Shape → Bool
shape_fits n Flag = true
shape_fits n (Word w) = nat_le 1 w && nat_le w 64
shape_fits n (Data t) = nat_lt t n
shape_fits n Opaque = true

abbrev pub shapes_fit : ℕ → List Shape → Bool
shapes_fit n [] = true
shapes_fit n (s ∷ shapes) = shape_fits n s && shapes_fit n shapes

abbrev pub cases_fit : ℕ → List (List Shape) → Bool
cases_fit n [] = true
cases_fit n (fields ∷ cases) = (nat_lt (length fields) (2 ^ 32) && shapes_fit n fields) && cases_fit n cases

-- types from number n on
abbrev pub types_fit : ℕ → Types → Bool
types_fit n [] = true
types_fit n (cases ∷ types) = (nat_lt 0 (length cases) && nat_lt (length cases) (2 ^ 32) && cases_fit n cases) && types_fit (n + 1) types

module _ (types : Types) where
  abbrev mutual
    pub pattern_fits : Shape → Pattern → Bool
    pattern_fits s any = true
    pattern_fits s (bind n) = true
    pattern_fits Flag (flag_is b) = true
    pattern_fits (Word w) (word_is n) = nat_le 1 w && nat_le w 64 && nat_le n ((2 ^ 64 - 1) / 2 ^ (64 - w))
    pattern_fits (Data t) (case_is c ps) = is_some (fields_of types t c) && patterns_fit (unwrap_or (fields_of types t c) []) ps
    pattern_fits _ _ = false

    pub patterns_fit : List Shape → Patterns → Bool
    patterns_fit [] no_pat = true
    patterns_fit (s ∷ shapes) (pat_then p ps) = pattern_fits s p && patterns_fit shapes ps
    patterns_fit _ _ = false

  abbrev pub rows_fit : Shape → List Pattern → Bool
  rows_fit s [] = true
  rows_fit s (p ∷ rows) = pattern_fits s p && rows_fit s rows
