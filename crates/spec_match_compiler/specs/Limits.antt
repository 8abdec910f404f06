-- What code relies on: widths of 1 to 64, and numbers of 32 bits.
use Rattle.std.specs.Prelude.{◌≡◌, ℕ, suc, ◌^◌, ◌<◌, true, Some, List, [], ◌∷◌, length}
use Rattle.word_operations.specs.Width.{IsWidth}
use Rattle.spec_match_compiler.specs.declared.shape.Shape.{Shape}
use Rattle.spec_match_compiler.specs.declared.shape.Shape.TheVariants.{Word}
use Rattle.spec_match_compiler.specs.Patterns.{Pattern, Patterns, case_is, no_pat, pat_then, pats_len}
use Rattle.spec_match_compiler.specs.Shapes.{Types, cases_of, fields_of}
use Rattle.spec_match_compiler.specs.Picks.{Row}
use Rattle.spec_match_compiler.specs.Knowledge.{Knowledge, Parts, unknown, others, case_known, no_part, part_then}
use Rattle.spec_match_compiler.specs.Rule.{can_match}

abbrev pub parts_len : Parts → ℕ
parts_len no_part = 0
parts_len (part_then k ks) = suc (parts_len ks)

abbrev pub ShapeInLimits : Shape → Type 0
ShapeInLimits (Word w) = IsWidth w
ShapeInLimits _ = Unit {0}

abbrev mutual
  pub InLimits : Knowledge → Type 0
  InLimits (unknown s) = ShapeInLimits s
  InLimits (others w ns) = IsWidth w
  InLimits (case_known c ks) = (parts_len ks < 2 ^ 32) × AllInLimits ks
  InLimits _ = Unit {0}

  pub AllInLimits : Parts → Type 0
  AllInLimits no_part = Unit {0}
  AllInLimits (part_then k ks) = InLimits k × AllInLimits ks

abbrev mutual
  pub PatInLimits : Pattern → Type 0
  PatInLimits (case_is c ps) = (pats_len ps < 2 ^ 32) × PatsInLimits ps
  PatInLimits _ = Unit {0}

  pub PatsInLimits : Patterns → Type 0
  PatsInLimits no_pat = Unit {0}
  PatsInLimits (pat_then p ps) = PatInLimits p × PatsInLimits ps

abbrev pub RowsInLimits : List Row → Type 0
RowsInLimits [] = Unit {0}
RowsInLimits (r ∷ rows) = PatInLimits r.1 × RowsInLimits rows

abbrev pub ShapesInLimits : List Shape → Type 0
ShapesInLimits [] = Unit {0}
ShapesInLimits (s ∷ shapes) = ShapeInLimits s × ShapesInLimits shapes

pub record TypesInLimits (types : Types) : Type 0 where
  pub cases : (t : ℕ) → length (cases_of types t) < 2 ^ 32
  pub fields : (t c : ℕ) (shapes : List Shape) → fields_of types t c ≡ Some shapes → length shapes < 2 ^ 32
  pub shapes : (t c : ℕ) (shapes : List Shape) → fields_of types t c ≡ Some shapes → ShapesInLimits shapes

-- The rows that are left can match.
abbrev pub CanAll : List Row → Knowledge → Type 0
CanAll [] k = Unit {0}
CanAll (r ∷ rows) k = (can_match r.1 k ≡ true) × CanAll rows k
