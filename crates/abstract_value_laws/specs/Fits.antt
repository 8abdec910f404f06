-- Values whose words fit their widths.
use Rattle.std.specs.Prelude.{ℕ, Option, Some, None, ⊤}
use Rattle.word_operations.specs.Width.{IsWidth}
use Rattle.base_trait.specs.Algebra.{Algebra}
use Rattle.abstract_map_laws.specs.Maps.{Fits as MapFits}
use Rattle.abstract_value_laws.specs.Abs.{Abs, Cases, Parts, flag, word, made, map, no_case, absent, present, no_part, part}

module _ {W N C : Type 0} (B : Algebra W N C) (c : C) (cap : ℕ) where
  abbrev mutual
    -- each word fits its width, and each map fits
    pub Fits : Abs W N → Type 0
    Fits (flag t) = ⊤
    Fits (word w x) = IsWidth w × B.words.fits c w x
    Fits (made ty cs) = CasesFit cs
    Fits (map m x) = MapFits B c cap x

    pub CasesFit : Cases W N → Type 0
    CasesFit no_case = ⊤
    CasesFit (absent cs) = CasesFit cs
    CasesFit (present xs cs) = PartsFit xs × CasesFit cs

    pub PartsFit : Parts W N → Type 0
    PartsFit no_part = ⊤
    PartsFit (part x xs) = Fits x × PartsFit xs

  abbrev pub CaseFits : Option (Parts W N) → Type 0
  CaseFits None = ⊤
  CaseFits (Some xs) = PartsFit xs
