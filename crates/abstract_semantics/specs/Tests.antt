-- Whether values fit, as a test.
use Rattle.std.specs.Prelude.{ℕ, ◌^◌, ◌&&◌, Bool, true, length, nat_le, nat_lt}
use Rattle.std.specs.List.{list_all}
use Rattle.base_trait.specs.Algebra.{Algebra}
use Rattle.base_trait.specs.Lists.{ascends_from}
use Rattle.abstract_map_laws.specs.Maps.{Map, keys}
use Rattle.spec_ir.specs.WellFormed.{is_width}
use Rattle.abstract_value_laws.specs.Abs.{Abs, Cases, Parts, flag, word, made, map, no_case, absent, present, no_part, part}

module _ {W N C : Type 0} (B : Algebra W N C) (c : C) (cap : ℕ) where
  abbrev pub words_fit : Map W N → Bool
  words_fit m = B.words.fits_test c m.width m.rest.word && list_all (λ e. B.words.fits_test c m.width e.1.word) m.cells

  abbrev pub keys_fit : Map W N → Bool
  keys_fit m = ascends_from 0 (keys m) && (list_all (λ k. nat_lt k (2 ^ 32)) (keys m) && nat_le (length m.cells) cap)

  abbrev mutual
    pub value_fits : Abs W N → Bool
    value_fits (flag t) = true
    value_fits (word w x) = is_width w && B.words.fits_test c w x
    value_fits (made ty cs) = cases_fit cs
    value_fits (map m x) = is_width x.width && (words_fit x && keys_fit x)

    pub cases_fit : Cases W N → Bool
    cases_fit no_case = true
    cases_fit (absent cs) = cases_fit cs
    cases_fit (present xs cs) = parts_fit xs && cases_fit cs

    pub parts_fit : Parts W N → Bool
    parts_fit no_part = true
    parts_fit (part x xs) = value_fits x && parts_fit xs
