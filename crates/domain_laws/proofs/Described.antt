-- What words and cells that are given describe.
use Rattle.std.proofs.Common.{◌≡◌, ℕ, ◌<◌, List, refl, sym, subst, arith, IsTrue, pow_pos}
use Rattle.std.specs.Prelude.{◌^◌}
use Rattle.word_operations.specs.Width.{IsWidth}
use Rattle.base_trait.specs.Algebra.{Algebra}
use Rattle.base_trait.specs.Laws.{Laws}
use Rattle.base_trait.specs.declared.uses.Stamp.TheVariants as stamp
use Rattle.abstract_map_laws.specs.Cells.{CellDescribes, Held}
use Rattle.semantics_values.specs.declared.entry.GivenNumber.{GivenNumber}
use Rattle.semantics_values.specs.declared.entry.GivenNumber.TheVariants.{One, Any, Range}
use Rattle.semantics.specs.Entries.{IsGiven, one_number}
use Rattle.domain_laws.specs.Entries.{GivenFits}
use Rattle.domain_laws.specs.Entry.{given, given_cell}

-- a cell that the entry gives
pub record IsEntryHeld (w : ℕ) (g : GivenNumber) (h : Held) : Type 0 where
  pub stamp : h.stamp ≡ stamp.Entry
  pub number : h.number < 2 ^ w
  pub of_given : IsGiven g h.number

-- one of the numbers that are given
pub one_fits : (w : ℕ) (g : GivenNumber) → GivenFits w g → one_number g < 2 ^ w
one_fits w (One v) h = h
one_fits w Any h = pow_pos w
one_fits w (Range lo hi) h = let order = h.0 in let bound = h.1 in omega (arith, order, bound)

pub one_given : (w : ℕ) (g : GivenNumber) → GivenFits w g → IsGiven g (one_number g)
one_given w (One v) h = refl
one_given w Any h = tt
one_given w (Range lo hi) h = (omega arith, h.0)

pub one_held : (w : ℕ) (g : GivenNumber) → GivenFits w g → IsEntryHeld w g (record { number = one_number g; stamp = stamp.Entry })
one_held w g h = record { stamp = refl; number = one_fits w g h; of_given = one_given w g h }

module _ {W N C : Type 0} (B : Algebra W N C) (L : Laws W N C B) (c : C) where
  pub given_fits : (w : ℕ) (g : GivenNumber) → IsWidth w → GivenFits w g → B.words.fits c w (given B c w g)
  given_fits w (One v) ok h = L.words.constant_fits c w v ok h
  given_fits w Any ok h = L.words.any_fits c w ok
  given_fits w (Range lo hi) ok h = L.words.range_fits c w lo hi ok h.0 h.1

  pub given_describes : (valuation : List ℕ) (w n : ℕ) (g : GivenNumber) → IsWidth w → IsTrue B.joins → GivenFits w g → n < 2 ^ w → IsGiven g n → B.words.describes valuation w n (given B c w g)
  given_describes valuation w n (One v) ok joins h lt is = subst (λ t. B.words.describes valuation w t (B.words.constant c w v)) (sym is) (L.words.constant_sound c valuation w v ok h)
  given_describes valuation w n Any ok joins h lt is = L.words.any_sound c valuation w n ok joins lt
  given_describes valuation w n (Range lo hi) ok joins h lt is = L.words.range_sound c valuation w lo hi n ok joins is.0 is.1 h.1

  pub cell_described : (valuation : List ℕ) (w : ℕ) (g : GivenNumber) (h : Held) → IsWidth w → IsTrue B.joins → GivenFits w g → IsEntryHeld w g h → CellDescribes B valuation w h (given_cell B c w g)
  cell_described valuation w g h ok joins fit is =
      (given_describes valuation w h.number g ok joins fit is.number is.of_given, subst (λ s. B.notes.describes s B.notes.entry) (sym is.stamp) L.notes.entry_sound)
