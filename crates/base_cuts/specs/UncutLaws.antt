-- Words of any base may stay uncut.
use Rattle.base_trait.specs.Algebra.{Algebra}
use Rattle.base_trait.specs.Laws.{Laws}
use Rattle.base_cuts.specs.Laws.{WordsMayStayUncut}

pub words_may_stay_uncut : {W N C : Type 0} (B : Algebra W N C) → Laws W N C B → WordsMayStayUncut B
words_may_stay_uncut B L = record {
  meet_fits = λ c w low high x width fits. fits;
  meet_within = λ c w low high x width fits. L.words.absorbs_itself c w x width fits;
  meet_describes = λ c valuation w low high n x width fits h a b. h;
}
