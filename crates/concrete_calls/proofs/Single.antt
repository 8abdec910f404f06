-- The value of a concrete one is single.
use Rattle.std.proofs.Common.{◌≡◌, ℕ, zero, suc, ◌<◌, Bool, true, false, [], refl, inr, arith}
use Rattle.std.specs.Prelude.{not}
use Rattle.base_concrete.specs.Instance.{concrete_laws}
use Rattle.base_concrete.specs.Meaning.{concrete}
use Rattle.base_trait.specs.declared.uses.Stamp.{Stamp}
use Rattle.spec_ir.specs.Environment.{Environment}
use Rattle.semantics_values.specs.Values as v
use Rattle.semantics_values.specs.Values.{Val, Vals}
use Rattle.abstract_value_laws.specs.Abs.{Parts, no_case}
use Rattle.abstract_value_laws.specs.OfValues.{ValueFits, ValuesFit, absent_onto, case_count, of_value, of_values, one_case}
use Rattle.abstract_value_laws.proofs.Concrete.{value_describes}
use Rattle.abstract_semantics.specs.Sound.{AreAbsent, AreSingle, IsSingle, IsSingleCase}
use Rattle.concrete_calls.specs.Laws.{ValueStands, room}

other : (b : Bool) → b ≡ not (not b)
other true = refl
other false = refl

absent_alone : (n : ℕ) → AreAbsent {W = ℕ} {N = Stamp} (absent_onto n no_case)
absent_alone zero = tt
absent_alone (suc n) = absent_alone n

one_single : (n k : ℕ) (xs : Parts ℕ Stamp) → k < n → AreSingle xs → IsSingleCase (one_case n k xs)
one_single zero k xs h s = absurd (omega (arith, h))
one_single (suc n) zero xs h s = (s, absent_alone n)
one_single (suc n) (suc k) xs h s = one_single n k xs (omega (arith, h)) s

module _ (env : Environment) where
  mutual
    single : (p : Val) → ValueFits env p → IsSingle (of_value concrete tt room env p)
    single (v.flag b) h = other b
    single (v.word w n) h = tt
    single (v.made t k ps) h = one_single (case_count env t) k (of_values concrete tt room env ps) h.0 (all_single ps h.1)
    single (v.map m rest cells) h = tt

    all_single : (ps : Vals) → ValuesFit env ps → AreSingle (of_values concrete tt room env ps)
    all_single v.no_val h = tt
    all_single (v.val_then p ps) h = (single p h.0, all_single ps h.1)

pub value_stands : ValueStands
value_stands env p h = record { describes = value_describes concrete concrete_laws tt room env [] p h; single = single env p h }
