-- Values of fields, and maps that list few cells.
use Rattle.std.proofs.Common.{◌≡◌, ℕ, zero, suc, ◌<◌, ◌≤◌, get_or, List, [], ◌∷◌, length, map, take, drop, Some, None, refl, sym, ap, ap₂, subst, arith}
use Rattle.semantics_values.specs.declared.entry.KeyAt.{KeyAt}
use Rattle.abstract_map_laws.specs.Calls.{folded, rest_with}
use Rattle.abstract_map_laws.specs.Maps.{Map}
use Rattle.abstract_map_laws.specs.declared.cell.AbstractCell.{AbstractCell}
use Rattle.abstract_value_laws.specs.Abs.{parts}
use Rattle.abstract_value_laws.specs.Fits.{Fits, PartsFit}
use Rattle.domain_affine_base.specs.Meaning.{affine}
use Rattle.domain_affine_base.specs.declared.base.Affine.{Affine}
use Rattle.domain_affine_base.specs.declared.tracked.Tracked.{Tracked}
use Rattle.domain_affine_base.specs.declared.word.Word.{Word}
use Rattle.domain_affine_laws.specs.Closed.{part_at}
use Rattle.abstract_value.specs.View.{abs}
use Rattle.abstract_value.specs.declared.value.AbstractValue.{AbstractValue}

abbrev Value : Type 0
Value = AbstractValue Affine Word (Unit {0}) Tracked

pub part_found : (values : List Value) (i : ℕ) (v : Value) → v ≡ get_or values i v → i < length values → part_at (parts (map abs values)) i ≡ Some (abs v)
part_found [] i v e lt = absurd (omega (arith, lt))
part_found (x ∷ xs) zero v e lt = ap (λ y. Some (abs y)) (sym e)
part_found (x ∷ xs) (suc i) v e lt = part_found xs i v e (omega (arith, lt))

pub part_missing : (values : List Value) (i : ℕ) → length values ≤ i → part_at (parts (map abs values)) i ≡ None
part_missing [] i past = refl
part_missing (x ∷ xs) zero past = absurd (omega (arith, past))
part_missing (x ∷ xs) (suc i) past = part_missing xs i (omega (arith, past))

module _ (cells : List (ℕ × KeyAt)) where
  pub fits_at : (values : List Value) (i : ℕ) (v : Value) → v ≡ get_or values i v → i < length values → PartsFit affine cells 256 (parts (map abs values)) → Fits affine cells 256 (abs v)
  fits_at [] i v e lt h = absurd (omega (arith, lt))
  fits_at (x ∷ xs) zero v e lt h = subst (λ y. Fits affine cells 256 (abs y)) (sym e) h.0
  fits_at (x ∷ xs) (suc i) v e lt h = fits_at xs i v e (omega (arith, lt)) h.1

  none_left : (n : ℕ) (es : List (ℕ × AbstractCell Word (Unit {0}))) → length es ≤ n → drop n es ≡ []
  none_left n [] le = drop_nil n
    where
      drop_nil : (m : ℕ) → ◌≡◌ {A = List (ℕ × AbstractCell Word (Unit {0}))} (drop m []) []
      drop_nil zero = refl
      drop_nil (suc m) = refl
  none_left zero (e ∷ es) le = absurd (omega (arith, le))
  none_left (suc n) (e ∷ es) le = none_left n es (omega (arith, le))

  all_taken : (n : ℕ) (es : List (ℕ × AbstractCell Word (Unit {0}))) → length es ≤ n → take n es ≡ es
  all_taken n [] le = take_nil n
    where
      take_nil : (m : ℕ) → ◌≡◌ {A = List (ℕ × AbstractCell Word (Unit {0}))} (take m []) []
      take_nil zero = refl
      take_nil (suc m) = refl
  all_taken zero (e ∷ es) le = absurd (omega (arith, le))
  all_taken (suc n) (e ∷ es) le = ap (λ l. e ∷ l) (all_taken n es (omega (arith, le)))

  pub not_folded : (n w : ℕ) (rest : AbstractCell Word (Unit {0})) (es : List (ℕ × AbstractCell Word (Unit {0}))) → length es ≤ n
      → ◌≡◌ {A = Map Word (Unit {0})} (folded affine cells n (record { width = w; rest = rest; cells = es })) (record { width = w; rest = rest; cells = es })
  not_folded n w rest es le = ap₂ (λ c l. record { width = w; rest = c; cells = l }) (ap (rest_with affine cells w rest) (none_left n es le)) (all_taken n es le)
