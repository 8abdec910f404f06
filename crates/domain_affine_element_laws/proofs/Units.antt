-- Unit vectors.
use Rattle.std.proofs.Common.{◌≡◌, ℕ, zero, suc, ◌^◌, ◌<◌, false, List, [], ◌∷◌, length, get_or, refl, arith}
use Rattle.std.specs.Prelude.{◌==◌, replicate}
use Rattle.std.specs.List.{list_all}
use Rattle.support_modular_rows.specs.Submodule.{dot, unit_row}
use Rattle.base_trait.specs.Lists.{Each}
use Rattle.domain_affine_base.specs.Forms.{is_constant}

abbrev zeros : ℕ → List ℕ
zeros n = replicate n 0

dot_zeros : (n : ℕ) (xs : List ℕ) → dot (zeros n) xs ≡ 0
dot_zeros zero xs = refl
dot_zeros (suc n) [] = refl
dot_zeros (suc n) (x ∷ xs) = let rest = dot_zeros n xs in omega (arith, rest)

-- over a vector its value is the number of its column
pub dot_unit : (n i : ℕ) (xs : List ℕ) → i < n → dot (unit_row n i) xs ≡ get_or xs i 0
dot_unit zero i xs lt = absurd (omega (arith, lt))
dot_unit (suc n) zero [] lt = refl
dot_unit (suc n) zero (x ∷ xs) lt = let rest = dot_zeros n xs in omega (arith, rest)
dot_unit (suc n) (suc i) [] lt = refl
dot_unit (suc n) (suc i) (x ∷ xs) lt = let rest = dot_unit n i xs (omega (arith, lt)) in omega (arith, rest)

zeros_below : (n : ℕ) → Each (λ n. n < 2 ^ 32) (zeros n)
zeros_below zero = tt
zeros_below (suc n) = (omega arith, zeros_below n)

pub unit_below : (n i : ℕ) → Each (λ n. n < 2 ^ 32) (unit_row n i)
unit_below zero i = tt
unit_below (suc n) zero = (omega arith, zeros_below n)
unit_below (suc n) (suc i) = (omega arith, unit_below n i)

some_one : (n i : ℕ) → i < n → list_all (λ b. b == 0) (unit_row n i) ≡ false
some_one zero i lt = absurd (omega (arith, lt))
some_one (suc n) zero lt = refl
some_one (suc n) (suc i) lt = some_one n i (omega (arith, lt))

-- that of a cell is no constant
pub unit_some : (n i : ℕ) → i < n → is_constant (unit_row (suc n) (suc i)) ≡ false
unit_some n i lt = some_one n i lt

zeros_size : (n : ℕ) → length (zeros n) ≡ n
zeros_size zero = refl
zeros_size (suc n) = let rest = zeros_size n in omega (arith, rest)

pub unit_size : (n i : ℕ) → length (unit_row n i) ≡ n
unit_size zero i = refl
unit_size (suc n) zero = let rest = zeros_size n in omega (arith, rest)
unit_size (suc n) (suc i) = let rest = unit_size n i in omega (arith, rest)
