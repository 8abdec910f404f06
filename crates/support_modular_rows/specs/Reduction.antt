-- The kept rows, one for each leading column, and what a reduction by them decides.
use Rattle.std.specs.Prelude.{◌≡◌, ◌≢◌, ℕ, zero, suc, ◌+◌, ◌-◌, ◌*◌, ◌%◌, ◌^◌, ◌<◌, ◌≤◌, ◌↔◌, List, [], ◌∷◌, ◌++◌, length, slice_index, slice_index_or, drop, take, sum, ◌==◌, if◌then◌else◌}
use Rattle.support_modular_rows.specs.Submodule.{Submodule}

-- modulo suc m, in the columns below n
module _ (m n : ℕ) where
  -- a multiple of each row may be added so that all columns come to 0
  abbrev pub Span : List (List ℕ) → (ℕ → ℕ) → Type 0
  Span [] v = (j : ℕ) → j < n → v j % suc m ≡ 0
  Span (r ∷ rs) v = (c : ℕ) × Span rs (λ j. v j + c * slice_index r j)

  -- each row is 0 before its column
  abbrev pub Triangular : List (List ℕ) → Type 0
  Triangular rs = (c j : ℕ) → c < length rs → j < c → slice_index (slice_index_or rs c []) j % suc m ≡ 0

  -- a multiple that is 0 in the row's column is in the span
  abbrev pub Kills : List (List ℕ) → List ℕ → ℕ → Type 0
  Kills ss r c = (q : ℕ) → (q * slice_index r c) % suc m ≡ 0 → Span ss (λ j. q * slice_index r j)

-- what has the multiples that the entry has: the entry, or 2 ^ 32 for 0
abbrev pub divisor_of : ℕ → ℕ
divisor_of zero = 2 ^ 32
divisor_of (suc e) = suc e

-- a power of two below 2 ^ 32, or 0
abbrev pub IsLead : ℕ → Type 0
IsLead e = (v : ℕ) × (v ≤ 32) × (divisor_of e ≡ 2 ^ v) × (e < 2 ^ 32)

-- the vector is in the span of the rows, which are as many as the columns
abbrev pub InSpan : List (List ℕ) → List ℕ → Type 0
InSpan rs x = Span (2 ^ 32 - 1) (length rs) rs (λ j. slice_index x j)

-- the row at place c leads in column c, or is 0 there and everywhere
pub record Reduced (rs : List (List ℕ)) : Type 0 where
  pub triangular : Triangular (2 ^ 32 - 1) (length rs) rs
  pub kills : (c : ℕ) → c < length rs → Kills (2 ^ 32 - 1) (length rs) (drop (suc c) rs) (slice_index_or rs c []) c
  pub leads : (c : ℕ) → c < length rs → IsLead (slice_index (slice_index_or rs c []) c)
  pub empty : (c j : ℕ) → c < length rs → j < length rs → slice_index (slice_index_or rs c []) c ≡ 0 → slice_index (slice_index_or rs c []) j ≡ 0

-- y is a multiple of x by an invertible number, with the power of two in the column that divides x's entry
pub record Normalised (x : List ℕ) (column : ℕ) (y : List ℕ) : Type 0 where
  pub unit : ℕ
  pub back : ℕ
  pub inverse : unit * back % 2 ^ 32 ≡ 1
  pub multiple : (j : ℕ) → j < 65 → slice_index y j ≡ unit * slice_index x j % 2 ^ 32
  pub power : ℕ
  pub small : power < 32
  pub leading : slice_index y column ≡ 2 ^ power
  pub divides : slice_index x column % 2 ^ power ≡ 0

-- the spans of the two lists of rows have the same vectors of n numbers
abbrev pub SameSpan : ℕ → List (List ℕ) → List (List ℕ) → Type 0
SameSpan n rs ss = (v : ℕ → ℕ) → Span (2 ^ 32 - 1) n rs v ↔ Span (2 ^ 32 - 1) n ss v

-- the rows that are not 0, in n columns, from the greatest leading column down; the first row given is that of column c
abbrev pub kept_from : ℕ → ℕ → List (List ℕ) → List (List ℕ)
kept_from n c [] = []
kept_from n c (r ∷ rs) = kept_from n (suc c) rs ++ (if slice_index r c == 0 then [] else take n r ∷ [])

-- what callers see of the rows
abbrev pub submodule_of : ℕ → List (List ℕ) → Submodule
submodule_of k rs = record { k = k; rows = kept_from (k + 1) 0 rs }

-- a row for each of the columns 0 .. k
pub record IsStore (k : ℕ) (rs : List (List ℕ)) : Type 0 where
  pub few : k ≤ 64
  pub size : length rs ≡ k + 1
  pub reduced : Reduced rs

-- the row at place c is the kept row i, of n columns
pub record IsPlace (n : ℕ) (rs : List (List ℕ)) (i c : ℕ) : Type 0 where
  pub within : c < length rs
  pub some : slice_index (slice_index_or rs c []) c ≢ 0
  pub before : length (kept_from n (suc c) (drop (suc c) rs)) ≡ i

-- n is the sum of the exponents of the rows' divisors
abbrev pub HasExponents : List (List ℕ) → ℕ → Type 0
HasExponents rs n =
    (vs : List ℕ) × (length vs ≡ length rs) × ((c : ℕ) → c < length rs → slice_index vs c ≤ 32)
    × ((c : ℕ) → c < length rs → divisor_of (slice_index (slice_index_or rs c []) c) ≡ 2 ^ slice_index vs c) × (n ≡ sum vs)
