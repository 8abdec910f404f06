-- Numbers modulo 2 ^ 32 have the same texts, and rows of them generate the same members.
use Rattle.std.proofs.Common.{◌≡◌, ℕ, zero, suc, ◌*◌, ◌/◌, ◌<◌, ◌^◌, ◌%◌, List, [], ◌∷◌, map, get_or, refl, sym, ap, ◌∙◌, arith, mod-lt, pow_pos}
use Rattle.support_modular_rows.specs.Submodule.{Congruent, IsMember, combination}
use Rattle.support_modular_rows.proofs.Growth.{greatest}
use Rattle.support_modular_rows.proofs.Powers.{mod_power}
use Rattle.support_modular_rows.proofs.Spans.{cong_add, cong_mul}
use Rattle.domain_affine_element_laws.specs.Elements.{SameMembers}
use Rattle.text_words.specs.Words.{number}

-- a number modulo 2 ^ 32
abbrev pub reduced : ℕ → ℕ
reduced n = n % 2 ^ 32

abbrev pub reduced_row : List ℕ → List ℕ
reduced_row row = map reduced row

abbrev pub reduced_rows : List (List ℕ) → List (List ℕ)
reduced_rows rows = map reduced_row rows

pub is_reduced : (n : ℕ) → reduced n < 2 ^ 32
is_reduced n = mod-lt n (pow_pos 32)

-- ---- texts

digit : (n : ℕ) → (n % 2 ^ 32 / 2 ^ 28 % 16 ≡ n / 2 ^ 28 % 16) × (n % 2 ^ 32 / 2 ^ 24 % 16 ≡ n / 2 ^ 24 % 16) × (n % 2 ^ 32 / 2 ^ 20 % 16 ≡ n / 2 ^ 20 % 16) × (n % 2 ^ 32 / 2 ^ 16 % 16 ≡ n / 2 ^ 16 % 16)
    × (n % 2 ^ 32 / 2 ^ 12 % 16 ≡ n / 2 ^ 12 % 16) × (n % 2 ^ 32 / 2 ^ 8 % 16 ≡ n / 2 ^ 8 % 16) × (n % 2 ^ 32 / 2 ^ 4 % 16 ≡ n / 2 ^ 4 % 16) × (n % 2 ^ 32 / 2 ^ 0 % 16 ≡ n / 2 ^ 0 % 16)
digit n = (omega arith, omega arith, omega arith, omega arith, omega arith, omega arith, omega arith, omega arith)

pub same_number : (n : ℕ) → number 32 (reduced n) ≡ number 32 n
unfolding number
same_number n = let d = digit n in rw (d.0, d.1, d.2, d.3, d.4, d.5, d.6, d.7) refl

-- ---- members

twice : (n : ℕ) → Congruent (reduced n) n
twice n = mod_power n 32 32 (omega arith)

at_reduced : (row : List ℕ) (j : ℕ) → get_or (reduced_row row) j 0 ≡ reduced (get_or row j 0)
at_reduced [] j = refl
at_reduced (n ∷ row) zero = refl
at_reduced (n ∷ row) (suc j) = at_reduced row j

same_at : (row : List ℕ) (j : ℕ) → Congruent (get_or (reduced_row row) j 0) (get_or row j 0)
same_at row j = ap reduced (at_reduced row j) ∙ twice (get_or row j 0)

same_sum : (cs : List ℕ) (rows : List (List ℕ)) (j : ℕ) → Congruent (combination cs (reduced_rows rows) j) (combination cs rows j)
same_sum [] rows j = refl
same_sum (c ∷ cs) [] j = refl
same_sum (c ∷ cs) (row ∷ rows) j =
    cong_add greatest (c * get_or (reduced_row row) j 0) (c * get_or row j 0) (combination cs (reduced_rows rows) j) (combination cs rows j)
    (cong_mul greatest c (get_or (reduced_row row) j 0) (get_or row j 0) (same_at row j)) (same_sum cs rows j)

-- reduced rows generate what the rows do
pub same_members : (k : ℕ) (rows : List (List ℕ)) → SameMembers k rows (reduced_rows rows)
same_members k rows x = (
  (λ m. (m.0, λ j le. m.1 j le ∙ sym (same_sum m.0 rows j))),
  (λ m. (m.0, λ j le. m.1 j le ∙ same_sum m.0 rows j)),
)

-- and a reduced row is a member where the row is
pub member_of : (k : ℕ) (rows : List (List ℕ)) (row : List ℕ) → IsMember k rows (reduced_row row) → IsMember k rows row
member_of k rows row m = (m.0, λ j le. sym (same_at row j) ∙ m.1 j le)
