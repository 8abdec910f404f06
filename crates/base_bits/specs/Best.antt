-- What the results are among all words: the best.
use Rattle.std.specs.Prelude.{◌≡◌, ℕ, ◌<◌, ◌≤◌, ◌^◌, IsTrue, ◌⊎◌, count_ones}
use Rattle.word_operations.specs.declared.kinds.UnaryOperation.{UnaryOperation}
use Rattle.word_operations.specs.declared.kinds.UnaryOperation.TheVariants.{Not}
use Rattle.word_operations.specs.declared.kinds.BinaryOperation.{BinaryOperation}
use Rattle.word_operations.specs.declared.kinds.BinaryOperation.TheVariants.{And, Or, Xor, Shl, ShrU, ShrS, RotL}
use Rattle.word_operations.specs.Op1.{op1_of}
use Rattle.word_operations.specs.Op2.{op2_of}
use Rattle.word_operations.specs.Casts.{zext_of, sext_of, trunc_of}
use Rattle.word_operations.specs.Width.{IsWidth}
use Rattle.base_trait.specs.Laws.{IsExtension}
use Rattle.base_bits.specs.declared.known.Known.{Known}
use Rattle.base_bits.specs.Known.{Describes, Fits, exact}
use Rattle.base_bits.specs.Join.{join_of, absorbs_known}
use Rattle.base_bits.specs.Moved.{moved}
use Rattle.base_bits.specs.Meaning.{op1_known, op2_known}

-- Of the words that describe all numbers that P holds of, this one has the fewest unknown bits, and each
-- other absorbs it.
pub record IsBest (w : ℕ) (P : ℕ → Type 0) (x : Known) : Type 0 where
  pub describes : (n : ℕ) → P n → Describes w n x
  pub fewest : (z : Known) → Fits w z → ((n : ℕ) → P n → Describes w n z) → count_ones x.m ≤ count_ones z.m
  pub least : (z : Known) → Fits w z → ((n : ℕ) → P n → Describes w n z) → IsTrue (absorbs_known z x)

-- what f gives of a number of the word, and of one of each
abbrev pub IsImage : (ℕ → ℕ) → ℕ → Known → ℕ → Type 0
IsImage f w x n = (k : ℕ) × Describes w k x × (n ≡ f k)

abbrev pub IsProduct : (ℕ → ℕ → ℕ) → ℕ → Known → Known → ℕ → Type 0
IsProduct f w x y n = (k : ℕ) × (l : ℕ) × Describes w k x × Describes w l y × (n ≡ f k l)

abbrev pub IsOfEither : ℕ → Known → Known → ℕ → Type 0
IsOfEither w x y n = Describes w n x ⊎ Describes w n y

-- Operations bit by bit.
abbrev pub BestBitByBit : Type 0
BestBitByBit =
    (w : ℕ) (x y : Known) → IsWidth w → Fits w x → Fits w y
    → IsBest w (IsImage (op1_of Not w) w x) (op1_known Not w x)
    × IsBest w (IsProduct (op2_of And w) w x y) (op2_known And w x y)
    × IsBest w (IsProduct (op2_of Or w) w x y) (op2_known Or w x y)
    × IsBest w (IsProduct (op2_of Xor w) w x y) (op2_known Xor w x y)

-- Shifts and rotations by an exact number.
abbrev pub BestShifts : Type 0
BestShifts =
    (w k : ℕ) (x : Known) → IsWidth w → k < 2 ^ w → Fits w x
    → IsBest w (IsImage (λ n. op2_of Shl w n k) w x) (op2_known Shl w x (exact k))
    × IsBest w (IsImage (λ n. op2_of ShrU w n k) w x) (op2_known ShrU w x (exact k))
    × IsBest w (IsImage (λ n. op2_of ShrS w n k) w x) (op2_known ShrS w x (exact k))
    × IsBest w (IsImage (λ n. op2_of RotL w n k) w x) (op2_known RotL w x (exact k))

abbrev pub BestCasts : Type 0
BestCasts =
    (narrow wide : ℕ) (x y : Known) → IsExtension narrow wide → Fits narrow x → Fits wide y
    → IsBest wide (IsImage (zext_of narrow wide) narrow x) (moved (zext_of narrow wide) x)
    × IsBest wide (IsImage (sext_of narrow wide) narrow x) (moved (sext_of narrow wide) x)
    × IsBest narrow (IsImage (trunc_of wide narrow) wide y) (moved (trunc_of wide narrow) y)

abbrev pub BestJoins : Type 0
BestJoins = (w : ℕ) (x y : Known) → Fits w x → Fits w y → IsBest w (IsOfEither w x y) (join_of x y)

-- Exact words give the exact result.
abbrev pub ExactResults : Type 0
ExactResults =
    (w m n : ℕ) → IsWidth w → m < 2 ^ w → n < 2 ^ w
    → ((op : UnaryOperation) → op1_known op w (exact m) ≡ exact (op1_of op w m))
    × ((op : BinaryOperation) → op2_known op w (exact m) (exact n) ≡ exact (op2_of op w m n))
    × ((to : ℕ) → IsExtension w to → (moved (zext_of w to) (exact m) ≡ exact (zext_of w to m)) × (moved (sext_of w to) (exact m) ≡ exact (sext_of w to m)))
    × ((to : ℕ) → IsExtension to w → moved (trunc_of w to) (exact m) ≡ exact (trunc_of w to m))
