-- What operations on constants and forms are: exact in every valuation.
use Rattle.std.specs.Prelude.{◌≡◌, ℕ, zero, ◌+◌, ◌*◌, ◌^◌, ◌<◌, ◌↔◌, ◌⊎◌, List, [], ◌∷◌, Option, Some, None, IsSome}
use Rattle.word_operations.specs.declared.kinds.UnaryOperation.{UnaryOperation}
use Rattle.word_operations.specs.declared.kinds.BinaryOperation.TheVariants.{Add, Sub, Mul, Shl}
use Rattle.word_operations.specs.declared.kinds.WordComparison.{WordComparison}
use Rattle.word_operations.specs.Op1.{op1_of}
use Rattle.word_operations.specs.Op2.{op2_of}
use Rattle.word_operations.specs.Width.{IsWidth}
use Rattle.support_modular_rows.specs.Submodule.{Congruent, HasValue, dot}
use Rattle.base_trait.specs.declared.tri.Tri.{Tri}
use Rattle.domain_affine_base.specs.Compare.{apart, compared, either, only, with_itself}
use Rattle.domain_affine_base.specs.Forms.{multiple_of, sum_of}
use Rattle.domain_affine_base.specs.Members.{exact_of}
use Rattle.domain_affine_base.specs.Operations.{op1_word, op2_word}
use Rattle.domain_affine_base.specs.Words.{Fits, Stands}
use Rattle.domain_affine_base.specs.declared.word.Word.{Word}
use Rattle.domain_affine_base.specs.declared.word.Word.TheVariants.{Any, Const, Form}

-- in the valuation the word stands for this number of w bits, and for no other
pub record StandsFor (valuation : List ℕ) (w : ℕ) (x : Word) (n : ℕ) : Type 0 where
  pub below : n < 2 ^ w
  pub stands : Stands valuation x n
  pub only : (m : ℕ) → m < 2 ^ w → Stands valuation x m → m ≡ n

abbrev pub IsConstant : Word → Type 0
IsConstant x = IsSome (exact_of x)

-- the results on words, where in the valuation the words stand for m and n alone
pub record AreExact (valuation : List ℕ) (w m n : ℕ) (x y : Word) : Type 0 where
  pub of_one : (op : UnaryOperation) → StandsFor valuation w (op1_word op w x) (op1_of op w m)
  pub sum : StandsFor valuation w (op2_word Add w x y) (op2_of Add w m n)
  pub difference : StandsFor valuation w (op2_word Sub w x y) (op2_of Sub w m n)
  pub product : IsConstant x ⊎ IsConstant y → StandsFor valuation w (op2_word Mul w x y) (op2_of Mul w m n)
  pub shift : IsConstant y → StandsFor valuation w (op2_word Shl w x y) (op2_of Shl w m n)

-- Where words stand for one number each, so do their negation, complement, sum and difference, the product with a
-- constant and the shift by a constant: for the result on these numbers.
abbrev pub ExactResults : Type 0
ExactResults =
    (k w m n : ℕ) (valuation : List ℕ) (x y : Word) → IsWidth w → Fits k w x → Fits k w y
    → StandsFor valuation w x m → StandsFor valuation w y n → AreExact valuation w m n x y

-- Each word but any stands for one number in each valuation.
abbrev pub OneNumber : Type 0
OneNumber = (k w : ℕ) (valuation : List ℕ) (x : Word) → IsWidth w → Fits k w x → (x ≡ Any → ⊥) → (n : ℕ) × StandsFor valuation w x n

-- Over each vector, the value of a sum is the sum of the values, and that of a multiple the multiple.
abbrev pub LinearValues : Type 0
LinearValues =
    (c : ℕ) (f g v : List ℕ)
    → Congruent (dot (sum_of f g) v) (dot f v + dot g v) × Congruent (dot (multiple_of c f) v) (c * dot f v)

-- the form of a word, if any: a constant is the form of its number alone
abbrev pub form_of : Word → Option (List ℕ)
form_of Any = None
form_of (Const n) = Some (n ∷ [])
form_of (Form f) = Some f

-- A word of 32 bits stands for a number exactly where the number is the value of its form over 1 and the valuation.
abbrev pub StandsByValue : Type 0
StandsByValue = (k n : ℕ) (valuation : List ℕ) (x : Word) → Fits k 32 x → n < 2 ^ 32 → Stands valuation x n ↔ HasValue (form_of x) (1 ∷ valuation) n

-- what the difference of two words tells of a comparison
abbrev pub told_by : WordComparison → Word → Tri
told_by k (Const zero) = only (with_itself k)
told_by k (Const _) = apart k
told_by k _ = either

-- A comparison of forms tells what their difference does.
abbrev pub DifferencesTell : Type 0
DifferencesTell = (k : WordComparison) (cells : ℕ) (f g : List ℕ) → Fits cells 32 (Form f) → Fits cells 32 (Form g) → compared k 32 (Form f) (Form g) ≡ told_by k (op2_word Sub 32 (Form f) (Form g))
