-- What the operations on words give.
use Rattle.std.specs.Prelude.{ℕ, List, [], ◌∷◌}
use Rattle.word_operations.specs.declared.kinds.UnaryOperation.{UnaryOperation}
use Rattle.word_operations.specs.declared.kinds.UnaryOperation.TheVariants.{Neg, Not}
use Rattle.word_operations.specs.declared.kinds.BinaryOperation.{BinaryOperation}
use Rattle.word_operations.specs.declared.kinds.BinaryOperation.TheVariants.{Add, Sub, Mul, Shl}
use Rattle.word_operations.specs.Op1.{op1_of}
use Rattle.word_operations.specs.Op2.{op2_of}
use Rattle.domain_affine_base.specs.Forms.{sum_of, difference_of, multiple_of, negation_of, complement_of}
use Rattle.domain_affine_base.specs.Words.{word_of}
use Rattle.domain_affine_base.specs.declared.word.Word.{Word}
use Rattle.domain_affine_base.specs.declared.word.Word.TheVariants.{Any, Const, Form}

-- ---- on forms and constants, of which one is a form
-- a sum or a difference: a constant is the form of its number alone
abbrev pub of_both : (List ℕ → List ℕ → List ℕ) → Word → Word → Word
of_both h (Form f) (Form g) = word_of (h f g)
of_both h (Form f) (Const n) = word_of (h f (n ∷ []))
of_both h (Const m) (Form g) = word_of (h (m ∷ []) g)
of_both h _ _ = Any

-- a product with a constant
abbrev pub product_of : Word → Word → Word
product_of (Form f) (Const n) = word_of (multiple_of n f)
product_of (Const m) (Form g) = word_of (multiple_of m g)
product_of _ _ = Any

-- a shift by a constant is the product with the shifted 1
abbrev pub shifted_of : Word → Word → Word
shifted_of (Form f) (Const n) = word_of (multiple_of (op2_of Shl 32 1 n) f)
shifted_of _ _ = Any

abbrev pub form_op2 : BinaryOperation → Word → Word → Word
form_op2 Add x y = of_both sum_of x y
form_op2 Sub x y = of_both difference_of x y
form_op2 Mul x y = product_of x y
form_op2 Shl x y = shifted_of x y
form_op2 _ x y = Any

abbrev pub form_op1 : UnaryOperation → List ℕ → Word
form_op1 Neg f = word_of (negation_of f)
form_op1 Not f = word_of (complement_of f)

-- ---- on words
abbrev pub op1_word : UnaryOperation → ℕ → Word → Word
op1_word op w Any = Any
op1_word op w (Const n) = Const (op1_of op w n)
op1_word op w (Form f) = form_op1 op f

abbrev pub op2_word : BinaryOperation → ℕ → Word → Word → Word
op2_word op w (Const m) (Const n) = Const (op2_of op w m n)
op2_word op w x y = form_op2 op x y

-- a cast: of a number alone
abbrev pub cast_word : (ℕ → ℕ) → Word → Word
cast_word f (Const n) = Const (f n)
cast_word f _ = Any
