-- Lemmas: the result of an operation stands for the result on numbers, and is a word.
use Rattle.std.proofs.Common.{◌≡◌, ℕ, ◌+◌, ◌-◌, ◌*◌, ◌%◌, ◌^◌, ◌<◌, List, [], ◌∷◌, length, refl, sym, ap, ap₂, ◌∙◌, subst, arith, mod-lt, pow_pos}
use Rattle.std.specs.Prelude.{max}
use Rattle.word_operations.specs.declared.kinds.UnaryOperation.{UnaryOperation}
use Rattle.word_operations.specs.declared.kinds.UnaryOperation.TheVariants.{Neg, Not}
use Rattle.word_operations.specs.declared.kinds.BinaryOperation.{BinaryOperation}
use Rattle.word_operations.specs.declared.kinds.BinaryOperation.TheVariants.{Add, Sub, Mul, Shl}
use Rattle.word_operations.specs.Op1.{op1_of}
use Rattle.word_operations.specs.Op2.{op2_of}
use Rattle.word_operations.specs.Width.{IsWidth}
use Rattle.word_operations.proofs.Fits.{op1_of_fits, op2_of_fits}
use Rattle.word_operations.proofs.Modular.{neg_product, sub_product, not_product, shl_product}
use Rattle.support_modular_rows.specs.Submodule.{Congruent, dot}
use Rattle.base_trait.specs.Lists.{Each}
use Rattle.base_trait.proofs.Tests.{at_choice}
use Rattle.domain_affine_base.specs.Forms.{sum_of, difference_of, multiple_of, negation_of, complement_of, is_constant, constant_of}
use Rattle.domain_affine_base.specs.Linear.{sums_agree, products_agree, remainder_agrees, agreeing_equal, sum_value, multiple_value, constant_value, sum_below, multiple_below, sum_size, multiple_size, constant_below}
use Rattle.domain_affine_base.specs.Operations.{of_both, product_of, shifted_of, form_op1, form_op2, op1_word, op2_word, cast_word}
use Rattle.domain_affine_base.specs.Words.{Stands, IsOf, Fits, word_of}
use Rattle.domain_affine_base.specs.declared.word.Word.{Word}
use Rattle.domain_affine_base.specs.declared.word.Word.TheVariants.{Any, Const, Form}

-- ---- the word of a form
pub word_stands : (valuation f : List ℕ) (n : ℕ) → Each (λ n. n < 2 ^ 32) f → n < 2 ^ 32 → Congruent n (dot f (1 ∷ valuation)) → Stands valuation (word_of f) n
word_stands valuation f n below small e =
    at_choice (λ x. Stands valuation x n) (is_constant f) (Const (constant_of f)) (Form f)
    (λ c. agreeing_equal n (constant_of f) small (constant_below f below) (e ∙ ap (λ d. d % 2 ^ 32) (constant_value f valuation c))) (λ c. e)

pub word_fits : (k : ℕ) (f : List ℕ) → Each (λ n. n < 2 ^ 32) f → length f ≡ k + 1 → Fits k 32 (word_of f)
word_fits k f below size =
    at_choice (Fits k 32) (is_constant f) (Const (constant_of f)) (Form f)
    (λ c. (constant_below f below, tt)) (λ c. (record { width = refl; below = below; some = c }, size))

-- a constant is the form of its number alone
pub alone : (valuation : List ℕ) (m c : ℕ) → m ≡ c → Congruent m (dot (c ∷ []) (1 ∷ valuation))
alone valuation m c e = ap (λ n. n % 2 ^ 32) (e ∙ omega arith)

-- ---- sums and differences
-- the operation adds up forms as it does numbers
record IsLinear (op : BinaryOperation) (h : List ℕ → List ℕ → List ℕ) : Type 0 where
  pub value : (f g v : List ℕ) (m n : ℕ) → m < 2 ^ 32 → n < 2 ^ 32 → Congruent m (dot f v) → Congruent n (dot g v) → Congruent (op2_of op 32 m n) (dot (h f g) v)
  pub below : (f g : List ℕ) → Each (λ n. n < 2 ^ 32) f → Each (λ n. n < 2 ^ 32) g → Each (λ n. n < 2 ^ 32) (h f g)
  pub size : (f g : List ℕ) → length (h f g) ≡ max (length f) (length g)

sums : IsLinear Add sum_of
sums = record {
  value = λ f g v m n a b d e. remainder_agrees (m + n) ∙ sums_agree m (dot f v) n (dot g v) d e ∙ sym (sum_value f g v);
  below = sum_below;
  size = sum_size;
}

differences : IsLinear Sub difference_of
differences = record {
  value = λ f g v m n a b d e.
      ap (λ r. r % 2 ^ 32) (sub_product 32 m n (omega (arith, b))) ∙ remainder_agrees (m + (2 ^ 32 - 1) * n)
      ∙ sums_agree m (dot f v) ((2 ^ 32 - 1) * n) (dot (negation_of g) v) d (products_agree (2 ^ 32 - 1) n (dot g v) e ∙ sym (multiple_value (2 ^ 32 - 1) g v))
      ∙ sym (sum_value f (negation_of g) v);
  below = λ f g a b. sum_below f (negation_of g) a (multiple_below (2 ^ 32 - 1) g);
  size = λ f g. sum_size f (negation_of g) ∙ ap (max (length f)) (multiple_size (2 ^ 32 - 1) g);
}

module _ (op : BinaryOperation) (h : List ℕ → List ℕ → List ℕ) (linear : IsLinear op h) where
  forms_stand : (valuation f g : List ℕ) (m n : ℕ) → Each (λ n. n < 2 ^ 32) f → Each (λ n. n < 2 ^ 32) g → m < 2 ^ 32 → n < 2 ^ 32
      → Congruent m (dot f (1 ∷ valuation)) → Congruent n (dot g (1 ∷ valuation)) → Stands valuation (word_of (h f g)) (op2_of op 32 m n)
  forms_stand valuation f g m n a b left right d e =
      word_stands valuation (h f g) (op2_of op 32 m n) (linear.below f g a b) (op2_of_fits op 32 m n (omega arith, omega arith) left right) (linear.value f g (1 ∷ valuation) m n left right d e)

  both_stand : (valuation : List ℕ) (w m n : ℕ) (x y : Word) → IsOf w x → IsOf w y → m < 2 ^ w → n < 2 ^ w → Stands valuation x m → Stands valuation y n
      → Stands valuation (of_both h x y) (op2_of op w m n)
  both_stand valuation w m n Any y fx fy left right d e = tt
  both_stand valuation w m n (Const a) Any fx fy left right d e = tt
  both_stand valuation w m n (Const a) (Const b) fx fy left right d e = tt
  both_stand valuation w m n (Form f) Any fx fy left right d e = tt
  both_stand valuation w m n (Form f) (Form g) fx fy left right d e =
      subst (λ v. Stands valuation (word_of (h f g)) (op2_of op v m n)) (sym fx.width)
      (forms_stand valuation f g m n fx.below fy.below (subst (λ v. m < 2 ^ v) fx.width left) (subst (λ v. n < 2 ^ v) fx.width right) d e)
  both_stand valuation w m n (Form f) (Const b) fx fy left right d e =
      subst (λ v. Stands valuation (word_of (h f (b ∷ []))) (op2_of op v m n)) (sym fx.width)
      (forms_stand valuation f (b ∷ []) m n fx.below (subst (λ v. b < 2 ^ v) fx.width fy, tt)
      (subst (λ v. m < 2 ^ v) fx.width left) (subst (λ v. n < 2 ^ v) fx.width right) d (alone valuation n b e))
  both_stand valuation w m n (Const a) (Form g) fx fy left right d e =
      subst (λ v. Stands valuation (word_of (h (a ∷ []) g)) (op2_of op v m n)) (sym fy.width)
      (forms_stand valuation (a ∷ []) g m n (subst (λ v. a < 2 ^ v) fy.width fx, tt) fy.below
      (subst (λ v. m < 2 ^ v) fy.width left) (subst (λ v. n < 2 ^ v) fy.width right) (alone valuation m a d) e)

  both_fit : (k w : ℕ) (x y : Word) → Fits k w x → Fits k w y → Fits k w (of_both h x y)
  both_fit k w Any y fx fy = (tt, tt)
  both_fit k w (Const a) Any fx fy = (tt, tt)
  both_fit k w (Const a) (Const b) fx fy = (tt, tt)
  both_fit k w (Form f) Any fx fy = (tt, tt)
  both_fit k w (Form f) (Form g) fx fy =
      let a = fx.1 in let b = fy.1 in let size = linear.size f g in
      subst (λ v. Fits k v (word_of (h f g))) (sym fx.0.width) (word_fits k (h f g) (linear.below f g fx.0.below fy.0.below) (omega (arith, a, b, size)))
  both_fit k w (Form f) (Const b) fx fy =
      let a = fx.1 in let size = linear.size f (b ∷ []) in
      subst (λ v. Fits k v (word_of (h f (b ∷ [])))) (sym fx.0.width)
      (word_fits k (h f (b ∷ [])) (linear.below f (b ∷ []) fx.0.below (subst (λ v. b < 2 ^ v) fx.0.width fy.0, tt)) (omega (arith, a, size)))
  both_fit k w (Const a) (Form g) fx fy =
      let b = fy.1 in let size = linear.size (a ∷ []) g in
      subst (λ v. Fits k v (word_of (h (a ∷ []) g))) (sym fy.0.width)
      (word_fits k (h (a ∷ []) g) (linear.below (a ∷ []) g (subst (λ v. a < 2 ^ v) fy.0.width fx.0, tt) fy.0.below) (omega (arith, b, size)))

-- ---- multiples
multiple_stands : (valuation f : List ℕ) (c n r : ℕ) → r < 2 ^ 32 → Congruent n (dot f (1 ∷ valuation)) → Congruent r (c * n) → Stands valuation (word_of (multiple_of c f)) r
multiple_stands valuation f c n r small e d =
    word_stands valuation (multiple_of c f) r (multiple_below c f) small (d ∙ products_agree c n (dot f (1 ∷ valuation)) e ∙ sym (multiple_value c f (1 ∷ valuation)))

multiple_fits : (k w c : ℕ) (f : List ℕ) → Fits k w (Form f) → Fits k w (word_of (multiple_of c f))
multiple_fits k w c f fx = subst (λ v. Fits k v (word_of (multiple_of c f))) (sym fx.0.width) (word_fits k (multiple_of c f) (multiple_below c f) (multiple_size c f ∙ fx.1))

product_stands : (valuation : List ℕ) (w m n : ℕ) (x y : Word) → IsOf w x → IsOf w y → Stands valuation x m → Stands valuation y n → Stands valuation (product_of x y) (op2_of Mul w m n)
product_stands valuation w m n Any y fx fy d e = tt
product_stands valuation w m n (Const a) Any fx fy d e = tt
product_stands valuation w m n (Const a) (Const b) fx fy d e = tt
product_stands valuation w m n (Form f) Any fx fy d e = tt
product_stands valuation w m n (Form f) (Form g) fx fy d e = tt
product_stands valuation w m n (Form f) (Const b) fx fy d e =
    subst (λ v. Stands valuation (word_of (multiple_of b f)) (m * n % 2 ^ v)) (sym fx.width)
    (multiple_stands valuation f b m (m * n % 2 ^ 32) (mod-lt (m * n) (pow_pos 32)) d (remainder_agrees (m * n) ∙ ap (λ r. r % 2 ^ 32) (ap (λ z. m * z) e ∙ omega arith)))
product_stands valuation w m n (Const a) (Form g) fx fy d e =
    subst (λ v. Stands valuation (word_of (multiple_of a g)) (m * n % 2 ^ v)) (sym fy.width)
    (multiple_stands valuation g a n (m * n % 2 ^ 32) (mod-lt (m * n) (pow_pos 32)) e (remainder_agrees (m * n) ∙ ap (λ r. r % 2 ^ 32) (ap (λ z. z * n) d)))

product_fits : (k w : ℕ) (x y : Word) → Fits k w x → Fits k w y → Fits k w (product_of x y)
product_fits k w Any y fx fy = (tt, tt)
product_fits k w (Const a) Any fx fy = (tt, tt)
product_fits k w (Const a) (Const b) fx fy = (tt, tt)
product_fits k w (Form f) Any fx fy = (tt, tt)
product_fits k w (Form f) (Form g) fx fy = (tt, tt)
product_fits k w (Form f) (Const b) fx fy = multiple_fits k w b f fx
product_fits k w (Const a) (Form g) fx fy = multiple_fits k w a g fy

shifted_stands : (valuation : List ℕ) (w m n : ℕ) (x y : Word) → IsOf w x → IsOf w y → Stands valuation x m → Stands valuation y n → Stands valuation (shifted_of x y) (op2_of Shl w m n)
shifted_stands valuation w m n Any y fx fy d e = tt
shifted_stands valuation w m n (Const a) y fx fy d e = tt
shifted_stands valuation w m n (Form f) Any fx fy d e = tt
shifted_stands valuation w m n (Form f) (Form g) fx fy d e = tt
shifted_stands valuation w m n (Form f) (Const b) fx fy d e =
    let one : ℕ = op2_of Shl 32 1 b in
    let result : op2_of Shl 32 m n ≡ one * m % 2 ^ 32 = ap (op2_of Shl 32 m) e ∙ shl_product 32 m b ∙ ap (λ r. r % 2 ^ 32) (omega arith) in
    subst (λ v. Stands valuation (word_of (multiple_of (op2_of Shl 32 1 b) f)) (op2_of Shl v m n)) (sym fx.width)
    (multiple_stands valuation f (op2_of Shl 32 1 b) m (op2_of Shl 32 m n) (mod-lt _ (pow_pos 32)) d (ap (λ r. r % 2 ^ 32) result ∙ remainder_agrees (one * m)))

shifted_fits : (k w : ℕ) (x y : Word) → Fits k w x → Fits k w y → Fits k w (shifted_of x y)
shifted_fits k w Any y fx fy = (tt, tt)
shifted_fits k w (Const a) y fx fy = (tt, tt)
shifted_fits k w (Form f) Any fx fy = (tt, tt)
shifted_fits k w (Form f) (Form g) fx fy = (tt, tt)
shifted_fits k w (Form f) (Const b) fx fy = multiple_fits k w (op2_of Shl 32 1 b) f fx

-- ---- by the kinds
form_op2_stands : (op : BinaryOperation) (valuation : List ℕ) (w m n : ℕ) (x y : Word) → IsOf w x → IsOf w y → m < 2 ^ w → n < 2 ^ w → Stands valuation x m → Stands valuation y n
    → Stands valuation (form_op2 op x y) (op2_of op w m n)
form_op2_stands Add valuation w m n x y fx fy left right d e = both_stand Add sum_of sums valuation w m n x y fx fy left right d e
form_op2_stands Sub valuation w m n x y fx fy left right d e = both_stand Sub difference_of differences valuation w m n x y fx fy left right d e
form_op2_stands Mul valuation w m n x y fx fy left right d e = product_stands valuation w m n x y fx fy d e
form_op2_stands Shl valuation w m n x y fx fy left right d e = shifted_stands valuation w m n x y fx fy d e
form_op2_stands _ valuation w m n x y fx fy left right d e = tt

form_op2_fits : (op : BinaryOperation) (k w : ℕ) (x y : Word) → Fits k w x → Fits k w y → Fits k w (form_op2 op x y)
form_op2_fits Add k w x y fx fy = both_fit Add sum_of sums k w x y fx fy
form_op2_fits Sub k w x y fx fy = both_fit Sub difference_of differences k w x y fx fy
form_op2_fits Mul k w x y fx fy = product_fits k w x y fx fy
form_op2_fits Shl k w x y fx fy = shifted_fits k w x y fx fy
form_op2_fits _ k w x y fx fy = (tt, tt)

pub op2_stands : (op : BinaryOperation) (valuation : List ℕ) (w m n : ℕ) (x y : Word) → IsOf w x → IsOf w y → m < 2 ^ w → n < 2 ^ w → Stands valuation x m → Stands valuation y n
    → Stands valuation (op2_word op w x y) (op2_of op w m n)
op2_stands op valuation w m n (Const a) (Const b) fx fy left right d e = ap₂ (op2_of op w) d e
op2_stands op valuation w m n (Const a) Any fx fy left right d e = form_op2_stands op valuation w m n (Const a) Any fx fy left right d e
op2_stands op valuation w m n (Const a) (Form g) fx fy left right d e = form_op2_stands op valuation w m n (Const a) (Form g) fx fy left right d e
op2_stands op valuation w m n Any y fx fy left right d e = form_op2_stands op valuation w m n Any y fx fy left right d e
op2_stands op valuation w m n (Form f) y fx fy left right d e = form_op2_stands op valuation w m n (Form f) y fx fy left right d e

pub op2_fits : (op : BinaryOperation) (k w : ℕ) (x y : Word) → IsWidth w → Fits k w x → Fits k w y → Fits k w (op2_word op w x y)
op2_fits op k w (Const a) (Const b) width fx fy = (op2_of_fits op w a b width fx.0 fy.0, tt)
op2_fits op k w (Const a) Any width fx fy = form_op2_fits op k w (Const a) Any fx fy
op2_fits op k w (Const a) (Form g) width fx fy = form_op2_fits op k w (Const a) (Form g) fx fy
op2_fits op k w Any y width fx fy = form_op2_fits op k w Any y fx fy
op2_fits op k w (Form f) y width fx fy = form_op2_fits op k w (Form f) y fx fy

-- ---- one word
form_op1_stands : (op : UnaryOperation) (valuation f : List ℕ) (n : ℕ) → Each (λ n. n < 2 ^ 32) f → n < 2 ^ 32 → Congruent n (dot f (1 ∷ valuation)) → Stands valuation (form_op1 op f) (op1_of op 32 n)
form_op1_stands Neg valuation f n below small e =
    multiple_stands valuation f (2 ^ 32 - 1) n ((2 ^ 32 - n) % 2 ^ 32) (mod-lt (2 ^ 32 - n) (pow_pos 32)) e
    (ap (λ r. r % 2 ^ 32) (neg_product 32 n (omega (arith, small))) ∙ remainder_agrees ((2 ^ 32 - 1) * n))
form_op1_stands Not valuation f n below small e =
    let all : ℕ = 2 ^ 32 - 1 in
    word_stands valuation (complement_of f) (2 ^ 32 - 1 - n) (sum_below (all ∷ []) (negation_of f) (omega arith, tt) (multiple_below all f)) (omega arith)
    (ap (λ r. r % 2 ^ 32) (not_product 32 n small) ∙ remainder_agrees (all + all * n)
    ∙ sums_agree all (dot (all ∷ []) (1 ∷ valuation)) (all * n) (dot (negation_of f) (1 ∷ valuation)) (alone valuation all all refl)
    (products_agree all n (dot f (1 ∷ valuation)) e ∙ sym (multiple_value all f (1 ∷ valuation)))
    ∙ sym (sum_value (all ∷ []) (negation_of f) (1 ∷ valuation)))

pub op1_stands : (op : UnaryOperation) (valuation : List ℕ) (w n : ℕ) (x : Word) → IsOf w x → n < 2 ^ w → Stands valuation x n → Stands valuation (op1_word op w x) (op1_of op w n)
op1_stands op valuation w n Any fx small e = tt
op1_stands op valuation w n (Const a) fx small e = ap (op1_of op w) e
op1_stands op valuation w n (Form f) fx small e =
    subst (λ v. Stands valuation (form_op1 op f) (op1_of op v n)) (sym fx.width) (form_op1_stands op valuation f n fx.below (subst (λ v. n < 2 ^ v) fx.width small) e)

complement_fits : (k : ℕ) (f : List ℕ) → length f ≡ k + 1 → Fits k 32 (word_of (complement_of f))
complement_fits k f size =
    let all : ℕ = 2 ^ 32 - 1 in
    let long = sum_size (all ∷ []) (negation_of f) in let same = multiple_size all f in
    word_fits k (complement_of f) (sum_below (all ∷ []) (negation_of f) (omega arith, tt) (multiple_below all f)) (omega (arith, long, same, size))

form_op1_fits : (op : UnaryOperation) (k w : ℕ) (f : List ℕ) → Fits k w (Form f) → Fits k w (form_op1 op f)
form_op1_fits Neg k w f fx = multiple_fits k w (2 ^ 32 - 1) f fx
form_op1_fits Not k w f fx = subst (λ v. Fits k v (word_of (complement_of f))) (sym fx.0.width) (complement_fits k f fx.1)

pub op1_fits : (op : UnaryOperation) (k w : ℕ) (x : Word) → IsWidth w → Fits k w x → Fits k w (op1_word op w x)
op1_fits op k w Any width fx = (tt, tt)
op1_fits op k w (Const a) width fx = (op1_of_fits op w a width fx.0, tt)
op1_fits op k w (Form f) width fx = form_op1_fits op k w f fx

-- ---- casts
pub cast_stands : (f : ℕ → ℕ) (valuation : List ℕ) (n : ℕ) (x : Word) → Stands valuation x n → Stands valuation (cast_word f x) (f n)
cast_stands f valuation n Any e = tt
cast_stands f valuation n (Const a) e = ap f e
cast_stands f valuation n (Form g) e = tt

pub cast_fits : (f : ℕ → ℕ) (k from to : ℕ) (x : Word) → ((n : ℕ) → n < 2 ^ from → f n < 2 ^ to) → Fits k from x → Fits k to (cast_word f x)
cast_fits f k from to Any small fx = (tt, tt)
cast_fits f k from to (Const a) small fx = (small a fx.0, tt)
cast_fits f k from to (Form g) small fx = (tt, tt)
