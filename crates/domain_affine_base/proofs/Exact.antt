-- Results are exact in every valuation.
use Rattle.std.proofs.Common.{◌≡◌, ℕ, ◌%◌, ◌^◌, ◌<◌, ◌≤◌, Bool, true, false, List, [], ◌∷◌, refl, sym, ◌∙◌, subst, arith, ◌⊎◌, inl, inr, mod-lt, pow_pos, pow_mono}
use Rattle.word_operations.specs.declared.kinds.UnaryOperation.{UnaryOperation}
use Rattle.word_operations.specs.declared.kinds.UnaryOperation.TheVariants.{Neg, Not}
use Rattle.word_operations.specs.declared.kinds.BinaryOperation.{BinaryOperation}
use Rattle.word_operations.specs.declared.kinds.BinaryOperation.TheVariants.{Add, Sub, Mul, Shl}
use Rattle.word_operations.specs.Op1.{op1_of}
use Rattle.word_operations.specs.Op2.{op2_of}
use Rattle.word_operations.specs.Width.{IsWidth}
use Rattle.word_operations.proofs.Fits.{op1_of_fits, op2_of_fits}
use Rattle.support_modular_rows.specs.Submodule.{dot}
use Rattle.base_trait.proofs.Tests.{at_choice}
use Rattle.domain_affine_base.specs.Exact.{ExactResults, LinearValues, OneNumber, StandsByValue, StandsFor, IsConstant}
use Rattle.domain_affine_base.specs.Forms.{complement_of, difference_of, is_constant, constant_of, multiple_of, negation_of, sum_of}
use Rattle.domain_affine_base.specs.Linear.{agreeing_equal, multiple_value, remainder_agrees, sum_value}
use Rattle.domain_affine_base.specs.Operations.{op1_word, op2_word}
use Rattle.domain_affine_base.specs.Results.{alone, op1_fits, op1_stands, op2_fits, op2_stands}
use Rattle.domain_affine_base.specs.Words.{Fits, Stands, word_of}
use Rattle.domain_affine_base.specs.declared.word.Word.{Word}
use Rattle.domain_affine_base.specs.declared.word.Word.TheVariants.{Any, Const, Form}

pub linear_values : LinearValues
linear_values c f g v = (sum_value f g v, multiple_value c f v)

-- ---- words that are not any
abbrev is_any : Word → Bool
is_any Any = true
is_any _ = false

-- they stand for one number alone
one_alone : (k w : ℕ) (valuation : List ℕ) (x : Word) (m n : ℕ) → Fits k w x → is_any x ≡ false → m < 2 ^ w → n < 2 ^ w → Stands valuation x m → Stands valuation x n → m ≡ n
one_alone k w valuation Any m n fx some left right d e = cc
one_alone k w valuation (Const c) m n fx some left right d e = d ∙ sym e
one_alone k w valuation (Form f) m n fx some left right d e =
    agreeing_equal m n (subst (λ v. m < 2 ^ v) fx.0.width left) (subst (λ v. n < 2 ^ v) fx.0.width right) (d ∙ sym e)

-- and any stands for 0 and 1
no_any : (valuation : List ℕ) (w n : ℕ) (x : Word) → IsWidth w → StandsFor valuation w x n → is_any x ≡ false
no_any valuation w n Any width h =
    let two : 2 ^ 1 ≤ 2 ^ w = pow_mono width.0 in
    let zero_is = h.only 0 (omega (arith, two)) tt in let one_is = h.only 1 (omega (arith, two)) tt in
    absurd (omega (arith, zero_is, one_is))
no_any valuation w n (Const c) width h = refl
no_any valuation w n (Form f) width h = refl

stands_for : (k w : ℕ) (valuation : List ℕ) (x : Word) (n : ℕ) → Fits k w x → is_any x ≡ false → n < 2 ^ w → Stands valuation x n → StandsFor valuation w x n
stands_for k w valuation x n fx some small d = record { below = small; stands = d; only = λ m less e. one_alone k w valuation x m n fx some less small e d }

form_some : (f : List ℕ) → is_any (word_of f) ≡ false
form_some f = at_choice (λ x. is_any x ≡ false) (is_constant f) (Const (constant_of f)) (Form f) (λ e. refl) (λ e. refl)

one_some : (op : UnaryOperation) (w : ℕ) (x : Word) → is_any x ≡ false → is_any (op1_word op w x) ≡ false
one_some op w Any some = cc
one_some op w (Const c) some = refl
one_some Neg w (Form f) some = form_some (negation_of f)
one_some Not w (Form f) some = form_some (complement_of f)

sum_some : (w : ℕ) (x y : Word) → is_any x ≡ false → is_any y ≡ false → is_any (op2_word Add w x y) ≡ false
sum_some w Any y some more = cc
sum_some w (Const a) Any some more = cc
sum_some w (Const a) (Const b) some more = refl
sum_some w (Const a) (Form g) some more = form_some (sum_of (a ∷ []) g)
sum_some w (Form f) Any some more = cc
sum_some w (Form f) (Const b) some more = form_some (sum_of f (b ∷ []))
sum_some w (Form f) (Form g) some more = form_some (sum_of f g)

difference_some : (w : ℕ) (x y : Word) → is_any x ≡ false → is_any y ≡ false → is_any (op2_word Sub w x y) ≡ false
difference_some w Any y some more = cc
difference_some w (Const a) Any some more = cc
difference_some w (Const a) (Const b) some more = refl
difference_some w (Const a) (Form g) some more = form_some (difference_of (a ∷ []) g)
difference_some w (Form f) Any some more = cc
difference_some w (Form f) (Const b) some more = form_some (difference_of f (b ∷ []))
difference_some w (Form f) (Form g) some more = form_some (difference_of f g)

product_some : (w : ℕ) (x y : Word) → is_any x ≡ false → is_any y ≡ false → IsConstant x ⊎ IsConstant y → is_any (op2_word Mul w x y) ≡ false
product_some w Any y some more c = cc
product_some w (Const a) Any some more c = cc
product_some w (Const a) (Const b) some more c = refl
product_some w (Const a) (Form g) some more c = form_some (multiple_of a g)
product_some w (Form f) Any some more c = cc
product_some w (Form f) (Const b) some more c = form_some (multiple_of b f)
product_some w (Form f) (Form g) some more (inl h) = cc
product_some w (Form f) (Form g) some more (inr h) = cc

shift_some : (w : ℕ) (x y : Word) → is_any x ≡ false → IsConstant y → is_any (op2_word Shl w x y) ≡ false
shift_some w Any y some c = cc
shift_some w (Const a) Any some c = cc
shift_some w (Const a) (Const b) some c = refl
shift_some w (Const a) (Form g) some c = cc
shift_some w (Form f) Any some c = cc
shift_some w (Form f) (Const b) some c = form_some (multiple_of (op2_of Shl 32 1 b) f)
shift_some w (Form f) (Form g) some c = cc

pub exact_results : ExactResults
exact_results k w m n valuation x y width fx fy d e =
    let some = no_any valuation w m x width d in
    let more = no_any valuation w n y width e in
    let two : (op : BinaryOperation) → is_any (op2_word op w x y) ≡ false → StandsFor valuation w (op2_word op w x y) (op2_of op w m n) =
    λ op found. stands_for k w valuation (op2_word op w x y) (op2_of op w m n) (op2_fits op k w x y width fx fy) found
    (op2_of_fits op w m n width d.below e.below) (op2_stands op valuation w m n x y fx.0 fy.0 d.below e.below d.stands e.stands) in
    record {
      of_one = λ op. stands_for k w valuation (op1_word op w x) (op1_of op w m) (op1_fits op k w x width fx) (one_some op w x some)
          (op1_of_fits op w m width d.below) (op1_stands op valuation w m x fx.0 d.below d.stands);
      sum = two Add (sum_some w x y some more);
      difference = two Sub (difference_some w x y some more);
      product = λ c. two Mul (product_some w x y some more c);
      shift = λ c. two Shl (shift_some w x y some c);
    }

pub one_number : OneNumber
one_number k w valuation Any width fx some = absurd (some refl)
one_number k w valuation (Const c) width fx some = (c, stands_for k w valuation (Const c) c fx refl fx.0 refl)
one_number k w valuation (Form f) width fx some =
    let value : ℕ = dot f (1 ∷ valuation) % 2 ^ 32 in
    let small : dot f (1 ∷ valuation) % 2 ^ 32 < 2 ^ w = subst (λ v. dot f (1 ∷ valuation) % 2 ^ 32 < 2 ^ v) (sym fx.0.width) (mod-lt (dot f (1 ∷ valuation)) (pow_pos 32)) in
    (dot f (1 ∷ valuation) % 2 ^ 32, stands_for k w valuation (Form f) value fx refl small (remainder_agrees (dot f (1 ∷ valuation))))

pub stands_by_value : StandsByValue
stands_by_value k n valuation Any fx small = (λ h. tt, λ h. tt)
stands_by_value k n valuation (Const c) fx small =
    (λ h. alone valuation n c h, λ h. agreeing_equal n c small fx.0 (h ∙ sym (alone valuation c c refl)))
stands_by_value k n valuation (Form f) fx small = (λ h. h, λ h. h)
