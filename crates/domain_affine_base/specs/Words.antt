-- Words: any number, one number, or a form. At 32 bits alone a word may be a form.
use Rattle.std.specs.Prelude.{◌≡◌, ℕ, ◌+◌, ◌^◌, ◌<◌, Bool, true, false, not, List, ◌∷◌, length, ◌==◌, ◌&&◌, nat_lt, if◌then◌else◌, ⊤}
use Rattle.std.specs.List.{list_all}
use Rattle.support_modular_rows.specs.Forms.{same_form}
use Rattle.support_modular_rows.specs.Submodule.{Congruent, dot}
use Rattle.base_trait.specs.Lists.{Each}
use Rattle.domain_affine_base.specs.Forms.{is_constant, constant_of}
use Rattle.domain_affine_base.specs.declared.word.Word.{Word}
use Rattle.domain_affine_base.specs.declared.word.Word.TheVariants.{Any, Const, Form}

-- in the valuation the word stands for the number: a form for its value over 1 and the numbers of the valuation
abbrev pub Stands : List ℕ → Word → ℕ → Type 0
Stands valuation Any n = ⊤
Stands valuation (Const c) n = n ≡ c
Stands valuation (Form f) n = Congruent n (dot f (1 ∷ valuation))

-- the list is a form of w bits that is no constant
pub record IsForm (w : ℕ) (f : List ℕ) : Type 0 where
  pub width : w ≡ 32
  pub below : Each (λ n. n < 2 ^ 32) f
  pub some : is_constant f ≡ false

-- the word is one of w bits
abbrev pub IsOf : ℕ → Word → Type 0
IsOf w Any = ⊤
IsOf w (Const n) = n < 2 ^ w
IsOf w (Form f) = IsForm w f

-- a form has a number for each of k cells, and one for the constant
abbrev pub HasCells : ℕ → Word → Type 0
HasCells k Any = ⊤
HasCells k (Const n) = ⊤
HasCells k (Form f) = length f ≡ k + 1

-- the word is one of w bits over k cells
abbrev pub Fits : ℕ → ℕ → Word → Type 0
Fits k w x = IsOf w x × HasCells k x

-- whether it is one
abbrev pub fits_word : ℕ → ℕ → Word → Bool
fits_word k w Any = true
fits_word k w (Const n) = nat_lt n (2 ^ w)
fits_word k w (Form f) = (w == 32) && (list_all (λ n. nat_lt n (2 ^ 32)) f && (not (is_constant f) && (length f == k + 1)))

-- whether both are one word
abbrev pub same_word : Word → Word → Bool
same_word Any Any = true
same_word (Const m) (Const n) = m == n
same_word (Form f) (Form g) = same_form f g
same_word _ _ = false

-- the word of a form: a form without multiples is its constant
abbrev pub word_of : List ℕ → Word
word_of f = if is_constant f then Const (constant_of f) else Form f
