-- Which truth values a comparison may have.
use Rattle.std.specs.Prelude.{ℕ, Bool, true, false, not, List, ◌∷◌, ◌==◌, if◌then◌else◌}
use Rattle.word_operations.specs.declared.kinds.WordComparison.{WordComparison}
use Rattle.word_operations.specs.declared.kinds.WordComparison.TheVariants.{Eq, Ne, LtU, LeU, LtS, LeS}
use Rattle.word_operations.specs.Cmp.{cmp_of}
use Rattle.support_modular_rows.specs.Forms.{same_form}
use Rattle.base_trait.specs.declared.tri.Tri.{Tri}
use Rattle.domain_affine_base.specs.declared.word.Word.{Word}
use Rattle.domain_affine_base.specs.declared.word.Word.TheVariants.{Const, Form}

abbrev pub either : Tri
either = record { may_true = true; may_false = true }

-- this truth value alone
abbrev pub only : Bool → Tri
only b = record { may_true = b; may_false = not b }

-- of a number with itself
abbrev pub with_itself : WordComparison → Bool
with_itself Eq = true
with_itself Ne = false
with_itself LtU = false
with_itself LeU = true
with_itself LtS = false
with_itself LeS = true

-- of numbers whose difference is a constant other than 0
abbrev pub apart : WordComparison → Tri
apart Eq = only false
apart Ne = only true
apart _ = either

-- forms with the same multiples differ by a constant
abbrev pub forms_compared : WordComparison → List ℕ → List ℕ → Tri
forms_compared k (a ∷ f) (b ∷ g) = if same_form f g then (if a == b then only (with_itself k) else apart k) else either
forms_compared k _ _ = either

abbrev pub compared : WordComparison → ℕ → Word → Word → Tri
compared k w (Const m) (Const n) = only (cmp_of k w m n)
compared k w (Form f) (Form g) = forms_compared k f g
compared k w _ _ = either
