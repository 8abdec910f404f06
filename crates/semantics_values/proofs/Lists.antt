-- Lists of values and fields of unequal lengths.
use Rattle.std.proofs.Common.{◌≡◌, ℕ, zero, suc, ◌<◌, ◌≤◌, ◌==◌, false, List, [], ◌∷◌, length, drop, map, refl, ◌∙◌, arith, rules}
use Rattle.std.proofs.Math.Dec.{eqb-suc-suc}
use Rattle.spec_ir.specs.Environment.{Environment}
use Rattle.spec_ir.specs.declared.ty.Ty.{Ty}
use Rattle.semantics_values.specs.Types.{have_types}
use Rattle.semantics_values.specs.declared.value.Cell.{Cell}
use Rattle.semantics_values.specs.Values.{vals, no_val, put_cell}
use Rattle.semantics_values.specs.Views.{val}
use Rattle.semantics_values.specs.declared.value.Value.{Value}

module _ (env : Environment) where
  -- values without fields
  pub fields_end : (parts : List Value) (i : ℕ) → i < length parts → have_types env (vals (map val (drop i parts))) [] ≡ false
  fields_end [] i h = absurd (omega (arith, h))
  fields_end (p ∷ parts) zero h = refl
  fields_end (p ∷ parts) (suc i) h = fields_end parts i (omega (arith, h))

  -- fields without values
  pub values_end : {A : Type 0} (f : A → Ty) (fields : List A) (i : ℕ) → i ≤ length fields → (i == length fields) ≡ have_types env no_val (map f (drop i fields))
  values_end f [] zero h = refl
  values_end f [] (suc i) h = absurd (omega (arith, h))
  values_end f (x ∷ fields) zero h = search rules
  values_end f (x ∷ fields) (suc i) h = eqb-suc-suc i (length fields) ∙ values_end f fields i (omega (arith, h))

-- a cell in the place of that of its key
pub put_here : (k : ℕ) (cell : Cell) (c : ℕ × Cell) (cells : List (ℕ × Cell)) → c.0 ≡ k → put_cell k cell (c ∷ cells) ≡ (k, cell) ∷ cells
put_here k cell c cells h = search (rules, h)
