-- The terms of sums.
use Rattle.std.specs.Prelude.{ℕ, ◌+◌, ◌%◌, ◌^◌, Bool, true, false, List, [], ◌∷◌, ◌++◌, Option, Some, None}
use Rattle.spec_ir.specs.Specification.{Spec}
use Rattle.state_cell_names.specs.Names.{split_once}
use Rattle.state_cell_text.specs.Digits.{hex_number}
use Rattle.analysis_query_laws.specs.Claims.{Multiple}
use Rattle.text_claims.specs.declared.kinds.Known.{Known}
use Rattle.text_claims.specs.declared.sums.Term.{Term}
use Rattle.text_claims.specs.declared.sums.Term.TheVariants as code
use Rattle.text_claims.specs.Cells.{cell_in}

-- What terms add to: a number below 2 ^ 32, multiples of cells, and whether all cells are known.
pub record Sum : Type 0 where
  pub c : ℕ
  pub parts : List Multiple
  pub known : Bool

abbrev pub nothing : Sum
nothing = record { c = 0; parts = []; known = true }

abbrev pub with_term : Term → Sum → Sum
with_term (code.Number n) s = record { c = (s.c + n) % 2 ^ 32; parts = s.parts; known = s.known }
with_term (code.Multiple m (Some k)) s = record { c = s.c; parts = s.parts ++ (m, k.field, k.key) ∷ []; known = s.known }
with_term (code.Multiple m None) s = record { c = s.c; parts = s.parts; known = false }

abbrev pub number_of : Option ℕ → Option Term
number_of None = None
number_of (Some n) = Some (code.Number n)

abbrev pub multiple_of : Option ℕ → Option (Option Known) → Option Term
multiple_of (Some m) (Some cell) = Some (code.Multiple m cell)
multiple_of _ _ = None

module _ (spec : Spec) where
  abbrev pub term_of : List ℕ → Option (List ℕ × List ℕ) → Option Term
  term_of word None = number_of (hex_number 8 word)
  term_of word (Some (m, cell)) = multiple_of (hex_number 8 m) (cell_in spec cell)

  -- the term that a word is: HEX, or HEX*CELL
  abbrev pub term_in : List ℕ → Option Term
  term_in word = term_of word (split_once 42 word)

  abbrev pub goes_on : Option Term → Sum → (Sum → Option Sum) → Option Sum
  goes_on None s more = None
  goes_on (Some t) s more = more (with_term t s)

  -- what words add to, behind what others do, if all are terms
  abbrev pub sum_from : Sum → List (List ℕ) → Option Sum
  sum_from s [] = Some s
  sum_from s (word ∷ words) = goes_on (term_in word) s (λ t. sum_from t words)
