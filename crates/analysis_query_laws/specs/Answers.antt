-- What elements of a domain tell of claims, and the answer of a table.
use Rattle.std.specs.Prelude.{ℕ, suc, ◌+◌, ◌%◌, ◌^◌, Bool, true, false, ◌&&◌, Option, Some, None, option_map, List, [], ◌∷◌, length, replicate, slice_index, slice_set, if◌then◌else◌}
use Rattle.semantics_values.specs.declared.entry.KeyAt.{KeyAt}
use Rattle.fixpoint_theory.specs.Table.{Listing, Listings}
use Rattle.domain_affine_laws.specs.Opened.{is_cell}
use Rattle.analysis_query_laws.specs.Claims.{Claim, Multiple, address_of, differs, never, range, sum}

-- What elements E tell: whether they tell of single cells, and of sums over which cells; whether an element has the number of a cell in a range, and
-- whether it is none that a cell may have; and whether it has a form 0: a number, and a multiple of each of these cells.
pub record Telling (E : Type 0) : Type 0 where
  pub takes_ranges : Bool
  pub takes_sums : Bool
  pub tracked : List (ℕ × KeyAt)
  pub in_range : E → ℕ → KeyAt → ℕ → ℕ → Bool
  pub excludes : E → ℕ → KeyAt → ℕ → Bool
  pub meets : E → List ℕ → Bool

-- ---- the form of a sum
-- the place of a cell
abbrev pub column_of : List (ℕ × KeyAt) → ℕ → KeyAt → Option ℕ
column_of [] field key = None
column_of (cell ∷ cells) field key = if is_cell cell field key then Some 0 else option_map suc (column_of cells field key)

-- so many more of the cell at a place
abbrev pub with_multiple : ℕ → Option ℕ → List ℕ → List ℕ
with_multiple m None form = form
with_multiple m (Some column) form = slice_set form (suc column) ((slice_index form (suc column) + m) % 2 ^ 32)

-- Multiples of one cell are added.
abbrev pub form_of : List (ℕ × KeyAt) → ℕ → List Multiple → List ℕ
form_of cells c [] = c ∷ replicate (length cells) 0
form_of cells c (p ∷ parts) = with_multiple p.0 (column_of cells p.1 p.2) (form_of cells c parts)

module _ {E : Type 0} (K : Telling E) where
  abbrev pub told : E → Claim → Bool
  told x (range at field key lo hi) = K.takes_ranges && K.in_range x field key lo hi
  told x (sum at c parts) = K.takes_sums && K.meets x (form_of K.tracked c parts)
  told x (differs at field key v) = K.takes_ranges && K.excludes x field key v
  told x (never at) = false

  -- at an address that is not listed every claim is true: no run comes there
  abbrev pub answer_at : Option (Listing E) → Claim → Bool
  answer_at None claim = true
  answer_at (Some b) claim = told b.elem claim

  -- The answer to a claim: yes, or open.
  abbrev pub answer : Listings E → Claim → Bool
  answer t claim = answer_at (t (address_of claim)) claim
