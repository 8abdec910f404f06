-- What a line of claims says by itself.
use Rattle.std.specs.Prelude.{ℕ, ◌^◌, ◌==◌, nat_lt, List, [], ◌∷◌, Option, Some, None, bytes_eq, codes, if◌then◌else◌}
use Rattle.std.specs.List.{slice_split}
use Rattle.spec_ir.specs.Specification.{Spec}
use Rattle.state_cell_text.specs.Digits.{hex_number}
use Rattle.analysis_query_laws.specs.Claims.{Claim, differs, never, range, sum}
use Rattle.text_claims.specs.declared.kinds.Known.{Known}
use Rattle.text_claims.specs.Cells.{cell_in}
use Rattle.text_claims.specs.Lines.{is_space}
use Rattle.text_claims.specs.Numbers.{ends}
use Rattle.text_claims.specs.Sums.{Sum, nothing as no_term, sum_from}

-- Nothing; no claim, by its form or since a number is too big for its cell; a claim of a cell that the states do not have; or a claim.
pub data Meant : Type 0 where
  nothing : Meant
  bad : Meant
  unknown : Meant
  says : Claim → Meant

-- a claim of a cell, where it is known, whose greatest number is this
abbrev pub sized : ℕ → Option Known → (Known → Claim) → Meant
sized v None of = unknown
sized v (Some k) of = if nat_lt v (2 ^ k.width) then says (of k) else bad

-- ADDRESS CELL in LO..HI
abbrev pub range_means : Option ℕ → Option (Option Known) → Option (ℕ × ℕ) → Meant
range_means (Some at) (Some cell) (Some (lo, hi)) = sized hi cell (λ k. range at k.field k.key lo hi)
range_means _ _ _ = bad

-- ADDRESS CELL != HEX
abbrev pub differs_means : Option ℕ → Option (Option Known) → Option ℕ → Meant
differs_means (Some at) (Some cell) (Some v) = sized v cell (λ k. differs at k.field k.key v)
differs_means _ _ _ = bad

-- ADDRESS never
abbrev pub never_means : Option ℕ → List ℕ → Meant
never_means None word = bad
never_means (Some at) word = if bytes_eq word (codes "never") then says (never at) else bad

abbrev pub total_means : Option ℕ → Option Sum → Meant
total_means (Some at) (Some s) = if s.known then says (sum at s.c s.parts) else unknown
total_means _ _ = bad

module _ (spec : Spec) where
  -- ADDRESS eq TERM TERM ..
  abbrev pub sum_means : Option ℕ → List ℕ → List (List ℕ) → Meant
  sum_means at word terms = if bytes_eq word (codes "eq") then total_means at (sum_from spec no_term terms) else bad

  -- three words behind an address
  abbrev pub verb_means : Option ℕ → List ℕ → List ℕ → List ℕ → Meant
  verb_means at first verb value = if bytes_eq verb (codes "in") then range_means at (cell_in spec first) (ends value)
      else (if bytes_eq verb (codes "!=") then differs_means at (cell_in spec first) (hex_number 16 value) else sum_means at first (verb ∷ value ∷ []))

  -- two words or more behind an address
  abbrev pub words_mean : Option ℕ → List ℕ → List (List ℕ) → Meant
  words_mean at first (verb ∷ value ∷ []) = verb_means at first verb value
  words_mean at first more = sum_means at first more

  -- the words of a line
  abbrev pub line_means : List (List ℕ) → Meant
  line_means [] = bad
  line_means (at ∷ []) = bad
  line_means (at ∷ word ∷ []) = never_means (hex_number 8 at) word
  line_means (at ∷ first ∷ second ∷ more) = words_mean (hex_number 8 at) first (second ∷ more)

  -- What a line says. Empty lines and lines that begin with `#` say nothing.
  abbrev pub meant : List ℕ → Meant
  meant [] = nothing
  meant (b ∷ bytes) = if b == 35 then nothing else line_means (slice_split is_space (b ∷ bytes))
