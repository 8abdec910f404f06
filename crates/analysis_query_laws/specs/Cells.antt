-- What elements of cells tell of claims: those of single cells.
use Rattle.std.specs.Prelude.{ℕ, zero, suc, Bool, true, false, ◌&&◌, not, Option, Some, None, []}
use Rattle.word_operations.specs.declared.kinds.WordComparison.TheVariants.{LeU}
use Rattle.base_trait.specs.Algebra.{Algebra, can_be}
use Rattle.abstract_map_laws.specs.Maps.{cell}
use Rattle.semantics_values.specs.declared.entry.KeyAt.{KeyAt}
use Rattle.semantics_values.specs.declared.entry.KeyAt.TheVariants.{Whole, At}
use Rattle.abstract_value_laws.specs.Abs.{Abs, Parts, word, map, no_part, part}
use Rattle.analysis_query_laws.specs.Answers.{Telling}

module _ {W N : Type 0} where
  -- the value of a field; the counter is number 0, and has none
  abbrev pub value_behind : Parts W N → ℕ → Option (Abs W N)
  value_behind no_part n = None
  value_behind (part x xs) zero = Some x
  value_behind (part x xs) (suc n) = value_behind xs n

  abbrev pub value_in : Parts W N → ℕ → Option (Abs W N)
  value_in xs zero = None
  value_in xs (suc n) = value_behind xs n

  -- the width and the word of a cell
  abbrev pub word_of : Option (Abs W N) → KeyAt → Option (ℕ × W)
  word_of (Some (word w x)) Whole = Some (w, x)
  word_of (Some (map m x)) (At k) = Some (x.width, (cell x k).word)
  word_of _ _ = None

  abbrev pub word_in : Parts W N → ℕ → KeyAt → Option (ℕ × W)
  word_in xs field key = word_of (value_in xs field) key

module _ {W N C : Type 0} (B : Algebra W N C) (c : C) where
  -- whether neither that the least is at most the word, nor that the word is at most the greatest may be false
  abbrev pub is_within : ℕ → ℕ → Option (ℕ × W) → Bool
  is_within lo hi None = false
  is_within lo hi (Some x) =
      not (can_be (B.words.cmp c LeU x.0 (B.words.constant c x.0 lo) x.1) false) && not (can_be (B.words.cmp c LeU x.0 x.1 (B.words.constant c x.0 hi)) false)

  -- whether the word may not be the number
  abbrev pub is_not : ℕ → Option (ℕ × W) → Bool
  is_not v None = false
  is_not v (Some x) = not (B.words.may c x.0 x.1 v)

  abbrev pub cells_tell : Telling (Parts W N)
  cells_tell = record {
    takes_ranges = true;
    takes_sums = false;
    tracked = [];
    in_range = λ x field key lo hi. is_within lo hi (word_in x field key);
    excludes = λ x field key v. is_not v (word_in x field key);
    meets = λ x form. false;
  }
