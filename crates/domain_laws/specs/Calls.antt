-- The calls of a domain on elements of cells.
use Rattle.std.specs.Prelude.{ℕ, ◌+◌, Bool, ◌&&◌, not, []}
use Rattle.base_trait.specs.Algebra.{Algebra}
use Rattle.spec_ir.specs.Specification.{Spec}
use Rattle.abstract_value_laws.specs.Abs.{Abs, Cases, Parts, word, made, no_case, present, no_part, part}
use Rattle.abstract_value_laws.specs.Ranks.{leaf_rank}
use Rattle.domain_laws.specs.Domain.{Meaning}
use Rattle.domain_laws.specs.States.{StateType, has_states, same_states, state_type}
use Rattle.domain_laws.specs.Entry.{entry_values}

module _ {W N : Type 0} where
  -- the one constructor of states on a counter and fields
  abbrev pub made_state : ℕ → W → Parts W N → Abs W N
  made_state number counter xs = made number (present (part (word 32 counter) xs) no_case)

  -- the fields of the one constructor but the first
  abbrev pub behind_first : Cases W N → Parts W N
  behind_first (present (part counter xs) no_case) = xs
  behind_first _ = no_part

  -- the fields behind the counter
  abbrev pub fields_of : Abs W N → Parts W N
  fields_of (made ty cs) = behind_first cs
  fields_of _ = no_part

module _ {W N C : Type 0} (B : Algebra W N C) (c : C) where
  -- the sum of the ranks of its words
  abbrev pub values_rank : Parts W N → ℕ
  values_rank no_part = 0
  values_rank (part x xs) = leaf_rank B c x + values_rank xs

  -- The counter of an opened state is a constant, and closing drops it.
  abbrev pub cell_calls : ℕ → StateType → Meaning (Parts W N) W N C
  cell_calls cap t = record {
    context = c;
    valuation = λ s. [];
    entry = λ lines. entry_values B c cap lines 1 t.fields;
    opened = λ pc x. made_state t.number (B.words.constant c 32 pc) x;
    closed = λ before value. fields_of value;
    rank = values_rank;
  }

-- Whether elements of cells, with the states of this type, are a domain for a specification: its states have this type, and the
-- base joins and does not look at the valuation.
abbrev pub is_for : {W N C : Type 0} → Algebra W N C → StateType → Spec → Bool
is_for B t spec = B.joins && (not B.words.looks && (has_states spec && same_states t (state_type spec)))
