-- What lines give, as plain data.
use Rattle.std.specs.Prelude.{◌≡◌, ◌⊎◌, ℕ, true, Option, None, Some, Result, Ok, Err}
use Rattle.std.specs.declared.cmp.Ordering.{Ordering}
use Rattle.std.specs.Ordering.{nat_cmp, ordering_then}
use Rattle.std.specs.BTreeSet.{contains}
use Rattle.semantics_values.specs.declared.entry.GivenNumber.{GivenNumber}
use Rattle.semantics_values.specs.declared.entry.KeyAt.TheVariants.{At}
use Rattle.state_text.specs.Meaning.{given_fits}
use Rattle.state_text.specs.declared.given_cells.GivenCells.{GivenCells as FoundOf}
use Rattle.state_text.specs.declared.entry_error.EntryError.{EntryError}
use Rattle.state_text.specs.declared.entry_error.EntryError.TheVariants.{NoMemory}
use Rattle.state_text.specs.Reading.{GivenCells, is_given}

abbrev pub found_of : FoundOf → GivenCells
found_of f = record { counter = f.counter; lines = f.lines.items }

-- the order of pairs of numbers
abbrev pub pair_cmp : ℕ × ℕ → ℕ × ℕ → Ordering
pair_cmp x y = ordering_then (nat_cmp x.0 y.0) (nat_cmp x.1 y.1)

-- A number of the program counter has at most 32 bits.
abbrev pub IsSmall : Option GivenNumber → Type 0
IsSmall None = Unit {0}
IsSmall (Some given) = given_fits given 32 ≡ true

-- The keys are those of the lines, and the program counter is small.
pub record IsKept (f : FoundOf) : Type 0 where
  pub indexed : (field key : ℕ) → contains pair_cmp f.keys (field, key) ≡ is_given f.lines.items field (At key)
  pub small : IsSmall f.counter

-- What was found with a line more is the definition's, or the error is, or memory ran out.
abbrev pub Gives : Result Unit EntryError → GivenCells → Result GivenCells EntryError → Type 0
Gives (Ok u) found want = want ≡ Ok found
Gives (Err e) found want = (want ≡ Err e) ⊎ (e ≡ NoMemory)
