-- What a text gives, and its first fault.
use Rattle.std.specs.Prelude.{◌≡◌, ◌⊎◌, ℕ, ◌+◌, Bool, true, false, List, [], ◌∷◌, ◌++◌, map, Option, Some, None, is_some, Result, Ok, Err, ◌==◌, ◌&&◌, if◌then◌else◌}
use Rattle.spec_ir.specs.Specification.{Spec}
use Rattle.semantics_values.specs.declared.entry.GivenNumber.{GivenNumber}
use Rattle.semantics_values.specs.declared.entry.GivenNumber.TheVariants.{One, Any, Range}
use Rattle.semantics_values.specs.declared.entry.KeyAt.{KeyAt}
use Rattle.semantics_values.specs.declared.entry.Line.{Line}
use Rattle.semantics_values.specs.declared.entry.Entry.{Entry as EntryOf}
use Rattle.semantics.specs.Entries.{is_key}
use Rattle.state_text.specs.declared.fault.EntryFault.{EntryFault}
use Rattle.state_text.specs.declared.fault.EntryFault.TheVariants as fault
use Rattle.state_text.specs.declared.entry_error.EntryError.{EntryError}
use Rattle.state_text.specs.declared.entry_error.EntryError.TheVariants.{BadLine, UnknownCell, TooBig, Twice, NoPc, NoMemory}
use Rattle.state_text.specs.Lines.{lines}
use Rattle.state_text.specs.Meaning.{Said, nothing, counter, cells, faulty, said}

-- the error of a text whose first faulty line is number n
abbrev pub error_at : ℕ → EntryFault → EntryError
error_at n fault.Form = BadLine n
error_at n fault.Unknown = UnknownCell n
error_at n fault.TooBig = TooBig n

-- what lines give: of the program counter, and of other cells
pub record GivenCells : Type 0 where
  pub counter : Option GivenNumber
  pub lines : List Line

abbrev pub none_found : GivenCells
none_found = record { counter = None; lines = [] }

-- whether a cell was given: one cell, or the rest of a map, by a line before
abbrev pub is_given : List Line → ℕ → KeyAt → Bool
is_given [] field key = false
is_given (l ∷ ls) field key = if l.field == field && is_key l.key key then true else is_given ls field key

-- whether one of these cells of a field was given
abbrev pub any_given : List Line → ℕ → List (KeyAt × GivenNumber) → Bool
any_given ls field [] = false
any_given ls field (c ∷ cs) = if is_given ls field c.0 then true else any_given ls field cs

abbrev pub line_of : ℕ → ℕ → KeyAt × GivenNumber → Line
line_of n field c = record { field = field; key = c.0; given = c.1; line = n }

-- what is found with the cells of line number n, or that one of them was given before
abbrev pub with_cells : ℕ → ℕ → List (KeyAt × GivenNumber) → GivenCells → Result GivenCells EntryError
with_cells n field cs found = if any_given found.lines field cs then Err (Twice n) else Ok (record { counter = found.counter; lines = found.lines ++ map (line_of n field) cs })

-- what is found with the program counter of line number n, or that it was given before
abbrev pub with_counter : ℕ → GivenNumber → GivenCells → Result GivenCells EntryError
with_counter n given found = if is_some found.counter then Err (Twice n) else Ok (record { counter = Some given; lines = found.lines })

-- what is found with line number n, which says this
abbrev pub with_line : ℕ → Said → GivenCells → Result GivenCells EntryError
with_line n nothing found = Ok found
with_line n (faulty f) found = Err (error_at n f)
with_line n (counter given) found = with_counter n given found
with_line n (cells field cs) found = with_cells n field cs found

-- an entry as plain data
pub record Entry : Type 0 where
  pub pc : ℕ
  pub lines : List Line

abbrev pub entry_of : EntryOf → Entry
entry_of e = record { pc = e.pc; lines = e.lines.items }

-- the one number that is given, where it is one: a range from a number to itself gives it
abbrev pub single_number : GivenNumber → Option ℕ
single_number (One v) = Some v
single_number Any = None
single_number (Range lo hi) = if lo == hi then Some lo else None

-- the entry, where the program counter is given one number
abbrev pub counted : Option ℕ → List Line → Result Entry EntryError
counted None ls = Err NoPc
counted (Some pc) ls = Ok (record { pc = pc; lines = ls })

-- the one number of a cell that may be given
abbrev pub number_given : Option GivenNumber → Option ℕ
number_given None = None
number_given (Some given) = single_number given

-- the entry that was found behind the last line
abbrev pub entry_found : GivenCells → Result Entry EntryError
entry_found found = counted (number_given found.counter) found.lines

module _ (spec : Spec) where
  abbrev pub goes_on : Result GivenCells EntryError → (GivenCells → Result Entry EntryError) → Result Entry EntryError
  goes_on (Err e) rest = Err e
  goes_on (Ok found) rest = rest found

  -- the entry of lines from number n on, behind what was found, or their first fault
  abbrev pub read_from : ℕ → GivenCells → List (List ℕ) → Result Entry EntryError
  read_from n found [] = entry_found found
  read_from n found (line ∷ ls) = goes_on (with_line n (said spec line) found) (λ more. read_from (n + 1) more ls)

  -- The entry of a text, or its first fault.
  abbrev pub read : List ℕ → Result Entry EntryError
  read bytes = read_from 1 none_found (lines bytes)

-- The value is the definition's, or the error is, or memory ran out.
abbrev pub Agrees : Result EntryOf EntryError → Result Entry EntryError → Type 0
Agrees (Ok e) want = want ≡ Ok (entry_of e)
Agrees (Err e) want = (want ≡ Err e) ⊎ (e ≡ NoMemory)
