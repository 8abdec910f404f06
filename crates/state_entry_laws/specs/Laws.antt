-- Entries that are read, and their states.
use Rattle.std.specs.Prelude.{◌≡◌, ℕ, ◌<◌, ◌^◌, true, List, Ok, Some}
use Rattle.std.specs.List.{list_all}
use Rattle.syntax_lexer.specs.declared.token.Token.{Token}
use Rattle.syntax_lexer.specs.Source.{IsLexedFrom}
use Rattle.syntax_parser.specs.Exact.{HasTree}
use Rattle.syntax_parser.specs.Tree.{Tree}
use Rattle.spec_ir.specs.declared.spec.Machine.{Machine as MachineNumbers}
use Rattle.spec_ir.specs.declared.spec.SpecUse.TheVariants.{Machine}
use Rattle.spec_ir.specs.Specification.{Spec}
use Rattle.spec_checker.specs.Check.{IsFaultless, IsSpecOf}
use Rattle.semantics_values.specs.States.{State}
use Rattle.semantics_values.specs.Types.{environment_of}
use Rattle.semantics.specs.Entries.{IsEntryState}
use Rattle.semantics_laws.specs.Accepted.{IsAccepted}
use Rattle.state_cell_text.specs.Places.{state_fields}
use Rattle.state_text.specs.Laws.{HasFields}
use Rattle.state_text.specs.OneState.{one_state, types_behind}
use Rattle.state_text.specs.Reading.{Entry, read}
use Rattle.state_entry_laws.specs.Fitting.{is_cell, line_fits}

module _ (spec : Spec) where
  -- Each field of a state behind the program counter is a word, or a map with a default of its width.
  abbrev pub HasCells : Type 0
  HasCells = list_all (is_cell (environment_of spec)) (types_behind (state_fields spec)) ≡ true

  -- The entry gives the program counter a number of 32 bits, and cells that are there numbers of their widths.
  pub record Fits (e : Entry) : Type 0 where
    pub counter : e.pc < 2 ^ 32
    pub lines : list_all (line_fits (environment_of spec) (types_behind (state_fields spec))) e.lines ≡ true

-- An entry that is read fits.
abbrev pub EntriesFit : Type 0
EntriesFit = (spec : Spec) (bytes : List ℕ) (e : Entry) → read spec bytes ≡ Ok e → Fits spec e

-- The one state of an entry that fits is a state that the entry describes.
abbrev pub OneStatesAreDescribed : Type 0
OneStatesAreDescribed = (spec : Spec) (e : Entry) (s : State) → HasCells spec → Fits spec e → one_state spec e ≡ Ok s
    → IsEntryState (environment_of spec) (types_behind (state_fields spec)) e.pc e.lines s

-- Machines of accepted specifications have such fields.
abbrev pub AcceptedHaveCells : Type 0
AcceptedHaveCells = (spec : Spec) (m : MachineNumbers) → IsAccepted spec → spec.machine ≡ Some m → HasCells spec

-- The one state of an entry that is read, of an accepted machine, is one that the entry describes.
abbrev pub ReadStatesAreDescribed : Type 0
ReadStatesAreDescribed = (spec : Spec) (m : MachineNumbers) (bytes : List ℕ) (e : Entry) (s : State) → IsAccepted spec → spec.machine ≡ Some m → read spec bytes ≡ Ok e → one_state spec e ≡ Ok s
    → IsEntryState (environment_of spec) (types_behind (state_fields spec)) e.pc e.lines s × (s.pc < 2 ^ 32)

-- The machine that is checked of a text without faults has such fields of states as the laws of their texts rely on: few, of different
-- names, each behind the program counter a word or a map.
abbrev pub MachinesHaveFields : Type 0
MachinesHaveFields = (source : List ℕ) (tokens : List Token) (end : ℕ) (tree : Tree) (spec : Spec) → IsLexedFrom source tokens → HasTree tokens end tree
    → IsFaultless Machine tree → IsSpecOf tree Machine spec → HasFields spec
