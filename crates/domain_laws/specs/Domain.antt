-- What a domain is: elements of an analysis with calls that make an element of an entry, a state value of an element, and
-- an element of a state value.
use Rattle.std.specs.Prelude.{◌≡◌, ℕ, ◌<◌, ◌≤◌, ◌^◌, List, [], ◌∷◌}
use Rattle.base_trait.specs.Algebra.{Algebra}
use Rattle.base_trait.specs.Lists.{AreAmong}
use Rattle.base_trait.specs.declared.uses.Stamp.{Stamp}
use Rattle.base_trait.specs.declared.uses.Stamp.TheVariants.{Entry}
use Rattle.spec_ir.specs.Specification.{Spec}
use Rattle.semantics_values.specs.declared.entry.Line.{Line}
use Rattle.semantics_values.specs.States.{State, value_of}
use Rattle.semantics_values.specs.Types.{environment_of}
use Rattle.semantics.specs.Entries.{IsEntryState}
use Rattle.abstract_value_laws.specs.Abs.{Abs}
use Rattle.abstract_value_laws.specs.Describes.{Describes}
use Rattle.abstract_value_laws.specs.Shapes.{ListsStamps}
use Rattle.fixpoint_theory.specs.Elements.{ElementLaws, Elements}
use Rattle.domain_laws.specs.Entries.{LinesFit}
use Rattle.domain_laws.specs.States.{IsState, state_type, state_types}
use Rattle.domain_laws.specs.Values.{IsStateValue}

-- The calls of a domain beside those of its elements E, over words W, notes N and contexts C.
pub record Meaning (E W N C : Type 0) : Type 0 where
  -- what its words share
  pub context : C
  -- the numbers of the cells that are tracked in a state; none where none is
  pub valuation : State → List ℕ
  -- the element of the lines of an entry
  pub entry : List Line → E
  -- the state value at an address, on which an instruction is evaluated
  pub opened : ℕ → E → Abs W N
  -- the element of the state value behind an instruction, where this one stood before it
  pub closed : E → Abs W N → E
  -- the rank with notes counted as 0
  pub rank : E → ℕ

-- The laws of a domain that is for a specification. Its words are of a base B, and its maps list at most cap cells.
pub record DomainLaws {E W N C : Type 0} (B : Algebra W N C) (cap : ℕ) (spec : Spec) (D : Elements E State) (M : Meaning E W N C) : Type 0 where
  pub elements : ElementLaws D
  -- ---- the element of an entry holds of each state of the entry
  pub entry_fits : (lines : List Line) → LinesFit (state_type spec).fields lines → D.fits (M.entry lines)
  pub entry_lists : (lines : List Line) → AreAmong (D.listed (M.entry lines)) (Entry ∷ [])
  pub entry_holds : (lines : List Line) (pc : ℕ) (s : State) → LinesFit (state_type spec).fields lines
      → IsEntryState (environment_of spec) (state_types spec) pc lines s → D.holds (M.entry lines) s
  -- ---- an element opens to a value that describes each state of which it holds, in the valuation of that state
  pub open_fits : (pc : ℕ) (x : E) → pc < 2 ^ 32 → D.fits x → IsStateValue B M.context cap (state_type spec) (M.opened pc x)
  pub open_lists : (stamps : List Stamp) (pc : ℕ) (x : E) → pc < 2 ^ 32 → D.fits x → AreAmong (D.listed x) stamps → ListsStamps B stamps (M.opened pc x)
  pub open_describes : (x : E) (s : State) → s.pc < 2 ^ 32 → IsState spec s → D.fits x → D.holds x s
      → Describes B (M.valuation s) (M.opened s.pc x) (value_of (state_type spec).number s)
  -- ---- a value that describes the next state in the valuation before closes to an element that holds of that state
  pub close_fits : (before : E) (value : Abs W N) → D.fits before → IsStateValue B M.context cap (state_type spec) value → D.fits (M.closed before value)
  pub close_lists : (stamps : List Stamp) (before : E) (value : Abs W N) → D.fits before → IsStateValue B M.context cap (state_type spec) value
      → AreAmong (D.listed before) stamps → ListsStamps B stamps value → AreAmong (D.listed (M.closed before value)) stamps
  pub close_holds : (before : E) (value : Abs W N) (s next : State) → D.fits before → IsStateValue B M.context cap (state_type spec) value
      → D.holds before s → Describes B (M.valuation s) value (value_of (state_type spec).number next) → D.holds (M.closed before value) next
  -- ---- elements that are the same open to one value, and close to elements that are the same
  pub open_same : (pc : ℕ) (x y : E) → D.fits x → D.fits y → D.same x y → M.opened pc x ≡ M.opened pc y
  pub close_same : (x y : E) (value : Abs W N) → D.fits x → D.fits y → IsStateValue B M.context cap (state_type spec) value → D.same x y → D.same (M.closed x value) (M.closed y value)
  -- ---- notes only add to the rank
  pub rank_least : (stamps : List Stamp) (x : E) → D.fits x → M.rank x ≤ D.rank stamps x
