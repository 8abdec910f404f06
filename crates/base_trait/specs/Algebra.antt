-- What a base of abstract words is: its operations as functions, and which numbers a word describes.
use Rattle.std.specs.Prelude.{ℕ, Bool, true, false, List, Option}
use Rattle.word_operations.specs.declared.kinds.UnaryOperation.{UnaryOperation}
use Rattle.word_operations.specs.declared.kinds.BinaryOperation.{BinaryOperation}
use Rattle.word_operations.specs.declared.kinds.WordComparison.{WordComparison}
use Rattle.base_trait.specs.declared.tri.Tri.{Tri}
use Rattle.base_trait.specs.declared.uses.Stamp.{Stamp}
use Rattle.base_trait.specs.Uses.{Seen}

-- the flag may be this truth value
abbrev pub can_be : Tri → Bool → Bool
can_be t true = t.may_true
can_be t false = t.may_false

-- Words W over contexts C. Widths are counted in bits. A valuation is the list of the numbers that the
-- tracked cells have before the instruction.
pub record Words (W C : Type 0) : Type 1 where
  -- in the valuation, at the width, the number is one that the word stands for
  pub describes : List ℕ → ℕ → ℕ → W → Type 0
  -- the word is one of the width
  pub fits : C → ℕ → W → Type 0
  -- whether it is, as a test
  pub fits_test : C → ℕ → W → Bool
  -- whether the numbers that a word stands for depend on the valuation
  pub looks : Bool
  pub constant : C → ℕ → ℕ → W
  pub any : C → ℕ → W
  pub range : C → ℕ → ℕ → ℕ → W
  pub op1 : C → UnaryOperation → ℕ → W → W
  pub op2 : C → BinaryOperation → ℕ → W → W → W
  pub cmp : C → WordComparison → ℕ → W → W → Tri
  pub zext : C → ℕ → ℕ → W → W
  pub sext : C → ℕ → ℕ → W → W
  pub trunc : C → ℕ → ℕ → W → W
  pub join : C → ℕ → W → W → W
  -- the old word, then the new one
  pub widen : C → ℕ → W → W → W
  pub absorbs : C → ℕ → W → W → Bool
  -- what falls where a word is widened, and the most that it can be at a width
  pub rank : C → ℕ → W → ℕ
  pub height : ℕ → ℕ
  -- the one number, where there is one
  pub exact : C → ℕ → W → Option ℕ
  -- whether it may be this number
  pub may : C → ℕ → W → ℕ → Bool
  -- the numbers that it may be, where they are at most a limit
  pub members : C → ℕ → W → ℕ → Option (List ℕ)
  -- how many members the word has; of a pair, as many as the part with the fewer
  pub size : C → ℕ → W → ℕ

-- Notes N of cells: which definitions a cell may come from.
pub record Notes (N : Type 0) : Type 1 where
  -- the note stands for the stamp
  pub describes : Stamp → N → Type 0
  -- whether notes tell stamps
  pub stamped : Bool
  -- the stamps that the note lists
  pub listed : N → List Stamp
  pub entry : N
  pub at : ℕ → N
  pub join : N → N → N
  -- the old note, then the new one
  pub widen : N → N → N
  pub absorbs : N → N → Bool
  -- what falls where a note is widened, by a list of stamps, and the most that it can be at a length of that list
  pub rank : List Stamp → N → ℕ
  pub height : ℕ → ℕ
  -- what a read of a map at a key, or at any key, adds to the log
  pub reads : ℕ → Option ℕ → N → List Seen

pub record Algebra (W N C : Type 0) : Type 1 where
  -- whether it joins: else each word is one number, and join and widening are for equal sides alone
  pub joins : Bool
  pub words : Words W C
  pub notes : Notes N
