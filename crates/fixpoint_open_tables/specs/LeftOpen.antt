-- An analysis whose tables are left open where a word has no decoding, or an instruction's new counter may be too many
-- addresses: there the transfer has no targets and no element behind the instruction, and the rest is analysed.
use Rattle.std.specs.Prelude.{Option, Some, None, [], if◌then◌else◌}
use Rattle.fixpoint_theory.specs.Analysis.{Analysis}
use Rattle.fixpoint_theory.specs.Code.{is_code}
use Rattle.fixpoint_theory.specs.Outcome.{Outcome, moves, sends, too_many, undecodable}
use Rattle.fixpoint_theory.specs.Runs.{Machine, deep, left, stops}
use Rattle.fixpoint_open_tables.specs.declared.ending.Ending.{Ending}
use Rattle.fixpoint_open_tables.specs.declared.ending.Ending.TheVariants.{Undecodable, Open}

module _ {E W : Type 0} where
  -- how a block ends whose transfer has no list of targets
  abbrev pub ending_of : Outcome E W → Option (Ending W)
  ending_of (undecodable word) = Some (Undecodable word)
  ending_of (too_many shown uses) = Some (Open shown)
  ending_of (moves targets post uses) = None
  ending_of (sends arrivals uses) = None

  -- the outcome in whose place there are no targets; the uses stay
  abbrev pub opened : Outcome E W → Outcome E W
  opened (undecodable word) = moves [] None []
  opened (too_many shown uses) = moves [] None uses
  opened (moves targets post uses) = moves targets post uses
  opened (sends arrivals uses) = sends arrivals uses

-- The analysis whose tables are left open.
abbrev pub left_open : {E W S : Type 0} → Analysis E W S → Analysis E W S
left_open A = record A { transfer = λ a x. opened (A.transfer a x) }

-- A machine that begins as another one and makes no step: at a code address it has no turn left.
abbrev pub halted : {E W S : Type 0} → Analysis E W S → Machine S → Machine S
halted A M = record M { step = λ d s. stops (if is_code A.code (M.counter s) then deep else left) }
