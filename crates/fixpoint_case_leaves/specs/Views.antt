-- What the transfers of cases are as an outcome.
use Rattle.std.specs.Prelude.{map}
use Rattle.base_trait.specs.Uses.{seen}
use Rattle.fixpoint_theory.specs.Outcome.{Outcome, sends, too_many, undecodable}
use Rattle.fixpoint_theory.specs.Views.{arriving}
use Rattle.fixpoint_case_leaves.specs.declared.case_transfer.CaseTransfer.{CaseTransfer}
use Rattle.fixpoint_case_leaves.specs.declared.case_transfer.CaseTransfer.TheVariants.{Sent, TooMany, Undecodable}

abbrev pub case_outcome : {E P W : Type 0} → (E → P) → CaseTransfer E W → Outcome P W
case_outcome view (Undecodable word) = undecodable word
case_outcome view (TooMany shown uses) = too_many shown (map seen uses.items)
case_outcome view (Sent arrivals uses) = sends (map (arriving view) arrivals.items) (map seen uses.items)
