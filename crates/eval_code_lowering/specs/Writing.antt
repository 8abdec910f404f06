-- What is written of the code of a function.
use Rattle.std.specs.Prelude.{◌≡◌, ℕ, List, [], ◌∷◌, ◌++◌, map}
use Rattle.eval_code.specs.Code.{End, Stretch, Stretches, Tail, Tails, stretch_then, tail_then}
use Rattle.eval_code.specs.Lowered.{AllLowered, Ended, Lowered}
use Rattle.eval_code.specs.Views.{node}
use Rattle.eval_code_lowering.specs.declared.writer.Writer.{Writer}

-- The nodes of a term stand behind those before, and this is the slot of its value.
pub record Writes (old new : Writer) (slot : ℕ) (is : Lowered) : Type 0 where
  pub nodes : map node new.nodes.items ≡ map node old.nodes.items ++ is.nodes
  pub slot_is : slot ≡ is.slot
  pub next_is : new.next ≡ is.next
  pub scope : new.scope.items ≡ old.scope.items

-- Those of several, with their slots.
pub record AllWrite (old new : Writer) (slots : List ℕ) (is : AllLowered) : Type 0 where
  pub nodes : map node new.nodes.items ≡ map node old.nodes.items ++ is.nodes
  pub slots_are : slots ≡ is.slots
  pub next_is : new.next ≡ is.next
  pub scope : new.scope.items ≡ old.scope.items

-- Those of a term in tail position, with its end.
pub record Ends (old new : Writer) (end : End) (is : Ended) : Type 0 where
  pub nodes : map node new.nodes.items ≡ map node old.nodes.items ++ is.nodes
  pub end_is : end ≡ is.end
  pub scope : new.scope.items ≡ old.scope.items

-- Nothing is written.
pub record IsSame (old new : Writer) : Type 0 where
  pub nodes : map node new.nodes.items ≡ map node old.nodes.items
  pub next : new.next ≡ old.next
  pub scope : new.scope.items ≡ old.scope.items

-- stretches in front of more
abbrev pub stretches_onto : List Stretch → Stretches → Stretches
stretches_onto [] rest = rest
stretches_onto (s ∷ ss) rest = stretch_then s (stretches_onto ss rest)

abbrev pub tails_onto : List Tail → Tails → Tails
tails_onto [] rest = rest
tails_onto (t ∷ ts) rest = tail_then t (tails_onto ts rest)
