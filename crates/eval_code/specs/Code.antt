-- Code as plain data. A node writes the next slot of a frame; slots are named by their numbers, from 0.
use Rattle.std.specs.Prelude.{ℕ, Bool, List, [], ◌∷◌}
use Rattle.word_operations.specs.declared.kinds.UnaryOperation.{UnaryOperation}
use Rattle.word_operations.specs.declared.kinds.BinaryOperation.{BinaryOperation}
use Rattle.word_operations.specs.declared.kinds.WordComparison.{WordComparison}
use Rattle.spec_match_compiler.specs.Decisions.{Decision}
use Rattle.spec_ir.specs.declared.term.CastKind.{CastKind}

mutual
  pub data Node : Type 0 where
    flag : Bool → Node
    word : ℕ → ℕ → Node
    un : UnaryOperation → ℕ → ℕ → Node
    bin : BinaryOperation → ℕ → ℕ → ℕ → Node
    test : WordComparison → ℕ → ℕ → ℕ → Node
    cast : CastKind → ℕ → ℕ → ℕ → Node
    if_else : ℕ → Stretch → Stretch → Node
    choose : ℕ → Decision → Stretches → Node
    make : ℕ → ℕ → List ℕ → Node
    call : ℕ → List ℕ → Node
    get : ℕ → ℕ → ℕ → Node
    put : ℕ → ℕ → ℕ → ℕ → Node

  pub data Nodes : Type 0 where
    no_node : Nodes
    node_then : Node → Nodes → Nodes

  -- nodes, one after another, and the slot that has the value then
  pub data Stretch : Type 0 where
    stretch : Nodes → ℕ → Stretch

  pub data Stretches : Type 0 where
    no_stretch : Stretches
    stretch_then : Stretch → Stretches → Stretches

mutual
  -- nodes in tail position, and what follows them
  pub data Tail : Type 0 where
    tail : Nodes → End → Tail

  pub data End : Type 0 where
    -- the value of a slot
    slot : ℕ → End
    -- a call of a function of the group
    again : ℕ → List ℕ → End
    either : ℕ → Tail → Tail → End
    pick : ℕ → Decision → Tails → End

  pub data Tails : Type 0 where
    no_tail : Tails
    tail_then : Tail → Tails → Tails

abbrev pub nodes : List Node → Nodes
nodes [] = no_node
nodes (n ∷ ns) = node_then n (nodes ns)

abbrev pub stretches : List Stretch → Stretches
stretches [] = no_stretch
stretches (s ∷ ss) = stretch_then s (stretches ss)

abbrev pub tails : List Tail → Tails
tails [] = no_tail
tails (t ∷ ts) = tail_then t (tails ts)

-- the code of a function: how many slots are arguments, and its body
pub record FunCode : Type 0 where
  pub params : ℕ
  pub body : Tail
