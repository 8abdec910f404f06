-- Code in which each node reads slots that were written before it, on every way to it.
use Rattle.std.specs.Prelude.{⊤, ℕ, zero, suc, ◌+◌, ◌<◌, List, [], ◌∷◌, length}
use Rattle.spec_match_compiler.specs.Values.{Place}
use Rattle.spec_match_compiler.specs.Decisions.{Decision, Decisions, row, on_case, on_word, on_flag, no_tree, tree_then}
use Rattle.eval_code.specs.Code as c
use Rattle.eval_code.specs.Code.{Node, Nodes, Stretch, Stretches, Tail, Tails, End, FunCode}

-- Each row that a decision may pick, with the variables that it names, has what P says.
module _ (P : ℕ → List (ℕ × Place) → Type 0) where
  abbrev mutual
    pub EachRow : Decision → Type 0
    EachRow (row r binds) = P r binds
    EachRow (on_case at ts) = EachRowIn ts
    EachRow (on_word at n a b) = EachRow a × EachRow b
    EachRow (on_flag at a b) = EachRow a × EachRow b

    pub EachRowIn : Decisions → Type 0
    EachRowIn no_tree = ⊤
    EachRowIn (tree_then t ts) = EachRow t × EachRowIn ts

-- how many slots nodes write
abbrev pub count : Nodes → ℕ
count c.no_node = 0
count (c.node_then n ns) = suc (count ns)

-- Slots are below a number.
abbrev pub Below : ℕ → List ℕ → Type 0
Below d [] = ⊤
Below d (s ∷ ss) = (s < d) × Below d ss

-- d slots are written before
abbrev mutual
  pub NodeReads : ℕ → Node → Type 0
  NodeReads d (c.flag b) = ⊤
  NodeReads d (c.word w v) = ⊤
  NodeReads d (c.un op w x) = x < d
  NodeReads d (c.bin op w x y) = (x < d) × (y < d)
  NodeReads d (c.test k w x y) = (x < d) × (y < d)
  NodeReads d (c.cast kind from to x) = x < d
  NodeReads d (c.if_else k x y) = (k < d) × StretchReads d x × StretchReads d y
  NodeReads d (c.choose x by arms) = (x < d) × EachRow (λ r binds. ArmReads (d + length binds) arms r) by
  NodeReads d (c.make ty k args) = Below d args
  NodeReads d (c.call f args) = Below d args
  NodeReads d (c.get m x k) = (x < d) × (k < d)
  NodeReads d (c.put m x k v) = (x < d) × (k < d) × (v < d)

  pub NodesRead : ℕ → Nodes → Type 0
  NodesRead d c.no_node = ⊤
  NodesRead d (c.node_then n ns) = NodeReads d n × NodesRead (suc d) ns

  pub StretchReads : ℕ → Stretch → Type 0
  StretchReads d (c.stretch ns s) = NodesRead d ns × (s < d + count ns)

  -- arm number r, if there is one
  pub ArmReads : ℕ → Stretches → ℕ → Type 0
  ArmReads d c.no_stretch r = ⊤
  ArmReads d (c.stretch_then x rest) zero = StretchReads d x
  ArmReads d (c.stretch_then x rest) (suc r) = ArmReads d rest r

abbrev mutual
  pub TailReads : ℕ → Tail → Type 0
  TailReads d (c.tail ns e) = NodesRead d ns × EndReads (d + count ns) e

  pub EndReads : ℕ → End → Type 0
  EndReads d (c.slot s) = s < d
  EndReads d (c.again f args) = Below d args
  EndReads d (c.either k x y) = (k < d) × TailReads d x × TailReads d y
  EndReads d (c.pick x by arms) = (x < d) × EachRow (λ r binds. ArmTailReads (d + length binds) arms r) by

  pub ArmTailReads : ℕ → Tails → ℕ → Type 0
  ArmTailReads d c.no_tail r = ⊤
  ArmTailReads d (c.tail_then x rest) zero = TailReads d x
  ArmTailReads d (c.tail_then x rest) (suc r) = ArmTailReads d rest r

-- The code of a function is valid: the first slots are its arguments.
abbrev pub IsValid : FunCode → Type 0
IsValid f = TailReads f.params f.body
