-- How many nodes code has, and how many parts a core term.
use Rattle.std.specs.Prelude.{ℕ, ◌+◌}
use Rattle.spec_ir.specs.CoreTerms as t
use Rattle.spec_ir.specs.CoreTerms.{Core, Cores}
use Rattle.eval_code.specs.Code as c
use Rattle.eval_code.specs.Code.{Node, Nodes, Stretch, Stretches, Tail, Tails, End, FunCode}

-- nodes, with those of stretches that they name
abbrev mutual
  pub in_node : Node → ℕ
  in_node (c.if_else k x y) = 1 + (in_stretch x + in_stretch y)
  in_node (c.choose x by arms) = 1 + in_stretches arms
  in_node n = 1

  pub in_nodes : Nodes → ℕ
  in_nodes c.no_node = 0
  in_nodes (c.node_then n ns) = in_node n + in_nodes ns

  pub in_stretch : Stretch → ℕ
  in_stretch (c.stretch ns s) = in_nodes ns

  pub in_stretches : Stretches → ℕ
  in_stretches c.no_stretch = 0
  in_stretches (c.stretch_then x rest) = in_stretch x + in_stretches rest

abbrev mutual
  pub in_tail : Tail → ℕ
  in_tail (c.tail ns e) = in_nodes ns + in_end e

  pub in_end : End → ℕ
  in_end (c.slot s) = 0
  in_end (c.again f args) = 0
  in_end (c.either k x y) = in_tail x + in_tail y
  in_end (c.pick x by arms) = in_tails arms

  pub in_tails : Tails → ℕ
  in_tails c.no_tail = 0
  in_tails (c.tail_then x rest) = in_tail x + in_tails rest

abbrev pub nodes_of : FunCode → ℕ
nodes_of f = in_tail f.body

-- a term and its parts
abbrev mutual
  pub parts_of : Core → ℕ
  parts_of (t.var n) = 1
  parts_of (t.flag b) = 1
  parts_of (t.word w v) = 1
  parts_of (t.un op w x) = 1 + parts_of x
  parts_of (t.bin op w x y) = 1 + (parts_of x + parts_of y)
  parts_of (t.test k w x y) = 1 + (parts_of x + parts_of y)
  parts_of (t.cast kind from to x) = 1 + parts_of x
  parts_of (t.let_in x y) = 1 + (parts_of x + parts_of y)
  parts_of (t.if_else k x y) = 1 + (parts_of k + (parts_of x + parts_of y))
  parts_of (t.choose x by arms) = 1 + (parts_of x + parts_in arms)
  parts_of (t.make ty k args) = 1 + parts_in args
  parts_of (t.call f args) = 1 + parts_in args
  parts_of (t.get m x k) = 1 + (parts_of x + parts_of k)
  parts_of (t.put m x k v) = 1 + (parts_of x + (parts_of k + parts_of v))

  pub parts_in : Cores → ℕ
  parts_in t.no_core = 0
  parts_in (t.core_then x rest) = parts_of x + parts_in rest
