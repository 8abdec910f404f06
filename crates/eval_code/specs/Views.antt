-- What the types of the crate are as plain data.
use Rattle.std.specs.Prelude.{List, map}
use Rattle.spec_match_compiler.specs.Views.{tree}
use Rattle.eval_code.specs.declared.code.Node.{Node, fold-Node}
use Rattle.eval_code.specs.declared.code.Node.TheOpen.{Node-F}
use Rattle.eval_code.specs.declared.code.Stretch.{Stretch, Stretch-F, fold-Stretch}
use Rattle.eval_code.specs.declared.code.Tail.{Tail, Tail-F, fold-Tail}
use Rattle.eval_code.specs.declared.code.End.{End, fold-End}
use Rattle.eval_code.specs.declared.code.End.TheOpen.{End-F}
use Rattle.eval_code.specs.declared.code.FunctionCode.{FunctionCode}
use Rattle.eval_code.specs.declared.code.EvaluatorCode.{EvaluatorCode}
use Rattle.eval_code.specs.Code as c
use Rattle.eval_code.specs.Code.{nodes, stretches, tails, FunCode}

abbrev pub node_step : Node-F c.Node c.Stretch → c.Node
node_step (Node-F.Flag b) = c.flag b
node_step (Node-F.Word w v) = c.word w v
node_step (Node-F.Un op w x) = c.un op w x
node_step (Node-F.Bin op w x y) = c.bin op w x y
node_step (Node-F.Test k w x y) = c.test k w x y
node_step (Node-F.Cast kind from to x) = c.cast kind from to x
node_step (Node-F.If k x y) = c.if_else k x y
node_step (Node-F.Choose x by arms) = c.choose x (tree by) (stretches arms.items)
node_step (Node-F.Make ty k args) = c.make ty k args.items
node_step (Node-F.Call f args) = c.call f args.items
node_step (Node-F.Get m x k) = c.get m x k
node_step (Node-F.Put m x k v) = c.put m x k v

abbrev pub stretch_step : Stretch-F c.Node c.Stretch → c.Stretch
stretch_step s = c.stretch (nodes s.nodes.items) s.slot

abbrev pub node : Node → c.Node
node = fold-Node c.Node c.Stretch node_step stretch_step

abbrev pub stretch : Stretch → c.Stretch
stretch = fold-Stretch c.Node c.Stretch node_step stretch_step

abbrev pub end_step : End-F c.End c.Tail → c.End
end_step (End-F.Slot s) = c.slot s
end_step (End-F.Again f args) = c.again f args.items
end_step (End-F.If k x y) = c.either k x.value y.value
end_step (End-F.Pick x by arms) = c.pick x (tree by) (tails arms.items)

abbrev pub tail_step : Tail-F c.End c.Tail → c.Tail
tail_step t = c.tail (nodes (map node t.nodes.items)) t.end

abbrev pub end : End → c.End
end = fold-End c.End c.Tail end_step tail_step

abbrev pub tail : Tail → c.Tail
tail = fold-Tail c.End c.Tail end_step tail_step

abbrev pub fun_code : FunctionCode → FunCode
fun_code f = record { params = f.params; body = tail f.body }

abbrev pub code : EvaluatorCode → List FunCode
code cir = map fun_code cir.funs.items
