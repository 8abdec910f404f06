-- What nodes and ends of the code are, seen as plain data.
use Rattle.std.proofs.Common.{◌≡◌, ◌⊎◌, ◌∙◌, ℕ, Vec, Box, Global, map, sym, ap, subst, inl, inr}
use Rattle.spec_match_compiler.specs.Views.{tree}
use Rattle.spec_match_compiler.specs.declared.decision.Decision.{Decision}
use Rattle.eval_code.specs.Code as code
use Rattle.eval_code.specs.Code.{nodes, tails}
use Rattle.eval_code.specs.Views.{end, end_step, node, node_step, stretch, stretch_step, tail, tail_step}
use Rattle.eval_code.specs.declared.code.Node.{Node, fold-roll-Node}
use Rattle.eval_code.specs.declared.code.Node.TheOpen.{Node-F}
use Rattle.eval_code.specs.declared.code.Node.TheVariants.{Choose, If, rolls-If}
use Rattle.eval_code.specs.declared.code.Stretch.{Stretch, fold_out-Stretch}
use Rattle.eval_code.specs.declared.code.Tail.{Tail, fold_out-Tail}
use Rattle.eval_code.specs.declared.code.End.{End, fold-roll-End}
use Rattle.eval_code.specs.declared.code.End.TheOpen.{End-F}
use Rattle.eval_code.specs.declared.code.End.TheVariants as e
use Rattle.eval_code.specs.declared.code.End.TheVariants.{rolls-Again, rolls-If as rolls-If-end, rolls-Pick, rolls-Slot}
use Rattle.eval_nodes.proofs.NodeForms.{node_Choose}
use Rattle.evaluator.specs.Arms.{GoesOn, IsChoice}

pub node_If : (c : ℕ) (x y : Stretch) → node (If c x y) ≡ code.if_else c (stretch x) (stretch y)
node_If c x y = ap node (sym (rolls-If c x y)) ∙ fold-roll-Node code.Node code.Stretch node_step stretch_step (Node-F.If c x y)

pub end_Slot : (s : ℕ) → end (e.Slot s) ≡ code.slot s
end_Slot s = ap end (sym (rolls-Slot s)) ∙ fold-roll-End code.End code.Tail end_step tail_step (End-F.Slot s)

pub end_Again : (f : ℕ) (args : Vec ℕ Global) → end (e.Again f args) ≡ code.again f args.items
end_Again f args = ap end (sym (rolls-Again f args)) ∙ fold-roll-End code.End code.Tail end_step tail_step (End-F.Again f args)

pub end_If : (c : ℕ) (x y : Box Tail Global) → end (e.If c x y) ≡ code.either c (tail x.value) (tail y.value)
end_If c x y = ap end (sym (rolls-If-end c x y)) ∙ fold-roll-End code.End code.Tail end_step tail_step (End-F.If c x y)

pub end_Pick : (x : ℕ) (by : Decision) (arms : Vec Tail Global) → end (e.Pick x by arms) ≡ code.pick x (tree by) (tails (map tail arms.items))
end_Pick x by arms = ap end (sym (rolls-Pick x by arms)) ∙ fold-roll-End code.End code.Tail end_step tail_step (End-F.Pick x by arms)

-- structs by their fields
pub stretch_is : (s : Stretch) → stretch s ≡ code.stretch (nodes (map node s.nodes.items)) s.slot
stretch_is s = fold_out-Stretch code.Node code.Stretch node_step stretch_step s

pub tail_is : (t : Tail) → tail t ≡ code.tail (nodes (map node t.nodes.items)) (end t.end)
tail_is t = fold_out-Tail code.End code.Tail end_step tail_step t

-- ---- nodes that go on with one of their arms
abbrev pub IsOfChoiceForm : Node → Type 0
IsOfChoiceForm n = ((c : ℕ) × (yes : Stretch) × (no : Stretch) × (n ≡ If c yes no)) ⊎ ((x : ℕ) × (by : Decision) × (arms : Vec Stretch Global) × (n ≡ Choose x by arms))

pub choice_form : (n : Node) → IsOfChoiceForm n → IsChoice (node n)
choice_form n (inl h) = subst IsChoice (sym (ap node h.3 ∙ node_If h.0 h.1 h.2)) tt
choice_form n (inr h) = subst IsChoice (sym (ap node h.3 ∙ node_Choose h.0 h.1 h.2)) tt

-- ---- and ends
abbrev pub IsOfWayForm : End → Type 0
IsOfWayForm x = ((c : ℕ) × (yes : Box Tail Global) × (no : Box Tail Global) × (x ≡ e.If c yes no)) ⊎ ((k : ℕ) × (by : Decision) × (arms : Vec Tail Global) × (x ≡ e.Pick k by arms))

pub way_form : (x : End) → IsOfWayForm x → GoesOn (end x)
way_form x (inl h) = subst GoesOn (sym (ap end h.3 ∙ end_If h.0 h.1 h.2)) tt
way_form x (inr h) = subst GoesOn (sym (ap end h.3 ∙ end_Pick h.0 h.1 h.2)) tt
