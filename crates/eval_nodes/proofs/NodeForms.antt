-- What nodes are, seen as plain data.
use Rattle.std.proofs.Common.{◌≡◌, ◌⊎◌, ◌∙◌, ℕ, Bool, Vec, Global, map, sym, ap, subst, inl, inr}
use Rattle.word_operations.specs.declared.kinds.UnaryOperation.{UnaryOperation}
use Rattle.word_operations.specs.declared.kinds.BinaryOperation.{BinaryOperation}
use Rattle.word_operations.specs.declared.kinds.WordComparison.{WordComparison}
use Rattle.spec_ir.specs.declared.term.CastKind.{CastKind}
use Rattle.eval_nodes.specs.Plain.{IsPlain}
use Rattle.spec_match_compiler.specs.Views.{tree}
use Rattle.spec_match_compiler.specs.declared.decision.Decision.{Decision}
use Rattle.eval_code.specs.declared.code.Stretch.{Stretch}
use Rattle.eval_code.specs.Code.{stretches}
use Rattle.eval_code.specs.Code as code
use Rattle.eval_code.specs.Views.{node, node_step, stretch, stretch_step}
use Rattle.eval_code.specs.declared.code.Node.{Node, fold-roll-Node}
use Rattle.eval_code.specs.declared.code.Node.TheOpen.{Node-F}
use Rattle.eval_code.specs.declared.code.Node.TheVariants.{Choose, rolls-Choose, Bin, Call, Cast, Flag, Get, Make, Put, Test, Un, Word, rolls-Bin, rolls-Call, rolls-Cast, rolls-Flag, rolls-Get, rolls-Make, rolls-Put, rolls-Test, rolls-Un, rolls-Word}

pub node_Flag : (b : Bool) → node (Flag b) ≡ code.flag b
node_Flag b = ap node (sym (rolls-Flag b)) ∙ fold-roll-Node code.Node code.Stretch node_step stretch_step (Node-F.Flag b)

pub node_Word : (w v : ℕ) → node (Word w v) ≡ code.word w v
node_Word w v = ap node (sym (rolls-Word w v)) ∙ fold-roll-Node code.Node code.Stretch node_step stretch_step (Node-F.Word w v)

pub node_Un : (op : UnaryOperation) (w x : ℕ) → node (Un op w x) ≡ code.un op w x
node_Un op w x = ap node (sym (rolls-Un op w x)) ∙ fold-roll-Node code.Node code.Stretch node_step stretch_step (Node-F.Un op w x)

pub node_Bin : (op : BinaryOperation) (w x y : ℕ) → node (Bin op w x y) ≡ code.bin op w x y
node_Bin op w x y = ap node (sym (rolls-Bin op w x y)) ∙ fold-roll-Node code.Node code.Stretch node_step stretch_step (Node-F.Bin op w x y)

pub node_Test : (k : WordComparison) (w x y : ℕ) → node (Test k w x y) ≡ code.test k w x y
node_Test k w x y = ap node (sym (rolls-Test k w x y)) ∙ fold-roll-Node code.Node code.Stretch node_step stretch_step (Node-F.Test k w x y)

pub node_Cast : (kind : CastKind) (from to x : ℕ) → node (Cast kind from to x) ≡ code.cast kind from to x
node_Cast kind from to x = ap node (sym (rolls-Cast kind from to x)) ∙ fold-roll-Node code.Node code.Stretch node_step stretch_step (Node-F.Cast kind from to x)

pub node_Make : (ty case : ℕ) (args : Vec ℕ Global) → node (Make ty case args) ≡ code.make ty case args.items
node_Make ty case args = ap node (sym (rolls-Make ty case args)) ∙ fold-roll-Node code.Node code.Stretch node_step stretch_step (Node-F.Make ty case args)

pub node_Call : (fun : ℕ) (args : Vec ℕ Global) → node (Call fun args) ≡ code.call fun args.items
node_Call fun args = ap node (sym (rolls-Call fun args)) ∙ fold-roll-Node code.Node code.Stretch node_step stretch_step (Node-F.Call fun args)

pub node_Get : (m x k : ℕ) → node (Get m x k) ≡ code.get m x k
node_Get m x k = ap node (sym (rolls-Get m x k)) ∙ fold-roll-Node code.Node code.Stretch node_step stretch_step (Node-F.Get m x k)

pub node_Put : (m x k v : ℕ) → node (Put m x k v) ≡ code.put m x k v
node_Put m x k v = ap node (sym (rolls-Put m x k v)) ∙ fold-roll-Node code.Node code.Stretch node_step stretch_step (Node-F.Put m x k v)

-- ---- nodes that are plain
abbrev pub IsOfPlainForm : Node → Type 0
IsOfPlainForm n =
    ((b : Bool) × (n ≡ Flag b)) ⊎ (((w : ℕ) × (v : ℕ) × (n ≡ Word w v)) ⊎ (((op : UnaryOperation) × (w : ℕ) × (x : ℕ) × (n ≡ Un op w x)) ⊎ (((op : BinaryOperation) × (w : ℕ) × (x : ℕ) × (y : ℕ) × (n ≡ Bin op w x y)) ⊎ (((k : WordComparison) × (w : ℕ) × (x : ℕ) × (y : ℕ) × (n ≡ Test k w x y))
    ⊎ (((kind : CastKind) × (from : ℕ) × (to : ℕ) × (x : ℕ) × (n ≡ Cast kind from to x)) ⊎ (((ty : ℕ) × (case : ℕ) × (args : Vec ℕ Global) × (n ≡ Make ty case args)) ⊎ ((m : ℕ) × (x : ℕ) × (k : ℕ) × (v : ℕ) × (n ≡ Put m x k v))))))))

seen_as : (n m : Node) (p : code.Node) → n ≡ m → node m ≡ p → IsPlain p → IsPlain (node n)
seen_as n m p e h is = subst IsPlain (sym (ap node e ∙ h)) is

pub plain_form : (n : Node) → IsOfPlainForm n → IsPlain (node n)
plain_form n (inl h) = seen_as n _ _ h.1 (node_Flag h.0) tt
plain_form n (inr (inl h)) = seen_as n _ _ h.2 (node_Word h.0 h.1) tt
plain_form n (inr (inr (inl h))) = seen_as n _ _ h.3 (node_Un h.0 h.1 h.2) tt
plain_form n (inr (inr (inr (inl h)))) = seen_as n _ _ h.4 (node_Bin h.0 h.1 h.2 h.3) tt
plain_form n (inr (inr (inr (inr (inl h))))) = seen_as n _ _ h.4 (node_Test h.0 h.1 h.2 h.3) tt
plain_form n (inr (inr (inr (inr (inr (inl h)))))) = seen_as n _ _ h.4 (node_Cast h.0 h.1 h.2 h.3) tt
plain_form n (inr (inr (inr (inr (inr (inr (inl h))))))) = seen_as n _ _ h.3 (node_Make h.0 h.1 h.2) tt
plain_form n (inr (inr (inr (inr (inr (inr (inr h))))))) = seen_as n _ _ h.4 (node_Put h.0 h.1 h.2 h.3) tt

pub node_Choose : (x : ℕ) (by : Decision) (arms : Vec Stretch Global) → node (Choose x by arms) ≡ code.choose x (tree by) (stretches (map stretch arms.items))
node_Choose x by arms = ap node (sym (rolls-Choose x by arms)) ∙ fold-roll-Node code.Node code.Stretch node_step stretch_step (Node-F.Choose x by arms)
