-- A tree has one specification at most.
use Rattle.std.proofs.Common.{◌≡◌, ◌⊎◌, ℕ, ◌+◌, ◌≤◌, List, [], ◌∷◌, refl, sym, ◌∙◌, ap, inl, inr, arith}
use Rattle.std.specs.Cmp.{both_ways as one_truth}
use Rattle.syntax_parser.specs.Tree.{Tree, Item, Function}
use Rattle.support_reachability.specs.Graph.{IsLeastOfGroup, SameGroup}
use Rattle.spec_ir.specs.declared.spec.SpecUse.{SpecUse}
use Rattle.spec_ir.specs.Environment.{Environment, Signature}
use Rattle.spec_ir.specs.Specification.{Fun, Spec}
use Rattle.spec_ir.specs.Terms.{Term}
use Rattle.spec_calls.specs.declared.group.Group.{Group}
use Rattle.spec_calls.specs.Groups.{IsGroupOf}
use Rattle.spec_checker.specs.Check.{AreFunsFrom, IsFun, IsSpecOf, group_of}
use Rattle.spec_checker.specs.Functions.{bodies}
use Rattle.semantics_accepted.specs.CheckerLaws.{SpecificationsAreOne}

one_least : (graph : List (List ℕ)) (a m n : ℕ) → IsLeastOfGroup graph a m → IsLeastOfGroup graph a n → m ≡ n
one_least graph a m n p q = omega (arith, p.below n q.same, q.below m p.same)

one_loops : (terms : List Term) (f : ℕ) (g h : Group) → IsGroupOf terms f g → IsGroupOf terms f h → g.loops ≡ h.loops
one_loops terms f g h p q = one_truth g.loops h.loops (λ is. q.loops.1 (p.loops.0 is)) (λ is. p.loops.1 (q.loops.0 is))

same_fun : (a b : Fun) → a.name ≡ b.name → a.params ≡ b.params → a.result_type ≡ b.result_type → a.body ≡ b.body → a.core ≡ b.core → a.group ≡ b.group → a.loops ≡ b.loops → a ≡ b
same_fun a b name params result body core group loops = rw (name, params, result, body, core, group, loops) refl

one_fun : (env : Environment) (items : List Item) (n : ℕ) (f : Function) (s : Signature) (a b : Fun) → IsFun env items n f s a → IsFun env items n f s b → a ≡ b
one_fun env items n f s a b p q =
    same_fun a b (p.name ∙ sym q.name) (p.params ∙ sym q.params) (p.result_type ∙ sym q.result_type) (p.body ∙ sym q.body) (p.core ∙ sym q.core)
    (one_least _ n a.group b.group p.group.number q.group.number) (one_loops (bodies env items) n (group_of a) (group_of b) p.group q.group)

one_funs : (env : Environment) (items : List Item) (n : ℕ) (fs : List Function) (ss : List Signature) (gs hs : List Fun) → AreFunsFrom env items n fs ss gs → AreFunsFrom env items n fs ss hs → gs ≡ hs
one_funs env items n [] [] [] [] p q = refl
one_funs env items n [] [] [] (h ∷ hs) p q = absurd q
one_funs env items n [] [] (g ∷ gs) hs p q = absurd p
one_funs env items n [] (s ∷ ss) gs hs p q = absurd p
one_funs env items n (f ∷ fs) [] gs hs p q = absurd p
one_funs env items n (f ∷ fs) (s ∷ ss) [] hs p q = absurd p
one_funs env items n (f ∷ fs) (s ∷ ss) (g ∷ gs) [] p q = absurd q
one_funs env items n (f ∷ fs) (s ∷ ss) (g ∷ gs) (h ∷ hs) p q =
    let first = one_fun env items n f s g h p.0 q.0 in
    let rest = one_funs env items (n + 1) fs ss gs hs p.1 q.1 in cc

same_spec : (a b : Spec) → a.datas ≡ b.datas → a.maps ≡ b.maps → a.funs ≡ b.funs → a.rows ≡ b.rows → a.machine ≡ b.machine → a ≡ b
same_spec a b datas maps funs rows machine = rw (datas, maps, funs, rows, machine) refl

pub specifications_are_one : SpecificationsAreOne
specifications_are_one wanted tree one other p q =
    same_spec one other (p.datas ∙ sym q.datas) (p.maps ∙ sym q.maps) (one_funs _ tree.items 0 _ _ one.funs other.funs p.funs q.funs) (p.rows ∙ sym q.rows) (p.machine ∙ sym q.machine)
