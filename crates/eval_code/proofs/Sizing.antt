-- Lowered terms have no more nodes than parts.
use Rattle.std.proofs.Common.{◌≡◌, ℕ, suc, ◌+◌, ◌≤◌, ◌==◌, Bool, true, false, List, [], ◌∷◌, ◌++◌, refl, arith}
use Rattle.std.specs.Prelude.{if◌then◌else◌}
use Rattle.spec_match_compiler.specs.Decisions.{Decision}
use Rattle.spec_ir.specs.CoreTerms as t
use Rattle.spec_ir.specs.CoreTerms.{Core, Cores}
use Rattle.eval_code.specs.Code as c
use Rattle.eval_code.specs.Code.{Node, nodes}
use Rattle.eval_code.specs.Lowered.{AllLowered, Ended, Lowered, after, after_all, all_lowered, alone, at_end, before_all, ended_after, ended_after_all, ends, lowered, lowered_arms, lowered_tail, lowered_tails, slots_from, tail_of, stretch_of, taken}
use Rattle.eval_code.specs.Sizes.{in_node, in_nodes, in_stretches, in_tail, in_tails, parts_in, parts_of}

in_append : (xs ys : List Node) → in_nodes (nodes (xs ++ ys)) ≡ in_nodes (nodes xs) + in_nodes (nodes ys)
in_append [] ys = omega arith
in_append (x ∷ xs) ys = let more = in_append xs ys in omega arith

-- ---- what is behind a term
after_small : (r : Lowered) (f : ℕ → ℕ → Lowered) (m n : ℕ) → in_nodes (nodes r.nodes) ≤ m → in_nodes (nodes (f r.slot r.next).nodes) ≤ n → in_nodes (nodes (after r f).nodes) ≤ m + n
after_small r f m n h k = let sum = in_append r.nodes (f r.slot r.next).nodes in omega arith

all_small : (r : AllLowered) (f : List ℕ → ℕ → Lowered) (m n : ℕ) → in_nodes (nodes r.nodes) ≤ m → in_nodes (nodes (f r.slots r.next).nodes) ≤ n → in_nodes (nodes (after_all r f).nodes) ≤ m + n
all_small r f m n h k = let sum = in_append r.nodes (f r.slots r.next).nodes in omega arith

before_small : (r : Lowered) (f : ℕ → AllLowered) (m n : ℕ) → in_nodes (nodes r.nodes) ≤ m → in_nodes (nodes (f r.next).nodes) ≤ n → in_nodes (nodes (before_all r f).nodes) ≤ m + n
before_small r f m n h k = let sum = in_append r.nodes (f r.next).nodes in omega arith

ended_small : (r : Lowered) (f : ℕ → ℕ → Ended) (m n : ℕ) → in_nodes (nodes r.nodes) ≤ m → in_tail (tail_of (f r.slot r.next)) ≤ n → in_tail (tail_of (ended_after r f)) ≤ m + n
ended_small r f m n h k = let sum = in_append r.nodes (f r.slot r.next).nodes in omega arith

all_ended_small : (r : AllLowered) (f : List ℕ → ℕ → Ended) (m n : ℕ) → in_nodes (nodes r.nodes) ≤ m → in_tail (tail_of (f r.slots r.next)) ≤ n → in_tail (tail_of (ended_after_all r f)) ≤ m + n
all_ended_small r f m n h k = let sum = in_append r.nodes (f r.slots r.next).nodes in omega arith

-- a form of two parts
two_small : (r : Lowered) (f : ℕ → Lowered) (n : ℕ → ℕ → Node) (k m : ℕ) → in_nodes (nodes r.nodes) ≤ k → in_nodes (nodes (f r.next).nodes) ≤ m → ((p q : ℕ) → in_node (n p q) ≡ 1)
    → in_nodes (nodes (after r (λ p d. after (f d) (λ q d. alone d (n p q)))).nodes) ≤ k + (m + 1)
two_small r f n k m hx hy is =
    let s = f r.next in
    let one = is r.slot s.slot in
    after_small r (λ p d. after (f d) (λ q d. alone d (n p q))) k (m + 1) hx (after_small s (λ q d. alone d (n r.slot q)) m 1 hy (omega arith))

mutual
  pub lowered_small : (x : Core) (scope : List ℕ) (d : ℕ) → in_nodes (nodes (lowered scope d x).nodes) ≤ parts_of x
  lowered_small (t.var n) scope d = omega arith
  lowered_small (t.flag b) scope d = omega arith
  lowered_small (t.word w v) scope d = omega arith
  lowered_small (t.un op w x) scope d = let h = after_small (lowered scope d x) (λ p d. alone d (c.un op w p)) (parts_of x) 1 (lowered_small x scope d) (omega arith) in omega arith
  lowered_small (t.bin op w x y) scope d = let h = two_small (lowered scope d x) (λ d. lowered scope d y) (λ p q. c.bin op w p q) (parts_of x) (parts_of y) (lowered_small x scope d) (lowered_small y scope (lowered scope d x).next) (λ p q. refl) in omega arith
  lowered_small (t.test k w x y) scope d = let h = two_small (lowered scope d x) (λ d. lowered scope d y) (λ p q. c.test k w p q) (parts_of x) (parts_of y) (lowered_small x scope d) (lowered_small y scope (lowered scope d x).next) (λ p q. refl) in omega arith
  lowered_small (t.cast kind from to x) scope d = let h = after_small (lowered scope d x) (λ p d. alone d (c.cast kind from to p)) (parts_of x) 1 (lowered_small x scope d) (omega arith) in omega arith
  lowered_small (t.let_in x y) scope d =
      let r = lowered scope d x in
      let h = after_small r (λ p d. lowered (scope ++ p ∷ []) d y) (parts_of x) (parts_of y) (lowered_small x scope d) (lowered_small y (scope ++ r.slot ∷ []) r.next) in omega arith
  lowered_small (t.if_else k x y) scope d =
      let r = lowered scope d k in
      let hx = lowered_small x scope r.next in
      let hy = lowered_small y scope r.next in
      let h = after_small r (λ p d. alone d (c.if_else p (stretch_of (lowered scope d x)) (stretch_of (lowered scope d y)))) (parts_of k) (1 + (parts_of x + parts_of y)) (lowered_small k scope d) (omega arith) in omega arith
  lowered_small (t.choose x by arms) scope d =
      let r = lowered scope d x in
      let ha = arms_small arms scope r.next by 0 in
      let h = after_small r (λ p d. alone d (c.choose p by (lowered_arms scope d by 0 arms))) (parts_of x) (1 + parts_in arms) (lowered_small x scope d) (omega arith) in omega arith
  lowered_small (t.make ty k args) scope d = let h = all_small (all_lowered scope d args) (λ ps d. alone d (c.make ty k ps)) (parts_in args) 1 (all_lowered_small args scope d) (omega arith) in omega arith
  lowered_small (t.call f args) scope d = let h = all_small (all_lowered scope d args) (λ ps d. alone d (c.call f ps)) (parts_in args) 1 (all_lowered_small args scope d) (omega arith) in omega arith
  lowered_small (t.get m x k) scope d = let h = two_small (lowered scope d x) (λ d. lowered scope d k) (λ p q. c.get m p q) (parts_of x) (parts_of k) (lowered_small x scope d) (lowered_small k scope (lowered scope d x).next) (λ p q. refl) in omega arith
  lowered_small (t.put m x k v) scope d =
      let r = lowered scope d x in
      let s = lowered scope r.next k in
      let h = after_small r (λ p d. after (lowered scope d k) (λ q d. after (lowered scope d v) (λ o d. alone d (c.put m p q o)))) (parts_of x) (parts_of k + (parts_of v + 1)) (lowered_small x scope d)
      (after_small s (λ q d. after (lowered scope d v) (λ o d. alone d (c.put m r.slot q o))) (parts_of k) (parts_of v + 1) (lowered_small k scope r.next)
      (after_small (lowered scope s.next v) (λ o d. alone d (c.put m r.slot s.slot o)) (parts_of v) 1 (lowered_small v scope s.next) (omega arith))) in omega arith

  all_lowered_small : (ts : Cores) (scope : List ℕ) (d : ℕ) → in_nodes (nodes (all_lowered scope d ts).nodes) ≤ parts_in ts
  all_lowered_small t.no_core scope d = omega arith
  all_lowered_small (t.core_then x rest) scope d =
      before_small (lowered scope d x) (λ d. all_lowered scope d rest) (parts_of x) (parts_in rest) (lowered_small x scope d) (all_lowered_small rest scope (lowered scope d x).next)

  arms_small : (ts : Cores) (scope : List ℕ) (d : ℕ) (by : Decision) (r : ℕ) → in_stretches (lowered_arms scope d by r ts) ≤ parts_in ts
  arms_small t.no_core scope d by r = omega arith
  arms_small (t.core_then x rest) scope d by r =
      let here = lowered_small x (scope ++ slots_from d (taken r by)) (d + taken r by) in
      let later = arms_small rest scope d by (suc r) in omega arith

module _ (group : ℕ → ℕ) (g : ℕ) where
  leaf_small : (x : Core) (scope : List ℕ) (d : ℕ) → in_tail (tail_of (at_end (lowered scope d x))) ≤ parts_of x
  leaf_small x scope d = let h = lowered_small x scope d in omega arith

  call_small : (b : Bool) (j : ℕ) (args : Cores) (scope : List ℕ) (d : ℕ)
      → in_tail (tail_of (if b then ended_after_all (all_lowered scope d args) (λ ps d. ends (c.again j ps)) else at_end (lowered scope d (t.call j args)))) ≤ 1 + parts_in args
  call_small true j args scope d = let h = all_ended_small (all_lowered scope d args) (λ ps d. ends (c.again j ps)) (parts_in args) 0 (all_lowered_small args scope d) (omega arith) in omega arith
  call_small false j args scope d = leaf_small (t.call j args) scope d

  mutual
    pub tail_small : (x : Core) (scope : List ℕ) (d : ℕ) → in_tail (tail_of (lowered_tail group g scope d x)) ≤ parts_of x
    tail_small (t.let_in x y) scope d =
        let r = lowered scope d x in
        let h = ended_small r (λ p d. lowered_tail group g (scope ++ p ∷ []) d y) (parts_of x) (parts_of y) (lowered_small x scope d) (tail_small y (scope ++ r.slot ∷ []) r.next) in omega arith
    tail_small (t.if_else k x y) scope d =
        let r = lowered scope d k in
        let hx = tail_small x scope r.next in
        let hy = tail_small y scope r.next in
        let h = ended_small r (λ p d. ends (c.either p (tail_of (lowered_tail group g scope d x)) (tail_of (lowered_tail group g scope d y)))) (parts_of k) (parts_of x + parts_of y) (lowered_small k scope d) (omega arith) in omega arith
    tail_small (t.choose x by arms) scope d =
        let r = lowered scope d x in
        let ha = tails_small arms scope r.next by 0 in
        let h = ended_small r (λ p d. ends (c.pick p by (lowered_tails group g scope d by 0 arms))) (parts_of x) (parts_in arms) (lowered_small x scope d) (omega arith) in omega arith
    tail_small (t.call j args) scope d = call_small (group j == g) j args scope d
    tail_small (t.var n) scope d = leaf_small (t.var n) scope d
    tail_small (t.flag b) scope d = leaf_small (t.flag b) scope d
    tail_small (t.word w v) scope d = leaf_small (t.word w v) scope d
    tail_small (t.un op w x) scope d = leaf_small (t.un op w x) scope d
    tail_small (t.bin op w x y) scope d = leaf_small (t.bin op w x y) scope d
    tail_small (t.test k w x y) scope d = leaf_small (t.test k w x y) scope d
    tail_small (t.cast kind from to x) scope d = leaf_small (t.cast kind from to x) scope d
    tail_small (t.make ty k args) scope d = leaf_small (t.make ty k args) scope d
    tail_small (t.get m x k) scope d = leaf_small (t.get m x k) scope d
    tail_small (t.put m x k v) scope d = leaf_small (t.put m x k v) scope d

    tails_small : (ts : Cores) (scope : List ℕ) (d : ℕ) (by : Decision) (r : ℕ) → in_tails (lowered_tails group g scope d by r ts) ≤ parts_in ts
    tails_small t.no_core scope d by r = omega arith
    tails_small (t.core_then x rest) scope d by r =
        let here = tail_small x (scope ++ slots_from d (taken r by)) (d + taken r by) in
        let later = tails_small rest scope d by (suc r) in omega arith
