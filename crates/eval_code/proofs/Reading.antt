-- Lowered terms read slots that were written before.
use Rattle.std.proofs.Common.{◌≡◌, ℕ, zero, suc, ◌+◌, ◌≤◌, ◌<◌, ◌==◌, Bool, true, false, List, [], ◌∷◌, ◌++◌, length, refl, sym, ap, subst, arith, length-append}
use Rattle.std.specs.Prelude.{if◌then◌else◌}
use Rattle.spec_match_compiler.specs.Values.{Place}
use Rattle.spec_match_compiler.specs.Decisions.{Decision, Decisions, row, on_case, on_word, on_flag, no_tree, tree_then}
use Rattle.spec_ir.specs.CoreTerms as t
use Rattle.spec_ir.specs.CoreTerms.{Core, Cores}
use Rattle.eval_code.specs.Code as c
use Rattle.eval_code.specs.Code.{Node, nodes}
use Rattle.eval_code.specs.Lowered.{AllLowered, Ended, Lowered, after, after_all, all_lowered, alone, at_end, before_all, ended_after, ended_after_all, ends, lowered, lowered_arms, lowered_tail, lowered_tails, slot_of, slots_from, tail_of, stretch_of, taken}
use Rattle.eval_code.specs.Scopes.{AllInScope, ArmInScope, InScope}
use Rattle.eval_code.specs.Valid.{ArmReads, ArmTailReads, Below, EachRow, EachRowIn, EndReads, NodeReads, NodesRead, StretchReads, TailReads, count}
use Rattle.eval_code.proofs.Names.{arm_more, from_zero, one_more}

below_more : (d e : ℕ) (ss : List ℕ) → d ≤ e → Below d ss → Below e ss
below_more d e [] le h = tt
below_more d e (s ∷ ss) le h = let lt = h.0 in (omega arith, below_more d e ss le h.1)

below_append : (d : ℕ) (ss ts : List ℕ) → Below d ss → Below d ts → Below d (ss ++ ts)
below_append d [] ts h k = k
below_append d (s ∷ ss) ts h k = (h.0, below_append d ss ts h.1 k)

below_at : (d : ℕ) (ss : List ℕ) (n : ℕ) → Below d ss → n < length ss → slot_of ss n < d
below_at d [] n h lt = absurd (omega arith)
below_at d (s ∷ ss) zero h lt = h.0
below_at d (s ∷ ss) (suc n) h lt = below_at d ss n h.1 (omega arith)

pub below_from : (d n e : ℕ) → d + n ≤ e → Below e (slots_from d n)
below_from d zero e h = tt
below_from d (suc n) e h = (omega arith, below_from (suc d) n e (omega arith))

counted : (xs : List Node) → count (nodes xs) ≡ length xs
counted [] = refl
counted (x ∷ xs) = ap suc (counted xs)

read_append : (d : ℕ) (xs ys : List Node) → NodesRead d (nodes xs) → NodesRead (d + length xs) (nodes ys) → NodesRead d (nodes (xs ++ ys))
read_append d [] ys h k = let same : d + 0 ≡ d = omega arith in subst (λ z. NodesRead z (nodes ys)) same k
read_append d (x ∷ xs) ys h k = let same : d + suc (length xs) ≡ suc d + length xs = omega arith in (h.0, read_append (suc d) xs ys h.1 (subst (λ z. NodesRead z (nodes ys)) same k))

-- From slot d on, nodes read what was written before; the slot of the value is written, and it is known which one is next.
pub record Reads (d : ℕ) (r : Lowered) : Type 0 where
  nodes_read : NodesRead d (nodes r.nodes)
  slot : r.slot < r.next
  next : r.next ≡ d + length r.nodes

pub record AllRead (d : ℕ) (r : AllLowered) : Type 0 where
  nodes_read : NodesRead d (nodes r.nodes)
  slots : Below r.next r.slots
  next : r.next ≡ d + length r.nodes

after_reads : (d : ℕ) (r : Lowered) (f : ℕ → ℕ → Lowered) → Reads d r → Reads r.next (f r.slot r.next) → Reads d (after r f)
after_reads d r f h k =
    let s = f r.slot r.next in
    let first = h.next in
    let second = k.next in
    let long = length-append r.nodes s.nodes in
    record { nodes_read = read_append d r.nodes s.nodes h.nodes_read (subst (λ z. NodesRead z (nodes s.nodes)) h.next k.nodes_read); slot = k.slot; next = omega arith }

after_all_reads : (d : ℕ) (r : AllLowered) (f : List ℕ → ℕ → Lowered) → AllRead d r → Reads r.next (f r.slots r.next) → Reads d (after_all r f)
after_all_reads d r f h k =
    let s = f r.slots r.next in
    let first = h.next in
    let second = k.next in
    let long = length-append r.nodes s.nodes in
    record { nodes_read = read_append d r.nodes s.nodes h.nodes_read (subst (λ z. NodesRead z (nodes s.nodes)) h.next k.nodes_read); slot = k.slot; next = omega arith }

before_reads : (d : ℕ) (r : Lowered) (f : ℕ → AllLowered) → Reads d r → AllRead r.next (f r.next) → AllRead d (before_all r f)
before_reads d r f h k =
    let s = f r.next in
    let first = h.next in
    let second = k.next in
    let at = h.slot in
    let long = length-append r.nodes s.nodes in
    record { nodes_read = read_append d r.nodes s.nodes h.nodes_read (subst (λ z. NodesRead z (nodes s.nodes)) h.next k.nodes_read); slots = (omega arith, k.slots); next = omega arith }

alone_reads : (d : ℕ) (n : Node) → NodeReads d n → Reads d (alone d n)
alone_reads d n h = record { nodes_read = (h, tt); slot = omega arith; next = omega arith }

stretch_reads : (d : ℕ) (r : Lowered) → Reads d r → StretchReads d (stretch_of r)
stretch_reads d r h = (h.nodes_read, subst (λ z. r.slot < d + z) (sym (counted r.nodes)) (subst (λ z. r.slot < z) h.next h.slot))

-- the next slot is not before
on : (d : ℕ) (r : Lowered) → Reads d r → d ≤ r.next
on d r h = let e = h.next in omega arith

-- the rows of a decision, one by one
module _ (P Q : ℕ → List (ℕ × Place) → Type 0) (go : (r : ℕ) (binds : List (ℕ × Place)) → P r binds → Q r binds) where
  mutual
    rows_so : (by : Decision) → EachRow P by → EachRow Q by
    rows_so (row r binds) h = go r binds h
    rows_so (on_case at ts) h = rows_so_in ts h
    rows_so (on_word at n a b) h = (rows_so a h.0, rows_so b h.1)
    rows_so (on_flag at a b) h = (rows_so a h.0, rows_so b h.1)

    rows_so_in : (ts : Decisions) → EachRowIn P ts → EachRowIn Q ts
    rows_so_in no_tree h = tt
    rows_so_in (tree_then t ts) h = (rows_so t h.0, rows_so_in ts h.1)

-- variables of an arm
arm_below : (scope : List ℕ) (d n : ℕ) → Below d scope → Below (d + n) (scope ++ slots_from d n)
arm_below scope d n h = below_append (d + n) scope (slots_from d n) (below_more d (d + n) scope (omega arith) h) (below_from d n (d + n) (omega arith))

let_below : (scope : List ℕ) (d : ℕ) (r : Lowered) → Below d scope → Reads d r → Below r.next (scope ++ r.slot ∷ [])
let_below scope d r h k = below_append r.next scope (r.slot ∷ []) (below_more d r.next scope (on d r k) h) (k.slot, tt)

-- a form of two parts
two_read : (d : ℕ) (r : Lowered) (f : ℕ → Lowered) (n : ℕ → ℕ → Node) → Reads d r → Reads r.next (f r.next) → ((e p q : ℕ) → (p < e) × (q < e) → NodeReads e (n p q)) → Reads d (after r (λ p d. after (f d) (λ q d. alone d (n p q))))
two_read d r f n hx hy is =
    let s = f r.next in
    let ox = hx.slot in
    let le = on r.next s hy in
    after_reads d r (λ p d. after (f d) (λ q d. alone d (n p q))) hx
    (after_reads r.next s (λ q d. alone d (n r.slot q)) hy (alone_reads s.next (n r.slot s.slot) (is s.next r.slot s.slot (omega arith, hy.slot))))

mutual
  pub lowered_reads : (x : Core) (scope : List ℕ) (d : ℕ) → Below d scope → InScope (length scope) x → Reads d (lowered scope d x)
  lowered_reads (t.var n) scope d h ok = record { nodes_read = tt; slot = below_at d scope n h ok; next = omega arith }
  lowered_reads (t.flag b) scope d h ok = alone_reads d (c.flag b) tt
  lowered_reads (t.word w v) scope d h ok = alone_reads d (c.word w v) tt
  lowered_reads (t.un op w x) scope d h ok =
      let r = lowered scope d x in
      let k = lowered_reads x scope d h ok in
      after_reads d r (λ p d. alone d (c.un op w p)) k (alone_reads r.next (c.un op w r.slot) k.slot)
  lowered_reads (t.bin op w x y) scope d h ok =
      let hx = lowered_reads x scope d h ok.0 in
      two_read d (lowered scope d x) (λ d. lowered scope d y) (λ p q. c.bin op w p q) hx (lowered_reads y scope (lowered scope d x).next (below_more d (lowered scope d x).next scope (on d (lowered scope d x) hx) h) ok.1) (λ e p q k. k)
  lowered_reads (t.test k w x y) scope d h ok =
      let hx = lowered_reads x scope d h ok.0 in
      two_read d (lowered scope d x) (λ d. lowered scope d y) (λ p q. c.test k w p q) hx (lowered_reads y scope (lowered scope d x).next (below_more d (lowered scope d x).next scope (on d (lowered scope d x) hx) h) ok.1) (λ e p q k. k)
  lowered_reads (t.cast kind from to x) scope d h ok =
      let r = lowered scope d x in
      let k = lowered_reads x scope d h ok in
      after_reads d r (λ p d. alone d (c.cast kind from to p)) k (alone_reads r.next (c.cast kind from to r.slot) k.slot)
  lowered_reads (t.let_in x y) scope d h ok =
      let r = lowered scope d x in
      let k = lowered_reads x scope d h ok.0 in
      after_reads d r (λ p d. lowered (scope ++ p ∷ []) d y) k (lowered_reads y (scope ++ r.slot ∷ []) r.next (let_below scope d r h k) (subst (λ n. InScope n y) (one_more scope r.slot) ok.1))
  lowered_reads (t.if_else k x y) scope d h ok =
      let r = lowered scope d k in
      let p = lowered_reads k scope d h ok.0 in
      let more = below_more d r.next scope (on d r p) h in
      after_reads d r (λ p d. alone d (c.if_else p (stretch_of (lowered scope d x)) (stretch_of (lowered scope d y)))) p
      (alone_reads r.next (c.if_else r.slot (stretch_of (lowered scope r.next x)) (stretch_of (lowered scope r.next y)))
      (p.slot, stretch_reads r.next (lowered scope r.next x) (lowered_reads x scope r.next more ok.1), stretch_reads r.next (lowered scope r.next y) (lowered_reads y scope r.next more ok.2)))
  lowered_reads (t.choose x by arms) scope d h ok =
      let r = lowered scope d x in
      let p = lowered_reads x scope d h ok.0 in
      let more = below_more d r.next scope (on d r p) h in
      after_reads d r (λ p d. alone d (c.choose p by (lowered_arms scope d by 0 arms))) p
      (alone_reads r.next (c.choose r.slot by (lowered_arms scope r.next by 0 arms)) (
        p.slot,
        rows_so (λ r binds. (length binds ≡ taken r by) × ArmInScope (length scope + length binds) arms r) (λ q binds. ArmReads (r.next + length binds) (lowered_arms scope r.next by 0 arms) q)
            (λ q binds k. arms_read arms 0 q scope r.next by (length binds) more (from_zero by (length binds) q k.0) k.1) by ok.1,
      ))
  lowered_reads (t.make ty k args) scope d h ok =
      let r = all_lowered scope d args in
      let p = all_read args scope d h ok in
      after_all_reads d r (λ ps d. alone d (c.make ty k ps)) p (alone_reads r.next (c.make ty k r.slots) p.slots)
  lowered_reads (t.call f args) scope d h ok =
      let r = all_lowered scope d args in
      let p = all_read args scope d h ok in
      after_all_reads d r (λ ps d. alone d (c.call f ps)) p (alone_reads r.next (c.call f r.slots) p.slots)
  lowered_reads (t.get m x k) scope d h ok =
      let hx = lowered_reads x scope d h ok.0 in
      two_read d (lowered scope d x) (λ d. lowered scope d k) (λ p q. c.get m p q) hx (lowered_reads k scope (lowered scope d x).next (below_more d (lowered scope d x).next scope (on d (lowered scope d x) hx) h) ok.1) (λ e p q k. k)
  lowered_reads (t.put m x k v) scope d h ok =
      let r = lowered scope d x in
      let s = lowered scope r.next k in
      let u = lowered scope s.next v in
      let hx = lowered_reads x scope d h ok.0 in
      let mx = below_more d r.next scope (on d r hx) h in
      let hk = lowered_reads k scope r.next mx ok.1 in
      let mk = below_more r.next s.next scope (on r.next s hk) mx in
      let hv = lowered_reads v scope s.next mk ok.2 in
      let ox = hx.slot in
      let ok2 = hk.slot in
      let le1 = on r.next s hk in
      let le2 = on s.next u hv in
      after_reads d r (λ p d. after (lowered scope d k) (λ q d. after (lowered scope d v) (λ o d. alone d (c.put m p q o)))) hx
      (after_reads r.next s (λ q d. after (lowered scope d v) (λ o d. alone d (c.put m r.slot q o))) hk
      (after_reads s.next u (λ o d. alone d (c.put m r.slot s.slot o)) hv (alone_reads u.next (c.put m r.slot s.slot u.slot) (omega arith, omega arith, hv.slot))))

  all_read : (ts : Cores) (scope : List ℕ) (d : ℕ) → Below d scope → AllInScope (length scope) ts → AllRead d (all_lowered scope d ts)
  all_read t.no_core scope d h ok = record { nodes_read = tt; slots = tt; next = omega arith }
  all_read (t.core_then x rest) scope d h ok =
      let r = lowered scope d x in
      let p = lowered_reads x scope d h ok.0 in
      before_reads d r (λ d. all_lowered scope d rest) p (all_read rest scope r.next (below_more d r.next scope (on d r p) h) ok.1)

  -- arm number q of those from number n on
  arms_read : (ts : Cores) (n q : ℕ) (scope : List ℕ) (d : ℕ) (by : Decision) (k : ℕ) → Below d scope → k ≡ taken (n + q) by → ArmInScope (length scope + k) ts q → ArmReads (d + k) (lowered_arms scope d by n ts) q
  arms_read t.no_core n q scope d by k h e ok = tt
  arms_read (t.core_then x rest) n zero scope d by k h e ok =
      let none : n + 0 ≡ n = omega arith in
      let m = taken n by in
      let long : k ≡ m = subst (λ z. k ≡ taken z by) none e in
      subst (λ z. StretchReads (d + z) (stretch_of (lowered (scope ++ slots_from d m) (d + m) x))) (sym long)
      (stretch_reads (d + m) (lowered (scope ++ slots_from d m) (d + m) x) (lowered_reads x (scope ++ slots_from d m) (d + m) (arm_below scope d m h) (subst (λ n. InScope n x) (arm_more scope d m k long) ok)))
  arms_read (t.core_then x rest) n (suc q) scope d by k h e ok =
      let same : n + suc q ≡ suc n + q = omega arith in
      arms_read rest (suc n) q scope d by k h (subst (λ z. k ≡ taken z by) same e) ok

-- ---- terms in tail position
ended_reads : (d : ℕ) (r : Lowered) (f : ℕ → ℕ → Ended) → Reads d r → TailReads r.next (tail_of (f r.slot r.next)) → TailReads d (tail_of (ended_after r f))
ended_reads d r f h k =
    let s = f r.slot r.next in
    let first = h.next in
    let ls = counted s.nodes in
    let la = counted (r.nodes ++ s.nodes) in
    let long = length-append r.nodes s.nodes in
    let same : r.next + count (nodes s.nodes) ≡ d + count (nodes (r.nodes ++ s.nodes)) = omega arith in
    (read_append d r.nodes s.nodes h.nodes_read (subst (λ z. NodesRead z (nodes s.nodes)) h.next k.0), subst (λ z. EndReads z s.end) same k.1)

all_ended_reads : (d : ℕ) (r : AllLowered) (f : List ℕ → ℕ → Ended) → AllRead d r → TailReads r.next (tail_of (f r.slots r.next)) → TailReads d (tail_of (ended_after_all r f))
all_ended_reads d r f h k =
    let s = f r.slots r.next in
    let first = h.next in
    let ls = counted s.nodes in
    let la = counted (r.nodes ++ s.nodes) in
    let long = length-append r.nodes s.nodes in
    let same : r.next + count (nodes s.nodes) ≡ d + count (nodes (r.nodes ++ s.nodes)) = omega arith in
    (read_append d r.nodes s.nodes h.nodes_read (subst (λ z. NodesRead z (nodes s.nodes)) h.next k.0), subst (λ z. EndReads z s.end) same k.1)

end_reads : (d : ℕ) (e : c.End) → EndReads d e → TailReads d (tail_of (ends e))
end_reads d e h = let none : d ≡ d + 0 = omega arith in (tt, subst (λ z. EndReads z e) none h)

leaf_reads : (d : ℕ) (r : Lowered) → Reads d r → TailReads d (tail_of (at_end r))
leaf_reads d r h = stretch_reads d r h

module _ (group : ℕ → ℕ) (g : ℕ) where
  leaf_read : (x : Core) (scope : List ℕ) (d : ℕ) → Below d scope → InScope (length scope) x → TailReads d (tail_of (at_end (lowered scope d x)))
  leaf_read x scope d h ok = leaf_reads d (lowered scope d x) (lowered_reads x scope d h ok)

  call_reads : (b : Bool) (j : ℕ) (args : Cores) (scope : List ℕ) (d : ℕ) → Below d scope → AllInScope (length scope) args
      → TailReads d (tail_of (if b then ended_after_all (all_lowered scope d args) (λ ps d. ends (c.again j ps)) else at_end (lowered scope d (t.call j args))))
  call_reads true j args scope d h ok =
      let r = all_lowered scope d args in
      let p = all_read args scope d h ok in
      all_ended_reads d r (λ ps d. ends (c.again j ps)) p (end_reads r.next (c.again j r.slots) p.slots)
  call_reads false j args scope d h ok = leaf_read (t.call j args) scope d h ok

  mutual
    pub tail_reads : (x : Core) (scope : List ℕ) (d : ℕ) → Below d scope → InScope (length scope) x → TailReads d (tail_of (lowered_tail group g scope d x))
    tail_reads (t.let_in x y) scope d h ok =
        let r = lowered scope d x in
        let k = lowered_reads x scope d h ok.0 in
        ended_reads d r (λ p d. lowered_tail group g (scope ++ p ∷ []) d y) k (tail_reads y (scope ++ r.slot ∷ []) r.next (let_below scope d r h k) (subst (λ n. InScope n y) (one_more scope r.slot) ok.1))
    tail_reads (t.if_else k x y) scope d h ok =
        let r = lowered scope d k in
        let p = lowered_reads k scope d h ok.0 in
        let more = below_more d r.next scope (on d r p) h in
        ended_reads d r (λ p d. ends (c.either p (tail_of (lowered_tail group g scope d x)) (tail_of (lowered_tail group g scope d y)))) p
        (end_reads r.next (c.either r.slot (tail_of (lowered_tail group g scope r.next x)) (tail_of (lowered_tail group g scope r.next y))) (p.slot, tail_reads x scope r.next more ok.1, tail_reads y scope r.next more ok.2))
    tail_reads (t.choose x by arms) scope d h ok =
        let r = lowered scope d x in
        let p = lowered_reads x scope d h ok.0 in
        let more = below_more d r.next scope (on d r p) h in
        ended_reads d r (λ p d. ends (c.pick p by (lowered_tails group g scope d by 0 arms))) p
        (end_reads r.next (c.pick r.slot by (lowered_tails group g scope r.next by 0 arms)) (
          p.slot,
          rows_so (λ r binds. (length binds ≡ taken r by) × ArmInScope (length scope + length binds) arms r) (λ q binds. ArmTailReads (r.next + length binds) (lowered_tails group g scope r.next by 0 arms) q)
              (λ q binds k. tails_read arms 0 q scope r.next by (length binds) more (from_zero by (length binds) q k.0) k.1) by ok.1,
        ))
    tail_reads (t.call j args) scope d h ok = call_reads (group j == g) j args scope d h ok
    tail_reads (t.var n) scope d h ok = leaf_read (t.var n) scope d h ok
    tail_reads (t.flag b) scope d h ok = leaf_read (t.flag b) scope d h ok
    tail_reads (t.word w v) scope d h ok = leaf_read (t.word w v) scope d h ok
    tail_reads (t.un op w x) scope d h ok = leaf_read (t.un op w x) scope d h ok
    tail_reads (t.bin op w x y) scope d h ok = leaf_read (t.bin op w x y) scope d h ok
    tail_reads (t.test k w x y) scope d h ok = leaf_read (t.test k w x y) scope d h ok
    tail_reads (t.cast kind from to x) scope d h ok = leaf_read (t.cast kind from to x) scope d h ok
    tail_reads (t.make ty k args) scope d h ok = leaf_read (t.make ty k args) scope d h ok
    tail_reads (t.get m x k) scope d h ok = leaf_read (t.get m x k) scope d h ok
    tail_reads (t.put m x k v) scope d h ok = leaf_read (t.put m x k v) scope d h ok

    tails_read : (ts : Cores) (n q : ℕ) (scope : List ℕ) (d : ℕ) (by : Decision) (k : ℕ) → Below d scope → k ≡ taken (n + q) by → ArmInScope (length scope + k) ts q → ArmTailReads (d + k) (lowered_tails group g scope d by n ts) q
    tails_read t.no_core n q scope d by k h e ok = tt
    tails_read (t.core_then x rest) n zero scope d by k h e ok =
        let none : n + 0 ≡ n = omega arith in
        let m = taken n by in
        let long : k ≡ m = subst (λ z. k ≡ taken z by) none e in
        subst (λ z. TailReads (d + z) (tail_of (lowered_tail group g (scope ++ slots_from d m) (d + m) x))) (sym long)
        (tail_reads x (scope ++ slots_from d m) (d + m) (arm_below scope d m h) (subst (λ n. InScope n x) (arm_more scope d m k long) ok))
    tails_read (t.core_then x rest) n (suc q) scope d by k h e ok =
        let same : n + suc q ≡ suc n + q = omega arith in
        tails_read rest (suc n) q scope d by k h (subst (λ z. k ≡ taken z by) same e) ok
