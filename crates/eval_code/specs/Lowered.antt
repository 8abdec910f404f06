-- The code of core terms. A variable is a slot and takes no node, a `let` names the slot of its value, and each other form takes one
-- node, behind those of its parts.
use Rattle.std.specs.Prelude.{◌≡◌, ℕ, zero, suc, ◌+◌, ◌==◌, if◌then◌else◌, List, [], ◌∷◌, ◌++◌, Option, Some, None, map, length, slice_get, unwrap_or}
use Rattle.spec_match_compiler.specs.Decisions.{Decision, Decisions, row, on_case, on_word, on_flag, no_tree, tree_then}
use Rattle.spec_ir.specs.CoreTerms as t
use Rattle.spec_ir.specs.CoreTerms.{Core, Cores}
use Rattle.spec_ir.specs.Specification.{Spec, Fun}
use Rattle.semantics.specs.Direct.{group_of}
use Rattle.eval_code.specs.Code as c
use Rattle.eval_code.specs.Code.{Node, Stretch, Stretches, Tail, Tails, End, FunCode, nodes}

-- ---- what lowering gives: nodes, the slot of the value, and the slot that is written next
pub record Lowered : Type 0 where
  pub nodes : List Node
  pub slot : ℕ
  pub next : ℕ

-- of several terms
pub record AllLowered : Type 0 where
  pub nodes : List Node
  pub slots : List ℕ
  pub next : ℕ

-- of a term in tail position
pub record Ended : Type 0 where
  pub nodes : List Node
  pub end : End

-- no node, but a slot that is there
abbrev pub there : ℕ → ℕ → Lowered
there d s = record { nodes = []; slot = s; next = d }

-- one node, which writes slot d
abbrev pub alone : ℕ → Node → Lowered
alone d n = record { nodes = n ∷ []; slot = d; next = suc d }

-- what follows a term, by the slot of its value and the one that is written next
abbrev pub after : Lowered → (ℕ → ℕ → Lowered) → Lowered
after r f = record { nodes = r.nodes ++ (f r.slot r.next).nodes; slot = (f r.slot r.next).slot; next = (f r.slot r.next).next }

abbrev pub after_all : AllLowered → (List ℕ → ℕ → Lowered) → Lowered
after_all r f = record { nodes = r.nodes ++ (f r.slots r.next).nodes; slot = (f r.slots r.next).slot; next = (f r.slots r.next).next }

abbrev pub before_all : Lowered → (ℕ → AllLowered) → AllLowered
before_all r f = record { nodes = r.nodes ++ (f r.next).nodes; slots = r.slot ∷ (f r.next).slots; next = (f r.next).next }

abbrev pub ended_after : Lowered → (ℕ → ℕ → Ended) → Ended
ended_after r f = record { nodes = r.nodes ++ (f r.slot r.next).nodes; end = (f r.slot r.next).end }

abbrev pub ended_after_all : AllLowered → (List ℕ → ℕ → Ended) → Ended
ended_after_all r f = record { nodes = r.nodes ++ (f r.slots r.next).nodes; end = (f r.slots r.next).end }

abbrev pub ends : End → Ended
ends e = record { nodes = []; end = e }

-- a value in tail position
abbrev pub at_end : Lowered → Ended
at_end r = record { nodes = r.nodes; end = c.slot r.slot }

abbrev pub stretch_of : Lowered → Stretch
stretch_of r = c.stretch (nodes r.nodes) r.slot

abbrev pub tail_of : Ended → Tail
tail_of r = c.tail (nodes r.nodes) r.end

-- ---- slots of variables
-- n slots from d on
abbrev pub slots_from : ℕ → ℕ → List ℕ
slots_from d zero = []
slots_from d (suc n) = d ∷ slots_from (suc d) n

-- the slot of a variable; 0 where there is none
abbrev pub slot_of : List ℕ → ℕ → ℕ
slot_of scope n = unwrap_or (slice_get scope n) 0

abbrev pub first_some : Option ℕ → Option ℕ → Option ℕ
first_some (Some n) o = Some n
first_some None o = o

-- how many variables a decision names for row r, where it picks it first
module _ (r : ℕ) where
  abbrev mutual
    pub named_first : Decision → Option ℕ
    named_first (row q binds) = if q == r then Some (length binds) else None
    named_first (on_case at ts) = named_first_in ts
    named_first (on_word at n a b) = first_some (named_first a) (named_first b)
    named_first (on_flag at a b) = first_some (named_first a) (named_first b)

    pub named_first_in : Decisions → Option ℕ
    named_first_in no_tree = None
    named_first_in (tree_then t ts) = first_some (named_first t) (named_first_in ts)

-- how many variables arm number r has
abbrev pub taken : ℕ → Decision → ℕ
taken r by = unwrap_or (named_first r by) 0

-- ---- terms: `scope` has the slots of variables, and d is the slot that is written next
abbrev mutual
  pub lowered : List ℕ → ℕ → Core → Lowered
  lowered scope d (t.var n) = there d (slot_of scope n)
  lowered scope d (t.flag b) = alone d (c.flag b)
  lowered scope d (t.word w v) = alone d (c.word w v)
  lowered scope d (t.un op w x) = after (lowered scope d x) (λ p d. alone d (c.un op w p))
  lowered scope d (t.bin op w x y) = after (lowered scope d x) (λ p d. after (lowered scope d y) (λ q d. alone d (c.bin op w p q)))
  lowered scope d (t.test k w x y) = after (lowered scope d x) (λ p d. after (lowered scope d y) (λ q d. alone d (c.test k w p q)))
  lowered scope d (t.cast kind from to x) = after (lowered scope d x) (λ p d. alone d (c.cast kind from to p))
  lowered scope d (t.let_in x y) = after (lowered scope d x) (λ p d. lowered (scope ++ p ∷ []) d y)
  lowered scope d (t.if_else k x y) = after (lowered scope d k) (λ p d. alone d (c.if_else p (stretch_of (lowered scope d x)) (stretch_of (lowered scope d y))))
  lowered scope d (t.choose x by arms) = after (lowered scope d x) (λ p d. alone d (c.choose p by (lowered_arms scope d by 0 arms)))
  lowered scope d (t.make ty k args) = after_all (all_lowered scope d args) (λ ps d. alone d (c.make ty k ps))
  lowered scope d (t.call f args) = after_all (all_lowered scope d args) (λ ps d. alone d (c.call f ps))
  lowered scope d (t.get m x k) = after (lowered scope d x) (λ p d. after (lowered scope d k) (λ q d. alone d (c.get m p q)))
  lowered scope d (t.put m x k v) = after (lowered scope d x) (λ p d. after (lowered scope d k) (λ q d. after (lowered scope d v) (λ r d. alone d (c.put m p q r))))

  pub all_lowered : List ℕ → ℕ → Cores → AllLowered
  all_lowered scope d t.no_core = record { nodes = []; slots = []; next = d }
  all_lowered scope d (t.core_then x rest) = before_all (lowered scope d x) (λ d. all_lowered scope d rest)

  -- arms from number r on: their variables are the next slots
  pub lowered_arms : List ℕ → ℕ → Decision → ℕ → Cores → Stretches
  lowered_arms scope d by r t.no_core = c.no_stretch
  lowered_arms scope d by r (t.core_then x rest) = c.stretch_then (stretch_of (lowered (scope ++ slots_from d (taken r by)) (d + taken r by) x)) (lowered_arms scope d by (suc r) rest)

-- ---- terms in tail position of a function of group g
module _ (group : ℕ → ℕ) (g : ℕ) where
  abbrev mutual
    pub lowered_tail : List ℕ → ℕ → Core → Ended
    lowered_tail scope d (t.let_in x y) = ended_after (lowered scope d x) (λ p d. lowered_tail (scope ++ p ∷ []) d y)
    lowered_tail scope d (t.if_else k x y) = ended_after (lowered scope d k) (λ p d. ends (c.either p (tail_of (lowered_tail scope d x)) (tail_of (lowered_tail scope d y))))
    lowered_tail scope d (t.choose x by arms) = ended_after (lowered scope d x) (λ p d. ends (c.pick p by (lowered_tails scope d by 0 arms)))
    lowered_tail scope d (t.call f args) = if group f == g then ended_after_all (all_lowered scope d args) (λ ps d. ends (c.again f ps)) else at_end (lowered scope d (t.call f args))
    lowered_tail scope d x = at_end (lowered scope d x)

    pub lowered_tails : List ℕ → ℕ → Decision → ℕ → Cores → Tails
    lowered_tails scope d by r t.no_core = c.no_tail
    lowered_tails scope d by r (t.core_then x rest) = c.tail_then (tail_of (lowered_tail (scope ++ slots_from d (taken r by)) (d + taken r by) x)) (lowered_tails scope d by (suc r) rest)

-- ---- functions
abbrev pub lowered_fun : Spec → Fun → FunCode
lowered_fun spec fun = record {
  params = length fun.params;
  body = tail_of (lowered_tail (group_of spec) fun.group (slots_from 0 (length fun.params)) (length fun.params) fun.core);
}

-- The code is that of the specification: the code of each function is that of its core term, in their order.
abbrev pub IsCodeOf : List FunCode → Spec → Type 0
IsCodeOf code spec = code ≡ map (lowered_fun spec) spec.funs
