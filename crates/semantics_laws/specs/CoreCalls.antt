-- Calls in core terms.
use Rattle.std.specs.Prelude.{◌≡◌, ⊤, ◌⊎◌, ℕ, ◌<◌}
use Rattle.spec_ir.specs.CoreTerms.{Core, Cores, var, flag, word, un, bin, test, cast, let_in, if_else, choose, make, call, get, put, no_core, core_then}

-- `group` is the group of a function, and groups have ranks.
module _ (group : ℕ → ℕ) (rank : ℕ → ℕ) (g : ℕ) where
  abbrev mutual
    -- Each call is of a function of a group of lower rank than g.
    pub CallsBelow : Core → Type 0
    CallsBelow (var n) = ⊤
    CallsBelow (flag b) = ⊤
    CallsBelow (word w v) = ⊤
    CallsBelow (un op w x) = CallsBelow x
    CallsBelow (bin op w x y) = CallsBelow x × CallsBelow y
    CallsBelow (test c w x y) = CallsBelow x × CallsBelow y
    CallsBelow (cast kind from to x) = CallsBelow x
    CallsBelow (let_in x body) = CallsBelow x × CallsBelow body
    CallsBelow (if_else c x y) = CallsBelow c × CallsBelow x × CallsBelow y
    CallsBelow (choose x by arms) = CallsBelow x × AllCallBelow arms
    CallsBelow (make d c args) = AllCallBelow args
    CallsBelow (call f args) = (rank (group f) < rank g) × AllCallBelow args
    CallsBelow (get m x k) = CallsBelow x × CallsBelow k
    CallsBelow (put m x k v) = CallsBelow x × CallsBelow k × CallsBelow v

    pub AllCallBelow : Cores → Type 0
    AllCallBelow no_core = ⊤
    AllCallBelow (core_then t ts) = CallsBelow t × AllCallBelow ts

  abbrev mutual
    -- Each call is of a function of a group of lower rank than g, or of g itself and stands in tail position.
    pub CallsInOrder : Core → Type 0
    CallsInOrder (let_in x body) = CallsBelow x × CallsInOrder body
    CallsInOrder (if_else c x y) = CallsBelow c × CallsInOrder x × CallsInOrder y
    CallsInOrder (choose x by arms) = CallsBelow x × AllCallInOrder arms
    CallsInOrder (call f args) = ((group f ≡ g) ⊎ (rank (group f) < rank g)) × AllCallBelow args
    CallsInOrder x = CallsBelow x

    pub AllCallInOrder : Cores → Type 0
    AllCallInOrder no_core = ⊤
    AllCallInOrder (core_then t ts) = CallsInOrder t × AllCallInOrder ts
