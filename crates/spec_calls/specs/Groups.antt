-- Groups of functions: two functions are of one group where each is the other, or each reaches the other by calls.
use Rattle.std.specs.Prelude.{◌≡◌, ℕ, true, false, ◌↔◌, ◌⊎◌, ◌<◌, Some, List, length, slice_get}
use Rattle.std.specs.List.{Contains}
use Rattle.support_reachability.specs.Graph.{IsEdge, SameGroup, IsLeastOfGroup}
use Rattle.spec_ir.specs.Terms.{Term}
use Rattle.spec_calls.specs.declared.group.Group.{Group}
use Rattle.spec_calls.specs.Calls.{calls, call_of, call_graph}

-- of functions by their numbers, with these bodies
module _ (bodies : List Term) where
  -- Functions f and g are of one group.
  abbrev pub InOneGroup : ℕ → ℕ → Type 0
  InOneGroup f g = SameGroup (call_graph bodies) f g

  -- Function f calls g.
  abbrev pub CallsTo : ℕ → ℕ → Type 0
  CallsTo f g = IsEdge (call_graph bodies) f g

  -- Function f calls one of its own group outside tail position.
  pub record CallsGroupInside (f : ℕ) : Type 0 where
    pub body : Term
    pub is : slice_get bodies f ≡ Some body
    pub called : ℕ
    pub calls_it : Contains (calls true body) (call_of called false)
    pub same : InOneGroup f called

  -- A function of the group of f calls one of that group.
  pub record GroupLoops (f : ℕ) : Type 0 where
    pub caller : ℕ
    pub called : ℕ
    pub of_group : InOneGroup f caller
    pub of_it_too : InOneGroup f called
    pub calls_it : CallsTo caller called

  -- What is said of the group of function f.
  pub record IsGroupOf (f : ℕ) (g : Group) : Type 0 where
    pub number : IsLeastOfGroup (call_graph bodies) f g.number
    pub loops : (g.loops ≡ true) ↔ GroupLoops f

  -- The groups of all functions.
  pub record AreGroups (groups : List Group) : Type 0 where
    pub all : length groups ≡ length bodies
    pub each : (f : ℕ) (g : Group) → slice_get groups f ≡ Some g → IsGroupOf f g

  -- Calls of other groups go down by a rank, which is that of a whole group.
  pub record IsRanked (rank : ℕ → ℕ) : Type 0 where
    pub falls : (f g : ℕ) → CallsTo f g → InOneGroup f g ⊎ (rank g < rank f)
    pub stays : (f g : ℕ) → InOneGroup f g → rank f ≡ rank g
