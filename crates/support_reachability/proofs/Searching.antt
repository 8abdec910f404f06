-- Steps of the depth-first search.
use Rattle.std.proofs.Common.{◌≡◌, ◌⊎◌, ℕ, ◌<◌, Bool, false, List, [], ◌∷◌, ◌++◌, length, get_or, replicate, sym, ap, ◌∙◌, subst, inl, inr, arith, map, Vec, Global}
use Rattle.std.specs.List.{Contains}
use Rattle.std.proofs.lemmas.Bool.{cases_lt, false≢true}
use Rattle.std.proofs.lemmas.List.{length-replicate, get_or-replicate, get_or_past, get_or-map}
use Rattle.std.proofs.lemmas.List.Elements.{Contains-push, Contains-push_cases, Contains-append_left}
use Rattle.support_reachability.specs.Graph.{IsEdge, Reaches, edge, onward}
use Rattle.support_reachability.specs.Marks.{IsMarked, AreMarked, AreReached}
use Rattle.support_reachability.proofs.Marks.{is_within}

module _ (graph : List (List ℕ)) where
  -- all that a node leads to is marked
  abbrev pub IsLeft : List Bool → ℕ → Type 0
  IsLeft marks a = (b : ℕ) → IsEdge graph a b → b < length graph → IsMarked marks b

  -- a search from a node, with nodes on the stack that are marked and not yet left
  pub record IsSearch (from : ℕ) (marks : List Bool) (stack : List ℕ) : Type 0 where
    pub width : length marks ≡ length graph
    pub sound : (a : ℕ) → IsMarked marks a → Reaches graph from a
    pub on_stack : (a : ℕ) → Contains stack a → IsMarked marks a
    pub left : (a : ℕ) → IsMarked marks a → Contains stack a ⊎ IsLeft marks a
    pub begun : IsLeft marks from

  along : (a b c : ℕ) → Reaches graph a b → IsEdge graph b c → Reaches graph a c
  along a b c (edge e) f = onward e (edge f)
  along a b c (onward {b = d} e p) f = onward e (along d b c p f)

  -- a node's first step on an empty search
  pub search_begins : (from : ℕ) (old new : List Bool) (stack : List ℕ) → length old ≡ length graph → ((a : ℕ) → IsMarked old a → ⊥)
      → AreMarked (get_or graph from []) (length (get_or graph from [])) old new [] stack → IsSearch from new stack
  search_begins from old new stack w none h = record {
    width = h.width ∙ w;
    sound = λ a m. elim (h.only a m) [ inl o ↦ absurd (none a o) | inr p ↦ edge p.0 ];
    on_stack = λ a c. elim (h.stack_only a c) [ inl o ↦ absurd (nowhere a o) | inr m ↦ m ];
    left = λ a m. elim (h.only a m) [ inl o ↦ absurd (none a o) | inr p ↦ inl p.1 ];
    begun = λ b e l. h.marked b e (subst (λ n. b < n) (sym w) l);
  }
    where
      nowhere : (a : ℕ) → Contains [] a → ⊥
      nowhere a c = omega (arith, c.1)

  -- the node on top of the stack is left
  pub search_goes_on : (from node : ℕ) (old new : List Bool) (rest stack : List ℕ) → IsSearch from old (rest ++ node ∷ [])
      → AreMarked (get_or graph node []) (length (get_or graph node [])) old new rest stack → IsSearch from new stack
  search_goes_on from node old new rest stack s h = record {
    width = h.width ∙ s.width;
    sound = λ a m. elim (h.only a m) [ inl o ↦ s.sound a o | inr p ↦ along from node a (s.sound node (s.on_stack node (Contains-push rest node))) p.0 ];
    on_stack = λ a c. elim (h.stack_only a c) [ inl o ↦ h.kept a (s.on_stack a (Contains-append_left rest (node ∷ []) a o)) | inr m ↦ m ];
    left = λ a m. elim (h.only a m) [
      | inl o ↦ elim (s.left a o) [
        | inl c ↦ elim (Contains-push_cases rest node a c) [
          | inl there ↦ inl (h.stack_kept a there)
          | inr same ↦ inr (subst (λ n. IsLeft new n) same here)
        ]
        | inr l ↦ inr (λ b e w. h.kept b (l b e w))
      ]
      | inr p ↦ inl p.1
    ];
    begun = λ b e l. h.kept b (s.begun b e l);
  }
    where
      here : IsLeft new node
      here b e l = h.marked b e (subst (λ n. b < n) (sym s.width) l)

  -- nodes past the end lead nowhere
  pub is_inside : (a b : ℕ) → IsEdge graph a b → a < length graph
  is_inside a b e = elim (cases_lt a (length graph)) [ inl l ↦ l | inr n ↦ absurd (none (get_or_past graph a [] n)) ]
    where
      none : get_or graph a [] ≡ [] → ⊥
      none p = omega (arith, subst (λ xs. e.0 < length xs) p e.1)

  pub leads : (a b : ℕ) → Reaches graph a b → a < length graph
  leads a b (edge e) = is_inside a b e
  leads a b (onward {b = d} e p) = is_inside a d e

  -- at the end all that is reached from what is left is marked
  complete : (marks : List Bool) → ((a : ℕ) → IsMarked marks a → IsLeft marks a) → (a b : ℕ) → IsLeft marks a → Reaches graph a b → b < length graph → IsMarked marks b
  complete marks all a b left (edge e) l = left b e l
  complete marks all a b left (onward {b = d} e p) l = complete marks all d b (all d (left d e (leads d b p))) p l

  pub search_ends : (from : ℕ) (marks : List Bool) → IsSearch from marks [] → AreReached graph from marks
  search_ends from marks s = record {
    width = s.width;
    exactly = λ a l. (s.sound a, λ p. complete marks all from a s.begun p l);
  }
    where
      all : (a : ℕ) → IsMarked marks a → IsLeft marks a
      all a m = elim (s.left a m) [ inl c ↦ absurd (omega (arith, c.1)) | inr l ↦ l ]

pub none_is_marked : (n a : ℕ) → IsMarked (replicate n false) a → ⊥
none_is_marked n a m = false≢true (sym (get_or-replicate n a false false (subst (λ k. a < k) (length-replicate n false) (is_within (replicate n false) a m))) ∙ m)

-- a row of a graph in code
pub row_is : (graph : List (Vec ℕ Global)) (node : ℕ) (row : Vec ℕ Global) (targets : List ℕ) → node < length graph → row ≡ get_or graph node row → targets ≡ row.items
    → targets ≡ get_or (map (λ r. r.items) graph) node []
row_is graph node row targets l e t = t ∙ ap (λ r. r.items) e ∙ sym (get_or-map (λ r. r.items) graph node row [] l)

pub is_node : (graph : List (List ℕ)) (from : ℕ) (marks : List Bool) (rest : List ℕ) (node : ℕ) → IsSearch graph from marks (rest ++ node ∷ []) → node < length graph
is_node graph from marks rest node s = subst (λ n. node < n) s.width (is_within marks node (s.on_stack node (Contains-push rest node)))
