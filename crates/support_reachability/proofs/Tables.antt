-- Each graph has a table of which nodes reach which: paths through more and more of the nodes (Warshall's way).
use Rattle.std.proofs.Common.{◌≡◌, ◌⊎◌, ℕ, zero, suc, ◌+◌, ◌<◌, ◌≤◌, Bool, true, false, ◌&&◌, ◌||◌, ◌==◌, List, [], ◌∷◌, length, get_or, refl, sym, ap, ◌∙◌, subst, inl, inr, arith, zero-add}
use Rattle.std.specs.List.{Contains, list_any}
use Rattle.std.proofs.lemmas.Bool.{cases_eq, cases_lt, false≢true, eqb-true as same_number, or_right, or_left, eq-eqb as one_number, or_cases as or_parts}
use Rattle.std.proofs.lemmas.List.{get_or_past}
use Rattle.support_reachability.specs.Graph.{IsEdge, Reaches, edge, onward}
use Rattle.support_reachability.specs.Table.{IsTableOf, says}
use Rattle.support_reachability.proofs.Searching.{leads}
use Rattle.support_reachability.proofs.Ranks.{joined}

-- ---- elements of lists of numbers

found : (xs : List ℕ) (b : ℕ) → list_any (λ c. c == b) xs ≡ true → Contains xs b
found [] b h = absurd (false≢true h)
found (x ∷ xs) b h = at (λ k. found xs b k) (or_parts (x == b) (list_any (λ c. c == b) xs) h)
  where
    at : (list_any (λ c. c == b) xs ≡ true → Contains xs b) → ((x == b) ≡ true) ⊎ (list_any (λ c. c == b) xs ≡ true) → Contains (x ∷ xs) b
    at later (inl e) = (0, omega arith, same_number x b e)
    at later (inr k) = let r = later k in (suc r.0, omega (arith, r.1), r.2)

there : (xs : List ℕ) (b k : ℕ) → k < length xs → get_or xs k b ≡ b → list_any (λ c. c == b) xs ≡ true
there [] b k l e = absurd (omega (arith, l))
there (x ∷ xs) b zero l e = or_left (x == b) (list_any (λ c. c == b) xs) (one_number x b e)
there (x ∷ xs) b (suc k) l e = or_right (x == b) (list_any (λ c. c == b) xs) (there xs b k (omega (arith, l)) e)

module _ (graph : List (List ℕ)) where
  -- whether a path leads from a to b whose nodes between them are below n
  abbrev pub goes : ℕ → ℕ → ℕ → Bool
  goes zero a b = list_any (λ c. c == b) (get_or graph a [])
  goes (suc n) a b = goes n a b || (goes n a n && goes n n b)

  both : (x y : Bool) → x && y ≡ true → (x ≡ true) × (y ≡ true)
  both true y h = (refl, h)
  both false y h = absurd (false≢true h)

  together : (x y : Bool) → x ≡ true → y ≡ true → x && y ≡ true
  together true y e h = h
  together false y e h = absurd (false≢true e)

  is_edge : (a b : ℕ) → IsEdge graph a b → goes zero a b ≡ true
  is_edge a b e = there (get_or graph a []) b e.0 e.1 e.2

  pub sound : (n a b : ℕ) → goes n a b ≡ true → Reaches graph a b
  sound zero a b h = edge (found (get_or graph a []) b h)
  sound (suc n) a b h = at (λ x y k. sound n x y k) (or_parts (goes n a b) (goes n a n && goes n n b) h)
    where
      at : ((x y : ℕ) → goes n x y ≡ true → Reaches graph x y) → (goes n a b ≡ true) ⊎ (goes n a n && goes n n b ≡ true) → Reaches graph a b
      at below (inl k) = below a b k
      at below (inr k) = let p = both (goes n a n) (goes n n b) k in joined graph a n b (below a n p.0) (below n b p.1)

  more : (n a b : ℕ) → goes n a b ≡ true → goes (suc n) a b ≡ true
  more n a b h = or_left (goes n a b) (goes n a n && goes n n b) h

  raised : (n a b : ℕ) → goes zero a b ≡ true → goes n a b ≡ true
  raised zero a b h = h
  raised (suc n) a b h = more n a b (raised n a b h)

  -- through node n itself
  by_node : (n a b : ℕ) → goes n a n ≡ true → goes n n b ≡ true → goes (suc n) a b ≡ true
  by_node n a b p q = or_right (goes n a b) (goes n a n && goes n n b) (together (goes n a n) (goes n n b) p q)

  parts : (n a b : ℕ) → goes (suc n) a b ≡ true → (goes n a b ≡ true) ⊎ ((goes n a n ≡ true) × (goes n n b ≡ true))
  parts n a b h = at (or_parts (goes n a b) (goes n a n && goes n n b) h)
    where
      at : (goes n a b ≡ true) ⊎ (goes n a n && goes n n b ≡ true) → (goes n a b ≡ true) ⊎ ((goes n a n ≡ true) × (goes n n b ≡ true))
      at (inl k) = inl k
      at (inr k) = inr (both (goes n a n) (goes n n b) k)

  to_node : (n a : ℕ) → goes (suc n) a n ≡ true → goes n a n ≡ true
  to_node n a h = at (parts n a n h)
    where
      at : (goes n a n ≡ true) ⊎ ((goes n a n ≡ true) × (goes n n n ≡ true)) → goes n a n ≡ true
      at (inl k) = k
      at (inr p) = p.0

  from_node : (n b : ℕ) → goes (suc n) n b ≡ true → goes n n b ≡ true
  from_node n b h = at (parts n n b h)
    where
      at : (goes n n b ≡ true) ⊎ ((goes n n n ≡ true) × (goes n n b ≡ true)) → goes n n b ≡ true
      at (inl k) = k
      at (inr p) = p.1

  -- two paths that meet at a node below n
  via : (n a c b : ℕ) → c < n → goes n a c ≡ true → goes n c b ≡ true → goes n a b ≡ true
  via zero a c b l p q = absurd (omega (arith, l))
  via (suc n) a c b l p q = elim (cases_eq c n) [
    | inl same ↦ by_node n a b (to_node n a (subst (λ x. goes (suc n) a x ≡ true) same p)) (from_node n b (subst (λ x. goes (suc n) x b ≡ true) same q))
    | inr apart ↦ at (λ x y z k u v. via n x y z k u v) (omega (arith, l, apart)) (parts n a c p) (parts n c b q)
  ]
    where
      at : ((x y z : ℕ) → y < n → goes n x y ≡ true → goes n y z ≡ true → goes n x z ≡ true) → c < n → (goes n a c ≡ true) ⊎ ((goes n a n ≡ true) × (goes n n c ≡ true)) → (goes n c b ≡ true) ⊎ ((goes n c n ≡ true) × (goes n n b ≡ true)) → goes (suc n) a b ≡ true
      at below k (inl x) (inl y) = more n a b (below a c b k x y)
      at below k (inl x) (inr y) = by_node n a b (below a c n k x y.0) y.1
      at below k (inr x) (inl y) = by_node n a b x.0 (below n c b k x.1 y)
      at below k (inr x) (inr y) = by_node n a b x.0 y.1

  pub complete : (a b : ℕ) → Reaches graph a b → goes (length graph) a b ≡ true
  complete a b (edge e) = raised (length graph) a b (is_edge a b e)
  complete a b (onward {b = c} e p) = via (length graph) a c b (leads graph c b p) (raised (length graph) a c (is_edge a c e)) (complete c b p)

  -- ---- the table

  -- what it says of node a and of the nodes from b on
  line : ℕ → ℕ → ℕ → List Bool
  line a b zero = []
  line a b (suc n) = goes (length graph) a b ∷ line a (b + 1) n

  lines : ℕ → ℕ → List (List Bool)
  lines a zero = []
  lines a (suc n) = line a 0 (length graph) ∷ lines (a + 1) n

  line_len : (a b n : ℕ) → length (line a b n) ≡ n
  unfolding line
  line_len a b zero = refl
  line_len a b (suc n) = ap suc (line_len a (b + 1) n)

  line_at : (a b n k : ℕ) → k < n → get_or (line a b n) k false ≡ goes (length graph) a (b + k)
  unfolding line
  line_at a b zero k l = absurd (omega (arith, l))
  line_at a b (suc n) zero l = ap (goes (length graph) a) (omega arith)
  line_at a b (suc n) (suc k) l = line_at a (b + 1) n k (omega (arith, l)) ∙ ap (goes (length graph) a) (omega arith)

  lines_len : (a n : ℕ) → length (lines a n) ≡ n
  unfolding lines
  lines_len a zero = refl
  lines_len a (suc n) = ap suc (lines_len (a + 1) n)

  lines_at : (a n k : ℕ) → k < n → get_or (lines a n) k [] ≡ line (a + k) 0 (length graph)
  unfolding lines
  lines_at a zero k l = absurd (omega (arith, l))
  lines_at a (suc n) zero l = ap (λ x. line x 0 (length graph)) (omega arith)
  lines_at a (suc n) (suc k) l = lines_at (a + 1) n k (omega (arith, l)) ∙ ap (λ x. line x 0 (length graph)) (omega arith)

  line_of : (a : ℕ) → a < length graph → get_or (lines 0 (length graph)) a [] ≡ line a 0 (length graph)
  line_of a l = lines_at 0 (length graph) a l ∙ ap (λ x. line x 0 (length graph)) (zero-add a)

  says_there : (a b : ℕ) → a < length graph → b < length graph → says (lines 0 (length graph)) a b ≡ goes (length graph) a b
  says_there a b la lb = rw (line_of a la) (line_at a 0 (length graph) b lb ∙ ap (goes (length graph) a) (zero-add b))

  says_past : (a b : ℕ) → length graph ≤ a → says (lines 0 (length graph)) a b ≡ false
  says_past a b l = rw (get_or_past (lines 0 (length graph)) a [] (omega (arith, lines_len 0 (length graph), l))) refl

  pub some_table : (t : List (List Bool)) × IsTableOf graph t
  some_table = (
    lines 0 (length graph),
    record {
      height = lines_len 0 (length graph);
      width = λ a l. rw (line_of a l) (line_len a 0 (length graph));
      entries = λ a b l. (from a b l, to a b l);
    },
  )
    where
      from : (a b : ℕ) → b < length graph → says (lines 0 (length graph)) a b ≡ true → Reaches graph a b
      from a b l h = elim (cases_lt a (length graph)) [
        | inl k ↦ sound (length graph) a b (sym (says_there a b k l) ∙ h)
        | inr k ↦ absurd (false≢true (sym (says_past a b k) ∙ h))
      ]

      to : (a b : ℕ) → b < length graph → Reaches graph a b → says (lines 0 (length graph)) a b ≡ true
      to a b l p = says_there a b (leads graph a b p) l ∙ complete a b p
