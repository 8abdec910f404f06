-- The rank of a node.
use Rattle.std.proofs.Common.{◌≡◌, ◌⊎◌, ℕ, zero, suc, ◌+◌, ◌<◌, ◌≤◌, Bool, true, false, cond, List, [], ◌∷◌, length, get_or, set, refl, sym, ◌∙◌, subst, inl, inr, arith}
use Rattle.std.proofs.lemmas.Bool.{false≢true}
use Rattle.std.proofs.lemmas.List.{get_or-set_same, length-set}
use Rattle.support_reachability.specs.Graph.{Reaches, SameGroup, edge, onward}
use Rattle.support_reachability.specs.Marks.{IsMarked}
use Rattle.support_reachability.specs.Table.{IsTableOf, count, rank}
use Rattle.support_reachability.specs.Laws.{RanksFall}
use Rattle.support_reachability.proofs.Marks.{set_only, set_marks, is_within}

-- ---- counts

pub count_bound : (xs : List Bool) → count xs ≤ length xs
count_bound [] = omega arith
count_bound (true ∷ xs) = omega (arith, count_bound xs)
count_bound (false ∷ xs) = omega (arith, count_bound xs)

count_set : (xs : List Bool) (i : ℕ) → i < length xs → count (set xs i true) ≡ count xs + cond (get_or xs i false) 0 1
count_set [] i l = absurd (omega arith)
count_set (true ∷ xs) zero l = omega arith
count_set (false ∷ xs) zero l = omega arith
count_set (true ∷ xs) (suc i) l = omega (arith, count_set xs i (omega arith))
count_set (false ∷ xs) (suc i) l = count_set xs i (omega arith)

-- what is marked in one list is marked in another
abbrev AllIn : List Bool → List Bool → Type 0
AllIn xs ys = (x : ℕ) → IsMarked xs x → IsMarked ys x

rest_in : (x y : Bool) (xs ys : List Bool) → AllIn (x ∷ xs) (y ∷ ys) → AllIn xs ys
rest_in x y xs ys h k = h (suc k)

count_le : (xs ys : List Bool) → length xs ≡ length ys → AllIn xs ys → count xs ≤ count ys
count_le [] ys e h = omega arith
count_le (x ∷ xs) [] e h = absurd (omega (arith, e))
count_le (true ∷ xs) (true ∷ ys) e h = omega (arith, count_le xs ys (omega (arith, e)) (rest_in true true xs ys h))
count_le (true ∷ xs) (false ∷ ys) e h = absurd (false≢true (h 0 refl))
count_le (false ∷ xs) (true ∷ ys) e h = omega (arith, count_le xs ys (omega (arith, e)) (rest_in false true xs ys h))
count_le (false ∷ xs) (false ∷ ys) e h = count_le xs ys (omega (arith, e)) (rest_in false false xs ys h)

count_lt : (xs ys : List Bool) (i : ℕ) → length xs ≡ length ys → AllIn xs ys → (IsMarked xs i → ⊥) → IsMarked ys i → count xs < count ys
count_lt [] [] i e h none here = absurd (false≢true here)
count_lt [] (y ∷ ys) i e h none here = absurd (omega (arith, e))
count_lt (x ∷ xs) [] i e h none here = absurd (false≢true here)
count_lt (true ∷ xs) (y ∷ ys) zero e h none here = absurd (none refl)
count_lt (false ∷ xs) (false ∷ ys) zero e h none here = absurd (false≢true here)
count_lt (false ∷ xs) (true ∷ ys) zero e h none here = omega (arith, count_le xs ys (omega (arith, e)) (rest_in false true xs ys h))
count_lt (true ∷ xs) (true ∷ ys) (suc i) e h none here = omega (arith, count_lt xs ys i (omega (arith, e)) (rest_in true true xs ys h) none here)
count_lt (true ∷ xs) (false ∷ ys) (suc i) e h none here = absurd (false≢true (h 0 refl))
count_lt (false ∷ xs) (true ∷ ys) (suc i) e h none here = omega (arith, count_lt xs ys i (omega (arith, e)) (rest_in false true xs ys h) none here)
count_lt (false ∷ xs) (false ∷ ys) (suc i) e h none here = count_lt xs ys i (omega (arith, e)) (rest_in false false xs ys h) none here

-- ---- ranks

pub joined : (graph : List (List ℕ)) (a b c : ℕ) → Reaches graph a b → Reaches graph b c → Reaches graph a c
joined graph a b c (edge e) p = onward e p
joined graph a b c (onward {b = d} e q) p = onward e (joined graph d b c q p)

module _ (graph : List (List ℕ)) (t : List (List Bool)) (table : IsTableOf graph t) where
  -- the nodes that a node is or reaches
  all : ℕ → List Bool
  all a = set (get_or t a []) a true

  abbrev IsOrReaches : ℕ → ℕ → Type 0
  IsOrReaches a x = (x ≡ a) ⊎ Reaches graph a x

  all_width : (a : ℕ) → a < length graph → length (all a) ≡ length graph
  unfolding all
  all_width a la = length-set (get_or t a []) a true ∙ table.width a la

  rank_is : (a : ℕ) → a < length graph → rank t a ≡ count (all a)
  unfolding all
  rank_is a la = sym (count_set (get_or t a []) a (subst (λ n. a < n) (sym (table.width a la)) la))

  from_all : (a x : ℕ) → a < length graph → IsMarked (all a) x → IsOrReaches a x
  unfolding all
  from_all a x la m = elim (set_only (get_or t a []) a x m) [
    | inl same ↦ inl same
    | inr there ↦ inr ((table.entries a x (subst (λ n. x < n) (table.width a la) (is_within (get_or t a []) x there))).0 there)
  ]

  to_all : (a x : ℕ) → a < length graph → x < length graph → IsOrReaches a x → IsMarked (all a) x
  unfolding all
  to_all a x la lx (inl same) = subst (λ n. IsMarked (set (get_or t a []) a true) n) (sym same) (get_or-set_same (get_or t a []) a true false (subst (λ n. a < n) (sym (table.width a la)) la))
  to_all a x la lx (inr p) = set_marks (get_or t a []) a x (subst (λ n. a < n) (sym (table.width a la)) la) ((table.entries a x lx).1 p)

  all_in : (a b : ℕ) → a < length graph → b < length graph → IsOrReaches a b → AllIn (all b) (all a)
  all_in a b la lb r x m = to_all a x la (subst (λ n. x < n) (all_width b lb) (is_within (all b) x m)) (onwards r (from_all b x lb m))
    where
      onwards : IsOrReaches a b → IsOrReaches b x → IsOrReaches a x
      onwards (inl e) w = subst (λ n. IsOrReaches n x) e w
      onwards (inr p) (inl e) = inr (subst (Reaches graph a) (sym e) p)
      onwards (inr p) (inr q) = inr (joined graph a b x p q)

  same_width : (a b : ℕ) → a < length graph → b < length graph → length (all b) ≡ length (all a)
  same_width a b la lb = all_width b lb ∙ sym (all_width a la)

  falls : (a b : ℕ) → a < length graph → b < length graph → Reaches graph a b → ¬ SameGroup graph a b → rank t b < rank t a
  falls a b la lb p apart = subst (λ n. rank t b < n) (sym (rank_is a la)) (subst (λ n. n < count (all a)) (sym (rank_is b lb))
      (count_lt (all b) (all a) a (same_width a b la lb) (all_in a b la lb (inr p)) (λ m. back (from_all b a lb m)) (to_all a a la la (inl refl))))
    where
      back : IsOrReaches b a → ⊥
      back (inl e) = apart (inl e)
      back (inr q) = apart (inr (p, q))

  there : (a b : ℕ) → SameGroup graph a b → IsOrReaches a b
  there a b (inl e) = inl (sym e)
  there a b (inr p) = inr p.0

  here : (a b : ℕ) → SameGroup graph a b → IsOrReaches b a
  here a b (inl e) = inl e
  here a b (inr p) = inr p.1

  stays : (a b : ℕ) → a < length graph → b < length graph → SameGroup graph a b → rank t a ≡ rank t b
  stays a b la lb s = rank_is a la ∙ equal ∙ sym (rank_is b lb)
    where
      equal : count (all a) ≡ count (all b)
      equal = omega (
        arith,
        count_le (all b) (all a) (same_width a b la lb) (all_in a b la lb (there a b s)),
        count_le (all a) (all b) (same_width b a lb la) (all_in b a lb la (here a b s)),
      )

  bound : (a : ℕ) → a < length graph → rank t a ≤ length graph
  bound a la = subst (λ n. n ≤ length graph) (sym (rank_is a la)) (subst (λ n. count (all a) ≤ n) (all_width a la) (count_bound (all a)))

  pub ranks_fall : RanksFall graph t
  ranks_fall = record { falls = falls; stays = stays; bound = bound }
