-- How large a plain value is, counted along its parts: what falls in a recursion.
use Rattle.std.proofs.Common.{◌≡◌, ℕ, zero, suc, ◌+◌, ◌<◌, ◌≤◌, List, [], ◌∷◌, drop, Option, Some, None, subst, arith}
use Rattle.std.specs.Prelude.{map as map_of}
use Rattle.abstract_value_laws.specs.Abs.{Abs, Cases, Parts, flag, word, made, map, no_case, absent, present, no_part, part, case_onto, cases, parts}

module _ {W N : Type 0} where
  abbrev mutual
    pub weight : Abs W N → ℕ
    weight (flag t) = 0
    weight (word w x) = 0
    weight (made ty cs) = suc (cases_weight cs)
    weight (map m x) = 0

    pub cases_weight : Cases W N → ℕ
    cases_weight no_case = 0
    cases_weight (absent cs) = suc (cases_weight cs)
    cases_weight (present xs cs) = suc (suc (parts_weight xs + cases_weight cs))

    pub parts_weight : Parts W N → ℕ
    parts_weight no_part = 0
    parts_weight (part x xs) = suc (weight x + parts_weight xs)

  abbrev pub case_weight : Option (Parts W N) → ℕ
  case_weight None = 0
  case_weight (Some xs) = suc (parts_weight xs)

  case_less : (x : Option (Parts W N)) (cs : Cases W N) → (case_weight x < cases_weight (case_onto x cs)) × (cases_weight cs ≤ cases_weight (case_onto x cs))
  case_less None cs = (omega arith, omega arith)
  case_less (Some xs) cs = (omega arith, omega arith)

module _ {T W N : Type 0} where
  parts_rest : (f : T → Abs W N) (xs : List T) (i : ℕ) → parts_weight (parts (map_of f (drop i xs))) ≤ parts_weight (parts (map_of f xs))
  parts_rest f xs zero = omega arith
  parts_rest f [] (suc i) = omega arith
  parts_rest f (x ∷ xs) (suc i) = let later = parts_rest f xs i in omega (arith, later)

  cases_rest : (f : T → Option (Parts W N)) (xs : List T) (i : ℕ) → cases_weight (cases (map_of f (drop i xs))) ≤ cases_weight (cases (map_of f xs))
  cases_rest f xs zero = omega arith
  cases_rest f [] (suc i) = omega arith
  cases_rest f (x ∷ xs) (suc i) = let later = cases_rest f xs i in let less = (case_less (f x) (cases (map_of f xs))).1 in omega (arith, later, less)

  -- one of several is less than all
  pub part_weighs : (f : T → Abs W N) (xs : List T) (i : ℕ) (x : T) → drop i xs ≡ x ∷ drop (i + 1) xs → weight (f x) < parts_weight (parts (map_of f xs))
  part_weighs f xs i x e =
      let rest : parts_weight (parts (map_of f (x ∷ drop (i + 1) xs))) ≤ parts_weight (parts (map_of f xs)) = subst (λ l. parts_weight (parts (map_of f l)) ≤ parts_weight (parts (map_of f xs))) e (parts_rest f xs i) in
      omega (arith, rest)

  pub case_weighs : (f : T → Option (Parts W N)) (xs : List T) (i : ℕ) (x : T) → drop i xs ≡ x ∷ drop (i + 1) xs → case_weight (f x) < cases_weight (cases (map_of f xs))
  case_weighs f xs i x e =
      let rest : cases_weight (cases (map_of f (x ∷ drop (i + 1) xs))) ≤ cases_weight (cases (map_of f xs)) = subst (λ l. cases_weight (cases (map_of f l)) ≤ cases_weight (cases (map_of f xs))) e (cases_rest f xs i) in
      let less = (case_less (f x) (cases (map_of f (drop (i + 1) xs)))).0 in
      omega (arith, rest, less)
