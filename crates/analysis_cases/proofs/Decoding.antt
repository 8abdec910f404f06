-- Where cases have no decoding the instruction has none.
use Rattle.std.proofs.Common.{◌≡◌, ℕ, zero, suc, List, [], ◌∷◌, ◌⊎◌, Option, None, Some, inl, inr, map, refl}
use Rattle.std.specs.Prelude.{fold}
use Rattle.base_trait.specs.Uses.{Seen}
use Rattle.fixpoint_theory.specs.Analysis.{Analysis}
use Rattle.fixpoint_theory.specs.Elements.{Elements}
use Rattle.fixpoint_theory.specs.Outcome.{Outcome, arrivals_behind, moves, sends, too_many, undecodable}
use Rattle.fixpoint_cases.specs.ByCases.{case_transfer}
use Rattle.fixpoint_cases.specs.Cases.{Split, cases}
use Rattle.fixpoint_cases.specs.Lists.{OneOf}
use Rattle.fixpoint_cases.specs.Sent.{and_case, and_sent, merged, sent_by_cases, unless_many, where_split}

abbrev IsBare : {E W : Type 0} → Outcome E W → Type 0
IsBare o = (v : ℕ) × (o ≡ undecodable v)

module _ {E W S : Type 0} (D : Elements E S) where
  sent_bare : (arrivals : List (ℕ × E)) (uses : List Seen) (o : Outcome E W) (w : ℕ) → and_sent D arrivals uses o ≡ undecodable w → IsBare o
  sent_bare arrivals uses (undecodable v) w e = (v, refl)
  sent_bare arrivals uses (too_many shown more) w e = cc
  sent_bare arrivals uses (moves targets post more) w e = cc
  sent_bare arrivals uses (sends others more) w e = cc

  one_bare : (c o : Outcome E W) (w : ℕ) → and_case D c o ≡ undecodable w → IsBare c ⊎ IsBare o
  one_bare (undecodable v) o w e = inl (v, refl)
  one_bare (too_many shown uses) o w e = cc
  one_bare (moves targets post uses) o w e = inr (sent_bare (arrivals_behind post targets) uses o w e)
  one_bare (sends arrivals uses) o w e = inr (sent_bare arrivals uses o w e)

  from_one : (c o : Outcome E W) (os : List (Outcome E W)) → IsBare c ⊎ IsBare o → IsBare c ⊎ OneOf IsBare (o ∷ os)
  from_one c o os (inl h) = inl h
  from_one c o os (inr h) = inr (inl h)

  from_later : (c o : Outcome E W) (os : List (Outcome E W)) → IsBare (and_case D c o) ⊎ OneOf IsBare os → IsBare c ⊎ OneOf IsBare (o ∷ os)
  from_later c o os (inl is) = from_one c o os (one_bare c o is.0 is.1)
  from_later c o os (inr one) = inr (inr one)

  all_bare : (c : Outcome E W) (os : List (Outcome E W)) (w : ℕ) → fold (and_case D) c os ≡ undecodable w → IsBare c ⊎ OneOf IsBare os
  all_bare c [] w e = inl (w, e)
  all_bare c (o ∷ os) w e = from_later c o os (all_bare (and_case D c o) os w e)

merged_bare : {E W : Type 0} (merge : List Seen → List Seen) (o : Outcome E W) (w : ℕ) → merged merge o ≡ undecodable w → IsBare o
merged_bare merge (undecodable v) w e = (v, refl)
merged_bare merge (too_many shown uses) w e = cc
merged_bare merge (moves targets post uses) w e = cc
merged_bare merge (sends arrivals uses) w e = cc

-- the whole has no decoding, or the cases have none
whole_or_sent : {E W : Type 0} (whole : Outcome E W) (s : Option (List E)) (o : Outcome E W) (w : ℕ) → where_split whole s (unless_many whole o) ≡ undecodable w → (whole ≡ undecodable w) ⊎ (o ≡ undecodable w)
whole_or_sent whole None o w e = inl e
whole_or_sent whole (Some pieces) (undecodable v) w e = inr e
whole_or_sent whole (Some pieces) (too_many shown uses) w e = inl e
whole_or_sent whole (Some pieces) (moves targets post uses) w e = cc
whole_or_sent whole (Some pieces) (sends arrivals uses) w e = cc

never_sent : {E W : Type 0} (w : ℕ) → ◌≡◌ {A = Outcome E W} (sends [] []) (undecodable w) → ⊥
never_sent w e = cc

-- an element of which the image has no decoding
leaf_bare : {E W : Type 0} (f : E → Outcome E W) (xs : List E) → OneOf IsBare (map f xs) → (y : E) × IsBare (f y)
leaf_bare f [] one = absurd one
leaf_bare f (x ∷ xs) (inl is) = (x, is)
leaf_bare f (x ∷ xs) (inr one) = leaf_bare f xs one

module _ {E W S : Type 0} (A : Analysis E W S) (split : Split E) (merge : List Seen → List Seen) where
  by_leaf : (a : ℕ) (leaves : List E) → IsBare {E = E} {W = W} (sends [] []) ⊎ OneOf IsBare (map (A.transfer a) leaves) → (y : E) × (v : ℕ) × (A.transfer a y ≡ undecodable v)
  by_leaf a leaves (inl none) = absurd (never_sent none.0 none.1)
  by_leaf a leaves (inr one) = let found = leaf_bare (A.transfer a) leaves one in (found.0, found.1.0, found.1.1)

  by_either : (a : ℕ) (x : E) (w : ℕ) (leaves : List E) → (A.transfer a x ≡ undecodable w) ⊎ (merged merge (sent_by_cases A.elements (map (A.transfer a) leaves)) ≡ undecodable w)
      → (y : E) × (v : ℕ) × (A.transfer a y ≡ undecodable v)
  by_either a x w leaves (inl is) = (x, w, is)
  by_either a x w leaves (inr is) =
      let outcomes = map (A.transfer a) leaves in
      let sent = merged_bare merge (sent_by_cases A.elements outcomes) w is in
      by_leaf a leaves (all_bare A.elements (sends [] []) outcomes sent.0 sent.1)

  pub cases_bare : (depth a : ℕ) (x : E) (w : ℕ) → case_transfer A split merge depth a x ≡ undecodable w → (y : E) × (v : ℕ) × (A.transfer a y ≡ undecodable v)
  cases_bare zero a x w e = (x, w, e)
  cases_bare (suc more) a x w e =
      let leaves = cases split (suc more) a x in
      let outcomes = map (A.transfer a) leaves in
      by_either a x w leaves (whole_or_sent (A.transfer a x) (split a x) (merged merge (sent_by_cases A.elements outcomes)) w e)
