-- Group arguments: for each function of a group, by its number, an argument list or none. Past the end there is none.
use Rattle.std.specs.Prelude.{ℕ, zero, suc, Bool, true, false, ◌&&◌, List, [], ◌∷◌, Option, Some, None, IfSome, ⊤}
use Rattle.support_tail_fixpoint.specs.Moves.{Moves}

-- A is what the argument lists are
abbrev pub GroupArgs : Type 0 → Type 0
GroupArgs A = List (Option A)

-- the join of two argument lists, either of which may be missing
abbrev pub join_some : {A : Type 0} → (A → A → A) → Option A → Option A → Option A
join_some join None y = y
join_some join (Some x) None = Some x
join_some join (Some x) (Some y) = Some (join x y)

-- whether the first absorbs the second: what is there absorbs what is missing, and what is missing that alone
abbrev pub some_absorbs : {A : Type 0} → (A → A → Bool) → Option A → Option A → Bool
some_absorbs absorbs x None = true
some_absorbs absorbs None (Some y) = false
some_absorbs absorbs (Some x) (Some y) = absorbs x y

-- ---- function by function
module _ {A : Type 0} where
  -- those of function i alone
  abbrev pub only : ℕ → A → List (Option A)
  only zero x = Some x ∷ []
  only (suc i) x = None ∷ only i x

  -- those of function i
  abbrev pub held : List (Option A) → ℕ → Option A
  held [] i = None
  held (x ∷ xs) zero = x
  held (x ∷ xs) (suc i) = held xs i

  -- a join or a widening
  abbrev pub merge_each : (A → A → A) → List (Option A) → List (Option A) → List (Option A)
  merge_each join [] ys = ys
  merge_each join (x ∷ xs) [] = x ∷ xs
  merge_each join (x ∷ xs) (y ∷ ys) = join_some join x y ∷ merge_each join xs ys

  abbrev pub each_absorbs : (A → A → Bool) → List (Option A) → List (Option A) → Bool
  each_absorbs absorbs xs [] = true
  each_absorbs absorbs [] (y ∷ ys) = some_absorbs absorbs None y && each_absorbs absorbs [] ys
  each_absorbs absorbs (x ∷ xs) (y ∷ ys) = some_absorbs absorbs x y && each_absorbs absorbs xs ys

  -- whether each list that is there passes the test of its function
  abbrev pub each_passes : (ℕ → A → Bool) → List (Option A) → Bool
  each_passes test [] = true
  each_passes test (None ∷ xs) = each_passes (λ i. test (suc i)) xs
  each_passes test (Some x ∷ xs) = test zero x && each_passes (λ i. test (suc i)) xs

  -- Each list that is there is such as its function has.
  abbrev pub EachIs : (ℕ → A → Type 0) → List (Option A) → Type 0
  EachIs P [] = ⊤
  EachIs P (x ∷ xs) = IfSome x (P zero) × EachIs (λ i. P (suc i)) xs

-- the moves of turns on group arguments, by those of turns on the arguments of one function
abbrev pub group_moves : {A O : Type 0} → Moves A O → Moves (List (Option A)) O
group_moves m = record {
  join_out = m.join_out;
  join_args = merge_each m.join_args;
  widen_args = merge_each m.widen_args;
  absorbs = each_absorbs m.absorbs;
}
