-- What stands at a place, step by step.
use Rattle.std.proofs.Common.{◌≡◌, Bor, ℕ, zero, suc, ◌+◌, ◌<◌, List, [], ◌∷◌, ◌++◌, Option, Some, None, Vec, Global, length, drop, get_or, map, refl, sym, ap, subst, append_assoc, ◌∙◌}
use Rattle.std.specs.Prelude.{IfSome, option_and_then, option_map, slice_get}
use Rattle.std.specs.Option.{option_copied}
use Rattle.base_trait.specs.Algebra.{Algebra}
use Rattle.spec_match_compiler.specs.Values.{Place}
use Rattle.spec_match_compiler.proofs.Loops.{drop_here}
use Rattle.abstract_value_laws.specs.Abs.{Abs, Cases, Parts, flag, word, made, map as map_of, no_case, absent, present, no_part, part, cases, parts}
use Rattle.abstract_value_laws.specs.Fits.{Fits, CasesFit, PartsFit}
use Rattle.abstract_value.specs.View.{abs, case_of}
use Rattle.abstract_value.specs.declared.value.AbstractValue.{AbstractValue}
use Rattle.abstract_semantics.specs.Choices.{abs_at, abs_in, abs_named, abs_part}

-- what a reference is seen as
pub seen_there : {A D : Type 0} (f : A → D) (r : Option (Bor A)) (xs : List A) (i : ℕ) → option_copied r ≡ slice_get xs i → option_map (λ b. f b.now) r ≡ option_map f (slice_get xs i)
seen_there f None xs i e = ap (λ o. option_map f o) e
seen_there f (Some b) xs i e = ap (λ o. option_map f o) e

module _ {W N : Type 0} where
  part_next : (place : Place) (i : ℕ) (xs : Parts W N) → abs_part place i xs ≡ option_and_then (abs_at place) (abs_part [] i xs)
  part_next place i no_part = refl
  part_next place zero (part x xs) = refl
  part_next place (suc i) (part x xs) = part_next place i xs

  in_next : (place : Place) (k i : ℕ) (cs : Cases W N) → abs_in place k i cs ≡ option_and_then (abs_at place) (abs_in [] k i cs)
  in_next place k i no_case = refl
  in_next place zero i (absent cs) = refl
  in_next place zero i (present xs cs) = part_next place i xs
  in_next place (suc k) i (absent cs) = in_next place k i cs
  in_next place (suc k) i (present xs cs) = in_next place k i cs

  -- first one step, and then the others
  pub at_next : (step : ℕ × ℕ) (place : Place) (x : Abs W N) → abs_at (step ∷ place) x ≡ option_and_then (abs_at place) (abs_at (step ∷ []) x)
  at_next step place (flag t) = refl
  at_next step place (word w x) = refl
  at_next step place (made t cs) = in_next place step.0 step.1 cs
  at_next step place (map_of m x) = refl

  pub at_step : (steps : Place) (i : ℕ) (step : ℕ × ℕ) (x y : Abs W N) → i < length steps → step ≡ get_or steps i step → abs_at (step ∷ []) x ≡ Some y
      → abs_at (drop i steps) x ≡ abs_at (drop (i + 1) steps) y
  at_step steps i step x y l e h = ap (λ p. abs_at p x) (drop_here steps i step e l) ∙ at_next step (drop (i + 1) steps) x ∙ ap (λ o. option_and_then (abs_at (drop (i + 1) steps)) o) h

  pub at_nothing : (steps : Place) (i : ℕ) (step : ℕ × ℕ) (x : Abs W N) → i < length steps → step ≡ get_or steps i step → abs_at (step ∷ []) x ≡ None → abs_at (drop i steps) x ≡ None
  at_nothing steps i step x l e h = ap (λ p. abs_at p x) (drop_here steps i step e l) ∙ at_next step (drop (i + 1) steps) x ∙ ap (λ o. option_and_then (abs_at (drop (i + 1) steps)) o) h

  -- ---- what the variables of a row name, one by one
  named_step : (x y : Abs W N) (b : ℕ × Place) (bs : List (ℕ × Place)) (out : List (Abs W N)) → abs_at b.1 x ≡ Some y
      → option_map (λ ys. out ++ ys) (abs_named x (b ∷ bs)) ≡ option_map (λ ys. (out ++ y ∷ []) ++ ys) (abs_named x bs)
  named_step x y b bs out h =
      ap (λ o. option_map (λ ys. out ++ ys) (option_and_then (λ z. option_map (λ ys. z ∷ ys) (abs_named x bs)) o)) h ∙ with_rest (abs_named x bs)
    where
      with_rest : (o : Option (List (Abs W N))) → option_map (λ ys. out ++ ys) (option_map (λ ys. y ∷ ys) o) ≡ option_map (λ ys. (out ++ y ∷ []) ++ ys) o
      with_rest None = refl
      with_rest (Some ys) = ap (λ l. Some l) (sym (append_assoc out (y ∷ []) ys))

  module _ {A : Type 0} (f : A → ℕ × Place) (x : Abs W N) (binds : List A) (i : ℕ) (b : A) (l : i < length binds) (e : b ≡ get_or binds i b) where
    pub named_next : (y : Abs W N) (out : List (Abs W N)) (whole : Option (List (Abs W N))) → abs_at (f b).1 x ≡ Some y
        → whole ≡ option_map (λ ys. out ++ ys) (abs_named x (map f (drop i binds))) → whole ≡ option_map (λ ys. (out ++ y ∷ []) ++ ys) (abs_named x (map f (drop (i + 1) binds)))
    named_next y out whole h w =
        w ∙ ap (λ bs. option_map (λ ys. out ++ ys) (abs_named x (map f bs))) (drop_here binds i b e l) ∙ named_step x y (f b) (map f (drop (i + 1) binds)) out h

    pub named_nothing : (out : List (Abs W N)) (whole : Option (List (Abs W N))) → abs_at (f b).1 x ≡ None → whole ≡ option_map (λ ys. out ++ ys) (abs_named x (map f (drop i binds))) → whole ≡ None
    named_nothing out whole h w =
        w ∙ ap (λ bs. option_map (λ ys. out ++ ys) (abs_named x (map f bs))) (drop_here binds i b e l)
        ∙ ap (λ o. option_map (λ ys. out ++ ys) (option_and_then (λ z. option_map (λ ys. z ∷ ys) (abs_named x (map f (drop (i + 1) binds)))) o)) h

module _ {X W N C : Type 0} where
  -- ---- one step in code
  pub field_there : (i : ℕ) (xs : List (AbstractValue X W N C)) → abs_part [] i (parts (map abs xs)) ≡ option_map abs (slice_get xs i)
  field_there i [] = refl
  field_there zero (x ∷ xs) = refl
  field_there (suc i) (x ∷ xs) = field_there i xs

  -- what a field of one constructor is
  abbrev pub field_in : ℕ → Option (List (AbstractValue X W N C)) → Option (Abs W N)
  field_in i (Some f) = option_map abs (slice_get f i)
  field_in i None = None

  pub case_there : (k i : ℕ) (cs : List (Option (List (AbstractValue X W N C)))) → abs_in [] k i (cases (map case_of cs)) ≡ field_in i (get_or cs k None)
  case_there k i [] = refl
  case_there zero i (None ∷ cs) = refl
  case_there zero i (Some f ∷ cs) = field_there i f
  case_there (suc k) i (None ∷ cs) = case_there k i cs
  case_there (suc k) i (Some v ∷ cs) = case_there k i cs

module _ {W N C : Type 0} (B : Algebra W N C) (c : C) (cap : ℕ) where
  -- ---- what stands at a place of a value that fits does so
  mutual
    pub at_fits : (place : Place) (x : Abs W N) → Fits B c cap x → IfSome (abs_at place x) (Fits B c cap)
    at_fits [] x h = h
    at_fits (step ∷ place) (made t cs) h = in_fits place step.0 step.1 cs h
    at_fits (step ∷ place) (flag t) h = tt
    at_fits (step ∷ place) (word w x) h = tt
    at_fits (step ∷ place) (map_of m x) h = tt

    in_fits : (place : Place) (k i : ℕ) (cs : Cases W N) → CasesFit B c cap cs → IfSome (abs_in place k i cs) (Fits B c cap)
    in_fits place k i no_case h = tt
    in_fits place zero i (absent cs) h = tt
    in_fits place zero i (present xs cs) h = part_fits place i xs h.0
    in_fits place (suc k) i (absent cs) h = in_fits place k i cs h
    in_fits place (suc k) i (present xs cs) h = in_fits place k i cs h.1

    part_fits : (place : Place) (i : ℕ) (xs : Parts W N) → PartsFit B c cap xs → IfSome (abs_part place i xs) (Fits B c cap)
    part_fits place i no_part h = tt
    part_fits place zero (part x xs) h = at_fits place x h.0
    part_fits place (suc i) (part x xs) h = part_fits place i xs h.1

  pub found_fits : (place : Place) (x y : Abs W N) → Fits B c cap x → abs_at place x ≡ Some y → Fits B c cap y
  found_fits place x y h e = subst (λ o. IfSome o (Fits B c cap)) e (at_fits place x h)
