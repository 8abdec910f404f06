-- Group arguments, function by function.
use Rattle.std.proofs.Common.{◌≡◌, ℕ, zero, suc, ◌+◌, ◌<◌, ◌≤◌, ◌&&◌, Bool, true, false, List, [], ◌∷◌, ◌++◌, Option, Some, None, Vec, Global, length, drop, replicate, refl, sym, ap, ◌∙◌, arith}
use Rattle.std.specs.Prelude.{IfSome, max, option_map, slice_get}
use Rattle.std.proofs.Math.Seq.{drop-nil}
use Rattle.std.proofs.Math.ListN.{drop_of_length-le}
use Rattle.support_tail_fixpoint.specs.Groups.{EachIs, each_absorbs, held, join_some, merge_each, only, some_absorbs}
use Rattle.support_tail_fixpoint.proofs.Groups.{absorbs_nothing, held_is}
use Rattle.abstract_value_laws.specs.Abs.{Abs}
use Rattle.abstract_value.specs.declared.value.AbstractValue.{AbstractValue}
use Rattle.eval_group_turns.specs.Views.{all_abs, each_abs}

module _ {X W N C : Type 0} where
  -- ---- one function
  pub only_seen : (n : ℕ) (args : Vec (AbstractValue X W N C) Global) → each_abs (replicate n None ++ Some args ∷ []) ≡ only n (all_abs args)
  only_seen zero args = refl
  only_seen (suc n) args = ap (λ l. None ∷ l) (only_seen n args)

  -- what is held for a function that has a place
  abbrev pub held_in : Option (Option (Vec (AbstractValue X W N C) Global)) → Option (List (Abs W N))
  held_in (Some (Some xs)) = Some (all_abs xs)
  held_in _ = None

  pub held_there : (i : ℕ) (args : List (Option (Vec (AbstractValue X W N C) Global))) → held (each_abs args) i ≡ held_in (slice_get args i)
  held_there i [] = refl
  held_there zero (None ∷ args) = refl
  held_there zero (Some xs ∷ args) = refl
  held_there (suc i) (x ∷ args) = held_there i args

module _ {A : Type 0} where
  -- ---- what is held is such
  pub held_such : {R : Type 0} (P : A → Type 0) (args : List (Option A)) (i : ℕ) → EachIs (λ f x. P x) args → (seen : R → A) (o : Option R) → option_map seen o ≡ held args i → IfSome o (λ r. P (seen r))
  held_such P args i h seen None e = tt
  held_such P args i h seen (Some r) e = held_is (λ f x. P x) args h i (seen r) (sym e)

  -- ---- merging
  module _ (j : A → A → A) where
    join_none : (x : Option A) → join_some j x None ≡ x
    join_none None = refl
    join_none (Some x) = refl

    merge_none : (xs : List (Option A)) → merge_each j xs [] ≡ xs
    merge_none [] = refl
    merge_none (x ∷ xs) = refl

    left_missing : (ys : List (Option A)) (i : ℕ) → i < length ys → drop i ys ≡ held ys i ∷ drop (suc i) ys
    left_missing [] i h = absurd (omega (arith, h))
    left_missing (y ∷ ys) zero h = refl
    left_missing (y ∷ ys) (suc i) h = left_missing ys i (omega (arith, h))

    right_missing : (xs : List (Option A)) (i : ℕ) → i < length xs → merge_each j (drop i xs) [] ≡ join_some j (held xs i) None ∷ merge_each j (drop (suc i) xs) []
    right_missing [] i h = absurd (omega (arith, h))
    right_missing (x ∷ xs) zero h = ap (λ z. z ∷ xs) (sym (join_none x)) ∙ ap (λ l. join_some j x None ∷ l) (sym (merge_none xs))
    right_missing (x ∷ xs) (suc i) h = right_missing xs i (omega (arith, h))

    each_step : (xs ys : List (Option A)) (i : ℕ) → i < max (length xs) (length ys) → merge_each j (drop i xs) (drop i ys) ≡ join_some j (held xs i) (held ys i) ∷ merge_each j (drop (suc i) xs) (drop (suc i) ys)
    each_step [] ys i h =
        ap (λ l. merge_each j l (drop i ys)) (drop-nil i) ∙ left_missing ys i (omega (arith, h))
        ∙ ap (λ l. held ys i ∷ merge_each j l (drop (suc i) ys)) (sym (drop-nil {A = Option A} (suc i)))
    each_step (x ∷ xs) [] i h =
        ap (λ l. merge_each j (drop i (x ∷ xs)) l) (drop-nil i) ∙ right_missing (x ∷ xs) i (omega (arith, h))
        ∙ ap (λ l. join_some j (held (x ∷ xs) i) None ∷ merge_each j (drop (suc i) (x ∷ xs)) l) (sym (drop-nil {A = Option A} (suc i)))
    each_step (x ∷ xs) (y ∷ ys) zero h = refl
    each_step (x ∷ xs) (y ∷ ys) (suc i) h = each_step xs ys i (omega (arith, h))

    next : (n : ℕ) → n + 1 ≡ suc n
    next n = omega arith

    pub each_here : (xs ys : List (Option A)) (i : ℕ) (z : Option A) → i < max (length xs) (length ys) → z ≡ join_some j (held xs i) (held ys i)
        → merge_each j (drop i xs) (drop i ys) ≡ z ∷ merge_each j (drop (i + 1) xs) (drop (i + 1) ys)
    each_here xs ys i z h e =
        each_step xs ys i h ∙ ap (λ w. w ∷ merge_each j (drop (suc i) xs) (drop (suc i) ys)) (sym e) ∙ ap (λ n. z ∷ merge_each j (drop n xs) (drop n ys)) (sym (next i))

    pub each_end : (xs ys : List (Option A)) (i : ℕ) → max (length xs) (length ys) ≤ i → merge_each j (drop i xs) (drop i ys) ≡ []
    each_end xs ys i h = ap (λ l. merge_each j l (drop i ys)) (drop_of_length-le xs (omega (arith, h))) ∙ drop_of_length-le ys (omega (arith, h))

  -- ---- absorption
  module _ (f : A → A → Bool) where
    absorbed_alone : (ys : List (Option A)) (i : ℕ) → i < length ys → each_absorbs f [] (drop i ys) ≡ (some_absorbs f None (held ys i) && each_absorbs f [] (drop (suc i) ys))
    absorbed_alone [] i h = absurd (omega (arith, h))
    absorbed_alone (y ∷ ys) zero h = refl
    absorbed_alone (y ∷ ys) (suc i) h = absorbed_alone ys i (omega (arith, h))

    absorbed_step : (xs ys : List (Option A)) (i : ℕ) → i < length ys → each_absorbs f (drop i xs) (drop i ys) ≡ (some_absorbs f (held xs i) (held ys i) && each_absorbs f (drop (suc i) xs) (drop (suc i) ys))
    absorbed_step [] ys i h =
        ap (λ l. each_absorbs f l (drop i ys)) (drop-nil i) ∙ absorbed_alone ys i h
        ∙ ap (λ l. some_absorbs f None (held ys i) && each_absorbs f l (drop (suc i) ys)) (sym (drop-nil {A = Option A} (suc i)))
    absorbed_step (x ∷ xs) [] i h = absurd (omega (arith, h))
    absorbed_step (x ∷ xs) (y ∷ ys) zero h = refl
    absorbed_step (x ∷ xs) (y ∷ ys) (suc i) h = absorbed_step xs ys i (omega (arith, h))

    later : (xs ys : List (Option A)) (i : ℕ) → each_absorbs f (drop (suc i) xs) (drop (suc i) ys) ≡ each_absorbs f (drop (i + 1) xs) (drop (i + 1) ys)
    later xs ys i = let same : suc i ≡ i + 1 = omega arith in ap (λ n. each_absorbs f (drop n xs) (drop n ys)) same

    pub absorbed_next : (xs ys : List (Option A)) (i : ℕ) (whole : Bool) → i < length ys → some_absorbs f (held xs i) (held ys i) ≡ true → whole ≡ each_absorbs f (drop i xs) (drop i ys)
        → whole ≡ each_absorbs f (drop (i + 1) xs) (drop (i + 1) ys)
    absorbed_next xs ys i whole h t w = w ∙ absorbed_step xs ys i h ∙ ap (λ b. b && each_absorbs f (drop (suc i) xs) (drop (suc i) ys)) t ∙ later xs ys i

    pub absorbed_stop : (xs ys : List (Option A)) (i : ℕ) (whole : Bool) → i < length ys → some_absorbs f (held xs i) (held ys i) ≡ false → whole ≡ each_absorbs f (drop i xs) (drop i ys) → false ≡ whole
    absorbed_stop xs ys i whole h t w = sym (w ∙ absorbed_step xs ys i h ∙ ap (λ b. b && each_absorbs f (drop (suc i) xs) (drop (suc i) ys)) t)

    pub absorbed_end : (xs ys : List (Option A)) (i : ℕ) (whole : Bool) → length ys ≤ i → whole ≡ each_absorbs f (drop i xs) (drop i ys) → true ≡ whole
    absorbed_end xs ys i whole h w = sym (w ∙ ap (each_absorbs f (drop i xs)) (drop_of_length-le ys h) ∙ absorbs_nothing f (drop i xs))
