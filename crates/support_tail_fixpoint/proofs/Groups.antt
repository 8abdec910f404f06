-- Group arguments: what holds function by function.
use Rattle.std.proofs.Common.{◌≡◌, ◌≢◌, ℕ, zero, suc, inl, inr, Bool, List, [], ◌∷◌, Option, Some, None, refl, ap, IsTrue}
use Rattle.std.specs.Prelude.{IsSomeAnd}
use Rattle.support_tail_fixpoint.specs.Groups.{EachIs, each_absorbs, each_passes, held, merge_each, only, some_absorbs}
use Rattle.support_tail_fixpoint.specs.GroupLaws.{AbsorbedHolds, GroupAbsorptionOrders, GroupsAbsorb, GroupsKeepFits, HeldAreSuch, JoinsHold, OneIsHeld, TestsTell}
use Rattle.support_tail_fixpoint.proofs.Somes.{both_true, left_true, right_true, some_absorbed, some_absorbs_both, some_absorbs_itself, some_absorbs_on, some_kept, some_left, some_right}

module _ {A : Type 0} where
  -- ---- one function's arguments
  pub only_is : (P : ℕ → A → Type 0) (i : ℕ) (x : A) → P i x → EachIs P (only i x)
  only_is P zero x h = (h, tt)
  only_is P (suc i) x h = (tt, only_is (λ i. P (suc i)) i x h)

  pub only_holds : (P : A → Type 0) (i : ℕ) (x : A) → P x → IsSomeAnd (held (only i x) i) P
  only_holds P zero x h = h
  only_holds P (suc i) x h = only_holds P i x h

  pub held_only : (i : ℕ) (x : A) → held (only i x) i ≡ Some x
  held_only zero x = refl
  held_only (suc i) x = held_only i x

  pub held_no_other : (i : ℕ) (x : A) (j : ℕ) → j ≢ i → held (only i x) j ≡ None
  held_no_other zero x zero other = absurd (other refl)
  held_no_other zero x (suc j) other = refl
  held_no_other (suc i) x zero other = refl
  held_no_other (suc i) x (suc j) other = held_no_other i x j (λ e. other (ap suc e))

  -- ---- what is held
  -- what is held is one of them
  pub held_one : (Fits : ℕ → A → Type 0) (P : A → Type 0) (i : ℕ) (xs : List (Option A)) → EachIs Fits xs → IsSomeAnd (held xs i) P → (x : A) × Fits i x × P x
  held_one Fits P i [] h d = absurd d
  held_one Fits P zero (None ∷ xs) h d = absurd d
  held_one Fits P zero (Some x ∷ xs) h d = (x, h.0, d)
  held_one Fits P (suc i) (x ∷ xs) h d = held_one (λ i. Fits (suc i)) P i xs h.1 d

  pub held_is : (P : ℕ → A → Type 0) (xs : List (Option A)) → EachIs P xs → (i : ℕ) (x : A) → held xs i ≡ Some x → P i x
  held_is P [] h i x e = cc
  held_is P (None ∷ xs) h zero x e = cc
  held_is P (Some y ∷ xs) h zero x e = let same : y ≡ x = cc in rw (← same) h.0
  held_is P (y ∷ xs) h (suc i) x e = held_is (λ i. P (suc i)) xs h.1 i x e

  pub is_if_held : (P : ℕ → A → Type 0) (xs : List (Option A)) → ((i : ℕ) (x : A) → held xs i ≡ Some x → P i x) → EachIs P xs
  is_if_held P [] h = tt
  is_if_held P (None ∷ xs) h = (tt, is_if_held (λ i. P (suc i)) xs (λ i. h (suc i)))
  is_if_held P (Some x ∷ xs) h = (h zero x refl, is_if_held (λ i. P (suc i)) xs (λ i. h (suc i)))

  -- ---- tests
  pub each_told : (test : ℕ → A → Bool) (P : ℕ → A → Type 0) (xs : List (Option A)) → ((i : ℕ) (x : A) → IsTrue (test i x) → P i x) → IsTrue (each_passes test xs) → EachIs P xs
  each_told test P [] told h = tt
  each_told test P (None ∷ xs) told h = (tt, each_told (λ i. test (suc i)) (λ i. P (suc i)) xs (λ i x k. told (suc i) x k) h)
  each_told test P (Some x ∷ xs) told h = (
    told zero x (left_true (test zero x) _ h),
    each_told (λ i. test (suc i)) (λ i. P (suc i)) xs (λ i x k. told (suc i) x k) (right_true (test zero x) _ h),
  )

  pub each_tells : (test : ℕ → A → Bool) (P : ℕ → A → Type 0) (xs : List (Option A)) → ((i : ℕ) (x : A) → P i x → IsTrue (test i x)) → EachIs P xs → IsTrue (each_passes test xs)
  each_tells test P [] tells h = refl
  each_tells test P (None ∷ xs) tells h = each_tells (λ i. test (suc i)) (λ i. P (suc i)) xs (λ i x k. tells (suc i) x k) h.1
  each_tells test P (Some x ∷ xs) tells h =
      both_true (test zero x) _ (tells zero x h.0) (each_tells (λ i. test (suc i)) (λ i. P (suc i)) xs (λ i x k. tells (suc i) x k) h.1)

  -- each is both
  pub each_both : (P Q : ℕ → A → Type 0) (xs : List (Option A)) → EachIs P xs → EachIs Q xs → EachIs (λ i x. P i x × Q i x) xs
  each_both P Q [] h k = tt
  each_both P Q (None ∷ xs) h k = (tt, each_both (λ i. P (suc i)) (λ i. Q (suc i)) xs h.1 k.1)
  each_both P Q (Some x ∷ xs) h k = ((h.0, k.0), each_both (λ i. P (suc i)) (λ i. Q (suc i)) xs h.1 k.1)

  pub each_weaker : (P Q : ℕ → A → Type 0) (xs : List (Option A)) → ((i : ℕ) (x : A) → P i x → Q i x) → EachIs P xs → EachIs Q xs
  each_weaker P Q [] weaker h = tt
  each_weaker P Q (None ∷ xs) weaker h = (tt, each_weaker (λ i. P (suc i)) (λ i. Q (suc i)) xs (λ i. weaker (suc i)) h.1)
  each_weaker P Q (Some x ∷ xs) weaker h = (weaker zero x h.0, each_weaker (λ i. P (suc i)) (λ i. Q (suc i)) xs (λ i. weaker (suc i)) h.1)

  -- ---- joins and widenings
  pub merge_each_kept : (Fits : ℕ → A → Type 0) (join : A → A → A) (xs ys : List (Option A)) → ((i : ℕ) (x y : A) → Fits i x → Fits i y → Fits i (join x y))
      → EachIs Fits xs → EachIs Fits ys → EachIs Fits (merge_each join xs ys)
  merge_each_kept Fits join [] ys keeps hx hy = hy
  merge_each_kept Fits join (x ∷ xs) [] keeps hx hy = hx
  merge_each_kept Fits join (x ∷ xs) (y ∷ ys) keeps hx hy =
      (some_kept (Fits zero) join (keeps zero) x y hx.0 hy.0, merge_each_kept (λ i. Fits (suc i)) join xs ys (λ i. keeps (suc i)) hx.1 hy.1)

  pub each_left : (Fits : ℕ → A → Type 0) (P : A → Type 0) (join : A → A → A) (i : ℕ) (xs ys : List (Option A))
      → ((i : ℕ) (x y : A) → Fits i x → Fits i y → P x → P (join x y)) → EachIs Fits xs → EachIs Fits ys
      → IsSomeAnd (held xs i) P → IsSomeAnd (held (merge_each join xs ys) i) P
  each_left Fits P join i [] ys left hx hy holds = absurd holds
  each_left Fits P join i (x ∷ xs) [] left hx hy holds = holds
  each_left Fits P join zero (x ∷ xs) (y ∷ ys) left hx hy holds = some_left (Fits zero) P join (left zero) x y hx.0 hy.0 holds
  each_left Fits P join (suc i) (x ∷ xs) (y ∷ ys) left hx hy holds = each_left (λ i. Fits (suc i)) P join i xs ys (λ i. left (suc i)) hx.1 hy.1 holds

  pub each_right : (Fits : ℕ → A → Type 0) (P : A → Type 0) (join : A → A → A) (i : ℕ) (xs ys : List (Option A))
      → ((i : ℕ) (x y : A) → Fits i x → Fits i y → P y → P (join x y)) → EachIs Fits xs → EachIs Fits ys
      → IsSomeAnd (held ys i) P → IsSomeAnd (held (merge_each join xs ys) i) P
  each_right Fits P join i [] ys right hx hy holds = holds
  each_right Fits P join i (x ∷ xs) [] right hx hy holds = absurd holds
  each_right Fits P join zero (x ∷ xs) (y ∷ ys) right hx hy holds = some_right (Fits zero) P join (right zero) x y hx.0 hy.0 holds
  each_right Fits P join (suc i) (x ∷ xs) (y ∷ ys) right hx hy holds = each_right (λ i. Fits (suc i)) P join i xs ys (λ i. right (suc i)) hx.1 hy.1 holds

  -- ---- absorption
  module _ (absorbs : A → A → Bool) where
    pub each_absorbed : (Fits : ℕ → A → Type 0) (P : A → Type 0) (i : ℕ) (xs ys : List (Option A))
        → ((i : ℕ) (x y : A) → Fits i x → Fits i y → IsTrue (absorbs x y) → P y → P x) → EachIs Fits xs → EachIs Fits ys
        → IsTrue (each_absorbs absorbs xs ys) → IsSomeAnd (held ys i) P → IsSomeAnd (held xs i) P
    each_absorbed Fits P i xs [] absorbed hx hy h holds = absurd holds
    each_absorbed Fits P zero [] (y ∷ ys) absorbed hx hy h holds =
        some_absorbed (Fits zero) absorbs P (absorbed zero) None y tt hy.0 (left_true (some_absorbs absorbs None y) _ h) holds
    each_absorbed Fits P (suc i) [] (y ∷ ys) absorbed hx hy h holds =
        each_absorbed (λ i. Fits (suc i)) P i [] ys (λ i. absorbed (suc i)) tt hy.1 (right_true (some_absorbs absorbs None y) _ h) holds
    each_absorbed Fits P zero (x ∷ xs) (y ∷ ys) absorbed hx hy h holds =
        some_absorbed (Fits zero) absorbs P (absorbed zero) x y hx.0 hy.0 (left_true (some_absorbs absorbs x y) _ h) holds
    each_absorbed Fits P (suc i) (x ∷ xs) (y ∷ ys) absorbed hx hy h holds =
        each_absorbed (λ i. Fits (suc i)) P i xs ys (λ i. absorbed (suc i)) hx.1 hy.1 (right_true (some_absorbs absorbs x y) _ h) holds

    pub each_absorbs_itself : (Fits : ℕ → A → Type 0) (xs : List (Option A)) → ((i : ℕ) (x : A) → Fits i x → IsTrue (absorbs x x)) → EachIs Fits xs → IsTrue (each_absorbs absorbs xs xs)
    each_absorbs_itself Fits [] itself hx = refl
    each_absorbs_itself Fits (x ∷ xs) itself hx =
        both_true _ _ (some_absorbs_itself (Fits zero) absorbs (itself zero) x hx.0) (each_absorbs_itself (λ i. Fits (suc i)) xs (λ i. itself (suc i)) hx.1)

    pub absorbs_nothing : (xs : List (Option A)) → IsTrue (each_absorbs absorbs xs [])
    absorbs_nothing [] = refl
    absorbs_nothing (x ∷ xs) = refl

    pub merge_each_absorbs : (Fits : ℕ → A → Type 0) (join : A → A → A) (xs ys : List (Option A)) → ((i : ℕ) (x : A) → Fits i x → IsTrue (absorbs x x))
        → ((i : ℕ) (x y : A) → Fits i x → Fits i y → IsTrue (absorbs (join x y) x) × IsTrue (absorbs (join x y) y)) → EachIs Fits xs → EachIs Fits ys
        → IsTrue (each_absorbs absorbs (merge_each join xs ys) xs) × IsTrue (each_absorbs absorbs (merge_each join xs ys) ys)
    merge_each_absorbs Fits join [] ys itself both hx hy = (absorbs_nothing ys, each_absorbs_itself Fits ys itself hy)
    merge_each_absorbs Fits join (x ∷ xs) [] itself both hx hy = (each_absorbs_itself Fits (x ∷ xs) itself hx, refl)
    merge_each_absorbs Fits join (x ∷ xs) (y ∷ ys) itself both hx hy =
        let h = some_absorbs_both (Fits zero) absorbs join (itself zero) (both zero) x y hx.0 hy.0 in
        let k = merge_each_absorbs (λ i. Fits (suc i)) join xs ys (λ i. itself (suc i)) (λ i. both (suc i)) hx.1 hy.1 in
        (both_true _ _ h.0 k.0, both_true _ _ h.1 k.1)

    -- what no arguments absorb, all do
    absorbed_by_none : (x y : Option A) → IsTrue (some_absorbs absorbs None y) → IsTrue (some_absorbs absorbs x y)
    absorbed_by_none None y h = h
    absorbed_by_none (Some x) None h = refl
    absorbed_by_none (Some x) (Some y) h = cc

    absorbed_by_nothing : (xs ys : List (Option A)) → IsTrue (each_absorbs absorbs [] ys) → IsTrue (each_absorbs absorbs xs ys)
    absorbed_by_nothing xs [] h = absorbs_nothing xs
    absorbed_by_nothing [] (y ∷ ys) h = h
    absorbed_by_nothing (x ∷ xs) (y ∷ ys) h =
        both_true _ _ (absorbed_by_none x y (left_true (some_absorbs absorbs None y) _ h)) (absorbed_by_nothing xs ys (right_true (some_absorbs absorbs None y) _ h))

    pub each_absorbs_on : (Fits : ℕ → A → Type 0) (xs ys zs : List (Option A))
        → ((i : ℕ) (x y z : A) → Fits i x → Fits i y → Fits i z → IsTrue (absorbs x y) → IsTrue (absorbs y z) → IsTrue (absorbs x z))
        → EachIs Fits xs → EachIs Fits ys → EachIs Fits zs → IsTrue (each_absorbs absorbs xs ys) → IsTrue (each_absorbs absorbs ys zs) → IsTrue (each_absorbs absorbs xs zs)
    each_absorbs_on Fits xs ys [] on hx hy hz h k = absorbs_nothing xs
    each_absorbs_on Fits xs [] (z ∷ zs) on hx hy hz h k = absorbed_by_nothing xs (z ∷ zs) k
    each_absorbs_on Fits [] (y ∷ ys) (z ∷ zs) on hx hy hz h k =
        both_true _ _ (some_absorbs_on (Fits zero) absorbs (on zero) None y z tt hy.0 hz.0 (left_true (some_absorbs absorbs None y) _ h) (left_true (some_absorbs absorbs y z) _ k))
        (each_absorbs_on (λ i. Fits (suc i)) [] ys zs (λ i. on (suc i)) tt hy.1 hz.1 (right_true (some_absorbs absorbs None y) _ h) (right_true (some_absorbs absorbs y z) _ k))
    each_absorbs_on Fits (x ∷ xs) (y ∷ ys) (z ∷ zs) on hx hy hz h k =
        both_true _ _ (some_absorbs_on (Fits zero) absorbs (on zero) x y z hx.0 hy.0 hz.0 (left_true (some_absorbs absorbs x y) _ h) (left_true (some_absorbs absorbs y z) _ k))
        (each_absorbs_on (λ i. Fits (suc i)) xs ys zs (λ i. on (suc i)) hx.1 hy.1 hz.1 (right_true (some_absorbs absorbs x y) _ h) (right_true (some_absorbs absorbs y z) _ k))

-- ---- the laws
pub one_is_held : {A : Type 0} → OneIsHeld A
one_is_held i x = (held_only i x, λ j other. held_no_other i x j other)

pub held_are_such : {A : Type 0} (P : ℕ → A → Type 0) → HeldAreSuch A P
held_are_such P xs = (λ h i x e. held_is P xs h i x e, λ h. is_if_held P xs h)

pub tests_tell : {A : Type 0} → TestsTell A
tests_tell test xs = (
  λ h. each_told test (λ i x. IsTrue (test i x)) xs (λ i x k. k) h,
  λ h. each_tells test (λ i x. IsTrue (test i x)) xs (λ i x k. k) h,
)

pub joins_hold : {A : Type 0} (Fits : ℕ → A → Type 0) (P : A → Type 0) → JoinsHold A Fits P
joins_hold Fits P join i xs ys holds hx hy (inl left) = each_left Fits P join i xs ys (λ i x y h k p. holds i x y h k (inl p)) hx hy left
joins_hold Fits P join i xs ys holds hx hy (inr right) = each_right Fits P join i xs ys (λ i x y h k p. holds i x y h k (inr p)) hx hy right

pub absorbed_holds : {A : Type 0} (Fits : ℕ → A → Type 0) (P : A → Type 0) → AbsorbedHolds A Fits P
absorbed_holds Fits P absorbs i xs ys absorbed hx hy h holds = each_absorbed absorbs Fits P i xs ys absorbed hx hy h holds

pub groups_keep_fits : {A O : Type 0} (Fits : ℕ → A → Type 0) → GroupsKeepFits A O Fits
groups_keep_fits Fits m keeps = record {
  join_args = λ x y hx hy. merge_each_kept Fits m.join_args x y (λ i. (keeps i).join_args) hx hy;
  widen_args = λ x y hx hy. merge_each_kept Fits m.widen_args x y (λ i. (keeps i).widen_args) hx hy;
}

pub groups_absorb : {A O : Type 0} (Fits : ℕ → A → Type 0) → GroupsAbsorb A O Fits
groups_absorb Fits m absorbing itself = record {
  join_absorbs = λ x y hx hy. merge_each_absorbs m.absorbs Fits m.join_args x y itself (λ i. (absorbing i).join_absorbs) hx hy;
  widen_absorbs = λ x y hx hy. merge_each_absorbs m.absorbs Fits m.widen_args x y itself (λ i. (absorbing i).widen_absorbs) hx hy;
}

pub group_absorption_orders : {A O : Type 0} (Fits : ℕ → A → Type 0) → GroupAbsorptionOrders A O Fits
group_absorption_orders Fits m orders = record {
  absorbs_itself = λ x hx. each_absorbs_itself m.absorbs Fits x (λ i. (orders i).absorbs_itself) hx;
  absorbs_on = λ x y z hx hy hz h k. each_absorbs_on m.absorbs Fits x y z (λ i. (orders i).absorbs_on) hx hy hz h k;
}
