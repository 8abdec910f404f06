-- Widening group arguments lowers their rank.
use Rattle.std.proofs.Common.{◌≡◌, ℕ, zero, suc, ◌+◌, ◌<◌, ◌≤◌, Bool, true, false, List, [], ◌∷◌, Option, Some, None, refl, ◌&&◌, arith}
use Rattle.std.specs.Prelude.{IfSome}
use Rattle.support_tail_fixpoint.specs.Groups.{EachIs, each_absorbs, join_some, merge_each, some_absorbs}
use Rattle.support_tail_fixpoint.specs.GroupLaws.{GroupRanksFall}
use Rattle.support_tail_fixpoint.specs.Ranks.{rank_some, ranks}

-- a rank that does not rise, and falls where something is not absorbed
abbrev pub Lowers : ℕ → ℕ → Bool → Type 0
Lowers new old absorbed = (new ≤ old) × (absorbed ≡ false → new < old)

stays : (n : ℕ) (b : Bool) → b ≡ true → Lowers n n b
stays n true e = (omega arith, λ h. cc)
stays n false e = cc

both_lower : (m n k j : ℕ) (p q : Bool) → Lowers m n p → Lowers k j q → Lowers (m + k) (n + j) (p && q)
both_lower m n k j true q h g = let le = h.0 in let le' = g.0 in (omega (arith, le, le'), λ e. (let lt = g.1 e in omega (arith, le, lt)))
both_lower m n k j false q h g = let lt = h.1 refl in let le' = g.0 in (omega (arith, lt, le'), λ e. omega (arith, lt, le'))

module _ {A : Type 0} (absorbs : A → A → Bool) (widen : A → A → A) where
  some_lowers : (Fits : A → Type 0) (rank : A → ℕ) (top : ℕ) (x y : Option A) → ((x : A) → Fits x → rank x ≤ top)
      → ((x y : A) → Fits x → Fits y → Lowers (rank (widen x y)) (rank x) (absorbs x y)) → IfSome x Fits → IfSome y Fits
      → Lowers (rank_some rank top (join_some widen x y)) (rank_some rank top x) (some_absorbs absorbs x y)
  some_lowers Fits rank top None None high lowers hx hy = stays (suc top) true refl
  some_lowers Fits rank top None (Some y) high lowers hx hy = let le = high y hy in (omega (arith, le), λ e. omega (arith, le))
  some_lowers Fits rank top (Some x) None high lowers hx hy = stays (rank x) true refl
  some_lowers Fits rank top (Some x) (Some y) high lowers hx hy = lowers x y hx hy

  absorbs_none : (x : Option A) → some_absorbs absorbs x None ≡ true
  absorbs_none None = refl
  absorbs_none (Some x) = refl

  absorbs_empty : (Fits : ℕ → A → Type 0) (xs ys : List (Option A)) → ((i : ℕ) (x : A) → Fits i x → ⊥) → EachIs Fits ys → each_absorbs absorbs xs ys ≡ true
  absorbs_empty Fits [] [] never hy = refl
  absorbs_empty Fits (x ∷ xs) [] never hy = refl
  absorbs_empty Fits xs (Some y ∷ ys) never hy = absurd (never zero y hy.0)
  absorbs_empty Fits [] (None ∷ ys) never hy = absorbs_empty (λ i. Fits (suc i)) [] ys (λ i. never (suc i)) hy.1
  absorbs_empty Fits (x ∷ xs) (None ∷ ys) never hy = rw (absorbs_none x) (absorbs_empty (λ i. Fits (suc i)) xs ys (λ i. never (suc i)) hy.1)

  -- of so many functions, each of which has a rank
  pub each_lowers : (count : ℕ) (Fits : ℕ → A → Type 0) (rank : ℕ → A → ℕ) (top : ℕ → ℕ) (xs ys : List (Option A))
      → ((i : ℕ) (x : A) → Fits i x → i < count) → ((i : ℕ) (x : A) → Fits i x → rank i x ≤ top i)
      → ((i : ℕ) (x y : A) → Fits i x → Fits i y → Lowers (rank i (widen x y)) (rank i x) (absorbs x y)) → EachIs Fits xs → EachIs Fits ys
      → Lowers (ranks rank top count (merge_each widen xs ys)) (ranks rank top count xs) (each_absorbs absorbs xs ys)
  each_lowers zero Fits rank top xs ys few high lowers hx hy =
      stays 0 (each_absorbs absorbs xs ys) (absorbs_empty Fits xs ys (λ i x h. let lt = few i x h in omega (arith, lt)) hy)
  each_lowers (suc count) Fits rank top [] [] few high lowers hx hy = stays (ranks rank top (suc count) []) true refl
  each_lowers (suc count) Fits rank top (x ∷ xs) [] few high lowers hx hy = stays (ranks rank top (suc count) (x ∷ xs)) true refl
  each_lowers (suc count) Fits rank top [] (y ∷ ys) few high lowers hx hy =
      both_lower (rank_some (rank zero) (top zero) y) (rank_some (rank zero) (top zero) None)
      (ranks (λ i. rank (suc i)) (λ i. top (suc i)) count ys) (ranks (λ i. rank (suc i)) (λ i. top (suc i)) count [])
      (some_absorbs absorbs None y) (each_absorbs absorbs [] ys)
      (some_lowers (Fits zero) (rank zero) (top zero) None y (high zero) (lowers zero) tt hy.0)
      (each_lowers count (λ i. Fits (suc i)) (λ i. rank (suc i)) (λ i. top (suc i)) [] ys (λ i x h. let lt = few (suc i) x h in omega (arith, lt)) (λ i. high (suc i)) (λ i. lowers (suc i)) tt hy.1)
  each_lowers (suc count) Fits rank top (x ∷ xs) (y ∷ ys) few high lowers hx hy =
      both_lower (rank_some (rank zero) (top zero) (join_some widen x y)) (rank_some (rank zero) (top zero) x)
      (ranks (λ i. rank (suc i)) (λ i. top (suc i)) count (merge_each widen xs ys)) (ranks (λ i. rank (suc i)) (λ i. top (suc i)) count xs)
      (some_absorbs absorbs x y) (each_absorbs absorbs xs ys)
      (some_lowers (Fits zero) (rank zero) (top zero) x y (high zero) (lowers zero) hx.0 hy.0)
      (each_lowers count (λ i. Fits (suc i)) (λ i. rank (suc i)) (λ i. top (suc i)) xs ys (λ i x h. let lt = few (suc i) x h in omega (arith, lt)) (λ i. high (suc i)) (λ i. lowers (suc i)) hx.1 hy.1)

module _ {A : Type 0} where
  some_high : (Fits : A → Type 0) (rank : A → ℕ) (top : ℕ) (x : Option A) → ((x : A) → Fits x → rank x ≤ top) → IfSome x Fits → rank_some rank top x ≤ suc top
  some_high Fits rank top None high hx = omega arith
  some_high Fits rank top (Some x) high hx = let le = high x hx in omega (arith, le)

  -- none are of greater rank than where all are missing
  pub each_high : (count : ℕ) (Fits : ℕ → A → Type 0) (rank : ℕ → A → ℕ) (top : ℕ → ℕ) (xs : List (Option A))
      → ((i : ℕ) (x : A) → Fits i x → rank i x ≤ top i) → EachIs Fits xs → ranks rank top count xs ≤ ranks rank top count []
  each_high zero Fits rank top xs high hx = omega arith
  each_high (suc count) Fits rank top [] high hx = omega arith
  each_high (suc count) Fits rank top (x ∷ xs) high hx =
      let le = some_high (Fits zero) (rank zero) (top zero) x (high zero) hx.0 in
      let le' = each_high count (λ i. Fits (suc i)) (λ i. rank (suc i)) (λ i. top (suc i)) xs (λ i. high (suc i)) hx.1 in
      omega (arith, le, le')

pub group_ranks_fall : {A O : Type 0} (Fits : ℕ → A → Type 0) → GroupRanksFall A O Fits
group_ranks_fall Fits m rank top count falls = (
  record {
    lowers = λ old new old_fits new_fits absorbed.
        (each_lowers m.absorbs m.widen_args count Fits rank top old new falls.counted falls.bounded
        (λ i x y hx hy. (falls.stays i x y hx hy, λ e. falls.falls i x y hx hy e)) old_fits new_fits).1 absorbed;
  },
  λ xs fits. each_high count Fits rank top xs falls.bounded fits,
)
