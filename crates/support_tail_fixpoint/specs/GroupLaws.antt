-- What holds of group arguments, by what holds of argument lists.
use Rattle.std.specs.Prelude.{◌≡◌, ◌≢◌, ◌↔◌, ◌⊎◌, ℕ, ◌≤◌, Bool, List, [], Option, None, Some, IsTrue, IsSomeAnd}
use Rattle.support_tail_fixpoint.specs.Absorbing.{Absorbing, AbsorptionOrders}
use Rattle.support_tail_fixpoint.specs.Fitting.{KeepsArgs, WideningLowersRank}
use Rattle.support_tail_fixpoint.specs.Moves.{Moves}
use Rattle.support_tail_fixpoint.specs.Groups.{EachIs, each_absorbs, each_passes, group_moves, held, merge_each, only}
use Rattle.support_tail_fixpoint.specs.Ranks.{RanksFall, ranks}

-- Those of function i alone hold its list, and no other.
abbrev pub OneIsHeld : (A : Type 0) → Type 0
OneIsHeld A = (i : ℕ) (x : A) → (held (only i x) i ≡ Some x) × ((j : ℕ) → j ≢ i → held (only i x) j ≡ None)

-- Each list is such exactly where what is held for each function is.
abbrev pub HeldAreSuch : (A : Type 0) → (ℕ → A → Type 0) → Type 0
HeldAreSuch A P = (xs : List (Option A)) → EachIs P xs ↔ ((i : ℕ) (x : A) → held xs i ≡ Some x → P i x)

-- Each passes its test exactly where each is such.
abbrev pub TestsTell : (A : Type 0) → Type 0
TestsTell A = (test : ℕ → A → Bool) (xs : List (Option A)) → IsTrue (each_passes test xs) ↔ EachIs (λ i x. IsTrue (test i x)) xs

-- What joins of lists that fit keep of either side holds of the join of group arguments, function by function.
abbrev pub JoinsHold : (A : Type 0) → (ℕ → A → Type 0) → (A → Type 0) → Type 0
JoinsHold A Fits P =
    (join : A → A → A) (i : ℕ) (xs ys : List (Option A)) → ((i : ℕ) (x y : A) → Fits i x → Fits i y → P x ⊎ P y → P (join x y))
    → EachIs Fits xs → EachIs Fits ys → IsSomeAnd (held xs i) P ⊎ IsSomeAnd (held ys i) P → IsSomeAnd (held (merge_each join xs ys) i) P

-- What a list that absorbs another has of it, group arguments have of those that they absorb, function by function.
abbrev pub AbsorbedHolds : (A : Type 0) → (ℕ → A → Type 0) → (A → Type 0) → Type 0
AbsorbedHolds A Fits P =
    (absorbs : A → A → Bool) (i : ℕ) (xs ys : List (Option A)) → ((i : ℕ) (x y : A) → Fits i x → Fits i y → IsTrue (absorbs x y) → P y → P x)
    → EachIs Fits xs → EachIs Fits ys → IsTrue (each_absorbs absorbs xs ys) → IsSomeAnd (held ys i) P → IsSomeAnd (held xs i) P

-- ---- the moves of group arguments

-- Joins and widenings keep what fits.
abbrev pub GroupsKeepFits : (A O : Type 0) → (ℕ → A → Type 0) → Type 0
GroupsKeepFits A O Fits = (m : Moves A O) → ((i : ℕ) → KeepsArgs m (Fits i)) → KeepsArgs (group_moves m) (EachIs Fits)

-- Joins and widenings absorb both. A list that the other side lacks comes as it is, so it has to absorb itself.
abbrev pub GroupsAbsorb : (A O : Type 0) → (ℕ → A → Type 0) → Type 0
GroupsAbsorb A O Fits =
    (m : Moves A O) → ((i : ℕ) → Absorbing m (Fits i)) → ((i : ℕ) (x : A) → Fits i x → IsTrue (m.absorbs x x)) → Absorbing (group_moves m) (EachIs Fits)

-- Absorption is reflexive and transitive.
abbrev pub GroupAbsorptionOrders : (A O : Type 0) → (ℕ → A → Type 0) → Type 0
GroupAbsorptionOrders A O Fits = (m : Moves A O) → ((i : ℕ) → AbsorptionOrders m (Fits i)) → AbsorptionOrders (group_moves m) (EachIs Fits)

-- Widening lowers the rank, and no rank is greater than that of no arguments at all.
abbrev pub GroupRanksFall : (A O : Type 0) → (ℕ → A → Type 0) → Type 0
GroupRanksFall A O Fits =
    (m : Moves A O) (rank : ℕ → A → ℕ) (top : ℕ → ℕ) (count : ℕ) → RanksFall m Fits rank top count
    → WideningLowersRank (group_moves m) (EachIs Fits) (ranks rank top count)
    × ((xs : List (Option A)) → EachIs Fits xs → ranks rank top count xs ≤ ranks rank top count [])
