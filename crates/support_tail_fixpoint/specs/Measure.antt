-- What each further turn lowers.
use Rattle.std.specs.Prelude.{◌≡◌, ℕ, ◌+◌, ◌*◌, ◌<◌, ◌⊎◌}
use Rattle.support_tail_fixpoint.specs.declared.policy.Policy.{Policy}
use Rattle.support_tail_fixpoint.specs.declared.policy.Policy.TheVariants.{Stop, Widen}
use Rattle.support_tail_fixpoint.specs.Activation.{Activation}
use Rattle.support_tail_fixpoint.specs.Fitting.{WideningLowersRank}
use Rattle.support_tail_fixpoint.specs.Meaning.{Meaning, ArgsFit}
use Rattle.support_tail_fixpoint.specs.Moves.{Moves}

-- how many turns are left: under `Stop` all, under `Widen` those before the widening
abbrev pub turns_left : Policy → ℕ
turns_left (Stop turns) = turns
turns_left (Widen unroll delay) = unroll + delay

-- Fewer turns are left; or as many, and the arguments are of lesser rank.
abbrev pub Falls : {A O : Type 0} → (rank : A → ℕ) → Activation A O → Activation A O → Type 0
Falls rank old new =
    (turns_left new.left < turns_left old.left)
    ⊎ ((turns_left new.left ≡ turns_left old.left) × (rank new.args < rank old.args))

-- both as one number, where no rank is above the height
abbrev pub measure : {A O : Type 0} → (rank : A → ℕ) → (height : ℕ) → Activation A O → ℕ
measure rank height now = turns_left now.left * (height + 1) + rank now.args

-- Under `Widen`, the widening lowers the rank of arguments that fit.
abbrev pub LowersRankUnder : {A O : Type 0} → Moves A O → (A → Type 0) → (rank : A → ℕ) → Policy → Type 0
LowersRankUnder m Fits rank (Stop turns) = Unit {0}
LowersRankUnder m Fits rank (Widen unroll delay) = WideningLowersRank m Fits rank

-- So much is left of a policy that an activation comes to an end.
abbrev pub CanEnd : {A O : Type 0} → Meaning A O → Policy → Type 0
CanEnd m left = LowersRankUnder m.moves (ArgsFit m) m.rank left
