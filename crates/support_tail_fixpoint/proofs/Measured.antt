-- The measure falls.
use Rattle.std.proofs.Common.{ℕ, zero, suc, ◌+◌, ◌*◌, ◌<◌, ◌≤◌, inl, inr, arith}
use Rattle.support_tail_fixpoint.specs.Laws.{MeasuresFall}
use Rattle.support_tail_fixpoint.specs.Measure.{turns_left}

fewer_turns : (height turns fewer rank other : ℕ) → fewer < turns → other ≤ height → fewer * (height + 1) + other < turns * (height + 1) + rank
fewer_turns height zero fewer rank other less low = absurd (omega (arith, less))
fewer_turns height (suc turns) zero rank other less low = omega (arith, low)
fewer_turns height (suc turns) (suc fewer) rank other less low =
    let below : fewer * (height + 1) + other < turns * (height + 1) + rank = fewer_turns height turns fewer rank other (omega (arith, less)) low in
    omega (arith, below)

pub measures_fall : {A O : Type 0} → MeasuresFall A O
measures_fall rank height old new old_low new_low (inl fewer) =
    fewer_turns height (turns_left old.left) (turns_left new.left) (rank old.args) (rank new.args) fewer new_low
measures_fall rank height old new old_low new_low (inr same) = rw same.0 (let less = same.1 in omega (arith, less))
