use Rattle.std.proofs.Common.{◌≡◌, map, reverse}
use Rattle.analysis_transfer_laws.specs.Uses.{either_stamp}
use Rattle.analysis_uses.proofs.stamps.add_stamps.Given as goal

abbrev pub invariant-loop-stamp : goal.invariant-loop-stamp
invariant-loop-stamp l = l.stamps.items ≡ either_stamp (reverse (map (λ s. s.now) l.yielded)) l.fn.stamps.items
