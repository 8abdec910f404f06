-- How pairs are cut: part by part.
use Rattle.std.specs.Prelude.{Option, Some, None}
use Rattle.base_cuts.specs.Cuts.{Cuts}

-- both, if both are there
abbrev pub both_there : {V W : Type 0} → Option V → Option W → Option (V × W)
both_there (Some x) (Some y) = Some (x, y)
both_there _ _ = None

abbrev pub pair_cuts : {V W C D : Type 0} → Cuts V C → Cuts W D → Cuts (V × W) (C × D)
pair_cuts K L = record { meet = λ c w x low high. both_there (K.meet c.0 w x.0 low high) (L.meet c.1 w x.1 low high) }
