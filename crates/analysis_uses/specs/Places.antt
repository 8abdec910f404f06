-- Where a use goes in a list of uses.
use Rattle.std.specs.Prelude.{ℕ, set, slice_index_or, List, [], Result, Ok, Err}
use Rattle.std.specs.List.{insert}
use Rattle.base_trait.specs.Uses.{Seen}
use Rattle.base_trait.specs.declared.uses.Stamp.{Stamp}
use Rattle.analysis_transfer_laws.specs.Uses.{either_stamp, with_stamps}

-- a use with more stamps
abbrev pub with_more : Seen → List Stamp → Seen
with_more v ss = record { of_map = v.of_map; key = v.key; stamps = either_stamp ss v.stamps }

-- the uses with one more: its stamps go to the use at a place, or it goes before a place
abbrev pub put : Seen → List Seen → Result ℕ ℕ → List Seen
put u us (Ok i) = set us i (with_more (slice_index_or us i u) u.stamps)
put u us (Err i) = insert us i (with_stamps u [])
