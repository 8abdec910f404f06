use Rattle.std.proofs.Common.{◌≡◌, ◌≤◌, ◌+◌, take, fold}
use Rattle.program_advice.specs.Places.{behind, first_place}
use Rattle.program_advice.proofs.places.place_behind.Given as goal

-- the place behind the bytes so far; a byte makes each of its numbers greater by 1 at most
abbrev pub invariant-loop-byte : goal.invariant-loop-byte
invariant-loop-byte l = (l.place ≡ fold behind first_place (take l.byte-index l.front)) × ((l.place.line ≤ l.byte-index + 1) × (l.place.column ≤ l.byte-index + 1))
