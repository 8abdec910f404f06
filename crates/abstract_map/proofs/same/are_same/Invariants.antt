use Rattle.std.proofs.Common.{◌≡◌, drop, length}
use Rattle.base_trait.specs.Identity.{same_list}
use Rattle.abstract_map.specs.Same.{same_entry}
use Rattle.abstract_map.proofs.same.are_same.Given as goal

abbrev pub invariant-loop-place : goal.invariant-loop-place
invariant-loop-place g l = record {
  lengths : length l.cells ≡ length l.others;
  same : same_list (same_entry g.B.Word.PartialEq.eq g.B.Note.PartialEq.eq) (drop l.place l.cells) (drop l.place l.others) ≡ same_list (same_entry g.B.Word.PartialEq.eq g.B.Note.PartialEq.eq) l.cells l.others;
}
