use Rattle.std.proofs.Common.{◌≡◌, drop, length, map}
use Rattle.abstract_value_laws.specs.Abs.{parts}
use Rattle.abstract_value_laws.specs.Calls.{absorbs_parts}
use Rattle.abstract_value_laws.specs.Fits.{PartsFit}
use Rattle.abstract_value.specs.View.{abs}
use Rattle.domain_product_laws.specs.Calls.{mapped_parts}
use Rattle.domain_product_states.specs.Leaves.{AreLeaves}
use Rattle.domain_product_states.proofs.sides.absorbs_values.Given as goal

abbrev pub invariant-loop-i : goal.invariant-loop-i
invariant-loop-i g l =
    let B = g.S.To.Base.algebra in
    let x = mapped_parts g.S.Sides.old_word_of g.S.Sides.old_note_of (parts (map abs (drop l.i l.olds))) in
    let y = mapped_parts g.S.Sides.new_word_of g.S.Sides.new_note_of (parts (map abs (drop l.i l.news))) in
    record {
      lengths : length l.olds ≡ length l.news;
      leaves : AreLeaves (parts (map abs (drop l.i l.olds)));
      whole : absorbs_parts B l.ctx x y ≡ absorbs_parts B l.ctx (mapped_parts g.S.Sides.old_word_of g.S.Sides.old_note_of (parts (map abs l.olds))) (mapped_parts g.S.Sides.new_word_of g.S.Sides.new_note_of (parts (map abs l.news)));
      first : PartsFit B l.ctx g.S.To.Base.CAP x;
      second : PartsFit B l.ctx g.S.To.Base.CAP y;
    }
