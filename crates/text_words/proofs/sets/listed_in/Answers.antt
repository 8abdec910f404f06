use Rattle.std.proofs.Common.{sym}
use Rattle.std.specs.Option.{option_and_then, option_copied}
use Rattle.base_kset.specs.Sets.{bounded}
use Rattle.text_words.specs.Reading.{numbers_in}
use Rattle.text_words.proofs.SetsGrown.{set_more}
use Rattle.text_words.proofs.sets.listed_in.Goals as goal

pub loop-left-preserved : goal.loop-left-preserved
loop-left-preserved g c =
    let so_far = rw c.in-Some-left.is at c.loop-left.invariant.value in
    record {
      value = rw c.in_ok-set-2.ensures.value
          (set_more g.row.K (option_and_then (bounded g.row.K) (numbers_in c.args.w c.args.text.now)) c.args.w c.loop-left.last c.in-Some-next_number.number c.loop-left.set
          c.in-Some-left.rest.now c.first_piece-in-Some-left.result.0.now (option_copied c.first_piece-in-Some-left.result.1)
          c.first_piece-in-Some-left.ensures.pieces (sym c.in-Some-next_number.ensures.value) so_far);
      fits = c.in_ok-set-2.ensures.fits;
      greatest = c.in_ok-set-2.ensures.greatest;
    }
