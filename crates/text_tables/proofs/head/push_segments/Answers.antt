use Rattle.text_tables.proofs.Segments.{segment_out}
use Rattle.text_tables.proofs.head.push_segments.Goals as goal

pub loop-i-preserved : goal.loop-i-preserved
loop-i-preserved c = segment_out c.args.image.now.segments c.loop-i.i c.base_at.result c.words_at.result _ _ _ c.loop-i.invariant c.in_ok-push_segment.ensures c.base_at.ensures c.words_at.ensures
