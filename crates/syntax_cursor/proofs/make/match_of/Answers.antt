use Rattle.std.proofs.Common.{refl}
use Rattle.syntax_cursor.proofs.Arms.{match_seen}
use Rattle.syntax_cursor.proofs.make.match_of.Goals as goal

pub returns : goal.returns
returns c = rw (match_seen c.in-Ok.x c.args.arms c.hull.result, c.in-Ok.ensures.ok, c.hull.ensures) refl
