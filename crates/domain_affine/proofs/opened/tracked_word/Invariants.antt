use Rattle.std.proofs.Common.{◌≡◌, drop}
use Rattle.domain_affine_laws.specs.Opened.{tracked_word}
use Rattle.domain_affine.proofs.opened.tracked_word.Given as goal

abbrev pub invariant-loop-i : goal.invariant-loop-i
invariant-loop-i l = tracked_word l.cells l.words l.n l.key ≡ tracked_word (drop l.i l.cells) (drop l.i l.words) l.n l.key
