use Rattle.std.specs.Prelude.{IfSome}
use Rattle.test_case_lines.proofs.words.set.Given as goal

abbrev pub invariant-loop-text : goal.invariant-loop-text
invariant-loop-text g l =
    (goal.iterator-loop-text g).can_next l.text-iterator ×
    (goal.iterator-loop-text g).is_finite l.text-iterator ×
    IfSome l.found (λ x. g.B.Base.algebra.words.fits l.ctx l.w x)
