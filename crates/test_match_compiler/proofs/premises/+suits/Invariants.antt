use Rattle.std.proofs.Common.{◌≡◌, map, drop}
use Rattle.spec_match_compiler.specs.Patterns.{pats}
use Rattle.test_match_compiler.specs.Premises.{patterns_fit}
use Rattle.spec_match_compiler.specs.Views.{types, pat}
use Rattle.test_match_compiler.proofs.premises.+suits.Given as goal

abbrev pub invariant-all_suit-loop-i : goal.invariant-all_suit-loop-i
invariant-all_suit-loop-i l = patterns_fit (types l.sig) (drop l.i l.shapes) (pats (map pat (drop l.i l.parts))) ≡ patterns_fit (types l.sig) l.shapes (pats (map pat l.parts))
