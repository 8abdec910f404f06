use Rattle.std.proofs.Common.{◌≤◌, ◌-◌, drop, length}
use Rattle.syntax_lexer.specs.Source.{Read}
use Rattle.syntax_lexer.proofs.scan.lex.Given as goal

abbrev pub invariant-loop-at : goal.invariant-loop-at
invariant-loop-at l = record {
  read : Read l.source l.tokens.items l.at (drop l.at l.source);
  within : l.at ≤ length l.source;
}

abbrev pub decreases-loop-at : goal.decreases-loop-at
decreases-loop-at l = length l.initial.source - l.at
