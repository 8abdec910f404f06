use Rattle.std.proofs.Common.{◌≡◌, ◌++◌, length, map}
use Rattle.std.specs.List.{zip}
use Rattle.std.specs.Vec.Iter.{into_iter_items, into_iter_len}
use Rattle.spec_match_compiler.specs.Views.{pat}
use Rattle.spec_ir.specs.Views.{term}
use Rattle.spec_term_forms.proofs.branches.pair_arms.Given as goal

abbrev pub invariant-loop-pattern : goal.invariant-loop-pattern
invariant-loop-pattern l = record {
  pairs : zip (map pat l.fn.patterns.items) (map term l.fn.bodies.items)
      ≡ map (λ a. (pat a.0, term a.1)) l.arms.items ++ zip (map pat (into_iter_items l.pattern-iterator)) (map term (into_iter_items l.bodies));
  counts : into_iter_len l.bodies ≡ length (into_iter_items l.bodies);
}
