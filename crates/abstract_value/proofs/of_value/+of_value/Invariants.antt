use Rattle.std.proofs.Common.{◌≡◌, map, drop, ◌+◌, ◌*◌}
use Rattle.spec_ir.specs.Views.{specification}
use Rattle.semantics_values.specs.Types.{environment_of}
use Rattle.semantics_values.specs.Values.{vals}
use Rattle.semantics_values.specs.Views.{val}
use Rattle.abstract_value_laws.specs.Abs.{parts_onto}
use Rattle.abstract_value_laws.specs.OfValues.{ValuesFit, of_values}
use Rattle.abstract_value.specs.View.{abs}
use Rattle.abstract_value.proofs.of_value.+of_value.Given as goal

abbrev pub invariant-of_values-loop-value : goal.invariant-of_values-loop-value
invariant-of_values-loop-value g l =
    let env = environment_of (specification l.spec) in
    let rest = vals (map val (drop l.value-index l.values)) in
    record {
      whole : parts_onto (map abs l.out.items) (of_values g.B.Base.algebra l.ctx g.B.Base.CAP env rest) ≡ of_values g.B.Base.algebra l.ctx g.B.Base.CAP env (vals (map val l.values));
      fits : ValuesFit env rest;
    }

abbrev pub decreases-of_value : goal.decreases-of_value
decreases-of_value g l = 2 * goal.size-of_value g l

abbrev pub decreases-of_values : goal.decreases-of_values
decreases-of_values g l = 2 * goal.size-of_values g l + 1
