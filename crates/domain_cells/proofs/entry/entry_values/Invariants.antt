use Rattle.std.proofs.Common.{◌≡◌, ◌+◌, drop, map}
use Rattle.abstract_value_laws.specs.Abs.{parts_onto}
use Rattle.domain_laws.specs.Entry.{entry_values}
use Rattle.abstract_value.specs.View.{abs}
use Rattle.domain_cells.proofs.entry.entry_values.Given as goal

abbrev pub invariant-loop-i : goal.invariant-loop-i
invariant-loop-i g l =
    parts_onto (map abs l.out.items) (entry_values g.B.Base.algebra l.ctx g.B.Base.CAP l.lines (l.i + 1) (drop l.i l.fields)) ≡ entry_values g.B.Base.algebra l.ctx g.B.Base.CAP l.lines 1 l.fields
