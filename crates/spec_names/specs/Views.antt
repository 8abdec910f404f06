-- What was declared before, as plain data.
use Rattle.spec_names.specs.declared.items.Seen.{Seen}
use Rattle.spec_names.specs.Names as s

abbrev pub seen : Seen → s.Seen
seen x = record { types = x.types; cases = x.cases; funs = x.funs; decodes = x.decodes }
