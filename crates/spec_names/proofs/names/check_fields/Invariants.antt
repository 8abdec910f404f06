use Rattle.std.proofs.Common.{◌≡◌, [], drop}
use Rattle.spec_names.specs.Names.{fields_fault}
use Rattle.spec_names.proofs.names.check_fields.Given as goal

abbrev pub invariant-loop-f : goal.invariant-loop-f
invariant-loop-f l = fields_fault [] l.fields ≡ fields_fault l.before (drop l.f-index l.fields)
