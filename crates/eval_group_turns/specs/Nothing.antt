-- A specification that declares nothing.
use Rattle.std.specs.Prelude.{[], None}
use Rattle.spec_ir.specs.Specification.{Spec}

abbrev pub nothing : Spec
nothing = record { datas = []; maps = []; funs = []; rows = []; machine = None }
