-- Laws of code.
use Rattle.std.specs.Prelude.{◌≤◌, length}
use Rattle.spec_ir.specs.Specification.{Spec, Fun}
use Rattle.eval_code.specs.Lowered.{lowered_fun}
use Rattle.eval_code.specs.Scopes.{InScope}
use Rattle.eval_code.specs.Sizes.{nodes_of, parts_of}
use Rattle.eval_code.specs.Valid.{IsValid}

-- The nodes of a function whose core term has its variables in scope read slots that were written before.
abbrev pub CodeIsValid : Type 0
CodeIsValid = (spec : Spec) (fun : Fun) → InScope (length fun.params) fun.core → IsValid (lowered_fun spec fun)

-- They are no more than the parts of its core term.
abbrev pub CodeIsSmall : Type 0
CodeIsSmall = (spec : Spec) (fun : Fun) → nodes_of (lowered_fun spec fun) ≤ parts_of fun.core
