use Rattle.std.proofs.Common.{◌≡◌, take, map, refl}
use Rattle.std.proofs.lemmas.List.{take-map}
use Rattle.spec_ir.proofs.scope.Scope.leave.Goals as goal

pub returns : goal.returns
returns c = rw (c.truncate.ensures.items, ← c.self.view_is, take-map) refl
