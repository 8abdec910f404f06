use Rattle.std.proofs.Common.{ap, sym, ◌∙◌, length}
use Rattle.domain_affine_laws.specs.Tracked as calls
use Rattle.domain_affine.proofs.Lists.{count_is}
use Rattle.domain_affine.proofs.tracked.count_of.Goals as goal

pub returns-then-keys-le64-clause-value : goal.returns-then-keys-le64-clause-value
returns-then-keys-le64-clause-value c =
    count_is c.in-Map._map c.in-Map.keys c.in-Map.width c.in-Map._default c.if-width-eq32.true c.if-keys-le64.true ∙ ap (λ f. length (calls.field_cells f)) (sym c.in-Map.is)
