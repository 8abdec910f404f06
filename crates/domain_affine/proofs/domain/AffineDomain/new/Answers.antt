use Rattle.std.proofs.Common.{rules}
use Rattle.spec_ir.specs.Views.{specification}
use Rattle.domain_affine_laws.proofs.Fields.{made_for}
use Rattle.domain_affine.proofs.domain.AffineDomain.new.Goals as goal

pub returns-clause-made : goal.returns-clause-made
returns-clause-made c = made_for _ (specification c.args.spec.now) c.requires.states (search rules)
