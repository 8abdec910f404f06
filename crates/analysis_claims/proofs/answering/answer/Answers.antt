use Rattle.std.proofs.Common.{◌≡◌, Some, ap, rules}
use Rattle.std.specs.Prelude.{option_map}
use Rattle.std.specs.Ordering.{nat_cmp}
use Rattle.std.specs.BTreeMap.{get}
use Rattle.fixpoint_theory.specs.Views.{listing}
use Rattle.analysis_claims.proofs.answering.answer.Goals as goal

pub tells_claim-requires-clause-fits : goal.tells_claim-requires-clause-fits
tells_claim-requires-clause-fits g c =
    let found : get nat_cmp c.args.table.now.blocks c.address.result ≡ Some c.in-Some.block.now = search rules in
    c.requires.fits c.address.result (listing (λ e. e) c.in-Some.block.now) (ap (option_map (listing (λ e. e))) found)
