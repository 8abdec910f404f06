use Rattle.std.proofs.Common.{◌≡◌, ◌++◌, drop}
use Rattle.spec_ir.specs.Views.{specification}
use Rattle.code_image.specs.Image.{code_at}
use Rattle.code_image.specs.Listing.{lines}
use Rattle.code_image.proofs.listing.listing_text.Given as goal

abbrev pub invariant-loop-address : goal.invariant-loop-address
invariant-loop-address l = lines (specification l.spec) (code_at l.image) l.address-items ≡ l.out.items ++ lines (specification l.spec) (code_at l.image) (drop l.address-index l.address-items)
