use Rattle.std.proofs.Common.{◌≡◌, Bool, true, false, cond, refl}
use Rattle.std.specs.Prelude.{◌==◌, nat_lt}
use Rattle.std.specs.Ordering.{is_lt}
use Rattle.std.specs.declared.cmp.Ordering.{Ordering}
use Rattle.std.specs.declared.cmp.Ordering.TheVariants.{Less, Equal, Greater}
use Rattle.base_trait.specs.declared.uses.Stamp.TheVariants.{Entry, At}
use Rattle.base_trait.proofs.laws.stamps_are_in_order.Goals as goal

by_tests : (less same : Bool) → is_lt (cond less Less (cond same Equal Greater)) ≡ less
by_tests true same = refl
by_tests false true = refl
by_tests false false = refl

pub returns : goal.returns
returns c Entry Entry = refl
returns c Entry (At y) = refl
returns c (At x) Entry = refl
returns c (At x) (At y) = by_tests (nat_lt x y) (x == y)
