-- What tests of types and of widths say.
use Rattle.std.proofs.Common.{◌≡◌, ℕ, ◌<◌, ◌^◌, true, refl, ap, arith}
use Rattle.std.proofs.lemmas.Bool.Decides.{nat_tests}
use Rattle.spec_ir.specs.declared.ty.Ty.{Ty}
use Rattle.spec_ir.specs.declared.ty.Ty.TheVariants.{Bool as Flag, Word, Data as DataTy, Map as MapOf}
use Rattle.spec_ir.specs.Environment.{same_type}
use Rattle.spec_ir.specs.WellFormed.{is_width}
use Rattle.spec_patterns.specs.Faults.{fits}

pub same_types : (a b : Ty) → same_type a b ≡ true → a ≡ b
same_types Flag Flag h = refl
same_types (Word v) (Word w) h = ap Word (grind (arith, nat_tests))
same_types (DataTy v) (DataTy w) h = ap DataTy (grind (arith, nat_tests))
same_types (MapOf v) (MapOf w) h = ap MapOf (grind (arith, nat_tests))
same_types _ _ h = absurd cc

pub fits_width : (v w : ℕ) → fits v w ≡ true → is_width w ≡ true
fits_width v w h = grind (arith, nat_tests)

pub fits_below : (v w : ℕ) → fits v w ≡ true → v < 2 ^ w
fits_below v w h = grind (arith, nat_tests)
