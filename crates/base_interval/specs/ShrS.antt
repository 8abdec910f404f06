-- Right shifts, with copies of the sign bit.
use Rattle.std.proofs.Common.{◌≡◌, ℕ, ◌*◌, ◌^◌, ◌<◌, ◌≤◌, if◌then◌else◌, arith, sym, subst}
use Rattle.std.specs.Prelude.{not, ◌&&◌}
use Rattle.std.proofs.lemmas.Bool.Decides.{nat_tests}
use Rattle.word_operations.specs.Op2.{op2_of}
use Rattle.word_operations.specs.declared.kinds.BinaryOperation.TheVariants.{ShrS}
use Rattle.word_operations.proofs.Bounds.{shr_s_mono}
use Rattle.word_operations.proofs.Fits.{op2_of_fits}
use Rattle.base_trait.proofs.Tests.{at_choice}
use Rattle.base_interval.specs.Range.{from_to, is_one, all}
use Rattle.base_interval.specs.Signs.{crosses}
use Rattle.base_interval.specs.Sound.{HoldsWord, IsSound, any_result, low_of_right}
use Rattle.base_interval.specs.declared.range.Range.{Range}

-- by one number, from end to end, where both have one sign bit; else any
abbrev pub shr_s_of : ℕ → Range → Range → Range
shr_s_of w x y = if is_one y && not (crosses w x) then from_to (op2_of ShrS w x.lo y.lo) (op2_of ShrS w x.hi y.lo) else all w

pub shr_s_sound : IsSound ShrS shr_s_of
shr_s_sound w m n x y h =
    let low = h.left_low in let high = h.left_high in let fits = h.left_fits in
    let low_too = h.right_low in let high_too = h.right_high in
    at_choice (λ r. HoldsWord w r (op2_of ShrS w m n)) (is_one y && not (crosses w x)) (from_to (op2_of ShrS w x.lo y.lo) (op2_of ShrS w x.hi y.lo)) (all w)
    (λ e.
    let same : y.lo ≡ n = grind (arith, nat_tests) in
    let sign : 2 ^ w ≤ 2 * x.hi → 2 ^ w ≤ 2 * x.lo = λ top. grind (arith, nat_tests) in
    subst (λ k. HoldsWord w (from_to (op2_of ShrS w x.lo k) (op2_of ShrS w x.hi k)) (op2_of ShrS w m n)) (sym same) (
      (
        shr_s_mono w x.lo m n low (omega arith) (λ top. sign (omega arith)),
        shr_s_mono w m x.hi n high fits (λ top. let first = sign top in omega arith),
      ),
      op2_of_fits ShrS w x.hi n h.width fits (subst (λ k. k < 2 ^ w) same (low_of_right w m n x y h)),
    ))
    (λ e. any_result ShrS w m n x y h)
