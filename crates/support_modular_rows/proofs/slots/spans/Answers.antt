use Rattle.std.proofs.Common.{◌≡◌, ◌<◌, ◌+◌, ◌*◌, ◌%◌, ◌^◌, get_or, [], subst, sym}
use Rattle.support_modular_rows.specs.Reduction.{divisor_of}
use Rattle.support_modular_rows.proofs.Leads.{down, up, zero_more, not_spanned, divisor_pos}
use Rattle.support_modular_rows.proofs.slots.spans.Goals as goal

pub canceller-requires : goal.canceller-requires
canceller-requires c = subst (λ d. 0 < d) (sym c.divisor-d.ensures.value) (divisor_pos (get_or (get_or c.args.rows.now c.loop-i.i []) c.loop-i.i 0))

pub returns-in_default : goal.returns-in_default
returns-in_default c =
    let bad : get_or c.loop-i.x c.loop-i.i 0 % divisor_of (get_or (get_or c.args.rows.now c.loop-i.i []) c.loop-i.i 0) ≡ 0 → ⊥ =
    subst (λ d. get_or c.loop-i.x c.loop-i.i 0 % d ≡ 0 → ⊥) c.divisor-d.ensures.value c.in_default.ensures in
    (λ h. not_spanned c.args.rows.now c.loop-i.i c.loop-i.x c.requires.reduced c.loop-i-test.true bad (c.loop-i.invariant.to h))

pub loop-i-preserved : goal.loop-i-preserved
loop-i-preserved c =
    let z : (get_or c.loop-i.x c.loop-i.i 0 + c.in-Some.quotient * divisor_of (get_or (get_or c.args.rows.now c.loop-i.i []) c.loop-i.i 0)) % 2 ^ 32 ≡ 0 =
    subst (λ d. (get_or c.loop-i.x c.loop-i.i 0 + c.in-Some.quotient * d) % 2 ^ 32 ≡ 0) c.divisor-d.ensures.value c.in-Some.ensures in
    record {
      to = λ h. down c.args.rows.now c.loop-i.i c.in-Some.quotient c.loop-i.x c.add_multiple-x.result c.requires.reduced c.requires.few c.loop-i-test.true c.add_multiple-x.ensures z (c.loop-i.invariant.to h);
      from = λ h. c.loop-i.invariant.from (up c.args.rows.now c.loop-i.i c.in-Some.quotient c.loop-i.x c.add_multiple-x.result c.requires.few c.loop-i-test.true c.add_multiple-x.ensures h);
      zeros = zero_more c.args.rows.now c.loop-i.i c.in-Some.quotient c.loop-i.x c.add_multiple-x.result c.requires.reduced c.requires.few c.loop-i-test.true c.add_multiple-x.ensures z c.loop-i.invariant.zeros;
    }
