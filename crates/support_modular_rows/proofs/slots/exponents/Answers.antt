use Rattle.std.proofs.Common.{◌≡◌, ◌≤◌, ◌^◌, ◌∙◌, ap, sym, get_or, [], arith}
use Rattle.support_modular_rows.specs.Reduction.{divisor_of}
use Rattle.support_modular_rows.proofs.Ranks.{exponents_more}
use Rattle.support_modular_rows.proofs.slots.exponents.Goals as goal

pub exponent-requires : goal.exponent-requires
exponent-requires c =
    let lead = c.requires.reduced.leads c.loop-c.c c.loop-c-test.true in
    (lead.0, lead.1, c.divisor.ensures.value ∙ lead.2)

pub loop-c-preserved : goal.loop-c-preserved
loop-c-preserved c =
    let small : c.from-total.result ≤ 32 = omega (arith, c.exponent.ensures.limit) in
    let is : divisor_of (get_or (get_or c.args.rows.now c.loop-c.c []) c.loop-c.c 0) ≡ 2 ^ c.from-total.result =
    sym c.divisor.ensures.value ∙ c.exponent.ensures.value ∙ ap (λ z. 2 ^ z) (sym c.from-total.ensures) in
    record { few = omega (arith, c.loop-c.invariant.few); all = exponents_more c.args.rows.now c.loop-c.c c.loop-c.total c.from-total.result small is c.loop-c.invariant.all }
