use Rattle.std.proofs.Common.{◌≡◌, ◌<◌, ◌%◌, ◌/◌, ◌^◌, [], get_or, sym, subst}
use Rattle.support_modular_rows.specs.Multiples.{AreLeastMultiples}
use Rattle.support_modular_rows.proofs.Multiples.{no_other, no_quotient, quotient_least}
use Rattle.support_modular_rows.proofs.slots.multiple.Goals as goal

pub returns-then-not-others_are_zero-clause-none : goal.returns-then-not-others_are_zero-clause-none
returns-then-not-others_are_zero-clause-none c =
    let other = c.if-not-others_are_zero.ensures in
    no_other c.args.rows.now c.args.column c.requires.reduced c.requires.column other.0 other.1 other.2 other.3 other.4

pub returns-then-number-first-ne0-clause-none : goal.returns-then-number-first-ne0-clause-none
returns-then-number-first-ne0-clause-none c =
    no_quotient c.args.rows.now c.args.column c.requires.reduced c.requires.column c.if-first-eq0.false
    (λ e. c.if-number-first-ne0.true (subst (λ n. n % get_or (get_or c.args.rows.now 0 []) 0 0 ≡ 0) (sym c.first_number-number.ensures.value) e))

pub returns-clause-some : goal.returns-clause-some
returns-clause-some c =
    let is = c.first_number-number.ensures.value in
    subst (λ n. AreLeastMultiples c.args.rows.now c.args.column (n / get_or (get_or c.args.rows.now 0 []) 0 0)) (sym is)
    (quotient_least c.args.rows.now c.args.column c.requires.reduced c.requires.column c.if-not-others_are_zero.ensures c.if-first-eq0.false
    (subst (λ n. n < 2 ^ 32) is c.first_number-number.ensures.below)
    (subst (λ n. n % get_or (get_or c.args.rows.now 0 []) 0 0 ≡ 0) is c.if-number-first-ne0.false))
