use Rattle.std.proofs.Common.{◌≡◌, ◌+◌, ◌*◌, ◌%◌, ◌/◌, ◌^◌, get_or, [], length, subst, subst₂, refl, sym, arith}
use Rattle.support_modular_rows.specs.Reduction.{divisor_of}
use Rattle.support_modular_rows.proofs.Growth.{reduce, grow, absorb_starts, absorb_ends, absorb_same, Absorbing}
use Rattle.support_modular_rows.proofs.slots.absorb.Goals as goal
use Rattle.support_modular_rows.proofs.slots.absorb.Goals.{in-Some, in_default}

pub loop-i-init : goal.loop-i-init
loop-i-init c = absorb_starts (length c.args.rows.now) c.requires.few c.args.row.now c.args.rows.now refl c.requires.reduced

pub loop-i-preserved : goal.loop-i-preserved
loop-i-preserved c =
    elim c.match-canceller.branch [
      | in-Some w ↦
          let z : (get_or c.loop-i.x c.loop-i.i 0 + w.in-Some.quotient * divisor_of (get_or (get_or c.loop-i.rows c.loop-i.i []) c.loop-i.i 0)) % 2 ^ 32 ≡ 0 =
          subst (λ d. (get_or c.loop-i.x c.loop-i.i 0 + w.in-Some.quotient * d) % 2 ^ 32 ≡ 0) c.divisor-d.ensures.value w.in-Some.ensures in
          subst₂ (λ rs x. Absorbing (length c.args.rows.now) c.args.row.now c.args.rows.now rs x (c.loop-i.i + 1)) (sym w.rows-is) (sym w.x-is)
          (reduce (length c.args.rows.now) c.requires.few c.args.row.now c.args.rows.now c.loop-i.rows c.loop-i.x w.add_multiple-x.result c.loop-i.i w.in-Some.quotient
          c.loop-i-test.true c.loop-i.invariant w.add_multiple-x.ensures z)
      | in_default w ↦
          let bad : get_or c.loop-i.x c.loop-i.i 0 % divisor_of (get_or (get_or c.loop-i.rows c.loop-i.i []) c.loop-i.i 0) ≡ 0 → ⊥ =
          subst (λ d. get_or c.loop-i.x c.loop-i.i 0 % d ≡ 0 → ⊥) c.divisor-d.ensures.value w.in_default.ensures in
          let q : (w.negated_quotient-quotient.result + divisor_of (get_or (get_or c.loop-i.rows c.loop-i.i []) c.loop-i.i 0) / divisor_of (get_or w.normalise-leading.result c.loop-i.i 0)) % 2 ^ 32 ≡ 0 =
          subst₂ (λ d e. (w.negated_quotient-quotient.result + d / e) % 2 ^ 32 ≡ 0) c.divisor-d.ensures.value w.divisor.ensures.value w.negated_quotient-quotient.ensures in
          subst₂ (λ rs x. Absorbing (length c.args.rows.now) c.args.row.now c.args.rows.now rs x (c.loop-i.i + 1)) (sym w.rows-is) (sym w.x-is)
          (grow (length c.args.rows.now) c.requires.few c.args.row.now c.args.rows.now c.loop-i.rows c.loop-i.x w.add_multiple-x-in_default.result w.normalise-leading.result c.loop-i.i w.negated_quotient-quotient.result
          c.loop-i-test.true c.loop-i.invariant bad w.normalise-leading.ensures w.add_multiple-x-in_default.ensures q)
    ]

pub returns-clause-reduced : goal.returns-clause-reduced
returns-clause-reduced c =
    let last : c.loop-i.i ≡ length c.args.rows.now = omega arith in
    absorb_ends (length c.args.rows.now) c.requires.few c.args.row.now c.args.rows.now c.loop-i.rows c.loop-i.x
    (subst (λ k. Absorbing (length c.args.rows.now) c.args.row.now c.args.rows.now c.loop-i.rows c.loop-i.x k) last c.loop-i.invariant)

pub returns-clause-span : goal.returns-clause-span
returns-clause-span c =
    let last : c.loop-i.i ≡ length c.args.rows.now = omega arith in
    absorb_same (length c.args.rows.now) c.requires.few c.args.row.now c.args.rows.now c.loop-i.rows c.loop-i.x
    (subst (λ k. Absorbing (length c.args.rows.now) c.args.row.now c.args.rows.now c.loop-i.rows c.loop-i.x k) last c.loop-i.invariant)
