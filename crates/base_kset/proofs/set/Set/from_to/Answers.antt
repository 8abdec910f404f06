use Rattle.std.proofs.Common.{◌+◌, ◌∷◌, [], ◌++◌, ap, sym, subst, ◌∙◌, rules, arith, length}
use Rattle.std.proofs.lemmas.List.FromFn.{length-range_with_len}
use Rattle.base_trait.specs.Lists.{IsAscending}
use Rattle.base_trait.proofs.Lists.{ascending_lower, range_ascends}
use Rattle.std.specs.List.{range_with_len}
use Rattle.base_kset.specs.Adding.{range_more}
use Rattle.base_kset.proofs.set.Set.from_to.Goals as goal

pub push-requires : goal.push-requires
push-requires g c =
    let filled = ap length c.loop-i.invariant ∙ length-range_with_len c.args.low c.loop-i.i in
    (search rules, omega (arith, filled))

pub loop-i-preserved : goal.loop-i-preserved
loop-i-preserved g c = c.push.ensures.items ∙ ap (λ l. l ++ (c.args.low + c.loop-i.i) ∷ []) c.loop-i.invariant ∙ sym (range_more c.args.low c.loop-i.i)

pub invariant_of-result : goal.invariant_of-result
invariant_of-result g c =
    let numbers = range_with_len c.args.low c.loop-i.i in
    subst IsAscending (sym c.loop-i.invariant) (ascending_lower c.args.low 0 numbers (omega arith) (range_ascends c.args.low c.loop-i.i))
