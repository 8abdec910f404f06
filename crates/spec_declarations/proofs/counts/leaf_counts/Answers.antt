use Rattle.std.proofs.Common.{◌≡◌, ◌+◌, ◌<◌, false, not, cond, ap, subst, sym, arith, rules}
use Rattle.spec_declarations.specs.Counts.{uncounted}
use Rattle.spec_declarations.proofs.Rounds.{measure_falls}
use Rattle.spec_declarations.proofs.counts.leaf_counts.Goals as goal

pub loop-is_done-smaller : goal.loop-is_done-smaller
loop-is_done-smaller c =
    let old = uncounted c.loop-is_done.counts.items in
    let new = uncounted c.round-is_done.new.counts.items in
    let added = c.round-is_done.result in
    let said = c.round-is_done.ensures in
    let going : c.loop-is_done.is_done ≡ false = search rules in
    let fell = measure_falls old new added said.more (λ (e : added ≡ false). omega (arith, ap uncounted (said.same e))) in
    subst (λ b. new + cond (not added) 0 1 < old + cond b 0 1) (sym going) fell
