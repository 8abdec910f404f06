use Rattle.std.proofs.Common.{◌≡◌, ◌+◌, ◌-◌, ◌<◌, ◌≤◌, length, drop, arith, ap, sym, subst, ◌∙◌, map, length-append, length-drop, length-take, rules}
use Rattle.std.proofs.lemmas.List.{take_rest}
use Rattle.base_trait.specs.Lists.{IsAscending}
use Rattle.abstract_cell_tree.specs.Entries.{Between}
use Rattle.abstract_cell_tree.proofs.Parting.{ascending_drop, ascending_front, part_left, part_right, slice_parts}
use Rattle.abstract_cell_tree.proofs.build.+last_of.Goals as goal

pub parting-below-requires-clause-order : goal.parting-below-requires-clause-order
parting-below-requires-clause-order g t c =
    let first = c.len.result - c.args.count in
    subst (λ l. IsAscending (map (λ e. e.0) l)) (sym (take_rest c.deref.result.now first)) (ascending_drop 0 first c.deref.result.now (subst (λ l. IsAscending (map (λ e. e.0) l)) (sym c.deref.ensures.value) c.requires.order))

pub last_of-requires-2 : goal.last_of-requires-2
last_of-requires-2 g t c κs within =
    let size : c.len.result ≡ length c.deref.result.now = c.len.ensures ∙ sym c.deref.ensures.len in
    let order = ascending_front 0 c.last_of.new.entries.items c.in_ok-right.right (subst (λ l. IsAscending (map (λ e. e.0) l)) c.in_ok-right.ensures.taken c.requires.order) in
    let left : c.parting-below.result.1 ≤ length c.last_of.new.entries.items = omega (
      arith,
      size,
      ap length c.deref.ensures.value,
      ap length c.in_ok-right.ensures.taken,
      length-append c.last_of.new.entries.items c.in_ok-right.right,
      c.in_ok-right.ensures.count,
      c.requires.within,
      c.parting-below.ensures.some_above,
      length-take (length c.deref.result.now - (c.len.result - c.args.count)) (drop (c.len.result - c.args.count) c.deref.result.now),
      length-drop (c.len.result - c.args.count) c.deref.result.now,
    ) in
    (search rules, (within, (order, (c.parting-below.ensures.some_below, left))))

pub fork-requires-clause-left : goal.fork-requires-clause-left
fork-requires-clause-left g t c =
    let size : c.len.result ≡ length c.deref.result.now = c.len.ensures ∙ sym c.deref.ensures.len in
    let few : c.args.count ≤ c.len.result = omega (arith, size, c.requires.within, ap length c.deref.ensures.value) in
    let within : c.parting-below.result.1 < c.args.count = omega (arith, size, few, c.parting-below.ensures.some_above, length-take (length c.deref.result.now - (c.len.result - c.args.count)) (drop (c.len.result - c.args.count) c.deref.result.now), length-drop (c.len.result - c.args.count) c.deref.result.now) in
    let parts = slice_parts c.args.entries.now.items c.last_of.new.entries.items c.last_of-2.new.entries.items c.in_ok-left.left c.in_ok-right.right c.deref.result.now c.args.count c.parting-below.result.1 c.len.result c.deref.ensures.value size few c.in_ok-right.ensures.taken c.in_ok-left.ensures.taken c.in_ok-left.ensures.count c.in_ok-right.ensures.count within in
    subst (λ l. Between c.parting-below.result.0.low c.parting-below.result.0.split l) (part_left c.args.entries.now.items c.last_of.new.entries.items c.last_of-2.new.entries.items c.in_ok-left.left c.in_ok-right.right c.deref.result.now c.args.count c.parting-below.result.1 c.len.result parts c.in_ok-left.ensures.count) c.parting-below.ensures.below

pub fork-requires-clause-right : goal.fork-requires-clause-right
fork-requires-clause-right g t c =
    let size : c.len.result ≡ length c.deref.result.now = c.len.ensures ∙ sym c.deref.ensures.len in
    let few : c.args.count ≤ c.len.result = omega (arith, size, c.requires.within, ap length c.deref.ensures.value) in
    let within : c.parting-below.result.1 < c.args.count = omega (arith, size, few, c.parting-below.ensures.some_above, length-take (length c.deref.result.now - (c.len.result - c.args.count)) (drop (c.len.result - c.args.count) c.deref.result.now), length-drop (c.len.result - c.args.count) c.deref.result.now) in
    let parts = slice_parts c.args.entries.now.items c.last_of.new.entries.items c.last_of-2.new.entries.items c.in_ok-left.left c.in_ok-right.right c.deref.result.now c.args.count c.parting-below.result.1 c.len.result c.deref.ensures.value size few c.in_ok-right.ensures.taken c.in_ok-left.ensures.taken c.in_ok-left.ensures.count c.in_ok-right.ensures.count within in
    subst (λ l. Between c.parting-below.result.0.split (c.parting-below.result.0.high + 1) l) (part_right c.args.entries.now.items c.last_of.new.entries.items c.last_of-2.new.entries.items c.in_ok-left.left c.in_ok-right.right c.deref.result.now c.args.count c.parting-below.result.1 c.len.result parts c.in_ok-left.ensures.count) c.parting-below.ensures.above
