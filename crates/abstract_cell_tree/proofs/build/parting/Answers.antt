use Rattle.std.proofs.Common.{◌≡◌, ◌+◌, ◌-◌, ◌<◌, ◌≤◌, get_or, length, take, drop, arith, sym, subst}
use Rattle.abstract_cell_tree.specs.Entries.{Between, place_of}
use Rattle.abstract_cell_tree.proofs.Parting.{first_less, parted, some_other, tight}
use Rattle.abstract_cell_tree.proofs.Beside.{wider}
use Rattle.abstract_cell_tree.proofs.build.parting.Goals as goal

pub span_of-span-requires : goal.span_of-span-requires
span_of-span-requires g c =
    let es = c.args.entries.now in
    let n = length es - 1 in
    let size : length es ≡ n + 1 = omega (arith, c.requires.two) in
    let two : 1 ≤ n = omega (arith, c.requires.two) in
    record { order = first_less 0 es c.index-entries-0.result c.index-entries-entries.result n c.requires.order size two }

pub returns-clause-some_above : goal.returns-clause-some_above
returns-clause-some_above g c =
    let es = c.args.entries.now in
    let split = c.span_of-span.result.split in
    let n = length es - 1 in
    let size : length es ≡ n + 1 = omega (arith, c.requires.two) in
    subst (λ p. p < length es) (sym c.place_of-below.ensures) (some_other split es c.index-entries-entries.result n size c.span_of-span.ensures.right)

pub returns-clause-below : goal.returns-clause-below
returns-clause-below g c =
    let es = c.args.entries.now in
    let span = c.span_of-span.result in
    let n = length es - 1 in
    let size : length es ≡ n + 1 = omega (arith, c.requires.two) in
    let last = (get_or es n c.index-entries-entries.result).0 in
    let first = (get_or es 0 c.index-entries-0.result).0 in
    let from : first ≤ span.split = omega (arith, c.span_of-span.ensures.left) in
    let to : span.split ≤ last + 1 = omega (arith, c.span_of-span.ensures.right) in
    let low : span.low ≤ first = c.span_of-span.ensures.low in
    let same : span.split ≤ span.split = omega arith in
    let parts = parted first (last + 1) span.split es from to (tight 0 es c.index-entries-0.result c.index-entries-entries.result n c.requires.order size) in
    subst (λ p. Between span.low span.split (take p es)) (sym c.place_of-below.ensures) (wider first span.split span.low span.split (take (place_of span.split es) es) low same parts.0)

pub returns-clause-above : goal.returns-clause-above
returns-clause-above g c =
    let es = c.args.entries.now in
    let span = c.span_of-span.result in
    let n = length es - 1 in
    let size : length es ≡ n + 1 = omega (arith, c.requires.two) in
    let last = (get_or es n c.index-entries-entries.result).0 in
    let first = (get_or es 0 c.index-entries-0.result).0 in
    let from : first ≤ span.split = omega (arith, c.span_of-span.ensures.left) in
    let to : span.split ≤ last + 1 = omega (arith, c.span_of-span.ensures.right) in
    let high : last + 1 ≤ span.high + 1 = omega (arith, c.span_of-span.ensures.high) in
    let same : span.split ≤ span.split = omega arith in
    let parts = parted first (last + 1) span.split es from to (tight 0 es c.index-entries-0.result c.index-entries-entries.result n c.requires.order size) in
    subst (λ p. Between span.split (span.high + 1) (drop p es)) (sym c.place_of-below.ensures) (wider span.split (last + 1) span.split (span.high + 1) (drop (place_of span.split es) es) same high parts.1)
