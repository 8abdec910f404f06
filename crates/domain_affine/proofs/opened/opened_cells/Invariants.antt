use Rattle.std.proofs.Common.{◌≡◌, ◌++◌, ◌-◌, map}
use Rattle.std.specs.List.{range_with_len}
use Rattle.semantics_values.specs.declared.entry.KeyAt.TheVariants.{At}
use Rattle.domain_affine_laws.specs.Opened.{opened_cells}
use Rattle.domain_affine.proofs.opened.opened_cells.Given as goal

abbrev pub invariant-loop-k : goal.invariant-loop-k
invariant-loop-k l =
    l.out.items ++ opened_cells l.ctx l.words l.n (map (λ j. At j) (range_with_len l.k (l.keys - l.k)))
    ≡ opened_cells l.ctx l.words l.n (map (λ j. At j) (range_with_len 0 l.keys))
