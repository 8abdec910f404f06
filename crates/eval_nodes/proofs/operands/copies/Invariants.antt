use Rattle.std.proofs.Common.{◌≡◌, ◌++◌, drop, map, slice_get}
use Rattle.std.specs.Prelude.{All, option_map}
use Rattle.semantics_laws.specs.Places.{all_of}
use Rattle.abstract_value_laws.specs.Fits.{Fits}
use Rattle.abstract_value.specs.View.{abs}
use Rattle.eval_nodes.proofs.operands.copies.Given as goal

-- what is left comes behind what is out
abbrev pub invariant-loop-i : goal.invariant-loop-i
invariant-loop-i g l =
    let at = slice_get (map abs l.frame) in
    record {
      whole : option_map (λ ys. map abs l.out.items ++ ys) (all_of at (drop l.i l.slots)) ≡ all_of at l.slots;
      fits : All (λ v. Fits g.B.Base.algebra l.ctx g.B.Base.CAP (abs v)) l.out.items;
    }
