use Rattle.std.proofs.Common.{ℕ, suc, ◌++◌, ◌∙◌, take, drop, get_or, ap, sym, arith}
use Rattle.std.proofs.lemmas.List.{set_split}
use Rattle.std.proofs.Math.Seq.{drop-cons}
use Rattle.base_trait.specs.declared.uses.Stamp.TheVariants.{Entry}
use Rattle.semantics_values.specs.declared.value.Cell.{Cell}
use Rattle.semantics_values.specs.Values.{put_cell}
use Rattle.semantics_values.proofs.Lists.{put_here}
use Rattle.semantics_values.proofs.maps.place_of.Goals as goal

pub returns-then-cells-i-clause-listed : goal.returns-then-cells-i-clause-listed
returns-then-cells-i-clause-listed c =
    let cells = c.args.cells.now in
    let i = c.loop-i.i in
    let k = c.args.key in
    let d : ℕ × Cell = (0, record { v = 0; stamp = Entry }) in (
      omega arith,
      λ cell.
          let here = drop-cons cells i d (omega arith) in
          let put = c.loop-i.invariant cell ∙ ap (λ r. take i cells ++ r) (ap (put_cell k cell) here ∙ put_here k cell (get_or cells i d) (drop (suc i) cells) c.if-cells-i.true) in
          set_split cells i (k, cell) (omega arith) ∙ sym put,
    )
