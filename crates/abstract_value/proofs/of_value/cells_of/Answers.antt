use Rattle.std.proofs.Common.{◌≡◌, ℕ, ◌+◌, ◌≤◌, length, take, ap, sym, subst, ◌∙◌}
use Rattle.base_trait.specs.declared.uses.Stamp.TheVariants.{Entry}
use Rattle.abstract_map_laws.specs.declared.cell.AbstractCell.{AbstractCell}
use Rattle.semantics_values.specs.declared.value.Cell.{Cell as ConcreteCell}
use Rattle.abstract_map_laws.proofs.Joining.{take_all}
use Rattle.abstract_value_laws.specs.OfValues as of
use Rattle.abstract_value.proofs.Merging.{taken_pushed}
use Rattle.abstract_value.proofs.of_value.cells_of.Goals as goal

pub loop-key-preserved : goal.loop-key-preserved
loop-key-preserved g c =
    let b = g.B.Base.algebra in
    let ctx = c.args.ctx.now in
    let w = c.args.w in
    let i = c.loop-key.key-index in
    let cells = c.args.m.now.cells.items in
    let xs = c.deref-key-items.result.now in
    let whole : xs ≡ cells = c.deref-key-items.ensures.value in
    let none : ℕ × ConcreteCell = (0, record { v = 0; stamp = Entry }) in
    let f : ℕ × ConcreteCell → ℕ × AbstractCell g.row.B-Word.Denot g.row.B-Note.Denot = λ e. (e.0, of.cell_of b ctx w e.1) in
    taken_pushed f c.of_entry.result c.loop-key.cells.items c.in_ok-cells-2.cells.items xs i none c.loop-key-test.true (c.loop-key.invariant ∙ ap (λ l. of.cells_of b ctx w (take i l)) (sym whole)) c.in_ok-cells-2.ensures c.of_entry.ensures ∙ ap (λ l. of.cells_of b ctx w (take (i + 1) l)) whole

pub returns : goal.returns
returns g c =
    let cells = c.args.m.now.cells.items in
    let whole : c.deref-key-items.result.now ≡ cells = c.deref-key-items.ensures.value in
    c.loop-key.invariant ∙ ap (λ l. of.cells_of g.B.Base.algebra c.args.ctx.now c.args.w l) (take_all c.loop-key.key-index cells (subst (λ l. length l ≤ c.loop-key.key-index) whole c.loop-key-test.false))
