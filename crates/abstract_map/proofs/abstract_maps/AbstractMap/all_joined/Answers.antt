use Rattle.std.proofs.Common.{◌≡◌, ◌-◌, length, get_or, take, drop, sym, ap, subst, cond}
use Rattle.std.specs.Prelude.{not}
use Rattle.word_operations.specs.Width.{IsWidth}
use Rattle.abstract_map_laws.specs.Calls.{access_of}
use Rattle.abstract_map_laws.specs.Cells.{CellFits, join_cells}
use Rattle.abstract_map_laws.specs.Keys.{some}
use Rattle.abstract_map.proofs.Whole.{if_ok, parted, read_is}
use Rattle.abstract_map.proofs.abstract_maps.AbstractMap.all_joined.Goals as goal

pub joined_if-requires-clause-width : goal.joined_if-requires-clause-width
joined_if-requires-clause-width g c =
    let width = ap (λ m. m.width) c.self.view_is in
    subst (λ w. IsWidth w) (sym width) c.requires.map.width

pub joined_if-requires-clause-old : goal.joined_if-requires-clause-old
joined_if-requires-clause-old g c =
    let B = g.B.Base.algebra in
    let ctx = c.args.ctx.now in
    let width = ap (λ m. m.width) c.self.view_is in
    subst (λ w. CellFits B ctx w c.in_ok-cell-in-len1-up.cell) (sym width) c.in_ok-cell-in-len1-up.ensures.fits

pub joined_if-requires-clause-new : goal.joined_if-requires-clause-new
joined_if-requires-clause-new g c =
    let B = g.B.Base.algebra in
    let ctx = c.args.ctx.now in
    subst (λ t. CellFits B ctx t.width t.rest) (sym c.self.view_is) c.requires.map.cells.0

pub returns-in_ok-cell-in-len1-up-clause-value : goal.returns-in_ok-cell-in-len1-up-clause-value
returns-in_ok-cell-in-len1-up-clause-value g c =
    let m = c.args.self.now in
    let ks = c.args.listed.now in
    let found = c.in_ok-cell-in-len1-up.cell in
    if_ok (λ r. r ≡ cond (not c.args.all_listed) (join_cells g.B.Base.algebra c.args.ctx.now c.self.inside.width found c.self.inside.rest) found) (λ r. r ≡ access_of g.B.Base.algebra c.args.ctx.now m (some ks c.args.all_listed)) c.joined_if.result
    (λ x e. read_is g.B.Base.algebra c.args.ctx.now _ m ks c.args.all_listed (get_or ks 0 0) (take (length ks - 1) (drop 1 ks)) found x c.self.view_is (parted ks c.in-len1-up.len_at_least) c.in_ok-cell-in-len1-up.ensures.value e) c.joined_if.ensures.value

pub returns-in_ok-cell-in-len1-up-clause-fits : goal.returns-in_ok-cell-in-len1-up-clause-fits
returns-in_ok-cell-in-len1-up-clause-fits g c =
    if_ok (λ r. CellFits g.B.Base.algebra c.args.ctx.now c.self.inside.width r) (λ r. CellFits g.B.Base.algebra c.args.ctx.now c.args.self.now.width r) c.joined_if.result
    (λ x h. subst (λ t. CellFits g.B.Base.algebra c.args.ctx.now t.width x) c.self.view_is h) c.joined_if.ensures.fits
