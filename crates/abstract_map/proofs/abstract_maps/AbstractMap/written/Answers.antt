use Rattle.std.proofs.Common.{sym, ap, ◌∙◌}
use Rattle.abstract_map_laws.specs.Calls.{written}
use Rattle.abstract_cell_tree.specs.Entries.{put}
use Rattle.abstract_map.proofs.Whole.{unfolded_at, written_is, written_unfolded}
use Rattle.abstract_map.proofs.abstract_maps.AbstractMap.written.Goals as goal

pub returns-in-Ok : goal.returns-in-Ok
returns-in-Ok g c =
    let B = g.B.Base.algebra in
    let ctx = c.args.ctx.now in
    let m = c.args.self.now in
    let same = written_is _ m c.args.key (record { word = c.args.v.now; note = c.args.note.now }) c.in_ok-rest.rest c.in-Ok.cells c.self.view_is c.requires.map.order c.in_ok-rest.ensures.value
    (c.in-Ok.ensures.value ∙ ap (λ l. put c.args.key (record { word = c.args.v.now; note = c.args.note.now }) l) (sym (ap (λ t. t.cells) c.self.view_is))) in
    record {
      value = same;
      fits = unfolded_at B ctx _ (written m c.args.key (record { word = c.args.v.now; note = c.args.note.now })) same (written_unfolded B ctx g.B.Base.CAP m c.args.key (record { word = c.args.v.now; note = c.args.note.now }) c.requires.map c.requires.key c.requires.word);
    }
