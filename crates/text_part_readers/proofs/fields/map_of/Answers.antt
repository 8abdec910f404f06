use Rattle.std.proofs.Common.{Some, ap, ◌∙◌}
use Rattle.abstract_value_laws.specs.Abs.{Abs, map}
use Rattle.abstract_map_laws.specs.Maps.{Map}
use Rattle.abstract_value.proofs.Views.{abs_Map}
use Rattle.text_part_readers.proofs.Fitting.{folded_is}
use Rattle.text_part_readers.proofs.fields.map_of.Goals as goal

pub of_cells-requires : goal.of_cells-requires
of_cells-requires g c = record { map = c.requires.fits c.in-Ok.cells c.in-Ok.is }

pub returns-in_ok-m-in-Ok : goal.returns-in_ok-m-in-Ok
returns-in_ok-m-in-Ok g c =
    rw c.in-Ok.is
    (ap (λ (x : Abs g.row.B-Word.Denot g.row.B-Note.Denot). Some x)
    (abs_Map g.row.B.Denot g.row.B-Ctx.Denot c.args.number c.in_ok-m-in-Ok.m
    ∙ ap (λ (m : Map g.row.B-Word.Denot g.row.B-Note.Denot). map c.args.number m)
    (c.in_ok-m-in-Ok.ensures.value
    ∙ folded_is g.B.Base.algebra c.args.ctx.now g.B.Base.CAP (record { width = c.args.w; rest = c.args.rest; cells = c.in-Ok.cells.items }) (c.requires.few c.in-Ok.cells c.in-Ok.is))))
