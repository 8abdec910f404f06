use Rattle.std.proofs.Common.{◌<◌, map, sym, subst}
use Rattle.std.proofs.lemmas.List.{length-map}
use Rattle.std.specs.Prelude.{option_map}
use Rattle.abstract_value.specs.View.{abs}
use Rattle.abstract_value_laws.specs.Abs.{parts}
use Rattle.domain_cuts.proofs.Placing.{if_there, seen_at, value_fits}
use Rattle.domain_cuts.proofs.elements.piece_at.Goals as goal

pub value_piece-requires : goal.value_piece-requires
value_piece-requires g c = record { fits = value_fits g.B.Base.algebra c.args.ctx.now g.B.Base.CAP (λ v. abs v) c.args.xs.now c.args.n c.index-xs-n.result c.requires.value c.index-xs-n.is c.requires.fits }

pub returns : goal.returns
returns g c =
    if_there g.B.Base.algebra g.B.CutBase.cuts c.args.ctx.now g.B.Base.CAP c.args.cut.key c.args.cut.low c.args.cut.high (λ v. parts (map abs v.items)) c.replaced.result c.args.fields.now c.args.n (map abs c.args.xs.now)
    _ (abs c.index-xs-n.result) (option_map abs c.in_ok-piece.piece) c.requires.field (subst (λ k. c.args.n < k) (sym (length-map c.args.xs.now (λ v. abs v))) c.requires.value) (seen_at (λ v. abs v) c.args.xs.now c.args.n c.index-xs-n.result c.requires.value c.index-xs-n.is)
    c.replaced.ensures c.in_ok-piece.ensures
