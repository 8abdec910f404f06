use Rattle.std.proofs.Common.{◌<◌, map, length, sym, ◌∙◌, arith}
use Rattle.std.proofs.lemmas.Bool.{false≢true}
use Rattle.std.proofs.lemmas.List.{length-map}
use Rattle.spec_declarations.proofs.Rounds.{round_goes_on}
use Rattle.spec_declarations.proofs.counts.round.Goals as goal
use Rattle.spec_declarations.proofs.counts.round.Goals.{then-look, else-look}

pub loop-d-preserved : goal.loop-d-preserved
loop-d-preserved c =
    let graph = map (λ row. row.items) c.args.graph.now in
    let within : c.loop-d.d < length graph = omega (arith, length-map c.args.graph.now (λ row. row.items)) in
    elim c.if-look.branch [
      | then-look w ↦ round_goes_on graph c.args.own.now c.args.counts.now.items c.loop-d.counts.items c.look.new.counts.items c.loop-d.d c.loop-d.is_more c.look.result c.if-look.is_more within c.loop-d.invariant
          c.look.ensures.counts c.look.ensures.added (λ e. w.is_more-is) (λ e. absurd (false≢true (sym e ∙ w.if-look.true)))
      | else-look w ↦ round_goes_on graph c.args.own.now c.args.counts.now.items c.loop-d.counts.items c.look.new.counts.items c.loop-d.d c.loop-d.is_more c.look.result c.if-look.is_more within c.loop-d.invariant
          c.look.ensures.counts c.look.ensures.added (λ e. absurd (false≢true (sym w.if-look.false ∙ e))) (λ e. w.is_more-is)
    ]
