use Rattle.std.proofs.Common.{◌<◌, ap, ◌∙◌, map, length, arith}
use Rattle.std.proofs.lemmas.List.{length-map}
use Rattle.spec_ir.specs.Views.{row_of}
use Rattle.code_image.specs.Tree.{picked}
use Rattle.code_image.proofs.Groups.{all_so_far}
use Rattle.code_image.proofs.tree.all_rows.Goals as goal

pub loop-i-preserved : goal.loop-i-preserved
loop-i-preserved c =
    let rows = map row_of c.args.rows.now in
    let h : c.loop-i.i < length rows = omega (arith, c.loop-i-test.true, length-map c.args.rows.now row_of) in
    ap (picked rows) c.in_ok-push.ensures.items ∙ all_so_far rows c.loop-i.out.items c.loop-i.i h c.loop-i.invariant
