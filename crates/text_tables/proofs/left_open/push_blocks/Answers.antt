use Rattle.std.proofs.Common.{◌≡◌, [], ◌+◌, drop, subst}
use Rattle.std.specs.Prelude.{get_or}
use Rattle.std.specs.String.{string_bytes}
use Rattle.std.proofs.Math.ListN.{drop_of_length-le}
use Rattle.std.proofs.lemmas.List.{drop_more}
use Rattle.spec_ir.specs.Views.{specification}
use Rattle.fixpoint_theory.specs.Views.{listings}
use Rattle.fixpoint_open_tables.specs.Endings.{ends_in}
use Rattle.text_tables.proofs.OpenBlocking.{Left, none_left, one_less}
use Rattle.text_tables.proofs.left_open.push_blocks.Goals as goal

pub loop-at-preserved : goal.loop-at-preserved
loop-at-preserved g c =
    let spec = specification c.args.spec.now in
    let table = listings (λ x. x) c.args.table.now in
    let ends = ends_in c.args.endings.now in
    let all = c.args.addresses.now in
    let i = c.loop-at.at-index in
    let next = drop_more all i 0 c.loop-at-test.true in
    one_less g.D.WriteElement.word_text (g.D.WriteElement.IsText spec) spec table ends all (drop (i + 1) all) (get_or all i 0) (string_bytes c.args.out.now) (string_bytes c.loop-at.out) (string_bytes c.push_listed.new.out) c.in_ok-push_listed.ensures
    (subst (λ ats. Left g.D.WriteElement.word_text (g.D.WriteElement.IsText spec) spec table ends all ats (string_bytes c.args.out.now) (string_bytes c.loop-at.out)) next c.loop-at.invariant)

pub returns : goal.returns
returns g c =
    let spec = specification c.args.spec.now in
    let table = listings (λ x. x) c.args.table.now in
    let ends = ends_in c.args.endings.now in
    let all = c.args.addresses.now in
    let end : drop c.loop-at.at-index all ≡ [] = drop_of_length-le all c.loop-at-test.false in
    none_left g.D.WriteElement.word_text (g.D.WriteElement.IsText spec) spec table ends all (string_bytes c.args.out.now) (string_bytes c.loop-at.out)
    (subst (λ ats. Left g.D.WriteElement.word_text (g.D.WriteElement.IsText spec) spec table ends all ats (string_bytes c.args.out.now) (string_bytes c.loop-at.out)) end c.loop-at.invariant)
