use Rattle.std.proofs.Common.{◌≡◌, [], ◌+◌, map, drop, get_or, ap, sym, ◌∙◌, true, false}
use Rattle.std.specs.Prelude.{slice_get, is_some}
use Rattle.std.proofs.lemmas.List.{drop_more as drop_from}
use Rattle.spec_ir.specs.Views.{row_of}
use Rattle.semantics.specs.Decode.{row_met}
use Rattle.code_image.specs.Tree.{picked, with_row}
use Rattle.code_image.proofs.Groups.{first_of_two, first_some, first_none, row_met-first}
use Rattle.code_image.proofs.decoder.Decoder.row_met.Goals as goal

pub returns-then-is_some : goal.returns-then-is_some
returns-then-is_some c =
    let rows = map row_of c.args.spec.now.rows.items in
    let k = c.loop-number.number-index in
    let numbers = c.group_at-number-items.result.now in
    let n = get_or numbers k 0 in
    let rest = picked rows (drop (k + 1) numbers) in
    let found = c.row_met_at-found.ensures ∙ ap (λ rs. row_met c.args.word (with_row (slice_get (map row_of rs) n) [])) c.deref.ensures.value in
    let is : is_some c.row_met_at-found.result ≡ true = sym c.is_some.ensures ∙ c.if-is_some.true in
    let later = row_met c.args.word rest in
    sym (c.loop-number.invariant ∙ ap (λ ns. row_met c.args.word (picked rows ns)) (drop_from numbers k 0 c.loop-number-test.true) ∙ row_met-first c.args.word (slice_get rows n) rest ∙ ap (λ r. first_of_two r later) (sym found) ∙ first_some (λ r. row_of r.now) c.row_met_at-found.result later is)

pub loop-number-preserved : goal.loop-number-preserved
loop-number-preserved c =
    let rows = map row_of c.args.spec.now.rows.items in
    let k = c.loop-number.number-index in
    let numbers = c.group_at-number-items.result.now in
    let n = get_or numbers k 0 in
    let rest = picked rows (drop (k + 1) numbers) in
    let found = c.row_met_at-found.ensures ∙ ap (λ rs. row_met c.args.word (with_row (slice_get (map row_of rs) n) [])) c.deref.ensures.value in
    let is : is_some c.row_met_at-found.result ≡ false = sym c.is_some.ensures ∙ c.if-is_some.false in
    let later = row_met c.args.word rest in
    c.loop-number.invariant ∙ ap (λ ns. row_met c.args.word (picked rows ns)) (drop_from numbers k 0 c.loop-number-test.true) ∙ row_met-first c.args.word (slice_get rows n) rest ∙ ap (λ r. first_of_two r later) (sym found) ∙ first_none (λ r. row_of r.now) c.row_met_at-found.result later is
