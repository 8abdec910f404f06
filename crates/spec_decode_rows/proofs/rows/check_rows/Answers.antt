use Rattle.std.proofs.Common.{◌≡◌, ◌∙◌, ◌++◌, ◌∷◌, [], None, map, drop, ◌+◌, ap, sym, arith, rules, append_assoc}
use Rattle.std.proofs.lemmas.List.{map-append}
use Rattle.syntax_parser.specs.View.{row}
use Rattle.spec_ir.specs.Answers.{◌then◌}
use Rattle.spec_ir.specs.Views.{row_of}
use Rattle.spec_decode_rows.specs.Decoded.{decoded}
use Rattle.spec_decode_rows.specs.Rows.{earlier_of, row_fault, rows_fault}
use Rattle.spec_decode_rows.specs.Views.{earlier}
use Rattle.spec_decode_rows.proofs.rows.check_rows.Goals as goal
use Rattle.spec_match_compiler.proofs.Loops.{drop_here}

pub loop-r-preserved : goal.loop-r-preserved
loop-r-preserved c =
    let rows = c.rows_of-r-items.result.now in
    let i = c.loop-r.r-index in
    let env = c.args.environment.now in
    let r = c.r-item.result in
    let before = map earlier c.loop-r.before.items in
    let rest = map row (drop (i + 1) rows) in
    let here = drop_here rows i r c.r-item.is (omega arith) in
    let faults = rw here at c.loop-r.invariant.faults in
    let outs = rw here at c.loop-r.invariant.out_is in
    let fine : row_fault env c.args.instr before (row r) ≡ None = search rules in
    let joined : map earlier c.check_next.new.before.items ≡ before ++ earlier_of (row r) ∷ [] = search rules in
    let out : c.push.new.self.items ≡ c.loop-r.out.items ++ c.in_ok-check_next.field-0 ∷ [] = search rules in
    let is : row_of c.in_ok-check_next.field-0 ≡ decoded env (row r) = search rules in
    record {
      faults = faults ∙ (ap (λ o. o then rows_fault env c.args.instr (before ++ earlier_of (row r) ∷ []) rest) fine ∙ ap (λ b. rows_fault env c.args.instr b rest) (sym joined));
      out_is = rw (out, map-append, is, append_assoc) outs;
    }
