use Rattle.std.proofs.Common.{◌≡◌, ◌∙◌, ap, length, rules}
use Rattle.std.proofs.lemmas.List.{drop_all}
use Rattle.program_stress_code.specs.Words.{code_bytes}
use Rattle.program_stress_code.proofs.Steps.{code_length}
use Rattle.program_stress_code.proofs.words.code_bytes.Goals as goal

pub returns-clause-length : goal.returns-clause-length
returns-clause-length c =
    let whole = rw (drop_all c.loop-word.word-index c.deref-word-items.result.now c.loop-word-test.false) at c.loop-word.invariant in
    let bytes : c.loop-word.out.items ≡ code_bytes c.args.number c.args.count = search (rules, whole) in
    ap length bytes ∙ code_length c.args.number c.args.count
