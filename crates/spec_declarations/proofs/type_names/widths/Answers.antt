use Rattle.std.proofs.Common.{◌≡◌, subst}
use Rattle.std.specs.Fmt.{decimal}
use Rattle.std.specs.Prelude.{IfOk}
use Rattle.spec_declarations.proofs.Numerals.{numerals_pushed, numerals_all}
use Rattle.spec_declarations.proofs.type_names.widths.Goals as goal

pub loop-w-preserved : goal.loop-w-preserved
loop-w-preserved c =
    numerals_pushed c.number_text.result c.loop-w.texts.items c.in_ok-texts.texts.items c.loop-w.w c.loop-w-test.true (subst (λ n. IfOk c.number_text.result (λ t. t ≡ decimal n)) c.from.ensures c.number_text.ensures) c.in_ok-texts.ensures c.loop-w.invariant

pub returns : goal.returns
returns c = numerals_all c.loop-w.texts.items c.loop-w.w c.loop-w-test.false c.loop-w.invariant
