use Rattle.std.proofs.Common.{◌≡◌, ◌++◌, ap, ◌∙◌}
use Rattle.std.specs.Prelude.{codes}
use Rattle.std.proofs.lemmas.Slice.Eq.{strip_prefix_is}
use Rattle.std.proofs.lemmas.Bool.Decides.{Decides-eqb}
use Rattle.syntax_lexer.proofs.Numerals.{hex_number, no_hex_number, no_decimal, decimal_number}
use Rattle.syntax_lexer.proofs.Options.{if_none, if_some}
use Rattle.syntax_lexer.proofs.numbers.number.Goals as goal

pub returns-in-Some-clause-none : goal.returns-in-Some-clause-none
returns-in-Some-clause-none c =
    let cut = strip_prefix_is Decides-eqb c.args.text.now c.as_slice.result.now c.strip_prefix.result c.strip_prefix.ensures.cases in
    let split : c.args.text.now ≡ codes "0x" ++ c.in-Some.digits.now = (rw c.in-Some.is at cut) ∙ ap (λ p. p ++ c.in-Some.digits.now) c.as_slice.ensures in
    if_none c.numeral.result _ _ (no_hex_number c.args.text.now c.in-Some.digits.now split) c.numeral.ensures.none

pub returns-in-Some-clause-some : goal.returns-in-Some-clause-some
returns-in-Some-clause-some c =
    let cut = strip_prefix_is Decides-eqb c.args.text.now c.as_slice.result.now c.strip_prefix.result c.strip_prefix.ensures.cases in
    let split : c.args.text.now ≡ codes "0x" ++ c.in-Some.digits.now = (rw c.in-Some.is at cut) ∙ ap (λ p. p ++ c.in-Some.digits.now) c.as_slice.ensures in
    if_some c.numeral.result _ _ (λ n. hex_number c.args.text.now c.in-Some.digits.now n split) c.numeral.ensures.some

pub returns-in-None-clause-none : goal.returns-in-None-clause-none
returns-in-None-clause-none c =
    let cut = strip_prefix_is Decides-eqb c.args.text.now c.as_slice.result.now c.strip_prefix.result c.strip_prefix.ensures.cases in
    let apart = rw (c.in-None.is, c.as_slice.ensures) at cut in
    if_none c.numeral-in-None.result _ _ (no_decimal c.args.text.now apart) c.numeral-in-None.ensures.none

pub returns-in-None-clause-some : goal.returns-in-None-clause-some
returns-in-None-clause-some c = if_some c.numeral-in-None.result _ _ (decimal_number c.args.text.now) c.numeral-in-None.ensures.some
