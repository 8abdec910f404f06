use Rattle.std.proofs.Common.{List, [], ◌∷◌, ◌++◌, ℕ, ap, sym, ◌∙◌, arith}
use Rattle.text_element_readers.proofs.FormSteps.{form_begins, form_ends, form_goes_on, form_longer, form_stops}
use Rattle.text_element_readers.proofs.words.form_in.Goals as goal

pub loop-i-init : goal.loop-i-init
loop-i-init c =
    form_begins c.args.k c.in-Some.constant c.args.text.now c.in-Some.rest.now c.in_ok-form-2.form.items c.in-Some.ensures (c.in_ok-form-2.ensures ∙ ap (λ (xs : List ℕ). xs ++ c.in-Some.constant ∷ []) c.in_ok-form.ensures.items)

pub loop-i-preserved : goal.loop-i-preserved
loop-i-preserved c =
    form_goes_on c.args.k c.loop-i._i c.in-Some-behind_comma.number c.loop-i.form.items c.in_ok-form-3.form.items c.loop-i.rest.now c.in-Some-behind_comma.others.now _ (omega arith) c.in-Some-behind_comma.ensures c.in_ok-form-3.ensures
    c.loop-i.invariant

pub returns-in_default-behind_comma : goal.returns-in_default-behind_comma
returns-in_default-behind_comma c = form_stops c.args.k c.loop-i._i c.loop-i.form.items c.loop-i.rest.now _ (omega arith) c.in_default-behind_comma.ensures c.loop-i.invariant

pub returns-then-is_empty : goal.returns-then-is_empty
returns-then-is_empty c = form_ends c.args.k c.loop-i._i c.loop-i.form.items c.loop-i.rest.now _ (omega arith) (sym c.is_empty.ensures ∙ c.if-is_empty.true) c.loop-i.invariant

pub returns-else-is_empty : goal.returns-else-is_empty
returns-else-is_empty c = form_longer c.args.k c.loop-i._i c.loop-i.form.items c.loop-i.rest.now _ (omega arith) (sym c.is_empty.ensures ∙ c.if-is_empty.false) c.loop-i.invariant
