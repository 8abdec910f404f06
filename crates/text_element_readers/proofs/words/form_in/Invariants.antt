use Rattle.std.proofs.Common.{◌≡◌, ◌-◌}
use Rattle.text_element_readers.specs.Words.{commas_in, form_in}
use Rattle.text_element_readers.proofs.FormSteps.{in_front}
use Rattle.text_element_readers.proofs.words.form_in.Given as goal

abbrev pub invariant-loop-i : goal.invariant-loop-i
invariant-loop-i l = form_in l.k l.text ≡ in_front l.form.items (commas_in (l.k - l._i) l.rest)
