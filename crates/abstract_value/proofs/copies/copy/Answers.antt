use Rattle.std.proofs.Common.{map, ap, sym, ◌∙◌}
use Rattle.abstract_value_laws.specs.Abs.{made, cases}
use Rattle.abstract_value.specs.View.{abs, case_of}
use Rattle.abstract_value.specs.declared.value.AbstractValue.{Map, Word}
use Rattle.abstract_value.proofs.Views.{abs_Data}
use Rattle.abstract_value.proofs.copies.copy.Goals as goal

pub returns-in_ok-copy-in-Data : goal.returns-in_ok-copy-in-Data
returns-in_ok-copy-in-Data g c =
    abs_Data c.in-Data.ty c.in_ok-copy-in-Data.field-0 ∙ ap (λ l. made c.in-Data.ty (cases (map case_of l))) c.in_ok-copy-in-Data.ensures ∙ sym (abs_Data c.in-Data.ty c.in-Data.cases) ∙ ap abs (sym c.in-Data.is)

pub returns-in-Flag : goal.returns-in-Flag
returns-in-Flag g c = ap abs (sym c.in-Flag.is)

pub returns-in_ok-copy-in-Word : goal.returns-in_ok-copy-in-Word
returns-in_ok-copy-in-Word g c = ap (λ x. abs (Word c.in-Word.w x)) c.in_ok-copy-in-Word.ensures.value ∙ ap abs (sym c.in-Word.is)

pub returns-in_ok-copy-in-Map : goal.returns-in_ok-copy-in-Map
returns-in_ok-copy-in-Map g c = ap (λ m. abs (Map c.in-Map.map m)) c.in_ok-copy-in-Map.ensures ∙ ap abs (sym c.in-Map.is)
