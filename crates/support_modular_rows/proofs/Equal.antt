-- Equal forms.
use Rattle.std.specs.Cmp.Lexicographic.{bytes_decides}
use Rattle.support_modular_rows.specs.Forms.{same_form}
use Rattle.support_modular_rows.specs.Laws.{EqualFormsAreTheSame}

pub equal_forms : EqualFormsAreTheSame same_form
equal_forms = bytes_decides
