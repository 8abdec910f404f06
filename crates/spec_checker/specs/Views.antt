-- The typed term and the core term of a body, as plain data.
use Rattle.spec_term_forms.specs.declared.forms.Forms.{Forms}
use Rattle.spec_ir.specs.Terms.{Term}
use Rattle.spec_ir.specs.CoreTerms.{Core}
use Rattle.spec_ir.specs.Views.{core, term}

abbrev pub form : Forms → Term × Core
form b = (term b.term, core b.core)
