-- The functions of a specification, and the pass over their bodies.
use Rattle.std.specs.Prelude.{Option, None, List, [], ◌∷◌, map}
use Rattle.syntax_parser.specs.declared.tree.Name.{Name}
use Rattle.syntax_parser.specs.declared.tree.FieldDecl.{FieldDecl}
use Rattle.syntax_parser.specs.Tree as e
use Rattle.syntax_parser.specs.Tree.{Item, Function}
use Rattle.spec_ir.specs.declared.ty.Ty.{Ty}
use Rattle.spec_ir.specs.declared.spec_error.SpecError.{SpecError}
use Rattle.spec_ir.specs.Answers.{◌then◌}
use Rattle.spec_ir.specs.Environment.{Environment, Scope, Signature}
use Rattle.spec_ir.specs.Terms.{Term}
use Rattle.spec_ir.specs.CoreTerms.{Core}
use Rattle.spec_typing.specs.Cores.{core_in}
use Rattle.spec_typing.specs.Parts.{wanted}
use Rattle.spec_typing.specs.Terms.{part, term_of}

-- the functions in the order of declaration
abbrev pub functions : List Item → List Function
functions [] = []
functions (e.function f ∷ items) = f ∷ functions items
functions (e.datatype d ∷ items) = functions items
functions (e.map_type m ∷ items) = functions items
functions (e.decode d ∷ items) = functions items

abbrev pub function_names : List Item → List Name
function_names items = map (λ f. f.name) (functions items)

-- parameters with their types
abbrev pub parameters : List FieldDecl → List Ty → Scope
parameters [] types = []
parameters (p ∷ params) [] = []
parameters (p ∷ params) (t ∷ types) = (p.name.text, t) ∷ parameters params types

-- functions with their signatures
module _ (env : Environment) where
  -- a body, in which the parameters are in scope, is of the type of the result
  abbrev pub body_fault : Function → Signature → Option SpecError
  body_fault f s = wanted env s.result_type (part env (parameters f.params s.params) f.body)

  -- the typed term of a body, and its core term
  abbrev pub body_of : Function → Signature → Term
  body_of f s = term_of env (parameters f.params s.params) f.body

  abbrev pub core_of_body : Function → Signature → Core
  core_of_body f s = core_in env (parameters f.params s.params) f.body

  abbrev pub form_of : Function → Signature → Term × Core
  form_of f s = (body_of f s, core_of_body f s)

  abbrev pub bodies_fault : List Function → List Signature → Option SpecError
  bodies_fault [] signatures = None
  bodies_fault (f ∷ fs) [] = None
  bodies_fault (f ∷ fs) (s ∷ ss) = body_fault f s then bodies_fault fs ss

  abbrev pub forms_of : List Function → List Signature → List (Term × Core)
  forms_of [] signatures = []
  forms_of (f ∷ fs) [] = []
  forms_of (f ∷ fs) (s ∷ ss) = form_of f s ∷ forms_of fs ss

-- the typed terms alone
abbrev pub terms_in : List (Term × Core) → List Term
terms_in [] = []
terms_in (b ∷ bs) = b.0 ∷ terms_in bs

module _ (env : Environment) (items : List Item) where
  -- The first fault of terms: that of the bodies of functions, in their order.
  abbrev pub terms_fault : Option SpecError
  terms_fault = bodies_fault env (functions items) env.funs

  -- The typed term, and the core term, of each function.
  abbrev pub forms : List (Term × Core)
  forms = forms_of env (functions items) env.funs

  abbrev pub bodies : List Term
  bodies = terms_in forms
