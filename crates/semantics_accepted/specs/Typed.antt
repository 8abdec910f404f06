-- Terms and bodies that have their types.
use Rattle.std.specs.Prelude.{◌≡◌, ℕ, true, Some, List, map, slice_get}
use Rattle.syntax_parser.specs.Tree.{Term as Expr}
use Rattle.spec_ir.specs.declared.ty.Ty.{Ty}
use Rattle.spec_ir.specs.Environment.{Environment, Scope, Signature}
use Rattle.spec_ir.specs.Terms.{Term}
use Rattle.spec_ir.specs.TermTypes.{HasType}
use Rattle.spec_ir.specs.WellFormed.{is_type}
use Rattle.spec_typing.specs.Terms.{type_of, term_of}

-- the types of the names in scope
abbrev pub types : Scope → List Ty
types scope = map (λ b. b.1) scope

-- A term's typed term has the type that is found for the term, which is one of the environment.
pub record IsTyped (env : Environment) (scope : Scope) (x : Expr) : Type 0 where
  pub ty : Ty
  pub found : type_of env scope x ≡ Some ty
  pub is : is_type env ty ≡ true
  pub has : HasType env (types scope) (term_of env scope x) ty

-- The bodies of functions have the types of their results.
abbrev pub AreTyped : Environment → List Term → Type 0
AreTyped env bodies = (f : ℕ) (body : Term) (s : Signature) → slice_get bodies f ≡ Some body → slice_get env.funs f ≡ Some s → HasType env s.params body s.result_type
