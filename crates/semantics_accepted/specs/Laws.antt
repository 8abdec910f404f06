-- Laws of terms without faults.
use Rattle.std.specs.Prelude.{◌≡◌, ℕ, true, Some, None, List, slice_get}
use Rattle.syntax_parser.specs.Tree.{Term as Expr}
use Rattle.spec_ir.specs.declared.ty.Ty.{Ty}
use Rattle.spec_ir.specs.Environment.{Environment, Scope, Signature}
use Rattle.spec_ir.specs.Terms.{Term}
use Rattle.spec_ir.specs.TermTypes.{HasType}
use Rattle.spec_ir.specs.Cores.{core_of}
use Rattle.spec_ir.specs.WellFormed.{IsWellFormed, is_scope}
use Rattle.spec_typing.specs.Parts.{wanted}
use Rattle.spec_typing.specs.Terms.{fault_in, part, term_of}
use Rattle.spec_typing.specs.Cores.{core_in}
use Rattle.spec_calls.specs.Groups.{InOneGroup}
use Rattle.spec_calls.specs.Recursion.{NoRecursionFault}
use Rattle.semantics_accepted.specs.Typed.{types, IsTyped, AreTyped}

-- A term without a fault has its type.
abbrev pub TermsAreTyped : Type 0
TermsAreTyped = (env : Environment) (scope : Scope) (x : Expr) → IsWellFormed env → is_scope env scope ≡ true → fault_in env scope x ≡ None → IsTyped env scope x

-- A term of which a type is wanted, and that has no fault, has that type.
abbrev pub WantedTypesAreHad : Type 0
WantedTypesAreHad = (env : Environment) (scope : Scope) (x : Expr) (want : Ty) → IsWellFormed env → is_scope env scope ≡ true
    → wanted env want (part env scope x) ≡ None → HasType env (types scope) (term_of env scope x) want

-- Functions of one group have one type of results.
abbrev pub GroupsHaveOneResult : Type 0
GroupsHaveOneResult = (env : Environment) (bodies : List Term) (f g : ℕ) (s r : Signature) → AreTyped env bodies → NoRecursionFault bodies → InOneGroup bodies f g
    → slice_get env.funs f ≡ Some s → slice_get env.funs g ≡ Some r → s.result_type ≡ r.result_type

-- The core term that is found for a term without a fault is that of its typed term.
abbrev pub CoresAreThose : Type 0
CoresAreThose = (env : Environment) (scope : Scope) (x : Expr) → IsWellFormed env → is_scope env scope ≡ true → fault_in env scope x ≡ None
    → core_in env scope x ≡ core_of env (types scope) (term_of env scope x)
