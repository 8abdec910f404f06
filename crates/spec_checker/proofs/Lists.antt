-- Steps of loops.
use Rattle.std.proofs.Common.{◌≡◌, ℕ, ◌≤◌, List, [], ◌∷◌, ◌++◌, length, drop, refl, append-nil}
use Rattle.std.proofs.lemmas.List.{drop_all}
use Rattle.syntax_parser.specs.declared.tree.FieldDecl.{FieldDecl}
use Rattle.spec_ir.specs.declared.ty.Ty.{Ty}
use Rattle.spec_ir.specs.Environment.{Scope}
use Rattle.spec_checker.specs.Functions.{parameters}

parameters_none : (params : List FieldDecl) → parameters params [] ≡ []
parameters_none [] = refl
parameters_none (p ∷ params) = refl

pub parameters_end : (scope : Scope) (params : List FieldDecl) (types : List Ty) (i : ℕ) → length params ≤ i → scope ++ parameters (drop i params) (drop i types) ≡ scope
parameters_end scope params types i h = rw (drop_all i params h) (append-nil scope)

pub parameters_end_types : (scope : Scope) (params : List FieldDecl) (types : List Ty) (i : ℕ) → length types ≤ i → scope ++ parameters (drop i params) (drop i types) ≡ scope
parameters_end_types scope params types i h = rw (drop_all i types h, parameters_none (drop i params)) (append-nil scope)
