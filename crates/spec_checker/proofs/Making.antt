-- Functions by their signatures, bodies and groups.
use Rattle.std.proofs.Common.{◌≡◌, ℕ, suc, ◌+◌, ◌<◌, true, Some, List, [], ◌∷◌, ◌++◌, length, map, drop, slice_get, get_or, refl, ap, ◌∙◌, subst, arith}
use Rattle.std.specs.List.{list_all}
use Rattle.std.proofs.lemmas.List.{drop_more as drop_from}
use Rattle.std.proofs.lemmas.Bool.{and_from as both_true}
use Rattle.syntax_parser.specs.Tree as e
use Rattle.syntax_parser.specs.Tree.{Item, Function}
use Rattle.syntax_parser.specs.declared.tree.FieldDecl.{FieldDecl}
use Rattle.spec_ir.specs.declared.ty.Ty.{Ty}
use Rattle.spec_ir.specs.Environment.{Environment, Signature}
use Rattle.spec_ir.specs.Specification.{Fun}
use Rattle.spec_ir.specs.Terms.{Term}
use Rattle.spec_ir.specs.CoreTerms.{Core}
use Rattle.spec_ir.specs.WellFormed.{is_signature, is_type, is_scope}
use Rattle.spec_declarations.specs.TypeNames.{TypeTable}
use Rattle.spec_declarations.specs.Declarations.{signatures_from}
use Rattle.spec_calls.specs.declared.group.Group.{Group}
use Rattle.spec_calls.specs.Groups.{IsGroupOf, AreGroups}
use Rattle.spec_checker.specs.Functions.{functions, parameters, forms_of, forms, bodies, terms_in}
use Rattle.spec_checker.specs.Check.{AreFuns, AreFunsFrom}
use Rattle.spec_checker.specs.Steps.{made, made_of}
use Rattle.spec_checker.proofs.Lists.{parameters_end, parameters_end_types}
use Rattle.spec_match_compiler.proofs.Truth.{and_left, and_right}

-- as many signatures as functions
pub signatures_count : (types : TypeTable) (items : List Item) → length (functions items) ≡ length (signatures_from types items)
signatures_count types [] = refl
signatures_count types (e.datatype d ∷ items) = signatures_count types items
signatures_count types (e.map_type m ∷ items) = signatures_count types items
signatures_count types (e.function f ∷ items) = ap suc (signatures_count types items)
signatures_count types (e.decode d ∷ items) = signatures_count types items

-- parameters of known types are a scope of known types
parameters_scope : (env : Environment) (params : List FieldDecl) (types : List Ty) → list_all (is_type env) types ≡ true → is_scope env (parameters params types) ≡ true
parameters_scope env [] types h = refl
parameters_scope env (p ∷ params) [] h = refl
parameters_scope env (p ∷ params) (t ∷ types) h =
    both_true (is_type env t) (is_scope env (parameters params types)) (and_left (is_type env t) (list_all (is_type env) types) h)
    (parameters_scope env params types (and_right (is_type env t) (list_all (is_type env) types) h))

pub signature_scope : (env : Environment) (params : List FieldDecl) (s : Signature) → is_signature env s ≡ true → is_scope env (parameters params s.params) ≡ true
signature_scope env params s h = parameters_scope env params s.params (and_left (list_all (is_type env) s.params) (is_type env s.result_type) h)

pub made_none : (ss : List Signature) (gs : List Group) → made ss [] gs ≡ []
made_none [] gs = refl
made_none (s ∷ ss) gs = refl

-- the next function
pub made_step : (ss : List Signature) (s : Signature) (b : Term × Core) (bs : List (Term × Core)) (gs : List Group) (i : ℕ) (d : Group) (f : Fun)
    → f ≡ made_of s b (get_or gs i d) → i < length gs → made (s ∷ ss) (b ∷ bs) (drop i gs) ≡ f ∷ made ss bs (drop (i + 1) gs)
made_step ss s b bs gs i d f is h = rw (drop_from gs i d h, is) refl

-- functions that are made from all their parts
are_funs_from : (env : Environment) (items : List Item) (n : ℕ) (fs : List Function) (ss : List Signature) (gs : List Group) → length fs ≡ length ss → length gs ≡ length ss
    → ((k : ℕ) (g : Group) → slice_get gs k ≡ Some g → IsGroupOf (bodies env items) (n + k) g)
    → AreFunsFrom env items n fs ss (made ss (forms_of env fs ss) gs)
are_funs_from env items n [] [] [] h k each = tt
are_funs_from env items n [] (s ∷ ss) gs h k each = absurd cc
are_funs_from env items n (f ∷ fs) [] gs h k each = absurd cc
are_funs_from env items n [] [] (g ∷ gs) h k each = absurd cc
are_funs_from env items n (f ∷ fs) (s ∷ ss) [] h k each = absurd cc
are_funs_from env items n (f ∷ fs) (s ∷ ss) (g ∷ gs) h k each =
    let here : n + 0 ≡ n = omega arith in (
      record {
        name = refl;
        params = refl;
        result_type = refl;
        body = refl;
        core = refl;
        group = subst (λ m. IsGroupOf (bodies env items) m g) here (each 0 g refl);
      },
      are_funs_from env items (n + 1) fs ss gs (omega (arith, h)) (omega (arith, k)) (λ m x at. let there : n + suc m ≡ n + 1 + m = omega arith in subst (λ i. IsGroupOf (bodies env items) i x) there (each (suc m) x at)),
    )

pub are_funs : (env : Environment) (items : List Item) (gs : List Group) → length (functions items) ≡ length env.funs → length gs ≡ length env.funs
    → AreGroups (bodies env items) gs → AreFuns env items (made env.funs (forms env items) gs)
are_funs env items gs h k groups = are_funs_from env items 0 (functions items) env.funs gs h k (λ n g at. let e : n ≡ 0 + n = omega arith in subst (λ m. IsGroupOf (bodies env items) m g) e (groups.each n g at))

terms_count : (bs : List (Term × Core)) → length (terms_in bs) ≡ length bs
terms_count [] = refl
terms_count (b ∷ bs) = ap suc (terms_count bs)

pub groups_count : (bs : List (Term × Core)) (gs : List Group) → AreGroups (terms_in bs) gs → length gs ≡ length bs
groups_count bs gs h = h.all ∙ terms_count bs

pub ruleset making = (parameters_end, parameters_end_types)
