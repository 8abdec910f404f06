-- A pattern without faults suits the shape of what it is matched with.
use Rattle.std.proofs.Common.{◌≡◌, ℕ, zero, suc, ◌+◌, ◌<◌, ◌^◌, Bool, true, false, ◌==◌, Option, Some, None, List, [], ◌∷◌, ◌++◌, length, map, refl, sym, subst, ap, ◌∙◌, arith, rules, slice_get, unwrap_or}
use Rattle.std.proofs.lemmas.Bool.Decides.{nat_tests}
use Rattle.syntax_parser.specs.Tree as e
use Rattle.syntax_parser.specs.Tree.{Pattern, Patterns}
use Rattle.syntax_parser.specs.declared.tree.Name.{Name}
use Rattle.syntax_parser.specs.declared.tree.Span.{Span}
use Rattle.spec_match_compiler.specs.Patterns as m
use Rattle.spec_match_compiler.specs.Shapes.{Suits, AllSuit, fields_of}
use Rattle.spec_ir.specs.declared.ty.Ty.{Ty}
use Rattle.spec_ir.specs.declared.ty.Ty.TheVariants.{Bool as Flag, Word, Data as DataTy, Map as MapOf}
use Rattle.spec_ir.specs.declared.spec_error.SpecError.{SpecError}
use Rattle.spec_ir.specs.Answers.{◌then◌, unless, found}
use Rattle.spec_ir.specs.Environment.{Environment, Scope, Constructor, constructor_named, same_type, shape_of, shapes_of}
use Rattle.spec_ir.proofs.Checks.{then_left, then_right, unless_none}
use Rattle.spec_patterns.specs.Faults.{fits, unknown, count_fault, literal_fault, type_fault}
use Rattle.spec_patterns.specs.Patterns as s
use Rattle.spec_patterns.specs.Patterns.{pattern_fault, part_faults, pattern_of, parts_of, patterns_len, variables, make_fault, case_number}
use Rattle.spec_patterns.proofs.Found.{constructor_there}
use Rattle.spec_patterns.proofs.Steps.{same_types, fits_below}

pub lengths : (a b : ℕ) (e : SpecError) → unless (a == b) e ≡ None → a ≡ b
lengths a b e h = let k = unless_none (a == b) e h in grind (arith, nat_tests)

module _ (env : Environment) where
  wanted_is : (ty : Ty) (span : Span) (t : Ty) → type_fault env ty span t ≡ None → ty ≡ t
  wanted_is ty span t h = same_types ty t (unless_none (same_type ty t) _ h)

  made_suits : (scope : Scope) (ty : Ty) (name : Name) (parts : Patterns) (span : Span) (o : Option Constructor) → constructor_named env name.text ≡ o
      → ((c : Constructor) → part_faults env c.fields parts ≡ None → length c.fields ≡ patterns_len parts → AllSuit (shapes_of env) (map shape_of c.fields) (parts_of env scope c.fields parts))
      → found o (unknown name) (λ c. count_fault name (length c.fields) (patterns_len parts)) then part_faults env (s.fields_of o) parts then found o (unknown name) (λ c. type_fault env ty span (DataTy c.ty)) ≡ None
      → Suits (shapes_of env) (shape_of ty) (m.case_is (case_number o) (parts_of env scope (s.fields_of o) parts))
  made_suits scope ty name parts span None is below h = absurd cc
  made_suits scope ty name parts span (Some c) is below h =
      let front = then_left (count_fault name (length c.fields) (patterns_len parts) then part_faults env c.fields parts) _ h in
      let count = then_left (count_fault name (length c.fields) (patterns_len parts)) _ front in
      let inner = then_right (count_fault name (length c.fields) (patterns_len parts)) _ front in
      let same = wanted_is ty span (DataTy c.ty) (then_right (count_fault name (length c.fields) (patterns_len parts) then part_faults env c.fields parts) _ h) in
      subst (λ t. Suits (shapes_of env) (shape_of t) (m.case_is c.case (parts_of env scope c.fields parts))) (sym same)
      (map shape_of c.fields, constructor_there env name.text c is, below c inner (lengths (length c.fields) (patterns_len parts) _ count))

  mutual
    unfolding make_fault

    pub suits : (scope : Scope) (ty : Ty) (p : Pattern) → pattern_fault env ty p ≡ None → Suits (shapes_of env) (shape_of ty) (pattern_of env scope ty p)
    suits scope ty (e.any span) h = tt
    suits scope ty (e.bind name) h = tt
    suits scope ty (e.Pattern.word v w span) h =
        let f = unless_none (fits v.v w.v) _ (then_left (literal_fault v w span) _ h) in
        let same = wanted_is ty span (Word w.v) (then_right (literal_fault v w span) _ h) in
        subst (λ t. Suits (shapes_of env) (shape_of t) (m.word_is v.v)) (sym same) (fits_below v.v w.v f)
    suits scope ty (e.Pattern.flag b span) h =
        subst (λ t. Suits (shapes_of env) (shape_of t) (m.flag_is b)) (sym (wanted_is ty span Flag h)) tt
    suits scope ty (e.Pattern.make name parts span) h =
        made_suits scope ty name parts span (constructor_named env name.text) refl (λ c k l. all_suit scope c.fields parts k l) h

    all_suit : (scope : Scope) (ts : List Ty) (ps : Patterns) → part_faults env ts ps ≡ None → length ts ≡ patterns_len ps → AllSuit (shapes_of env) (map shape_of ts) (parts_of env scope ts ps)
    all_suit scope [] e.Patterns.none h l = tt
    all_suit scope [] (e.Patterns.more p ps) h l = absurd (omega arith)
    all_suit scope (t ∷ ts) e.Patterns.none h l = absurd (omega arith)
    all_suit scope (t ∷ ts) (e.Patterns.more p ps) h l =
        (suits scope t p (then_left (pattern_fault env t p) _ h), all_suit (scope ++ variables env t p) ts ps (then_right (pattern_fault env t p) _ h) (omega arith))
