-- A pattern without a fault has the type of what it is matched with, and its variables theirs.
use Rattle.std.proofs.Common.{◌≡◌, ◌+◌, Option, Some, None, List, [], ◌∷◌, ◌++◌, length, refl, sym, subst, ap, ◌∙◌, arith}
use Rattle.std.proofs.lemmas.List.{map-append, length-map, length-append}
use Rattle.syntax_parser.specs.Tree as e
use Rattle.syntax_parser.specs.Tree.{Pattern, Patterns}
use Rattle.syntax_parser.specs.declared.tree.Name.{Name}
use Rattle.syntax_parser.specs.declared.tree.Span.{Span}
use Rattle.spec_match_compiler.specs.Patterns as m
use Rattle.spec_ir.specs.declared.ty.Ty.{Ty}
use Rattle.spec_ir.specs.declared.ty.Ty.TheVariants.{Bool as Flag, Word, Data as DataTy}
use Rattle.spec_ir.specs.Answers.{◌then◌, found}
use Rattle.spec_ir.specs.Environment.{Environment, Scope, Constructor, constructor_named, same_type}
use Rattle.spec_ir.specs.TermTypes.{PatternTyped, PatternsTyped}
use Rattle.spec_ir.proofs.Checks.{then_left, then_right, unless_none}
use Rattle.spec_patterns.specs.Faults.{fits, unknown, count_fault, literal_fault, type_fault}
use Rattle.spec_patterns.specs.Patterns as s
use Rattle.spec_patterns.specs.Patterns.{pattern_fault, part_faults, pattern_of, parts_of, patterns_len, variables, part_variables, make_fault, case_number}
use Rattle.spec_patterns.proofs.Steps.{same_types, fits_below}
use Rattle.spec_patterns.proofs.Suits.{lengths as counts}
use Rattle.semantics_accepted.specs.Typed.{types}
use Rattle.semantics_accepted.proofs.Named.{constructor_fields}

pub types_append : (a b : Scope) → types (a ++ b) ≡ types a ++ types b
types_append a b = map-append (λ x. x.1) a b

pub types_len : (a : Scope) → length (types a) ≡ length a
types_len a = length-map a (λ x. x.1)

module _ (env : Environment) where
  wanted_is : (ty : Ty) (span : Span) (t : Ty) → type_fault env ty span t ≡ None → ty ≡ t
  wanted_is ty span t h = same_types ty t (unless_none (same_type ty t) _ h)

  made_typed : (scope : Scope) (ty : Ty) (name : Name) (parts : Patterns) (span : Span) (o : Option Constructor) → constructor_named env name.text ≡ o
      → ((c : Constructor) → part_faults env c.fields parts ≡ None → length c.fields ≡ patterns_len parts
      → PatternsTyped env (length (types scope)) c.fields (parts_of env scope c.fields parts) (types (part_variables env c.fields parts)))
      → found o (unknown name) (λ c. count_fault name (length c.fields) (patterns_len parts)) then part_faults env (s.fields_of o) parts then found o (unknown name) (λ c. type_fault env ty span (DataTy c.ty)) ≡ None
      → PatternTyped env (length (types scope)) ty (m.case_is (case_number o) (parts_of env scope (s.fields_of o) parts)) (types (part_variables env (s.fields_of o) parts))
  made_typed scope ty name parts span None is below h = absurd cc
  made_typed scope ty name parts span (Some c) is below h =
      let front = then_left (count_fault name (length c.fields) (patterns_len parts) then part_faults env c.fields parts) _ h in
      let count = then_left (count_fault name (length c.fields) (patterns_len parts)) _ front in
      let inner = then_right (count_fault name (length c.fields) (patterns_len parts)) _ front in
      let same = wanted_is ty span (DataTy c.ty) (then_right (count_fault name (length c.fields) (patterns_len parts) then part_faults env c.fields parts) _ h) in
      let parts_typed = below c inner (counts (length c.fields) (patterns_len parts) _ count) in
      subst (λ t. PatternTyped env (length (types scope)) t (m.case_is c.case (parts_of env scope c.fields parts)) (types (part_variables env c.fields parts))) (sym same)
      (subst (λ fs. PatternsTyped env (length (types scope)) fs (parts_of env scope c.fields parts) (types (part_variables env c.fields parts))) (sym (constructor_fields env name.text c is)) parts_typed)

  mutual
    unfolding make_fault

    pub pattern_typed : (scope : Scope) (ty : Ty) (p : Pattern) → pattern_fault env ty p ≡ None → PatternTyped env (length (types scope)) ty (pattern_of env scope ty p) (types (variables env ty p))
    pattern_typed scope ty (e.any span) h = refl
    pattern_typed scope ty (e.bind name) h = (sym (types_len scope), refl)
    pattern_typed scope ty (e.Pattern.word v w span) h =
        let f = unless_none (fits v.v w.v) _ (then_left (literal_fault v w span) _ h) in
        let same = wanted_is ty span (Word w.v) (then_right (literal_fault v w span) _ h) in
        subst (λ t. PatternTyped env (length (types scope)) t (m.word_is v.v) []) (sym same) (fits_below v.v w.v f, refl)
    pattern_typed scope ty (e.Pattern.flag b span) h =
        subst (λ t. PatternTyped env (length (types scope)) t (m.flag_is b) []) (sym (wanted_is ty span Flag h)) refl
    pattern_typed scope ty (e.Pattern.make name parts span) h =
        made_typed scope ty name parts span (constructor_named env name.text) refl (λ c k l. parts_typed scope c.fields parts k l) h

    parts_typed : (scope : Scope) (ts : List Ty) (ps : Patterns) → part_faults env ts ps ≡ None → length ts ≡ patterns_len ps
        → PatternsTyped env (length (types scope)) ts (parts_of env scope ts ps) (types (part_variables env ts ps))
    parts_typed scope [] e.Patterns.none h l = refl
    parts_typed scope [] (e.Patterns.more p ps) h l = absurd (omega arith)
    parts_typed scope (t ∷ ts) e.Patterns.none h l = absurd (omega arith)
    parts_typed scope (t ∷ ts) (e.Patterns.more p ps) h l =
        let further = parts_typed (scope ++ variables env t p) ts ps (then_right (pattern_fault env t p) _ h) (omega arith) in
        let len : length (types (scope ++ variables env t p)) ≡ length (types scope) + length (types (variables env t p)) =
        ap length (types_append scope (variables env t p)) ∙ length-append (types scope) (types (variables env t p)) in (
          types (variables env t p),
          types (part_variables env ts ps),
          pattern_typed scope t p (then_left (pattern_fault env t p) _ h),
          subst (λ n. PatternsTyped env n ts (parts_of env (scope ++ variables env t p) ts ps) (types (part_variables env ts ps))) len further,
          types_append (variables env t p) (part_variables env ts ps),
        )
