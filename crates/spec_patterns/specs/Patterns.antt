-- Patterns: the first fault, the variables, and the typed pattern.
use Rattle.std.specs.Prelude.{ℕ, suc, Option, Some, None, List, [], ◌∷◌, ◌++◌, length}
use Rattle.syntax_parser.specs.declared.tree.Name.{Name}
use Rattle.syntax_parser.specs.declared.tree.Span.{Span}
use Rattle.syntax_parser.specs.Tree as e
use Rattle.syntax_parser.specs.Tree.{Pattern, Patterns}
use Rattle.spec_match_compiler.specs.Patterns as m
use Rattle.spec_ir.specs.declared.ty.Ty.{Ty}
use Rattle.spec_ir.specs.declared.ty.Ty.TheVariants.{Bool as Flag, Word, Data as DataTy}
use Rattle.spec_ir.specs.declared.spec_error.SpecError.{SpecError}
use Rattle.spec_ir.specs.Answers.{found, ◌then◌}
use Rattle.spec_ir.specs.Environment.{Environment, Constructor, Scope, constructor_named}
use Rattle.spec_patterns.specs.Faults.{unknown, count_fault, literal_fault, type_fault}

-- how many patterns there are
abbrev pub patterns_len : Patterns → ℕ
patterns_len e.Patterns.none = 0
patterns_len (e.Patterns.more p ps) = suc (patterns_len ps)

-- the number and the fields' types of a constructor that was found
abbrev pub case_number : Option Constructor → ℕ
case_number None = 0
case_number (Some c) = c.case

abbrev pub fields_of : Option Constructor → List Ty
fields_of None = []
fields_of (Some c) = c.fields

module _ (env : Environment) where
  -- The rule of a constructor with patterns, by their count and their first fault: name and count, parts, and last the type.
  unfoldable pub make_fault : Ty → Name → ℕ → Option SpecError → Span → Option SpecError
  make_fault ty name count parts span =
      found (constructor_named env name.text) (unknown name) (λ c. count_fault name (length c.fields) count)
      then parts
      then found (constructor_named env name.text) (unknown name) (λ c. type_fault env ty span (DataTy c.ty))

  abbrev mutual
    -- the first fault of a pattern where values have a type
    pub pattern_fault : Ty → Pattern → Option SpecError
    pattern_fault ty (e.any span) = None
    pattern_fault ty (e.bind name) = None
    pattern_fault ty (e.Pattern.word v w span) = literal_fault v w span then type_fault env ty span (Word w.v)
    pattern_fault ty (e.Pattern.flag b span) = type_fault env ty span Flag
    pattern_fault ty (e.Pattern.make name parts span) =
        make_fault ty name (patterns_len parts) (part_faults (fields_of (constructor_named env name.text)) parts) span

    -- of the parts, by the types of the fields
    pub part_faults : List Ty → Patterns → Option SpecError
    part_faults (t ∷ ts) (e.Patterns.more p ps) = pattern_fault t p then part_faults ts ps
    part_faults _ _ = None

  abbrev mutual
    -- the variables of a pattern, from left to right
    pub variables : Ty → Pattern → Scope
    variables ty (e.bind name) = (name.text, ty) ∷ []
    variables ty (e.Pattern.make name parts span) = part_variables (fields_of (constructor_named env name.text)) parts
    variables ty _ = []

    pub part_variables : List Ty → Patterns → Scope
    part_variables (t ∷ ts) (e.Patterns.more p ps) = variables t p ++ part_variables ts ps
    part_variables _ _ = []

  abbrev mutual
    -- The typed pattern: a variable is its place in the scope, which the variables enter from left to right.
    pub pattern_of : Scope → Ty → Pattern → m.Pattern
    pattern_of scope ty (e.any span) = m.any
    pattern_of scope ty (e.bind name) = m.bind (length scope)
    pattern_of scope ty (e.Pattern.word v w span) = m.word_is v.v
    pattern_of scope ty (e.Pattern.flag b span) = m.flag_is b
    pattern_of scope ty (e.Pattern.make name parts span) =
        m.case_is (case_number (constructor_named env name.text)) (parts_of scope (fields_of (constructor_named env name.text)) parts)

    pub parts_of : Scope → List Ty → Patterns → m.Patterns
    parts_of scope (t ∷ ts) (e.Patterns.more p ps) = m.pat_then (pattern_of scope t p) (parts_of (scope ++ variables t p) ts ps)
    parts_of scope _ _ = m.no_pat
