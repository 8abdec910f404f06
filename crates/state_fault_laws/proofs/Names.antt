-- Faults of names and counts.
use Rattle.std.proofs.Common.{ℕ, ◌+◌, List, [], ◌∷◌, ◌++◌, length, not, Option, filter_map}
use Rattle.std.specs.Prelude.{codes, nat_lt}
use Rattle.syntax_parser.specs.declared.tree.Span.{Span}
use Rattle.syntax_parser.specs.declared.tree.Name.{Name}
use Rattle.syntax_parser.specs.declared.tree.FieldDecl.{FieldDecl}
use Rattle.syntax_parser.specs.Tree as e
use Rattle.syntax_parser.specs.Tree.{Tree, Item, Term as Expr, Terms as Exprs, Arms as ExprArms, Constructor, Row}
use Rattle.spec_ir.specs.declared.spec_error.SpecError.TheVariants.{Twice, TooMany}
use Rattle.spec_ir.specs.Answers.{unless, ◌then◌}
use Rattle.spec_names.specs.Limits.{most_types, most_constructors, most_functions, most_fields, most_rows}
use Rattle.spec_names.specs.Names.{Names, Seen, all_patterns_fault, arm_patterns_fault, case_names, cases_fault, field_name, fields_fault, has, item_fault, items_fault, names_fault, nothing, patterns_fault, rows_fault, seen_with, too_many, twice, twice_among, variables}
use Rattle.state_fault_laws.proofs.Told.{IsToldIn, both, where_fails}

twice_told : (names : Names) (name : Name) → IsToldIn (twice names name)
twice_told names name = where_fails (not (has names name.text)) (Twice name.span name.text) tt

many_told : (limit before : ℕ) (span : Span) (what : List ℕ) → IsToldIn (too_many limit before span what)
many_told limit before span what = where_fails (nat_lt before limit) (TooMany span what) tt

among_told : (before : Names) (names : List Name) → IsToldIn (twice_among before names)
among_told before [] = tt
among_told before (n ∷ names) = both (twice before n) (twice_among (before ++ n.text ∷ []) names) (twice_told before n) (among_told (before ++ n.text ∷ []) names)

fields_told : (before : Names) (fields : List FieldDecl) → IsToldIn (fields_fault before fields)
fields_told before [] = tt
fields_told before (f ∷ fields) =
    both (twice before f.name then too_many most_fields (length before) f.span (codes "fields")) (fields_fault (before ++ f.name.text ∷ []) fields)
    (both (twice before f.name) (too_many most_fields (length before) f.span (codes "fields")) (twice_told before f.name) (many_told most_fields (length before) f.span (codes "fields")))
    (fields_told (before ++ f.name.text ∷ []) fields)

cases_told : (before : Names) (n : ℕ) (cases : List Constructor) → IsToldIn (cases_fault before n cases)
cases_told before n [] = tt
cases_told before n (c ∷ cases) =
    both (twice before c.name then fields_fault [] c.fields then too_many most_constructors n c.span (codes "constructors")) (cases_fault (before ++ c.name.text ∷ []) (n + 1) cases)
    (both (twice before c.name then fields_fault [] c.fields) (too_many most_constructors n c.span (codes "constructors"))
    (both (twice before c.name) (fields_fault [] c.fields) (twice_told before c.name) (fields_told [] c.fields))
    (many_told most_constructors n c.span (codes "constructors")))
    (cases_told (before ++ c.name.text ∷ []) (n + 1) cases)

mutual
  patterns_told : (x : Expr) → IsToldIn (patterns_fault x)
  patterns_told (e.let_in name x body span) = both (patterns_fault x) (patterns_fault body) (patterns_told x) (patterns_told body)
  patterns_told (e.if_else c x y span) =
      both (patterns_fault c then patterns_fault x) (patterns_fault y) (both (patterns_fault c) (patterns_fault x) (patterns_told c) (patterns_told x)) (patterns_told y)
  patterns_told (e.binary op x y span) = both (patterns_fault x) (patterns_fault y) (patterns_told x) (patterns_told y)
  patterns_told (e.prefix op x span) = patterns_told x
  patterns_told (e.get x key span) = both (patterns_fault x) (patterns_fault key) (patterns_told x) (patterns_told key)
  patterns_told (e.put x key v span) =
      both (patterns_fault x then patterns_fault key) (patterns_fault v) (both (patterns_fault x) (patterns_fault key) (patterns_told x) (patterns_told key)) (patterns_told v)
  patterns_told (e.Term.word v w span) = tt
  patterns_told (e.Term.flag b span) = tt
  patterns_told (e.var name) = tt
  patterns_told (e.call name args span) = all_patterns_told args
  patterns_told (e.Term.make name args span) = all_patterns_told args
  patterns_told (e.operation op x y span) = both (patterns_fault x) (patterns_fault y) (patterns_told x) (patterns_told y)
  patterns_told (e.cast op x to span) = patterns_told x
  patterns_told (e.match_on x arms span) = both (patterns_fault x) (arm_patterns_fault arms) (patterns_told x) (arm_patterns_told arms)
  patterns_told (e.paren x span) = patterns_told x

  all_patterns_told : (xs : Exprs) → IsToldIn (all_patterns_fault xs)
  all_patterns_told e.Terms.none = tt
  all_patterns_told (e.Terms.more t ts) = both (patterns_fault t) (all_patterns_fault ts) (patterns_told t) (all_patterns_told ts)

  arm_patterns_told : (arms : ExprArms) → IsToldIn (arm_patterns_fault arms)
  arm_patterns_told e.no_arm = tt
  arm_patterns_told (e.arm p body span rest) =
      both (twice_among [] (variables p) then patterns_fault body) (arm_patterns_fault rest)
      (both (twice_among [] (variables p)) (patterns_fault body) (among_told [] (variables p)) (patterns_told body)) (arm_patterns_told rest)

rows_told : (n : ℕ) (rows : List Row) → IsToldIn (rows_fault n rows)
rows_told n [] = tt
rows_told n (r ∷ rows) =
    both (twice_among [] (filter_map field_name r.parts) then too_many most_rows n r.span (codes "rows")) (rows_fault (n + 1) rows)
    (both (twice_among [] (filter_map field_name r.parts)) (too_many most_rows n r.span (codes "rows")) (among_told [] (filter_map field_name r.parts)) (many_told most_rows n r.span (codes "rows")))
    (rows_told (n + 1) rows)

item_told : (s : Seen) (item : Item) → IsToldIn (item_fault s item)
item_told s (e.datatype d) =
    both (twice s.types d.name then cases_fault s.cases 0 d.cases) (too_many most_types (length s.types) d.span (codes "types"))
    (both (twice s.types d.name) (cases_fault s.cases 0 d.cases) (twice_told s.types d.name) (cases_told s.cases 0 d.cases)) (many_told most_types (length s.types) d.span (codes "types"))
item_told s (e.map_type m) =
    both (twice s.types m.name) (too_many most_types (length s.types) m.span (codes "types")) (twice_told s.types m.name) (many_told most_types (length s.types) m.span (codes "types"))
item_told s (e.function f) =
    both (twice s.funs f.name then fields_fault [] f.params then patterns_fault f.body) (too_many most_functions (length s.funs) f.span (codes "functions"))
    (both (twice s.funs f.name then fields_fault [] f.params) (patterns_fault f.body)
    (both (twice s.funs f.name) (fields_fault [] f.params) (twice_told s.funs f.name) (fields_told [] f.params)) (patterns_told f.body))
    (many_told most_functions (length s.funs) f.span (codes "functions"))
item_told s (e.decode d) =
    both (unless (not s.decodes) (Twice d.span (codes "decode"))) (rows_fault 0 d.rows) (where_fails (not s.decodes) (Twice d.span (codes "decode")) tt) (rows_told 0 d.rows)

items_told : (s : Seen) (items : List Item) → IsToldIn (items_fault s items)
items_told s [] = tt
items_told s (item ∷ items) = both (item_fault s item) (items_fault (seen_with s item) items) (item_told s item) (items_told (seen_with s item) items)

pub names_told : (tree : Tree) → IsToldIn (names_fault tree)
names_told tree = items_told nothing tree.items
