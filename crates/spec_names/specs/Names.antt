-- The first pass: names and counts.
use Rattle.std.specs.Prelude.{ℕ, ◌+◌, Bool, true, false, not, Option, Some, None, List, [], ◌∷◌, ◌++◌, length, codes, bytes_eq, nat_lt, filter_map}
use Rattle.std.specs.List.{list_any}
use Rattle.syntax_parser.specs.declared.tree.Span.{Span}
use Rattle.syntax_parser.specs.declared.tree.Name.{Name}
use Rattle.syntax_parser.specs.declared.tree.FieldDecl.{FieldDecl}
use Rattle.syntax_parser.specs.declared.tree.PartDecl.{PartDecl}
use Rattle.syntax_parser.specs.declared.tree.PartDecl.TheVariants.{Fixed, Named}
use Rattle.syntax_parser.specs.Tree as e
use Rattle.syntax_parser.specs.Tree.{Tree, Item, Term as Expr, Terms as Exprs, Arms as ExprArms, Pattern, Patterns, Constructor, Datatype, Function, Row}
use Rattle.spec_ir.specs.declared.spec_error.SpecError.{SpecError}
use Rattle.spec_ir.specs.declared.spec_error.SpecError.TheVariants.{Twice, TooMany}
use Rattle.spec_ir.specs.Answers.{unless, ◌then◌}
use Rattle.spec_names.specs.Limits.{most_types, most_constructors, most_functions, most_fields, most_rows}

-- the names that were declared before, in their order
abbrev pub Names : Type 0
Names = List (List ℕ)

abbrev pub has : Names → List ℕ → Bool
has names text = list_any (bytes_eq text) names

-- a name that was declared before (T2)
abbrev pub twice : Names → Name → Option SpecError
twice names name = unless (not (has names name.text)) (Twice name.span name.text)

-- an item past a limit, by the count of those before it (T14)
abbrev pub too_many : ℕ → ℕ → Span → List ℕ → Option SpecError
too_many limit before span what = unless (nat_lt before limit) (TooMany span what)

-- names of which one stands twice
abbrev pub twice_among : Names → List Name → Option SpecError
twice_among before [] = None
twice_among before (n ∷ names) = twice before n then twice_among (before ++ n.text ∷ []) names

-- fields of a constructor, or parameters
abbrev pub fields_fault : Names → List FieldDecl → Option SpecError
fields_fault before [] = None
fields_fault before (f ∷ fields) = twice before f.name then too_many most_fields (length before) f.span (codes "fields") then fields_fault (before ++ f.name.text ∷ []) fields

-- constructors of a type from number n on, behind those of the types before
abbrev pub cases_fault : Names → ℕ → List Constructor → Option SpecError
cases_fault before n [] = None
cases_fault before n (c ∷ cases) =
    twice before c.name then fields_fault [] c.fields then too_many most_constructors n c.span (codes "constructors") then cases_fault (before ++ c.name.text ∷ []) (n + 1) cases

abbrev mutual
  -- the variables of a pattern, from left to right
  pub variables : Pattern → List Name
  variables (e.bind name) = name ∷ []
  variables (e.Pattern.make name parts span) = all_variables parts
  variables _ = []

  pub all_variables : Patterns → List Name
  all_variables e.Patterns.none = []
  all_variables (e.Patterns.more p ps) = variables p ++ all_variables ps

abbrev mutual
  -- patterns of a term in which a variable stands twice
  pub patterns_fault : Expr → Option SpecError
  patterns_fault (e.let_in name x body span) = patterns_fault x then patterns_fault body
  patterns_fault (e.if_else c x y span) = patterns_fault c then patterns_fault x then patterns_fault y
  patterns_fault (e.binary op x y span) = patterns_fault x then patterns_fault y
  patterns_fault (e.prefix op x span) = patterns_fault x
  patterns_fault (e.get x key span) = patterns_fault x then patterns_fault key
  patterns_fault (e.put x key v span) = patterns_fault x then patterns_fault key then patterns_fault v
  patterns_fault (e.call name args span) = all_patterns_fault args
  patterns_fault (e.Term.make name args span) = all_patterns_fault args
  patterns_fault (e.operation op x y span) = patterns_fault x then patterns_fault y
  patterns_fault (e.cast op x to span) = patterns_fault x
  patterns_fault (e.match_on x arms span) = patterns_fault x then arm_patterns_fault arms
  patterns_fault (e.paren x span) = patterns_fault x
  patterns_fault _ = None

  pub all_patterns_fault : Exprs → Option SpecError
  all_patterns_fault e.Terms.none = None
  all_patterns_fault (e.Terms.more t ts) = patterns_fault t then all_patterns_fault ts

  pub arm_patterns_fault : ExprArms → Option SpecError
  arm_patterns_fault e.no_arm = None
  arm_patterns_fault (e.arm p body span rest) = twice_among [] (variables p) then patterns_fault body then arm_patterns_fault rest

abbrev pub field_name : PartDecl → Option Name
field_name (Fixed v w span) = None
field_name (Named name w span) = Some name

-- rows from number n on
abbrev pub rows_fault : ℕ → List Row → Option SpecError
rows_fault n [] = None
rows_fault n (r ∷ rows) = twice_among [] (filter_map field_name r.parts) then too_many most_rows n r.span (codes "rows") then rows_fault (n + 1) rows

-- what was declared before
pub record Seen : Type 0 where
  pub types : Names
  pub cases : Names
  pub funs : Names
  pub decodes : Bool

abbrev pub case_names : List Constructor → Names
case_names [] = []
case_names (c ∷ cases) = c.name.text ∷ case_names cases

abbrev pub seen_with : Seen → Item → Seen
seen_with s (e.datatype d) = record s { types = s.types ++ d.name.text ∷ []; cases = s.cases ++ case_names d.cases }
seen_with s (e.map_type m) = record s { types = s.types ++ m.name.text ∷ [] }
seen_with s (e.function f) = record s { funs = s.funs ++ f.name.text ∷ [] }
seen_with s (e.decode d) = record s { decodes = true }

abbrev pub item_fault : Seen → Item → Option SpecError
item_fault s (e.datatype d) = twice s.types d.name then cases_fault s.cases 0 d.cases then too_many most_types (length s.types) d.span (codes "types")
item_fault s (e.map_type m) = twice s.types m.name then too_many most_types (length s.types) m.span (codes "types")
item_fault s (e.function f) =
    twice s.funs f.name then fields_fault [] f.params then patterns_fault f.body then too_many most_functions (length s.funs) f.span (codes "functions")
item_fault s (e.decode d) = unless (not s.decodes) (Twice d.span (codes "decode")) then rows_fault 0 d.rows

-- the first fault of items behind what was declared before
abbrev pub items_fault : Seen → List Item → Option SpecError
items_fault s [] = None
items_fault s (item ∷ items) = item_fault s item then items_fault (seen_with s item) items

abbrev pub nothing : Seen
nothing = record { types = []; cases = []; funs = []; decodes = false }

-- The first fault of names and counts.
abbrev pub names_fault : Tree → Option SpecError
names_fault tree = items_fault nothing tree.items
