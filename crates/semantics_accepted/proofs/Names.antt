-- What the names of datatypes and functions of a machine mean.
use Rattle.std.proofs.Common.{◌≡◌, ℕ, suc, ◌+◌, Bool, true, false, not, cond, bytes_eq, codes, Some, None, List, [], ◌∷◌, ◌++◌, slice_get, refl, sym, ap, ◌∙◌, subst, arith}
use Rattle.std.proofs.lemmas.Bool.{false≢true, not-true as not_true, or_right, or_left}
use Rattle.std.proofs.lemmas.List.Folds.{list_any-append}
use Rattle.syntax_parser.specs.declared.tree.Name.{Name}
use Rattle.syntax_parser.specs.Tree as e
use Rattle.syntax_parser.specs.Tree.{Item, Datatype, Function}
use Rattle.spec_ir.specs.declared.ty.Ty.TheVariants.{Data as DataTy, Map as MapOf}
use Rattle.spec_ir.specs.Answers.{◌then◌}
use Rattle.spec_ir.proofs.Entered.{same_name as same_bytes, name_itself as itself}
use Rattle.spec_ir.proofs.Checks.{then_left, then_right, unless_none}
use Rattle.spec_names.specs.Names.{Names, Seen, has, twice, cases_fault, item_fault, items_fault, seen_with}
use Rattle.spec_declarations.specs.declared.type_names.Meaning.TheVariants.{Known}
use Rattle.spec_declarations.specs.TypeNames.{types_from, types_of, declared_named, type_named}
use Rattle.spec_declarations.specs.Leaves.{datatypes}
use Rattle.spec_declarations.specs.MachineRules.{datatype_from, function_from}
use Rattle.spec_declarations.proofs.States.{none_some}
use Rattle.spec_checker.specs.Functions.{functions}

-- ---- names of types that were declared before
pub has_more : (names : Names) (x name : List ℕ) → has names name ≡ true → has (names ++ x ∷ []) name ≡ true
has_more names x name h = list_any-append (bytes_eq name) names (x ∷ []) ∙ or_left (has names name) (has (x ∷ []) name) h

pub has_last : (names : Names) (name : List ℕ) → has (names ++ name ∷ []) name ≡ true
has_last names name = list_any-append (bytes_eq name) names (name ∷ []) ∙ or_right (has names name) (has (name ∷ []) name) (or_left (bytes_eq name name) false (itself name))

pub new_name : (names : Names) (x : Name) → twice names x ≡ None → has names x.text ≡ false
new_name names x h = not_true (has names x.text) (unless_none (not (has names x.text)) _ h)

-- no later datatype has a name that was declared before
later_none : (s : Seen) (items : List Item) (n : ℕ) (name : List ℕ) → items_fault s items ≡ None → has s.types name ≡ true → datatype_from n items name ≡ None
later_none s [] n name h k = refl
later_none s (e.datatype d ∷ items) n name h k =
    at (bytes_eq d.name.text name) refl (later_none (seen_with s (e.datatype d)) items (n + 1) name (then_right (item_fault s (e.datatype d)) _ h) (has_more s.types d.name.text name k))
  where
    new : has s.types d.name.text ≡ false
    new = new_name s.types d.name (then_left (twice s.types d.name) _ (then_left (twice s.types d.name then cases_fault s.cases 0 d.cases) _ (then_left (item_fault s (e.datatype d)) _ h)))

    at : (b : Bool) → bytes_eq d.name.text name ≡ b → datatype_from (n + 1) items name ≡ None → cond b (Some (n, d)) (datatype_from (n + 1) items name) ≡ None
    at true q later = absurd (false≢true (sym new ∙ subst (λ z. has s.types z ≡ true) (sym (same_bytes d.name.text name q)) k))
    at false q later = later
later_none s (e.map_type m ∷ items) n name h k = later_none (seen_with s (e.map_type m)) items n name (then_right (item_fault s (e.map_type m)) _ h) (has_more s.types m.name.text name k)
later_none s (e.function f ∷ items) n name h k = later_none (seen_with s (e.function f)) items n name (then_right (item_fault s (e.function f)) _ h) k
later_none s (e.decode d ∷ items) n name h k = later_none (seen_with s (e.decode d)) items n name (then_right (item_fault s (e.decode d)) _ h) k

-- a datatype of a name is what the name means
named : (s : Seen) (items : List Item) (d m : ℕ) (name : List ℕ) (i : ℕ × Datatype) → items_fault s items ≡ None → datatype_from d items name ≡ Some i → declared_named (types_from d m items) name ≡ Known (DataTy i.0)
named s [] d m name i h k = none_some i k
named s (e.datatype x ∷ items) d m name i h k = at (λ q. named (seen_with s (e.datatype x)) items (d + 1) m name i (then_right (item_fault s (e.datatype x)) _ h) q) (bytes_eq x.name.text name) k
  where
    at : (datatype_from (d + 1) items name ≡ Some i → declared_named (types_from (d + 1) m items) name ≡ Known (DataTy i.0)) → (b : Bool) → cond b (Some (d, x)) (datatype_from (d + 1) items name) ≡ Some i
        → cond b (Known (DataTy d)) (declared_named (types_from (d + 1) m items) name) ≡ Known (DataTy i.0)
    at later true q = let same : (d, x) ≡ i = cc in ap (λ z. Known (DataTy z.0)) same
    at later false q = later q
named s (e.map_type x ∷ items) d m name i h k =
    at (bytes_eq x.name.text name) refl (named (seen_with s (e.map_type x)) items d (m + 1) name i (then_right (item_fault s (e.map_type x)) _ h) k)
  where
    at : (b : Bool) → bytes_eq x.name.text name ≡ b → declared_named (types_from d (m + 1) items) name ≡ Known (DataTy i.0) → cond b (Known (MapOf m)) (declared_named (types_from d (m + 1) items) name) ≡ Known (DataTy i.0)
    at true q later =
        let last = subst (λ z. has (s.types ++ x.name.text ∷ []) z ≡ true) (same_bytes x.name.text name q) (has_last s.types x.name.text) in
        none_some i (sym (later_none (seen_with s (e.map_type x)) items d name (then_right (item_fault s (e.map_type x)) _ h) last) ∙ k)
    at false q later = later
named s (e.function f ∷ items) d m name i h k = named (seen_with s (e.function f)) items d m name i (then_right (item_fault s (e.function f)) _ h) k
named s (e.decode x ∷ items) d m name i h k = named (seen_with s (e.decode x)) items d m name i (then_right (item_fault s (e.decode x)) _ h) k

pub instr_named : (s : Seen) (items : List Item) (i : ℕ × Datatype) → items_fault s items ≡ None → datatype_from 0 items (codes "Instr") ≡ Some i → type_named (types_of items) (codes "Instr") ≡ Known (DataTy i.0)
unfolding type_named
instr_named s items i h k = named s items 0 0 (codes "Instr") i h k

pub state_named : (s : Seen) (items : List Item) (i : ℕ × Datatype) → items_fault s items ≡ None → datatype_from 0 items (codes "State") ≡ Some i → type_named (types_of items) (codes "State") ≡ Known (DataTy i.0)
unfolding type_named
state_named s items i h k = named s items 0 0 (codes "State") i h k

-- ---- by their numbers
pub datatype_at : (n : ℕ) (items : List Item) (name : List ℕ) (d : ℕ × Datatype) → datatype_from n items name ≡ Some d → (j : ℕ) × (d.0 ≡ n + j) × (slice_get (datatypes items) j ≡ Some d.1)
datatype_at n [] name d h = none_some d h
datatype_at n (e.datatype x ∷ items) name d h = here (bytes_eq x.name.text name) h (λ k. datatype_at (n + 1) items name d k)
  where
    here : (c : Bool) → cond c (Some (n, x)) (datatype_from (n + 1) items name) ≡ Some d
        → (datatype_from (n + 1) items name ≡ Some d → (j : ℕ) × (d.0 ≡ n + 1 + j) × (slice_get (datatypes items) j ≡ Some d.1))
        → (j : ℕ) × (d.0 ≡ n + j) × (slice_get (x ∷ datatypes items) j ≡ Some d.1)
    here true q later = let same : (n, x) ≡ d = cc in (0, omega (arith, ap (λ p. p.0) same), ap (λ p. Some p.1) same)
    here false q later = let r = later q in (suc r.0, omega (arith, r.1), r.2)
datatype_at n (e.map_type m ∷ items) name d h = datatype_at n items name d h
datatype_at n (e.function f ∷ items) name d h = datatype_at n items name d h
datatype_at n (e.decode x ∷ items) name d h = datatype_at n items name d h

pub function_at : (n : ℕ) (items : List Item) (name : List ℕ) (d : ℕ × Function) → function_from n items name ≡ Some d → (j : ℕ) × (d.0 ≡ n + j) × (slice_get (functions items) j ≡ Some d.1)
function_at n [] name d h = none_some d h
function_at n (e.function x ∷ items) name d h = here (bytes_eq x.name.text name) h (λ k. function_at (n + 1) items name d k)
  where
    here : (c : Bool) → cond c (Some (n, x)) (function_from (n + 1) items name) ≡ Some d
        → (function_from (n + 1) items name ≡ Some d → (j : ℕ) × (d.0 ≡ n + 1 + j) × (slice_get (functions items) j ≡ Some d.1))
        → (j : ℕ) × (d.0 ≡ n + j) × (slice_get (x ∷ functions items) j ≡ Some d.1)
    here true q later = let same : (n, x) ≡ d = cc in (0, omega (arith, ap (λ p. p.0) same), ap (λ p. Some p.1) same)
    here false q later = let r = later q in (suc r.0, omega (arith, r.1), r.2)
function_at n (e.map_type m ∷ items) name d h = function_at n items name d h
function_at n (e.datatype x ∷ items) name d h = function_at n items name d h
function_at n (e.decode x ∷ items) name d h = function_at n items name d h
