-- A tree has a first fault, or none: pass by pass.
use Rattle.std.proofs.Common.{◌≡◌, ◌⊎◌, ℕ, zero, suc, ◌<◌, ◌≤◌, Bool, true, Option, Some, None, List, [], ◌∷◌, length, map, slice_get, refl, sym, ◌∙◌, inl, inr, arith}
use Rattle.std.proofs.lemmas.List.{length-map}
use Rattle.syntax_parser.specs.declared.tree.Name.{Name}
use Rattle.syntax_parser.specs.Tree.{Tree, Item, Function}
use Rattle.support_reachability.specs.Table.{IsTableOf}
use Rattle.support_reachability.proofs.Tables.{some_table}
use Rattle.spec_ir.specs.declared.spec.SpecUse.{SpecUse}
use Rattle.spec_ir.specs.declared.spec_error.SpecError.{SpecError}
use Rattle.spec_ir.specs.declared.spec_error.SpecError.TheVariants.{BadRecursion}
use Rattle.spec_ir.specs.Environment.{Environment, Signature}
use Rattle.spec_ir.specs.Terms.{Term}
use Rattle.spec_names.specs.Names.{names_fault}
use Rattle.spec_declarations.specs.Declarations.{declared}
use Rattle.spec_declarations.specs.Leaves.{IsKnown, all_made}
use Rattle.spec_declarations.specs.MachineRules.{instr_of, machine_fault}
use Rattle.spec_declarations.specs.Types.{IsTypesFault, NoTypesFault, types_fault}
use Rattle.spec_calls.specs.Calls.{call_graph, calls}
use Rattle.spec_calls.specs.Recursion.{IsRecursionFault, NoRecursionFault}
use Rattle.spec_calls.specs.Told.{first_inside}
use Rattle.spec_calls.proofs.Told.{accepted, refused}
use Rattle.spec_decode_rows.specs.Rows.{decode_fault}
use Rattle.spec_checker.specs.Check.{functions_pass, later_passes, passes}
use Rattle.spec_checker.specs.Functions.{bodies, forms_of, function_names, functions, terms_fault, terms_in}
use Rattle.spec_checker.specs.Passes.{Pass, computed, ◌followed_by◌}
use Rattle.semantics_accepted.specs.CheckerLaws.{TreesAreDecided}
use Rattle.semantics_accepted.proofs.Counts.{some_known}

abbrev IsDecided : Pass → Type 0
IsDecided p = p.none ⊎ ((e : SpecError) × p.fault e)

computed_decided : (first : Option SpecError) → IsDecided (computed first)
computed_decided None = inl refl
computed_decided (Some e) = inr (e, refl)

followed_decided : (p q : Pass) → IsDecided p → IsDecided q → IsDecided (p followed_by q)
followed_decided p q (inr (e, h)) second = inr (e, inl h)
followed_decided p q (inl none) (inl other) = inl (none, other)
followed_decided p q (inl none) (inr (e, h)) = inr (e, inr (none, h))

-- ---- types

types_decided : (items : List Item) → IsDecided (record { fault = IsTypesFault items; none = NoTypesFault items })
types_decided items = by (some_known (all_made items)).0 (some_known (all_made items)).1 (some_known (all_made items)).2 (types_fault items (some_known (all_made items)).0 (some_known (all_made items)).1) refl
  where
    by : (recursive large : List Bool) → IsKnown (all_made items) recursive large → (first : Option SpecError) → types_fault items recursive large ≡ first → NoTypesFault items ⊎ ((e : SpecError) × IsTypesFault items e)
    by recursive large known None is = inl (recursive, large, known, is)
    by recursive large known (Some e) is = inr (e, (recursive, large, known, is))

-- ---- calls

named : (names : List Name) (n : ℕ) → n < length names → (name : Name) × (slice_get names n ≡ Some name)
named [] n below = absurd (omega arith)
named (x ∷ xs) zero below = (x, refl)
named (x ∷ xs) (suc n) below = named xs n (omega arith)

recursion_decided : (names : List Name) (terms : List Term) → length terms ≤ length names → IsDecided (record { fault = IsRecursionFault names terms; none = NoRecursionFault terms })
recursion_decided names terms few = by (some_table (call_graph terms)).0 (some_table (call_graph terms)).1 (first_inside (some_table (call_graph terms)).0 0 (map (calls true) terms)) refl
  where
    by : (t : List (List Bool)) (table : IsTableOf (call_graph terms) t) (first : Option ℕ) → first_inside t 0 (map (calls true) terms) ≡ first → NoRecursionFault terms ⊎ ((e : SpecError) × IsRecursionFault names terms e)
    by t table None is = inl (accepted terms t table is)
    by t table (Some f) is =
        let bad = refused terms t table f is in
        let name = named names f (omega (arith, bad.below)) in
        inr (BadRecursion name.0.span name.0.text, record { fun = f; name = name.0; is = name.1; bad = bad.bad; first = bad.first; says = refl })

-- each body is that of a function with a name
few_forms : (env : Environment) (fs : List Function) (ss : List Signature) → length (terms_in (forms_of env fs ss)) ≤ length fs
few_forms env [] ss = omega arith
few_forms env (f ∷ fs) [] = omega arith
few_forms env (f ∷ fs) (s ∷ ss) = omega (arith, few_forms env fs ss)

few_bodies : (env : Environment) (items : List Item) → length (bodies env items) ≤ length (function_names items)
few_bodies env items = omega (arith, few_forms env (functions items) env.funs, length-map (functions items) (λ (f : Function). f.name))

-- ---- all passes

functions_decided : (env : Environment) (items : List Item) → IsDecided (functions_pass env items)
functions_decided env items = followed_decided _ _ (computed_decided (terms_fault env items)) (recursion_decided (function_names items) (bodies env items) (few_bodies env items))

later_decided : (env : Environment) (tree : Tree) → IsDecided (later_passes env tree)
later_decided env tree = followed_decided _ _ (functions_decided env tree.items) (computed_decided (decode_fault env (instr_of tree) tree))

pub trees_are_decided : TreesAreDecided
trees_are_decided wanted tree =
    followed_decided _ _ (computed_decided (names_fault tree))
    (followed_decided _ _ (types_decided tree.items)
    (followed_decided _ _ (computed_decided (machine_fault wanted tree)) (later_decided (declared tree.items) tree)))
