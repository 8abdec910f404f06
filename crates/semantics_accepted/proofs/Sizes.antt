-- Declarations without a fault of names are sized.
use Rattle.std.proofs.Common.{◌≡◌, ℕ, ◌+◌, ◌<◌, ◌≤◌, ◌^◌, true, None, List, [], ◌∷◌, ◌++◌, length, refl, arith}
use Rattle.std.specs.Prelude.{nat_lt}
use Rattle.std.specs.List.{list_all}
use Rattle.std.proofs.lemmas.Bool.Decides.{nat_tests}
use Rattle.std.proofs.lemmas.List.{length-append}
use Rattle.std.proofs.lemmas.Bool.{lt-ltb as less_is}
use Rattle.spec_match_compiler.proofs.Truth.{both}
use Rattle.syntax_parser.specs.declared.tree.FieldDecl.{FieldDecl}
use Rattle.syntax_parser.specs.Tree as e
use Rattle.syntax_parser.specs.Tree.{Item, Constructor}
use Rattle.spec_ir.specs.declared.spec_error.SpecError.{SpecError}
use Rattle.spec_ir.specs.Answers.{unless}
use Rattle.spec_ir.proofs.Checks.{then_left, then_right, unless_none}
use Rattle.spec_names.specs.Limits.{most_constructors, most_fields}
use Rattle.spec_names.specs.Names.{Names, Seen, fields_fault, cases_fault, item_fault, items_fault, seen_with}
use Rattle.spec_declarations.specs.Leaves.{datatypes}
use Rattle.spec_declarations.specs.Sizes.{has_few_fields, is_sized, are_sized}

below : (b n : ℕ) (x : SpecError) → unless (nat_lt b n) x ≡ None → b < n
below b n x h = let k = unless_none (nat_lt b n) x h in grind (arith, nat_tests)

few_fields : (before : Names) (fields : List FieldDecl) → length before ≤ 16 → fields_fault before fields ≡ None → length before + length fields ≤ 16
few_fields before [] l h = omega (arith, l)
few_fields before (f ∷ fields) l h =
    let front = then_left _ (fields_fault (before ++ f.name.text ∷ []) fields) h in
    let lt = below (length before) most_fields _ (then_right _ _ front) in
    let more = length-append before (f.name.text ∷ []) in
    let rest = few_fields (before ++ f.name.text ∷ []) fields (omega (arith, lt, more)) (then_right _ (fields_fault (before ++ f.name.text ∷ []) fields) h) in
    omega (arith, rest, more)

few_cases : (before : Names) (n : ℕ) (cases : List Constructor) → n ≤ 512 → cases_fault before n cases ≡ None → (n + length cases ≤ 512) × (list_all has_few_fields cases ≡ true)
few_cases before n [] l h = (omega (arith, l), refl)
few_cases before n (c ∷ cases) l h =
    let front = then_left _ (cases_fault (before ++ c.name.text ∷ []) (n + 1) cases) h in
    let lt = below n most_constructors _ (then_right _ _ front) in
    let fields = few_fields [] c.fields (omega arith) (then_right _ (fields_fault [] c.fields) (then_left _ _ front)) in
    let rest = few_cases (before ++ c.name.text ∷ []) (n + 1) cases (omega (arith, lt)) (then_right _ (cases_fault (before ++ c.name.text ∷ []) (n + 1) cases) h) in
    (omega (arith, rest.0), both (has_few_fields c) (list_all has_few_fields cases) (less_is (length c.fields) (2 ^ 32) (omega (arith, fields))) rest.1)

pub sized : (s : Seen) (items : List Item) → items_fault s items ≡ None → are_sized (datatypes items) ≡ true
sized s [] h = refl
sized s (e.datatype d ∷ items) h =
    let own = then_left (item_fault s (e.datatype d)) (items_fault (seen_with s (e.datatype d)) items) h in
    let few = few_cases s.cases 0 d.cases (omega arith) (then_right _ (cases_fault s.cases 0 d.cases) (then_left _ _ own)) in
    let here : is_sized d ≡ true = both (nat_lt (length d.cases) (2 ^ 32)) (list_all has_few_fields d.cases) (less_is (length d.cases) (2 ^ 32) (omega (arith, few.0))) few.1 in
    both (is_sized d) (are_sized (datatypes items)) here (sized (seen_with s (e.datatype d)) items (then_right (item_fault s (e.datatype d)) (items_fault (seen_with s (e.datatype d)) items) h))
sized s (e.map_type m ∷ items) h = sized (seen_with s (e.map_type m)) items (then_right (item_fault s (e.map_type m)) _ h)
sized s (e.function f ∷ items) h = sized (seen_with s (e.function f)) items (then_right (item_fault s (e.function f)) _ h)
sized s (e.decode d ∷ items) h = sized (seen_with s (e.decode d)) items (then_right (item_fault s (e.decode d)) _ h)
