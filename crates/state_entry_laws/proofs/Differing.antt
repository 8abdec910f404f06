-- Names that the first pass found no fault in differ.
use Rattle.std.proofs.Common.{◌≡◌, ℕ, ◌+◌, ◌<◌, ◌≤◌, ◌||◌, Bool, true, false, not, bytes_eq, codes, None, List, [], ◌∷◌, ◌++◌, length, map, refl, sym, ◌∙◌, subst, arith}
use Rattle.std.specs.Prelude.{⊤, nat_lt}
use Rattle.std.specs.List.{list_any}
use Rattle.std.proofs.lemmas.Bool.{false≢true, and_from as and_true}
use Rattle.std.proofs.lemmas.Bool.Decides.{nat_tests}
use Rattle.std.proofs.lemmas.List.{length-append}
use Rattle.std.proofs.lemmas.Slice.Eq.{bytes_eq-Decides}
use Rattle.syntax_parser.specs.declared.tree.FieldDecl.{FieldDecl}
use Rattle.syntax_parser.specs.Tree as e
use Rattle.syntax_parser.specs.Tree.{Constructor, Datatype, Item, Tree}
use Rattle.spec_ir.specs.Answers.{◌then◌}
use Rattle.spec_ir.proofs.Checks.{then_left, then_right, unless_none}
use Rattle.spec_names.specs.Limits.{most_constructors, most_fields, most_types}
use Rattle.spec_names.specs.Names.{Names, Seen, cases_fault, case_names, fields_fault, has, item_fault, items_fault, names_fault, nothing, seen_with, too_many, twice}
use Rattle.spec_declarations.specs.Leaves.{datatypes}
use Rattle.state_text.specs.Laws.{all_differ}
use Rattle.semantics_accepted.proofs.Names.{has_more, has_last, new_name}

-- names that are new, each behind those before it
abbrev Fresh : Names → List (List ℕ) → Type 0
Fresh before [] = ⊤
Fresh before (n ∷ names) = (has before n ≡ false) × Fresh (before ++ n ∷ []) names

-- a name that was there before is none of new ones
none_by : (before : Names) (name n : List ℕ) (names : List (List ℕ)) → has before name ≡ true → has before n ≡ false → not (list_any (bytes_eq name) names) ≡ true
    → (same : Bool) → bytes_eq name n ≡ same → not (same || list_any (bytes_eq name) names) ≡ true
none_by before name n names h new later true s =
    let there : has before n ≡ true = subst (λ x. has before x ≡ true) ((bytes_eq-Decides name n).0 s) h in
    absurd (false≢true (sym new ∙ there))
none_by before name n names h new later false s = later

none_of : (before : Names) (name : List ℕ) (names : List (List ℕ)) → has before name ≡ true → Fresh before names → not (list_any (bytes_eq name) names) ≡ true
none_of before name [] h f = refl
none_of before name (n ∷ names) h f = none_by before name n names h f.0 (none_of (before ++ n ∷ []) name names (has_more before n name h) f.1) (bytes_eq name n) refl

differ : (before : Names) (names : List (List ℕ)) → Fresh before names → all_differ names ≡ true
differ before [] f = refl
differ before (n ∷ names) f = and_true (not (list_any (bytes_eq n) names)) (all_differ names) (none_of (before ++ n ∷ []) n names (has_last before n) f.1) (differ (before ++ n ∷ []) names f.1)

-- ---- what the pass says

abbrev pub field_names : List FieldDecl → List (List ℕ)
field_names fields = map (λ f. f.name.text) fields

fresh_fields : (before : Names) (fields : List FieldDecl) → fields_fault before fields ≡ None → Fresh before (field_names fields)
fresh_fields before [] h = tt
fresh_fields before (f ∷ fields) h =
    let many = too_many most_fields (length before) f.span (codes "fields") in
    let rest = fields_fault (before ++ f.name.text ∷ []) fields in (
      new_name before f.name (then_left (twice before f.name) many (then_left (twice before f.name then many) rest h)),
      fresh_fields (before ++ f.name.text ∷ []) fields (then_right (twice before f.name then many) rest h),
    )

-- fields are few
few_fields : (before : Names) (fields : List FieldDecl) → length before ≤ most_fields → fields_fault before fields ≡ None → length before + length fields ≤ most_fields
few_fields before [] le h = omega (arith, le)
few_fields before (f ∷ fields) le h =
    let many = too_many most_fields (length before) f.span (codes "fields") in
    let rest = fields_fault (before ++ f.name.text ∷ []) fields in
    let here : nat_lt (length before) most_fields ≡ true = unless_none (nat_lt (length before) most_fields) _ (then_right (twice before f.name) many (then_left (twice before f.name then many) rest h)) in
    let less : length before < most_fields = grind (arith, nat_tests, here) in
    let one : length (before ++ f.name.text ∷ []) ≡ length before + 1 = length-append before (f.name.text ∷ []) in
    let more = few_fields (before ++ f.name.text ∷ []) fields (omega (arith, one, less)) (then_right (twice before f.name then many) rest h) in
    omega (arith, one, more)

fresh_cases : (before : Names) (n : ℕ) (cases : List Constructor) → cases_fault before n cases ≡ None → Fresh before (case_names cases)
fresh_cases before n [] h = tt
fresh_cases before n (c ∷ cases) h =
    let fields = fields_fault [] c.fields in
    let many = too_many most_constructors n c.span (codes "constructors") in
    let rest = cases_fault (before ++ c.name.text ∷ []) (n + 1) cases in (
      new_name before c.name (then_left (twice before c.name) fields (then_left (twice before c.name then fields) many (then_left (twice before c.name then fields then many) rest h))),
      fresh_cases (before ++ c.name.text ∷ []) (n + 1) cases (then_right (twice before c.name then fields then many) rest h),
    )

-- A constructor has few fields, of different names.
pub record HasFewFields (c : Constructor) : Type 0 where
  pub names : all_differ (field_names c.fields) ≡ true
  pub few : length c.fields ≤ most_fields

abbrev pub HaveFewFields : List Constructor → Type 0
HaveFewFields [] = ⊤
HaveFewFields (c ∷ cases) = HasFewFields c × HaveFewFields cases

-- Constructors of a datatype have different names, and so have fields of a constructor.
pub record HasDifferentNames (d : Datatype) : Type 0 where
  pub cases : all_differ (case_names d.cases) ≡ true
  pub fields : HaveFewFields d.cases

abbrev pub HaveDifferentNames : List Datatype → Type 0
HaveDifferentNames [] = ⊤
HaveDifferentNames (d ∷ datas) = HasDifferentNames d × HaveDifferentNames datas

few_in_cases : (before : Names) (n : ℕ) (cases : List Constructor) → cases_fault before n cases ≡ None → HaveFewFields cases
few_in_cases before n [] h = tt
few_in_cases before n (c ∷ cases) h =
    let fields = fields_fault [] c.fields in
    let many = too_many most_constructors n c.span (codes "constructors") in
    let rest = cases_fault (before ++ c.name.text ∷ []) (n + 1) cases in
    let fine : fields ≡ None = then_right (twice before c.name) fields (then_left (twice before c.name then fields) many (then_left (twice before c.name then fields then many) rest h)) in
    let counted = few_fields [] c.fields (omega arith) fine in
    let count : length c.fields ≤ most_fields = omega (arith, counted) in (
      record { names = differ [] (field_names c.fields) (fresh_fields [] c.fields fine); few = count },
      few_in_cases (before ++ c.name.text ∷ []) (n + 1) cases (then_right (twice before c.name then fields then many) rest h),
    )

different_names : (s : Seen) (items : List Item) → items_fault s items ≡ None → HaveDifferentNames (datatypes items)
different_names s [] h = tt
different_names s (e.datatype d ∷ items) h =
    let many = too_many most_types (length s.types) d.span (codes "types") in
    let cases = cases_fault s.cases 0 d.cases in
    let rest = items_fault (seen_with s (e.datatype d)) items in
    let fine : cases ≡ None = then_right (twice s.types d.name) cases (then_left (twice s.types d.name then cases) many (then_left (item_fault s (e.datatype d)) rest h)) in (
      record { cases = differ s.cases (case_names d.cases) (fresh_cases s.cases 0 d.cases fine); fields = few_in_cases s.cases 0 d.cases fine },
      different_names (seen_with s (e.datatype d)) items (then_right (item_fault s (e.datatype d)) rest h),
    )
different_names s (e.map_type m ∷ items) h = different_names (seen_with s (e.map_type m)) items (then_right (item_fault s (e.map_type m)) _ h)
different_names s (e.function f ∷ items) h = different_names (seen_with s (e.function f)) items (then_right (item_fault s (e.function f)) _ h)
different_names s (e.decode x ∷ items) h = different_names (seen_with s (e.decode x)) items (then_right (item_fault s (e.decode x)) _ h)

pub names_differ : (tree : Tree) → names_fault tree ≡ None → HaveDifferentNames (datatypes tree.items)
names_differ tree h = different_names nothing tree.items h
