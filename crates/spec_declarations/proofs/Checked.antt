-- Types that the code has checked.
use Rattle.std.proofs.Common.{◌≡◌, Bool, true, Option, None, List, map, Result, Ok, Err, OnOk, subst, ap, ◌∙◌, sym}
use Rattle.syntax_parser.specs.Tree.{Item, Datatype}
use Rattle.spec_ir.specs.declared.spec_error.SpecError.{SpecError}
use Rattle.spec_ir.specs.Answers.{Agrees}
use Rattle.spec_ir.specs.WellFormed.{IsWellFormed}
use Rattle.spec_declarations.specs.Declarations.{declared, HaveCases}
use Rattle.spec_declarations.specs.Leaves.{made, datatypes, IsKnown}
use Rattle.spec_declarations.specs.Sizes.{are_sized}
use Rattle.spec_declarations.specs.TypeNames.{TypeTable, types_of}
use Rattle.spec_declarations.specs.Types.{items_types_fault}
use Rattle.spec_declarations.proofs.Ranked.{types_are_ranked}

on_ok : {A : Type 0} (r : Result A SpecError) (f : Option SpecError) (P : Type 0) → Agrees r f → (f ≡ None → P) → OnOk r P
on_ok (Ok x) f P a h = h a
on_ok (Err e) f P a h = tt

pub checked : {A : Type 0} (items : List Item) (names : TypeTable) (d1 d2 d3 : List Datatype) (recursive large : List Bool) (r : Result A SpecError)
    → names ≡ types_of items → d1 ≡ datatypes items → d2 ≡ datatypes items → d3 ≡ datatypes items → are_sized d1 ≡ true
    → IsKnown (map (made names) d2) recursive large → Agrees r (items_types_fault names d3 recursive large 0 items)
    → OnOk r (HaveCases items → IsWellFormed (declared items))
checked items names d1 d2 d3 recursive large r n e1 e2 e3 sized known answer =
    on_ok r (items_types_fault names d3 recursive large 0 items) (HaveCases items → IsWellFormed (declared items)) answer
    (λ none cases. types_are_ranked items (
      recursive,
      large,
      subst (λ x. IsKnown (map (made x) (datatypes items)) recursive large) n (subst (λ ds. IsKnown (map (made names) ds) recursive large) e2 known),
      sym (ap (λ x. items_types_fault x (datatypes items) recursive large 0 items) n) ∙ sym (ap (λ ds. items_types_fault names ds recursive large 0 items) e3) ∙ none,
    )
    (sym (ap are_sized e1) ∙ sized) cases)
