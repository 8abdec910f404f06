-- What `check` gives is a machine that is accepted.
use Rattle.std.proofs.Common.{◌≡◌, Option, Some, refl, sym, ◌∙◌, subst}
use Rattle.std.specs.Prelude.{Result, Ok, Err, IfOk, IfSome, IsSome}
use Rattle.std.specs.Result.{result_ok}
use Rattle.syntax_parser.specs.Tree.{Tree}
use Rattle.spec_ir.specs.declared.spec.Machine.{Machine as MachineNumbers}
use Rattle.spec_ir.specs.declared.spec.SpecUse.TheVariants.{Machine}
use Rattle.spec_ir.specs.declared.spec.Spec.{Spec as Checked}
use Rattle.spec_ir.specs.declared.spec_error.SpecError.{SpecError}
use Rattle.spec_ir.specs.Views.{specification}
use Rattle.spec_declarations.proofs.States.{machines_are_there}
use Rattle.spec_checker.specs.Check.{IsChecked, IsParsed}
use Rattle.semantics_laws.specs.Accepted.{IsAccepted}
use Rattle.semantics_accepted.proofs.Accepted.{checked_are_accepted}

-- what holds of a result holds of the value that is taken out of it
pub if_some : {A E : Type 0} (P : A → Type 0) (result : Result A E) (value : Option A) → value ≡ result_ok result → IfOk result P → IfSome value P
if_some P (Ok x) value is h = subst (λ o. IfSome o P) (sym is) h
if_some P (Err e) value is h = subst (λ o. IfSome o P) (sym is) tt

there : (found : Option MachineNumbers) (machine : MachineNumbers) → found ≡ Some machine → IsSome found
there found machine is = subst (λ (o : Option MachineNumbers). IsSome o) (sym is) refl

module _ (tree : Tree) where
  pub result_accepted : (result : Result Checked SpecError) → IsParsed tree → IsChecked Machine tree result → IfOk result (λ spec. IsAccepted (specification spec))
  result_accepted (Ok spec) parsed p = checked_are_accepted Machine tree (specification spec) parsed p.answer.0 p.answer.1
  result_accepted (Err e) parsed p = tt

  pub result_machine : (result : Result Checked SpecError) → IsChecked Machine tree result → IfOk result (λ spec. IsSome (specification spec).machine)
  result_machine (Ok spec) p =
      let m = machines_are_there tree p.answer.0.1.1.0 in
      there (specification spec).machine m.0 (p.answer.1.machine ∙ m.1)
  result_machine (Err e) p = tt
