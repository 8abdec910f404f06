-- There is one first fault, or none.
use Rattle.std.proofs.Common.{◌≡◌, ◌⊎◌, inl, inr, Option, Some, None, List}
use Rattle.syntax_parser.specs.Tree.{Tree, Item}
use Rattle.spec_ir.specs.declared.spec.SpecUse.{SpecUse}
use Rattle.spec_ir.specs.declared.spec.Spec.{Spec}
use Rattle.spec_ir.specs.declared.spec_error.SpecError.{SpecError}
use Rattle.spec_ir.specs.declared.spec_error.SpecError.TheVariants.{NoMemory}
use Rattle.spec_ir.specs.Environment.{Environment}
use Rattle.std.proofs.Common.{Result, Ok, Err}
use Rattle.spec_names.specs.Names.{names_fault}
use Rattle.spec_declarations.specs.Types.{IsTypesFault, NoTypesFault}
use Rattle.spec_declarations.specs.Declarations.{declared}
use Rattle.spec_declarations.specs.MachineRules.{instr_of, machine_fault}
use Rattle.spec_declarations.proofs.Settled.{faults_are_settled as types_are_settled}
use Rattle.spec_calls.specs.Recursion.{IsRecursionFault, NoRecursionFault}
use Rattle.spec_calls.proofs.Settled.{faults_are_settled as calls_are_settled}
use Rattle.spec_decode_rows.specs.Rows.{decode_fault}
use Rattle.spec_checker.specs.Passes.{Pass, computed, ◌followed_by◌}
use Rattle.spec_checker.specs.Functions.{bodies, function_names, terms_fault}
use Rattle.spec_checker.specs.Check.{functions_pass, later_passes, passes, Answers, IsChecked}
use Rattle.spec_checker.specs.Laws.{FaultsAreSettled}

-- a pass has one first fault, or none
pub record IsSettled (p : Pass) : Type 0 where
  pub one : (e f : SpecError) → p.fault e → p.fault f → e ≡ f
  pub not_both : (e : SpecError) → p.none → ¬ p.fault e

computed_one : (o : Option SpecError) (e f : SpecError) → o ≡ Some e → o ≡ Some f → e ≡ f
computed_one o e f h k = cc

computed_not_both : (o : Option SpecError) (e : SpecError) → o ≡ None → ¬ (o ≡ Some e)
computed_not_both o e h k = cc

computed_settled : (o : Option SpecError) → IsSettled (computed o)
computed_settled o = record { one = computed_one o; not_both = computed_not_both o }

module _ (p q : Pass) (first : IsSettled p) (second : IsSettled q) where
  followed_one : (e f : SpecError) → (p followed_by q).fault e → (p followed_by q).fault f → e ≡ f
  followed_one e f (inl a) (inl b) = first.one e f a b
  followed_one e f (inl a) (inr b) = absurd (first.not_both e b.0 a)
  followed_one e f (inr a) (inl b) = absurd (first.not_both f a.0 b)
  followed_one e f (inr a) (inr b) = second.one e f a.1 b.1

  followed_not_both : (e : SpecError) → (p followed_by q).none → ¬ (p followed_by q).fault e
  followed_not_both e n (inl a) = first.not_both e n.0 a
  followed_not_both e n (inr a) = second.not_both e n.1 a.1

  followed_settled : IsSettled (p followed_by q)
  followed_settled = record { one = followed_one; not_both = followed_not_both }

types_settled : (items : List Item) → IsSettled (record { fault = IsTypesFault items; none = NoTypesFault items })
types_settled items = record { one = types_are_settled.one items; not_both = types_are_settled.not_both items }

recursion_settled : (env : Environment) (items : List Item) → IsSettled (record { fault = IsRecursionFault (function_names items) (bodies env items); none = NoRecursionFault (bodies env items) })
recursion_settled env items =
    let s = calls_are_settled (function_names items) (bodies env items) in
    record { one = s.one; not_both = s.not_both }

functions_settled : (env : Environment) (items : List Item) → IsSettled (functions_pass env items)
functions_settled env items = followed_settled _ _ (computed_settled (terms_fault env items)) (recursion_settled env items)

later_settled : (env : Environment) (tree : Tree) → IsSettled (later_passes env tree)
later_settled env tree = followed_settled _ _ (functions_settled env tree.items) (computed_settled (decode_fault env (instr_of tree) tree))

pub settled : (wanted : SpecUse) (tree : Tree) → IsSettled (passes wanted tree)
settled wanted tree =
    followed_settled _ _ (computed_settled (names_fault tree))
    (followed_settled _ _ (types_settled tree.items)
    (followed_settled _ _ (computed_settled (machine_fault wanted tree)) (later_settled (declared tree.items) tree)))

pub faults_are_settled : FaultsAreSettled
faults_are_settled = record {
  one = λ wanted tree. (settled wanted tree).one;
  not_both = λ wanted tree. (settled wanted tree).not_both;
}

-- what the answer says is said both ways
pub checked : (wanted : SpecUse) (tree : Tree) (r : Result Spec SpecError) → Answers wanted tree r → IsChecked wanted tree r
checked wanted tree (Ok s) h = record {
  answer = h;
  refused = λ e f. (settled wanted tree).not_both e h.0 f;
  accepted = λ n. tt;
}
checked wanted tree (Err e) h = record {
  answer = h;
  refused = λ f g. is_it f g h;
  accepted = λ n. is_memory n h;
}
  where
    is_it : (f : SpecError) → (passes wanted tree).fault f → (passes wanted tree).fault e ⊎ (e ≡ NoMemory) → (e ≡ f) ⊎ (e ≡ NoMemory)
    is_it f g (inl a) = inl ((settled wanted tree).one e f a g)
    is_it f g (inr a) = inr a

    is_memory : (passes wanted tree).none → (passes wanted tree).fault e ⊎ (e ≡ NoMemory) → e ≡ NoMemory
    is_memory n (inl a) = absurd ((settled wanted tree).not_both e n a)
    is_memory n (inr a) = a
