-- Laws of calls and groups.
use Rattle.std.specs.Prelude.{◌≡◌, ℕ, Bool, true, Some, List, slice_get}
use Rattle.std.specs.List.{Contains}
use Rattle.syntax_parser.specs.declared.tree.Name.{Name}
use Rattle.spec_ir.specs.declared.spec_error.SpecError.{SpecError}
use Rattle.spec_ir.specs.Terms.{Term}
use Rattle.spec_calls.specs.Calls.{calls, call_of}
use Rattle.spec_calls.specs.Groups.{InOneGroup, IsRanked}
use Rattle.spec_calls.specs.Recursion.{IsRecursionFault, NoRecursionFault}

-- There is one fault of recursion at most, or none.
pub record RecursionIsSettled (names : List Name) (bodies : List Term) : Type 0 where
  pub one : (e f : SpecError) → IsRecursionFault names bodies e → IsRecursionFault names bodies f → e ≡ f
  pub not_both : (e : SpecError) → NoRecursionFault bodies → ¬ IsRecursionFault names bodies e

abbrev pub FaultsAreSettled : Type 0
FaultsAreSettled = (names : List Name) (bodies : List Term) → RecursionIsSettled names bodies

-- Calls of other groups go down by a rank.
abbrev pub CallsHaveRanks : Type 0
CallsHaveRanks = (bodies : List Term) → (rank : ℕ → ℕ) × IsRanked bodies rank

-- Where no fault stands, calls within a group stand in tail position.
abbrev pub GroupCallsAreTails : Type 0
GroupCallsAreTails = (bodies : List Term) (f g : ℕ) (body : Term) (tail : Bool) → NoRecursionFault bodies
    → slice_get bodies f ≡ Some body → Contains (calls true body) (call_of g tail) → InOneGroup bodies f g → tail ≡ true
