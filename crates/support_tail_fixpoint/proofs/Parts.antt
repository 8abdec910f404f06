-- What the leaves of an activation are made of.
use Rattle.std.proofs.Common.{◌≡◌, ℕ, ◌+◌, ◌⊎◌, inl, inr, List, [], ◌∷◌, Option, None, Some, subst, sym}
use Rattle.std.specs.Prelude.{All, Contains, IfSome, IsSomeAnd, fold, map}
use Rattle.std.specs.List.{AllByRecursion}
use Rattle.std.proofs.lemmas.List.Elements.{All-contains, All-from_recursion, All-head, All-tail}
use Rattle.support_tail_fixpoint.specs.declared.driver_request.DriverRequest.TheVariants.{Out, OutOfFuel}
use Rattle.support_tail_fixpoint.specs.declared.policy.Policy.{Policy}
use Rattle.support_tail_fixpoint.specs.declared.policy.Policy.TheVariants.{Stop, Widen}
use Rattle.support_tail_fixpoint.specs.Fitting.{KeepsOut}
use Rattle.support_tail_fixpoint.specs.Laws.{LeavesArePart, ResultsFit}
use Rattle.support_tail_fixpoint.specs.Leaves.{IsPart, itself, join_leaves, left, right}
use Rattle.support_tail_fixpoint.specs.Moves.{Moves}
use Rattle.support_tail_fixpoint.specs.Rule.{AreTurns, Ends, Evaluated, IsActivation}
use Rattle.support_tail_fixpoint.specs.Turns.{LeavesFit}

module _ {A O : Type 0} (m : Moves A O) (Fits : O → Type 0) where
  -- A join of leaves that fit fits.
  pub join_fits : (before out : Option O) → KeepsOut m Fits → IfSome before Fits → IfSome out Fits → IfSome (join_leaves m before out) Fits
  join_fits None out keeps before_fits out_fits = out_fits
  join_fits (Some x) None keeps before_fits out_fits = before_fits
  join_fits (Some x) (Some y) keeps before_fits out_fits = keeps.join_out x y before_fits out_fits

  -- What is part of one side is part of the join of leaves.
  part_of_left : (x : O) (before out : Option O) → IfSome before Fits → IfSome out Fits
      → IsSomeAnd before (IsPart m Fits x) → IsSomeAnd (join_leaves m before out) (IsPart m Fits x)
  part_of_left x None out before_fits out_fits part = absurd part
  part_of_left x (Some y) None before_fits out_fits part = part
  part_of_left x (Some y) (Some z) before_fits out_fits part = left y z before_fits out_fits part

  part_of_right : (x : O) (before out : Option O) → IfSome before Fits → IfSome out Fits
      → IsSomeAnd out (IsPart m Fits x) → IsSomeAnd (join_leaves m before out) (IsPart m Fits x)
  part_of_right x None out before_fits out_fits part = part
  part_of_right x (Some y) None before_fits out_fits part = absurd part
  part_of_right x (Some y) (Some z) before_fits out_fits part = right y z before_fits out_fits part

  -- the join of leaves and of those of turns
  abbrev joined : Option O → List (Evaluated A O) → Option O
  joined before turns = fold (join_leaves m) before (map (λ turn. turn.out) turns)

  joined_fit : (before : Option O) (turns : List (Evaluated A O)) → KeepsOut m Fits → IfSome before Fits → All (LeavesFit Fits) turns → IfSome (joined before turns) Fits
  joined_fit before [] keeps before_fits fits = before_fits
  joined_fit before (turn ∷ rest) keeps before_fits fits =
      joined_fit (join_leaves m before turn.out) rest keeps (join_fits before turn.out keeps before_fits (All-head (LeavesFit Fits) turn rest fits)) (All-tail (LeavesFit Fits) turn rest fits)

  -- What is part of the leaves so far stays part of them.
  part_stays : (x : O) (before : Option O) (turns : List (Evaluated A O)) → KeepsOut m Fits → IfSome before Fits → All (LeavesFit Fits) turns
      → IsSomeAnd before (IsPart m Fits x) → IsSomeAnd (joined before turns) (IsPart m Fits x)
  part_stays x before [] keeps before_fits fits part = part
  part_stays x before (turn ∷ rest) keeps before_fits fits part =
      let out_fits = All-head (LeavesFit Fits) turn rest fits in
      part_stays x (join_leaves m before turn.out) rest keeps (join_fits before turn.out keeps before_fits out_fits) (All-tail (LeavesFit Fits) turn rest fits)
      (part_of_left x before turn.out before_fits out_fits part)

  -- The leaves of a turn are part of these leaves.
  abbrev OutIsPart : Option O → Evaluated A O → Type 0
  OutIsPart leaves turn = (x : O) → turn.out ≡ Some x → IsSomeAnd leaves (IsPart m Fits x)

  -- a result is part of the leaves that it is
  part_of_itself : (out : Option O) (x : O) → out ≡ Some x → IsSomeAnd out (IsPart m Fits x)
  part_of_itself None x is = cc
  part_of_itself (Some y) x is = let same : x ≡ y = cc in subst (IsPart m Fits x) same itself

  outs_are_part : (before : Option O) (turns : List (Evaluated A O)) → KeepsOut m Fits → IfSome before Fits → All (LeavesFit Fits) turns
      → AllByRecursion (OutIsPart (joined before turns)) turns
  outs_are_part before [] keeps before_fits fits = tt
  outs_are_part before (turn ∷ rest) keeps before_fits fits =
      let out_fits = All-head (LeavesFit Fits) turn rest fits in
      let rest_fits = All-tail (LeavesFit Fits) turn rest fits in
      let join = join_fits before turn.out keeps before_fits out_fits in (
        λ x is. part_stays x (join_leaves m before turn.out) rest keeps join rest_fits
            (part_of_right x before turn.out before_fits out_fits (part_of_itself turn.out x is)),
        outs_are_part (join_leaves m before turn.out) rest keeps join rest_fits,
      )

-- A turn that ends with `Out` answers all leaves.
end_leaves :
    {A O : Type 0} (m : Moves A O) (policy : Policy) (number : ℕ) (args : A) (next : Option A) (leaves given : Option O)
    → Ends m policy number args next leaves (Out given) → given ≡ leaves
end_leaves m policy number args None leaves given ends = cc
end_leaves m (Stop turns) number args (Some next) leaves given ends = let d : Out given ≡ OutOfFuel = ends.1 in cc
end_leaves m (Widen unroll delay) number args (Some next) leaves given ends = let d : Out given ≡ Out leaves = ends.2 in cc

given_leaves :
    {A O : Type 0} (m : Moves A O) (policy : Policy) (leaves given : Option O) (number : ℕ) (args : A) (turns : List (Evaluated A O))
    → AreTurns m policy leaves (Out given) number args turns → given ≡ leaves
given_leaves m policy leaves given number args [] are = absurd are
given_leaves m policy leaves given number args (turn ∷ []) are = end_leaves m policy number turn.args turn.next leaves given are.1
given_leaves m policy leaves given number args (turn ∷ (later ∷ rest)) are = given_leaves m policy leaves given (number + 1) later.args (later ∷ rest) are.2

pub leaves_are_part : {A O : Type 0} (Fits : O → Type 0) → LeavesArePart A O Fits
leaves_are_part Fits m policy args turns leaves keeps fits are turn x has is =
    let same = given_leaves m policy _ leaves 1 args turns are in
    let parts = outs_are_part m Fits None turns keeps tt fits in
    let all = All-from_recursion (OutIsPart m Fits (joined m Fits None turns)) turns parts in
    subst (λ leaves. IsSomeAnd leaves (IsPart m Fits x)) (sym same) (All-contains (OutIsPart m Fits (joined m Fits None turns)) turns turn all has x is)

pub results_fit : {A O : Type 0} (Fits : O → Type 0) → ResultsFit A O Fits
results_fit Fits m policy args turns leaves keeps fits are =
    let same = given_leaves m policy _ leaves 1 args turns are in
    subst (λ leaves. IfSome leaves Fits) (sym same) (joined_fit m Fits None turns keeps tt fits)

-- What holds of a result and is kept by joins holds of all that the result is part of.
pub part_holds :
    {A O : Type 0} (m : Moves A O) (Fits P : O → Type 0) (x : O)
    → ((y z : O) → Fits y → Fits z → P y ⊎ P z → P (m.join_out y z)) → P x
    → (y : O) → IsPart m Fits x y → P y
part_holds m Fits P x keeps holds y itself = holds
part_holds m Fits P x keeps holds _ (left y z y_fits z_fits part) = keeps y z y_fits z_fits (inl (part_holds m Fits P x keeps holds y part))
part_holds m Fits P x keeps holds _ (right y z y_fits z_fits part) = keeps y z y_fits z_fits (inr (part_holds m Fits P x keeps holds z part))

some_holds : {O : Type 0} (P Q : O → Type 0) (leaves : Option O) → ((y : O) → P y → Q y) → IsSomeAnd leaves P → IsSomeAnd leaves Q
some_holds P Q None h some = some
some_holds P Q (Some y) h some = h y some

-- What joins keep, and holds of the leaves of a turn, holds of those of an activation.
pub leaves_hold :
    {A O : Type 0} (Fits P : O → Type 0) (m : Moves A O) (policy : Policy) (args : A) (turns : List (Evaluated A O)) (leaves : Option O)
    → KeepsOut m Fits → ((y z : O) → Fits y → Fits z → P y ⊎ P z → P (m.join_out y z)) → All (LeavesFit Fits) turns
    → IsActivation m policy args turns (Out leaves)
    → (turn : Evaluated A O) (x : O) → Contains turns turn → turn.out ≡ Some x → P x → IsSomeAnd leaves P
leaves_hold Fits P m policy args turns leaves keeps joins fits are turn x has is holds =
    some_holds (IsPart m Fits x) P leaves (λ y part. part_holds m Fits P x joins holds y part) (leaves_are_part Fits m policy args turns leaves keeps fits are turn x has is)
