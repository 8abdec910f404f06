-- There is one fault at most, and calls within a group stand in tail position where there is none.
use Rattle.std.proofs.Common.{◌≡◌, true, false, Some, List, slice_get, refl, sym, ap, ◌∙◌, inl, inr, arith}
use Rattle.std.proofs.lemmas.Bool.{cases_lt}
use Rattle.syntax_parser.specs.declared.tree.Name.{Name}
use Rattle.spec_ir.specs.declared.spec_error.SpecError.{SpecError}
use Rattle.spec_ir.specs.declared.spec_error.SpecError.TheVariants.{BadRecursion}
use Rattle.spec_ir.specs.Terms.{Term}
use Rattle.spec_calls.specs.Recursion.{IsRecursionFault}
use Rattle.spec_calls.specs.Laws.{FaultsAreSettled, GroupCallsAreTails}

some_same : (x y : Name) → Some x ≡ Some y → x ≡ y
some_same x y h = cc

module _ (names : List Name) (bodies : List Term) where
  same_fun : (e f : SpecError) (r : IsRecursionFault names bodies e) (q : IsRecursionFault names bodies f) → r.fun ≡ q.fun
  same_fun e f r q = elim (cases_lt r.fun q.fun) [
    | inl l ↦ absurd (q.first r.fun l r.bad)
    | inr l ↦ elim (cases_lt q.fun r.fun) [
      | inl k ↦ absurd (r.first q.fun k q.bad)
      | inr k ↦ omega (arith, l, k)
    ]
  ]

  one : (e f : SpecError) → IsRecursionFault names bodies e → IsRecursionFault names bodies f → e ≡ f
  one e f r q =
      let same = some_same r.name q.name (sym r.is ∙ ap (slice_get names) (same_fun e f r q) ∙ q.is) in
      r.says ∙ ap (λ n. BadRecursion n.span n.text) same ∙ sym q.says

pub faults_are_settled : FaultsAreSettled
faults_are_settled names bodies = record { one = one names bodies; not_both = λ e none r. none r.fun r.bad }

pub group_calls_are_tails : GroupCallsAreTails
group_calls_are_tails bodies f g body true none is calls_it same = refl
group_calls_are_tails bodies f g body false none is calls_it same =
    absurd (none f (record { body = body; is = is; called = g; calls_it = calls_it; same = same }))
