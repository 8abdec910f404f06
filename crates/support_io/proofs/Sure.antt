-- Which names are sure.
use Rattle.std.proofs.Common.{◌≡◌, ℕ, Bool, ◌&&◌, ◌==◌, List, Option, length, is_some, ap, ◌∙◌}
use Rattle.support_io.specs.FailingCalls.{GoesOn, sure_names}
use Rattle.support_io.specs.declared.failing_calls.FailingCalls.{FailingCalls}

-- After a call the same names are sure.
pub same_sure : (old new : FailingCalls) (held held' : List ℕ → Option (List ℕ)) → GoesOn old new → held' ≡ held → sure_names new held' ≡ sure_names old held
same_sure old new held held' goes_on same_held =
    let sure : List ℕ → List ℕ → Bool = λ fail name. (length fail == 0) && is_some (held' name) in
    ap sure goes_on.fail ∙ ap (λ (names : List ℕ → Option (List ℕ)). sure_names old names) same_held
