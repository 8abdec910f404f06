-- Values that all have a property still do with one more that has it.
use Rattle.std.proofs.Common.{◌≡◌, List, [], ◌∷◌, ◌++◌, sym, subst}
use Rattle.std.specs.Prelude.{All, Result, Ok, Err, IfOk, IsOkAnd}
use Rattle.std.proofs.lemmas.List.Elements.{All-push}

pub with_next : {A E : Type 0} (P : A → Type 0) (xs ys : List A) (next : Result A E) → IfOk next P → IsOkAnd next (λ x. ys ≡ xs ++ x ∷ []) → All P xs → All P ys
with_next P xs ys (Ok x) fits is all = subst (All P) (sym is) (All-push P xs x all fits)
with_next P xs ys (Err e) fits is all = absurd is
