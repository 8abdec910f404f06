-- Lists of what passes a test, item by item.
use Rattle.std.proofs.Common.{◌≡◌, ℕ, ◌+◌, ◌<◌, Bool, cond, List, [], ◌∷◌, ◌++◌, length, get_or, take, ap, sym, ◌∙◌}
use Rattle.std.specs.List.{filter}
use Rattle.std.proofs.lemmas.List.Elements.{filter_more}

pub kept_more : (test : ℕ → Bool) (xs : List ℕ) (i : ℕ) (b : Bool) (before later : List ℕ) → i < length xs → test (get_or xs i 0) ≡ b
    → before ≡ filter test (take i xs) → later ≡ before ++ cond b (get_or xs i 0 ∷ []) [] → later ≡ filter test (take (i + 1) xs)
kept_more test xs i b before later within is was made =
    made ∙ ap (λ ys. ys ++ cond b (get_or xs i 0 ∷ []) []) was ∙ ap (λ b. filter test (take i xs) ++ cond b (get_or xs i 0 ∷ []) []) (sym is)
    ∙ sym (filter_more test xs i 0 within)
