-- Lists that are one.
use Rattle.std.proofs.Common.{◌≡◌, ◌∙◌, ℕ, ◌<◌, List, map, length, get_or, ap, sym}
use Rattle.std.proofs.lemmas.List.{get_or-map}

-- the elements at a place of lists that one function makes one
pub same_at : {X Y : Type 0} (f : X → Y) (xs ys : List X) (i : ℕ) (x y : X) → i < length xs → i < length ys → x ≡ get_or xs i x → y ≡ get_or ys i y
    → map f xs ≡ map f ys → f x ≡ f y
same_at f xs ys i x y lx ly ex ey same =
    ap f ex ∙ sym (get_or-map f xs i x (f x) lx) ∙ ap (λ zs. get_or zs i (f x)) same ∙ get_or-map f ys i y (f x) ly ∙ ap f (sym ey)
