-- Laws of images.
use Rattle.std.specs.Prelude.{◌≡◌, ℕ, Bool, true, ◌&&◌, ◌==◌, nat_le, suc, is_some, Some, List, [], ◌∷◌}
use Rattle.std.specs.List.{list_any}
use Rattle.code_image.specs.Image.{Segment, Image, IsWordAt, addresses, code_at}
use Rattle.code_image.specs.Faults.{HasByte, IsImage, overlaps}

-- Two segments overlap exactly where they have a byte at one address.
abbrev pub OverlapsAreSharedBytes : Type 0
OverlapsAreSharedBytes =
    (s q : Segment) → (overlaps s q ≡ true → (a : ℕ) × HasByte s a × HasByte q a) × ((a : ℕ) → HasByte s a → HasByte q a → overlaps s q ≡ true)

-- The word that is found at an address is the one that stands there, and each word is found.
abbrev pub WordsAreFound : Type 0
WordsAreFound =
    (image : Image) (a w : ℕ) → IsImage image
    → (code_at image a ≡ Some w → IsWordAt image.order a w image.segments) × (IsWordAt image.order a w image.segments → code_at image a ≡ Some w)

-- whether numbers ascend, the first of them at least at a bound
abbrev pub ascend_from : ℕ → List ℕ → Bool
ascend_from least [] = true
ascend_from least (x ∷ xs) = nat_le least x && ascend_from (suc x) xs

-- The addresses of words ascend, without doubles, and are exactly those at which a word is found.
abbrev pub AddressesAreThoseOfWords : Type 0
AddressesAreThoseOfWords =
    (image : Image) → IsImage image
    → (ascend_from 0 (addresses image.segments) ≡ true) × ((a : ℕ) → list_any (λ x. x == a) (addresses image.segments) ≡ is_some (code_at image a))
