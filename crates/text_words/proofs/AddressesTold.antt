-- Addresses with a space between are read as they are written, and have one text.
use Rattle.std.proofs.Common.{◌≡◌, ◌<◌, ◌≤◌, ◌^◌, ℕ, List, [], ◌∷◌, ◌++◌, map, length, Some, refl, ap, ◌∙◌, arith}
use Rattle.std.specs.Prelude.{nat_lt}
use Rattle.base_trait.specs.Lists.{Each, IsAscending}
use Rattle.word_operations.specs.Width.{IsWidth}
use Rattle.text_words.specs.Lists.{behind_spaces}
use Rattle.text_words.specs.Readings.{AddressesTell, AddressesTold}
use Rattle.text_words.specs.Reading.{addresses_in, number_in}
use Rattle.text_words.specs.Words.{number}
use Rattle.text_words.specs.Chains.{numbers_ascend, numbers_chained}
use Rattle.text_words.specs.Digits.{number_tells}
use Rattle.text_words.specs.Inside.{number_inner}
use Rattle.text_words.specs.PiecesTold.{behind_each, joined, list_back, list_tells}
use Rattle.text_words.specs.Told.{each_read}

behind_joined : (texts : List (List ℕ)) → behind_spaces texts ≡ behind_each 32 texts
behind_joined [] = refl
behind_joined (text ∷ texts) = ap (λ rest. 32 ∷ (text ++ rest)) (behind_joined texts)

pub addresses_back : (x : ℕ) (xs : List ℕ) → IsAscending (x ∷ xs) → Each (λ a. a < 2 ^ 32) (x ∷ xs) → addresses_in (number 32 x ++ behind_spaces (map (number 32) xs)) ≡ Some (x ∷ xs)
addresses_back x xs ascending below =
    let width : IsWidth 32 = (omega arith, omega arith) in
    rw (behind_joined (map (number 32) xs))
    (list_back nat_lt (number_in 32) (number 32) 32 (number_inner 32 (omega arith) 32) x xs (numbers_chained (x ∷ xs) ascending) (each_read 32 (x ∷ xs) width below))

spaced : (texts : List (List ℕ)) → 1 ≤ length texts → behind_spaces texts ≡ 32 ∷ joined 32 texts
spaced [] some = absurd (omega (arith, some))
spaced (text ∷ texts) some = ap (λ rest. 32 ∷ (text ++ rest)) (behind_joined texts)

pub addresses_told : (text xs : List ℕ) → addresses_in text ≡ Some xs → AddressesTold text xs
addresses_told text xs e =
    let told = list_tells nat_lt (number_in 32) (number 32) 32 (λ a. a < 2 ^ 32) (number_tells 32) text xs e in
    record {
      text_is = spaced (map (number 32) xs) (some_written xs told.some) ∙ ap (λ t. 32 ∷ t) told.text_is;
      some = told.some;
      ascending = numbers_ascend xs told.chained;
      below = told.each;
    }
  where
    some_written : (ys : List ℕ) → 1 ≤ length ys → 1 ≤ length (map (number 32) ys)
    some_written [] h = h
    some_written (y ∷ ys) h = omega arith

pub addresses_tell : AddressesTell
addresses_tell = record { back = addresses_back; tells = addresses_told }
