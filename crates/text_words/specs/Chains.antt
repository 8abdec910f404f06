-- Numbers and stamps that ascend.
use Rattle.std.proofs.Common.{◌+◌, ℕ, List, [], ◌∷◌, Some, None, IsTrue, refl, arith}
use Rattle.std.specs.Prelude.{nat_lt}
use Rattle.std.proofs.lemmas.Bool.{lt-ltb, ltb-true}
use Rattle.base_trait.specs.Lists.{Each, IsAscending, IsAscendingFrom}
use Rattle.base_trait.specs.Stamps.{AreAscending, is_before}
use Rattle.base_trait.specs.declared.uses.Stamp.{Stamp}
use Rattle.base_trait.proofs.Stamps.{before_on}
use Rattle.text_words.specs.PiecesTold.{AreChained}

-- ---- numbers

chained_behind : (last : ℕ) (xs : List ℕ) → IsAscendingFrom (last + 1) xs → AreChained nat_lt (Some last) xs
chained_behind last [] h = tt
chained_behind last (x ∷ xs) h = (lt-ltb last x (let low = h.0 in omega (arith, low)), chained_behind x xs h.1)

pub numbers_chained : (xs : List ℕ) → IsAscending xs → AreChained nat_lt None xs
numbers_chained [] h = tt
numbers_chained (x ∷ xs) h = (refl, chained_behind x xs h.1)

ascending_behind : (last : ℕ) (xs : List ℕ) → AreChained nat_lt (Some last) xs → IsAscendingFrom (last + 1) xs
ascending_behind last [] h = tt
ascending_behind last (x ∷ xs) h = (let less = ltb-true last x h.0 in omega (arith, less), ascending_behind x xs h.1)

pub numbers_ascend : (xs : List ℕ) → AreChained nat_lt None xs → IsAscending xs
numbers_ascend [] h = tt
numbers_ascend (x ∷ xs) h = (omega arith, ascending_behind x xs h.1)

-- ---- stamps

stamps_behind : (last : Stamp) (xs : List Stamp) → AreAscending (last ∷ xs) → AreChained is_before (Some last) xs
stamps_behind last [] h = tt
stamps_behind last (x ∷ xs) h = (h.0.0, stamps_behind x xs h.1)

pub stamps_chained : (xs : List Stamp) → AreAscending xs → AreChained is_before None xs
stamps_chained [] h = tt
stamps_chained (x ∷ xs) h = (refl, stamps_behind x xs h)

-- a stamp before the first of a chain comes before each
before_each : (s last : Stamp) (xs : List Stamp) → IsTrue (is_before s last) → AreChained is_before (Some last) xs → Each (λ t. IsTrue (is_before s t)) xs
before_each s last [] h k = tt
before_each s last (x ∷ xs) h k = let next = before_on s last x h k.0 in (next, before_each s x xs next k.1)

stamps_after : (last : Stamp) (xs : List Stamp) → AreChained is_before (Some last) xs → AreAscending (last ∷ xs)
stamps_after last [] h = (tt, tt)
stamps_after last (x ∷ xs) h = ((h.0, before_each last x xs h.0 h.1), stamps_after x xs h.1)

pub stamps_ascend : (xs : List Stamp) → AreChained is_before None xs → AreAscending xs
stamps_ascend [] h = tt
stamps_ascend (x ∷ xs) h = stamps_after x xs h.1
