-- The fields of one constructor of two values put side by side, and of a value with each word and each note replaced.
use Rattle.std.specs.Prelude.{ℕ, Option, Some, None, ⊤}
use Rattle.base_trait.specs.Algebra.{Algebra}
use Rattle.abstract_value_laws.specs.Abs.{Parts}
use Rattle.domain_product_laws.specs.Calls.{mapped_parts, zip_parts}
use Rattle.domain_product_laws.proofs.Values.{PartsMeet}

-- the constructor is there where both have it
abbrev pub zip_case : {V W M N C D : Type 0} → Algebra V M C → Algebra W N D → C × D → ℕ → Option (Parts V M) → Option (Parts W N) → Option (Parts (V × W) (M × N))
zip_case A B c cap (Some xs) (Some ys) = Some (zip_parts A B c cap xs ys)
zip_case A B c cap _ _ = None

-- widths are the same
abbrev pub CaseMeets : {V W M N : Type 0} → Option (Parts V M) → Option (Parts W N) → Type 0
CaseMeets (Some xs) (Some ys) = PartsMeet xs ys
CaseMeets _ _ = ⊤

abbrev pub mapped_case : {V W M N : Type 0} → (V → W) → (M → N) → Option (Parts V M) → Option (Parts W N)
mapped_case f g None = None
mapped_case f g (Some xs) = Some (mapped_parts f g xs)
