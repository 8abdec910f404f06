-- Addresses that pass any test.
use Rattle.std.proofs.Common.{◌≡◌, ℕ, true, List, [], ◌∷◌, Option, Some, None, refl}
use Rattle.std.specs.List.{list_all}
use Rattle.std.specs.Option.{option_and_then}
use Rattle.text_table_reader.specs.Ends.{kept}

all_pass : (addresses : List ℕ) → list_all (λ a. true) addresses ≡ true
all_pass [] = refl
all_pass (a ∷ addresses) = all_pass addresses

pub all_kept : (said : Option (List ℕ)) → option_and_then (kept (λ a. true)) said ≡ said
all_kept None = refl
all_kept (Some addresses) = rw (all_pass addresses) refl
