-- The parts of pieces, one after the other.
use Rattle.std.proofs.Common.{◌≡◌, ℕ, ◌+◌, ◌<◌, List, [], ◌∷◌, ◌++◌, Bor, length, get_or, drop, map, refl, sym, ap, ◌∙◌, append_assoc, drop-cons, add-one, suc}
use Rattle.std.specs.Prelude.{Option, Some, None, option_map}
use Rattle.std.proofs.lemmas.List.{map-append}
use Rattle.support_command_line.specs.declared.code_word.CodePart as code-part
use Rattle.support_command_line.specs.Code.{CodePart, part_in, parts_in}
use Rattle.support_command_line.specs.Giving.{◌>>=◌}
use Rattle.support_command_line.specs.Views.{borrowed, part_of}

with_more : (read : List code-part.CodePart) (p : code-part.CodePart) (left : Option (List CodePart))
    → option_map (λ rest. map part_of read ++ rest) (left >>= λ parts. Some (part_of p ∷ parts)) ≡ option_map (λ rest. map part_of (read ++ p ∷ []) ++ rest) left
with_more read p None = refl
with_more read p (Some parts) = ap (λ (ps : List CodePart). Some ps) (rw (map-append, append_assoc) refl)

one_more : (x : Bor (List ℕ)) (xs : List (Bor (List ℕ))) (whole : Option (List CodePart)) (read more : List code-part.CodePart) (found : Option code-part.CodePart)
    → whole ≡ option_map (λ rest. map part_of read ++ rest) (parts_in (borrowed (x ∷ xs))) → option_map part_of found ≡ part_in x.now → option_map (λ next. read ++ next ∷ []) found ≡ Some more
    → whole ≡ option_map (λ rest. map part_of more ++ rest) (parts_in (borrowed xs))
one_more x xs whole read more None so is pushed = cc
one_more x xs whole read more (Some p) so is pushed =
    let same : read ++ p ∷ [] ≡ more = cc in
    so ∙ ap (λ (first : Option CodePart). option_map (λ rest. map part_of read ++ rest) (first >>= λ part. parts_in (borrowed xs) >>= λ parts. Some (part ∷ parts))) (sym is)
    ∙ with_more read p (parts_in (borrowed xs)) ∙ ap (λ (read : List code-part.CodePart). option_map (λ rest. map part_of read ++ rest) (parts_in (borrowed xs))) same

pub parts_more : (pieces : List (Bor (List ℕ))) (i : ℕ) (d : Bor (List ℕ)) (whole : Option (List CodePart)) (read more : List code-part.CodePart) (found : Option code-part.CodePart) → i < length pieces
    → whole ≡ option_map (λ rest. map part_of read ++ rest) (parts_in (borrowed (drop i pieces))) → option_map part_of found ≡ part_in (get_or pieces i d).now → option_map (λ next. read ++ next ∷ []) found ≡ Some more
    → whole ≡ option_map (λ rest. map part_of more ++ rest) (parts_in (borrowed (drop (i + 1) pieces)))
parts_more pieces i d whole read more found within so is pushed =
    rw add-one (one_more (get_or pieces i d) (drop (suc i) pieces) whole read more found (so ∙ ap (λ (left : List (Bor (List ℕ))). option_map (λ rest. map part_of read ++ rest) (parts_in (borrowed left))) (drop-cons pieces i d within)) is pushed)
