-- The first part of code, and the others.
use Rattle.std.proofs.Common.{◌≡◌, ℕ, zero, suc, ◌-◌, ◌≤◌, List, [], ◌∷◌, drop, take, get_or, length, refl, sym, ◌∙◌, ap, arith}
use Rattle.support_command_line.specs.declared.code_word.CodePart.{CodePart}

-- a part without a name, at 0
abbrev pub no_name : CodePart
no_name = record { name = record { ref_ptr = (0, 0); now = [] }; base = 0 }

abbrev pub first_of : List CodePart → CodePart
first_of parts = get_or parts 0 no_name

abbrev pub others_of : List CodePart → List CodePart
others_of parts = take (length parts - 1) (drop 1 parts)

take_whole : (parts : List CodePart) (n : ℕ) → n ≡ length parts → parts ≡ take n parts
take_whole [] zero is = refl
take_whole [] (suc n) is = refl
take_whole (part ∷ parts) zero is = absurd (omega (arith, is))
take_whole (part ∷ parts) (suc n) is = ap (λ (ps : List CodePart). part ∷ ps) (take_whole parts n (omega (arith, is)))

pub front : (parts : List CodePart) → 1 ≤ length parts → parts ≡ first_of parts ∷ others_of parts
front [] some = absurd (omega (arith, some))
front (part ∷ parts) some = ap (λ (ps : List CodePart). part ∷ ps) (take_whole parts (length (part ∷ parts) - 1) (omega arith))
