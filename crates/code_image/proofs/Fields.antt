-- Texts of fields and instructions.
use Rattle.std.proofs.Common.{◌≡◌, ℕ, ◌≤◌, List, [], ◌∷◌, length, drop, map, refl, ap, ◌∙◌, Option, Some, None, ◌++◌, append_assoc, Bor}
use Rattle.std.specs.Prelude.{option_map}
use Rattle.std.specs.Option.{option_copied}
use Rattle.spec_ir.specs.declared.ty.Ty.{Ty}
use Rattle.spec_ir.proofs.Lists.{drop_past}
use Rattle.semantics_values.specs.declared.value.Value.{Value}
use Rattle.semantics_values.specs.Values.{no_val, vals}
use Rattle.semantics_values.specs.Views.{val}
use Rattle.code_image.specs.Listing.{field_texts}

no_values : (fields : List (List ℕ × Ty)) → field_texts fields no_val ≡ []
no_values [] = refl
no_values (f ∷ fields) = refl

-- past the fields there are no texts, nor past the values
pub past_fields : (fields : List (List ℕ × Ty)) (parts : List Value) (i : ℕ) → length fields ≤ i → field_texts (drop i fields) (vals (map val (drop i parts))) ≡ []
past_fields fields parts i h = ap (λ fs. field_texts fs (vals (map val (drop i parts)))) (drop_past fields i h)

pub past_values : (fields : List (List ℕ × Ty)) (parts : List Value) (i : ℕ) → length parts ≤ i → field_texts (drop i fields) (vals (map val (drop i parts))) ≡ []
past_values fields parts i h = ap (λ ps. field_texts (drop i fields) (vals (map val ps))) (drop_past parts i h) ∙ no_values (drop i fields)

-- an instruction that is lent
pub lent : (o : Option (Bor Value)) → option_map (λ v. val v.now) o ≡ option_map val (option_copied o)
lent None = refl
lent (Some v) = refl

-- the parts of a line, each put behind those before it
pub line_parts : (o o₁ o₂ o₃ o₄ o₅ o₆ address word instruction between end : List ℕ) → o₁ ≡ o ++ address → o₂ ≡ o₁ ++ between → o₃ ≡ o₂ ++ word → o₄ ≡ o₃ ++ between → o₅ ≡ o₄ ++ instruction → o₆ ≡ o₅ ++ end
    → o₆ ≡ o ++ (address ++ (between ++ (word ++ (between ++ (instruction ++ end)))))
line_parts o o₁ o₂ o₃ o₄ o₅ o₆ address word instruction between end e₁ e₂ e₃ e₄ e₅ e₆ = rw (e₆, e₅, e₄, e₃, e₂, e₁) (simp append_assoc)
