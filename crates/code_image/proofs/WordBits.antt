-- The bits of a word in the parts of a row.
use Rattle.std.proofs.Common.{◌≡◌, ℕ, zero, suc, ◌+◌, ◌-◌, ◌/◌, ◌%◌, ◌^◌, ◌<◌, true, ◌==◌, Some, List, [], ◌∷◌, drop, ap, sym, ◌∙◌, subst, arith, shr-shr, eqb-true}
use Rattle.std.specs.Prelude.{slice_get}
use Rattle.std.proofs.lemmas.Nat.{field_of}
use Rattle.std.proofs.lemmas.Bool.{and_parts as both}
use Rattle.word_operations.proofs.Powers.{mod_pow}
use Rattle.spec_ir.specs.declared.row.WordPart.{WordPart}
use Rattle.spec_ir.specs.declared.row.WordPart.TheVariants.{Fixed, Field}
use Rattle.semantics.specs.Decode.{agrees, bits_above, width_sum}
use Rattle.code_image.specs.Tree.{bit}

-- a bit of the bits above others
pub bit-bits_above : (code n w left : ℕ) → left < w → bit (bits_above n w code) left ≡ bit code (left + n)
bit-bits_above code n w left h =
    let whole : w - left + left ≡ w = omega (arith, h) in
    let field = field_of (code / 2 ^ n) (w - left) left in
    let first : (code / 2 ^ n) % 2 ^ w / 2 ^ left ≡ code / 2 ^ n / 2 ^ left % 2 ^ (w - left) = subst (λ k. (code / 2 ^ n) % 2 ^ k / 2 ^ left ≡ code / 2 ^ n / 2 ^ left % 2 ^ (w - left)) whole field in
    let places : n + left ≡ left + n = omega arith in
    let moved : code / 2 ^ n / 2 ^ left ≡ code / 2 ^ (left + n) = shr-shr code n left ∙ ap (λ k. code / 2 ^ k) places in
    let low : (code / 2 ^ n / 2 ^ left) % 2 ^ (w - left) % 2 ≡ (code / 2 ^ n / 2 ^ left) % 2 = mod_pow (code / 2 ^ n / 2 ^ left) 1 (w - left) (omega (arith, h)) in
    ap (λ k. k % 2 == 1) first ∙ ap (λ k. k == 1) low ∙ ap (λ k. k % 2 == 1) moved

-- the number of a fixed part, in a word that agrees
pub agrees_at : (code : ℕ) (parts : List WordPart) (i v w : ℕ) → slice_get parts i ≡ Some (Fixed v w) → agrees code parts ≡ true → bits_above (width_sum (drop (suc i) parts)) w code ≡ v
agrees_at code [] i v w at agree = cc
agrees_at code (Fixed u x ∷ parts) zero v w at agree =
    let same : bits_above (width_sum parts) x code ≡ u = eqb-true (bits_above (width_sum parts) x code) u (both (bits_above (width_sum parts) x code == u) (agrees code parts) agree).0 in
    let wide : x ≡ w = cc in
    let here : u ≡ v = cc in
    ap (λ k. bits_above (width_sum parts) k code) (sym wide) ∙ same ∙ here
agrees_at code (Field x ∷ parts) zero v w at agree = cc
agrees_at code (Fixed u x ∷ parts) (suc i) v w at agree = agrees_at code parts i v w at (both (bits_above (width_sum parts) x code == u) (agrees code parts) agree).1
agrees_at code (Field x ∷ parts) (suc i) v w at agree = agrees_at code parts i v w at agree

-- a fixed part fixes its bits
pub fixed_here : (parts : List WordPart) (i v w left code : ℕ) → slice_get parts i ≡ Some (Fixed v w) → left < w → agrees code parts ≡ true → bit code (left + width_sum (drop (suc i) parts)) ≡ bit v left
fixed_here parts i v w left code at h agree =
    let n = width_sum (drop (suc i) parts) in
    sym (bit-bits_above code n w left h) ∙ ap (λ k. bit k left) (agrees_at code parts i v w at agree)
