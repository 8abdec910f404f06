-- The numbers of a form, one further.
use Rattle.std.proofs.Common.{◌≡◌, ◌==◌, ◌∙◌, ◌<◌, ◌≤◌, ◌+◌, ◌-◌, ℕ, suc, true, false, List, [], ◌∷◌, ◌++◌, length, Option, Some, None, option_map, refl, sym, ap, arith, append_assoc, append-nil}
use Rattle.std.proofs.lemmas.Bool.{eqb-true}
use Rattle.text_element_readers.specs.Words.{behind_comma, commas_in, first_number, form_in}

-- numbers in front of others
abbrev pub in_front : List ℕ → Option (List ℕ) → Option (List ℕ)
in_front xs numbers = option_map (λ ys. xs ++ ys) numbers

one_more : (xs : List ℕ) (x : ℕ) (numbers : Option (List ℕ)) → in_front xs (option_map (λ ys. x ∷ ys) numbers) ≡ in_front (xs ++ x ∷ []) numbers
one_more xs x None = refl
one_more xs x (Some ys) = ap (λ (zs : List ℕ). Some zs) (sym (append_assoc xs (x ∷ []) ys))

same_front : (x : ℕ) (numbers : Option (List ℕ)) → option_map (λ ys. x ∷ ys) numbers ≡ in_front (x ∷ []) numbers
same_front x None = refl
same_front x (Some ys) = refl

-- the constant was read
pub form_begins : (k x : ℕ) (text rest form : List ℕ) → Some (x, rest) ≡ first_number text → form ≡ x ∷ [] → form_in k text ≡ in_front form (commas_in (k - 0) rest)
form_begins k x text rest form is one = let all : k - 0 ≡ k = omega arith in rw (← is, one, all) (same_front x (commas_in k rest))

less : (k i : ℕ) → i < k → k - i ≡ suc (k - (i + 1))
less k i h = omega (arith, h)

-- one more number was read
pub form_goes_on : (k i x : ℕ) (form more text rest : List ℕ) (whole : Option (List ℕ)) → i < k → Some (x, rest) ≡ behind_comma text → more ≡ form ++ x ∷ []
    → whole ≡ in_front form (commas_in (k - i) text) → whole ≡ in_front more (commas_in (k - (i + 1)) rest)
form_goes_on k i x form more text rest whole within is longer so_far =
    let step = rw (less k i within, ← is) at so_far in
    rw longer (step ∙ one_more form x (commas_in (k - (i + 1)) rest))

pub form_stops : (k i : ℕ) (form text : List ℕ) (whole : Option (List ℕ)) → i < k → None ≡ behind_comma text → whole ≡ in_front form (commas_in (k - i) text) → None ≡ whole
form_stops k i form text whole within is so_far = let step = rw (less k i within, ← is) at so_far in sym step

-- all numbers were read, and nothing is left
pub form_ends : (k i : ℕ) (form text : List ℕ) (whole : Option (List ℕ)) → k ≤ i → (length text == 0) ≡ true → whole ≡ in_front form (commas_in (k - i) text) → Some form ≡ whole
form_ends k i form [] whole all empty so_far =
    let none : k - i ≡ 0 = omega (arith, all) in
    let step = rw none at so_far in
    ap (λ (xs : List ℕ). Some xs) (sym (append-nil form)) ∙ sym step
form_ends k i form (b ∷ text) whole all empty so_far = let none : length (b ∷ text) ≡ 0 = eqb-true (length (b ∷ text)) 0 empty in absurd (omega (arith, none))

-- all numbers were read, and something is left
pub form_longer : (k i : ℕ) (form text : List ℕ) (whole : Option (List ℕ)) → k ≤ i → (length text == 0) ≡ false → whole ≡ in_front form (commas_in (k - i) text) → None ≡ whole
form_longer k i form [] whole all some so_far = absurd (let bad : true ≡ false = some in cc)
form_longer k i form (b ∷ text) whole all some so_far =
    let none : k - i ≡ 0 = omega (arith, all) in
    let step = rw none at so_far in
    sym step
