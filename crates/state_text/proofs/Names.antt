-- Fields and keys are found by what is written of them.
use Rattle.std.proofs.Common.{◌≡◌, ◌+◌, ◌<◌, ◌≤◌, ◌^◌, ℕ, zero, suc, true, false, not, List, [], ◌∷◌, length, map, Option, Some, refl, ap, ◌∙◌, inl, inr, arith, nat_lt, nat_le, bytes_eq, slice_get}
use Rattle.std.proofs.Math.Nat.{pow-le-pow_right}
use Rattle.std.proofs.lemmas.Bool.{and_parts, cases_Bool, or_parts, not-true as not_true}
use Rattle.std.proofs.lemmas.Bool.Decides.{nat_tests}
use Rattle.std.specs.List.{list_all, list_any}
use Rattle.spec_ir.specs.declared.ty.Ty.{Ty}
use Rattle.spec_ir.specs.declared.ty.Ty.TheVariants.{Bool as Flag, Word, Data as DataTy, Map as MapOf}
use Rattle.spec_ir.specs.Environment.{Case}
use Rattle.spec_ir.specs.Specification.{Spec}
use Rattle.spec_ir.specs.Texts.{cases_of, case_text}
use Rattle.spec_ir.proofs.Entered.{name_itself as itself}
use Rattle.semantics_values.specs.Types.{environment_of, key_count}
use Rattle.state_cell_text.specs.declared.places.Place.{Place}
use Rattle.state_cell_text.specs.Digits.{digits_of}
use Rattle.state_cell_text.specs.Keys.{case_number, key_number, key_text}
use Rattle.state_cell_text.specs.Places.{Field, place_at, place_from}
use Rattle.state_text.specs.Forms.{is_key, is_name}
use Rattle.state_text.specs.Laws.{IsKeyType, all_differ}
use Rattle.state_text.proofs.Computed.{name_parts}
use Rattle.state_text.proofs.Numbers.{decimal_key, hex_key, number_read}

-- what the names of a list show: the first is no other's
differ_parts : (name : List ℕ) (names : List (List ℕ)) → all_differ (name ∷ names) ≡ true → (list_any (bytes_eq name) names ≡ false) × (all_differ names ≡ true)
differ_parts name names h =
    let both = and_parts (not (list_any (bytes_eq name) names)) (all_differ names) h in
    (not_true (list_any (bytes_eq name) names) both.0, both.1)

-- ---- fields

-- each of fields, the first of them number i, is what its name finds
abbrev pub ArePlaced : Spec → (List ℕ → Option Place) → ℕ → List Field → Type 0
ArePlaced spec find i [] = Unit {0}
ArePlaced spec find i (f ∷ fields) = (find f.0 ≡ place_at spec i f.1) × ArePlaced spec find (suc i) fields

placed_behind : (spec : Spec) (g : Field) (gs : List Field) (k i : ℕ) (fields : List Field) → list_any (bytes_eq g.0) (map (λ f. f.0) fields) ≡ false
    → ArePlaced spec (place_from spec (k + 1) gs) i fields → ArePlaced spec (place_from spec k (g ∷ gs)) i fields
placed_behind spec g gs k i [] none placed = tt
placed_behind spec g gs k i (f ∷ fields) none placed =
    let both = or_parts (bytes_eq g.0 f.0) (list_any (bytes_eq g.0) (map (λ h. h.0) fields)) none in
    (rw both.0 placed.0, placed_behind spec g gs k (suc i) fields both.1 placed.1)

pub placed : (spec : Spec) (k : ℕ) (fields : List Field) → all_differ (map (λ f. f.0) fields) ≡ true → ArePlaced spec (place_from spec k fields) k fields
placed spec k [] h = tt
placed spec k (g ∷ gs) h =
    let parts = differ_parts g.0 (map (λ f. f.0) gs) h in
    let e : k + 1 ≡ suc k = omega arith in
    let rest = rw e at (placed spec (k + 1) gs parts.1) in
    (rw (itself g.0) refl, placed_behind spec g gs k (suc k) gs parts.0 (rw e rest))

-- ---- keys

no_other : (name : List ℕ) (cases : List Case) (k : ℕ) → list_any (bytes_eq name) (map (λ c. c.name) cases) ≡ false → k < length cases → bytes_eq name (case_text (slice_get cases k)) ≡ false
no_other name [] k h within = absurd (omega (arith, within))
no_other name (c ∷ cases) zero h within = (or_parts (bytes_eq name c.name) (list_any (bytes_eq name) (map (λ d. d.name) cases)) h).0
no_other name (c ∷ cases) (suc k) h within = no_other name cases k (or_parts (bytes_eq name c.name) (list_any (bytes_eq name) (map (λ d. d.name) cases)) h).1 (omega (arith, within))

case_read : (n : ℕ) (cases : List Case) (k : ℕ) → all_differ (map (λ c. c.name) cases) ≡ true → k < length cases → case_number n cases (case_text (slice_get cases k)) ≡ Some (n + k)
case_read n [] k h within = absurd (omega (arith, within))
case_read n (c ∷ cases) zero h within = rw (itself c.name) (ap Some (omega arith))
case_read n (c ∷ cases) (suc k) h within =
    let parts = differ_parts c.name (map (λ d. d.name) cases) h in
    rw (no_other c.name cases k parts.0 (omega (arith, within))) (case_read (n + 1) cases k parts.1 (omega (arith, within)) ∙ ap Some (omega arith))

name_key : (name : List ℕ) → is_name name ≡ true → is_key name ≡ true
name_key [] h = absurd (let bad : false ≡ true = h in cc)
name_key (b ∷ name) h = (name_parts (b ∷ name) h).word

case_key : (cases : List Case) (k : ℕ) → list_all is_name (map (λ c. c.name) cases) ≡ true → k < length cases → is_key (case_text (slice_get cases k)) ≡ true
case_key [] k h within = absurd (omega (arith, within))
case_key (c ∷ cases) zero h within = name_key c.name (and_parts (is_name c.name) (list_all is_name (map (λ d. d.name) cases)) h).0
case_key (c ∷ cases) (suc k) h within = case_key cases k (and_parts (is_name c.name) (list_all is_name (map (λ d. d.name) cases)) h).1 (omega (arith, within))

-- a key is read as it is written
abbrev pub IsReadKey : Spec → Ty → ℕ → Type 0
IsReadKey spec ty k = (key_number spec ty (key_text spec ty k) ≡ Some k) × (is_key (key_text spec ty k) ≡ true)

word_key : (spec : Spec) (w k : ℕ) → 1 ≤ w → w ≤ 32 → k < 2 ^ w → IsReadKey spec (Word w) k
word_key spec w k some few small =
    let below : nat_lt k (2 ^ w) ≡ true = grind (arith, nat_tests, small) in
    elim (cases_Bool (nat_le w 8)) [
      | inl e ↦
          let narrow : w ≤ 8 = grind (arith, nat_tests, e) in
          let up : 2 ^ w ≤ 2 ^ 8 = pow-le-pow_right {n = 2} (omega arith) {i = w} {j = 8} narrow in
          let read = decimal_key k (omega (arith, small, up)) in
          (rw (e, read.0, below) refl, rw e read.1)
      | inr e ↦
          let digits : digits_of w ≤ 8 = omega arith in
          (rw (e, number_read 8 w k some digits small, below) refl, rw e (hex_key (digits_of w) k (omega arith)))
    ]

pub key_read : (spec : Spec) (ty : Ty) (k : ℕ) → IsKeyType spec ty → k < key_count (environment_of spec) ty → IsReadKey spec ty k
key_read spec Flag k is within = absurd is
key_read spec (MapOf m) k is within = absurd is
key_read spec (Word w) k is within = word_key spec w k is.0 is.1 within
key_read spec (DataTy t) k is within =
    let cases = cases_of (slice_get spec.datas t) in
    let parts = and_parts (list_all is_name (map (λ c. c.name) cases)) (all_differ (map (λ c. c.name) cases)) is in
    (case_read 0 cases k parts.1 within ∙ ap Some (omega arith), case_key cases k parts.0 within)
