-- Pieces of the word CODE.
use Rattle.std.proofs.Common.{◌≡◌, ℕ, ◌<◌, ◌≤◌, ◌+◌, Bor, le-leb, Bool, true, false, List, [], ◌∷◌, length, refl, arith, ◌||◌, get_or, sym, ◌∙◌, eq-eqb, lt-ltb, ne_eqb, ◌&&◌, ◌-◌, take, drop}
use Rattle.std.specs.Prelude.{Option, Some, None, if◌then◌else◌, not, suc, ◌==◌}
use Rattle.std.specs.List.{after_first, before_first, list_any, position_or_len, slice_split}
use Rattle.support_command_line.specs.Code.{CodePart, code_parts, is_at, is_comma, part_at, part_in, parts_after, parts_from}
use Rattle.support_command_line.specs.Numbers.{address_in}
use Rattle.support_command_line.specs.Views.{borrowed}
use Rattle.std.proofs.lemmas.Bool.{lt-leb}
use Rattle.std.proofs.lemmas.List.{length-map, take_all}
use Rattle.std.proofs.lemmas.List.Folds.{list_any_at}

-- an element passes where the first that passes has a place
pub some_passes : {A : Type 0} (test : A → Bool) (xs : List A) → position_or_len test xs < length xs → list_any test xs ≡ true
some_passes test [] h = absurd (omega arith)
some_passes test (x ∷ xs) h = pick (test x) (position_or_len test xs) (length xs) (list_any test xs) (λ less. some_passes test xs less) h
  where
    pick : (b : Bool) (place size : ℕ) (any : Bool) → (place < size → any ≡ true) → (if not b then 1 + place else 0) < suc size → b || any ≡ true
    pick true place size any rest h = refl
    pick false place size any rest h = rest (omega arith)

pub none_passes : {A : Type 0} (test : A → Bool) (xs : List A) → position_or_len test xs ≡ length xs → list_any test xs ≡ false
none_passes test [] h = refl
none_passes test (x ∷ xs) h = pick (test x) (position_or_len test xs) (length xs) (list_any test xs) (λ all. none_passes test xs all) h
  where
    pick : (b : Bool) (place size : ℕ) (any : Bool) → (place ≡ size → any ≡ false) → (if not b then 1 + place else 0) ≡ suc size → b || any ≡ false
    pick true place size any rest h = absurd (omega arith)
    pick false place size any rest h = rest (omega arith)

-- a piece with an `@` is a name and an address
pub is_part : (piece name digits : List ℕ) (base : ℕ) → position_or_len is_at piece < length piece → name ≡ before_first is_at piece → digits ≡ after_first is_at piece
    → address_in digits ≡ Some base → part_in piece ≡ part_at name base
is_part piece name digits base found named written address =
    let any = some_passes is_at piece found in
    rw (any, ← named, ← written, address) refl

module _ (base : ℕ) (word : List ℕ) (pieces : List (Bor (List ℕ))) (cut : borrowed pieces ≡ slice_split is_comma word) where
  -- a word of at most 16 pieces names the parts of these pieces
  pub few_pieces : length pieces ≤ 16 → code_parts base word ≡ parts_from base (borrowed pieces)
  unfolding code_parts
  few_pieces few = rw (← cut, length-map pieces (λ (word : Bor (List ℕ)). word.now), le-leb (length pieces) 16 few) refl

  -- one of more names none
  pub many_pieces : 16 < length pieces → code_parts base word ≡ None
  unfolding code_parts
  many_pieces many = rw (← cut, length-map pieces (λ (word : Bor (List ℕ)). word.now), lt-leb (length pieces) 16 many) refl

-- what `contains` answers for an `@`
module _ (name : List ℕ) (found : Bool) (h : (found ≡ true → (k : ℕ) × (k < length name) × (get_or name k 0 ≡ 64)) × ((k : ℕ) → k < length name → get_or name k 0 ≡ 64 → found ≡ true)) where
  has_one : found ≡ true → list_any is_at name ≡ true
  has_one e = let at = h.0 e in list_any_at is_at name at.0 0 at.1 (eq-eqb (get_or name at.0 0) 64 at.2)

  has_none : (text : List ℕ) → ((k : ℕ) → k < length text → get_or text k 0 ≡ 64 → ⊥) → list_any is_at text ≡ false
  has_none [] never = refl
  has_none (x ∷ xs) never = rw (ne_eqb x 64 (λ e. never 0 (omega arith) e), has_none xs (λ k less e. never (suc k) (omega arith) e)) refl

  pub has_at : list_any is_at name ≡ found
  has_at = cases found refl
    where
      cases : (b : Bool) → b ≡ found → list_any is_at name ≡ found
      cases true e = has_one (sym e) ∙ e
      cases false e = has_none name (λ k less at. let yes = h.1 k less at in cc) ∙ e

-- a part of a name, by its tests
and_false : (b : Bool) → b && false ≡ false
and_false true = refl
and_false false = refl

pub is_named : (name : List ℕ) (base : ℕ) → length name == 0 ≡ false → list_any is_at name ≡ false → part_at name base ≡ Some (record { name = name; base = base })
is_named [] base some none = cc
is_named (x ∷ xs) base some none = rw (none, lt-ltb 0 (length (x ∷ xs)) (omega arith)) refl

-- the first piece, and those after it
pub from_first : (base : ℕ) (pieces : List (Bor (List ℕ))) (d : Bor (List ℕ)) (found : Option CodePart) → 1 ≤ length pieces → found ≡ part_at (get_or pieces 0 d).now base
    → parts_from base (borrowed pieces) ≡ parts_after found (borrowed (take (length pieces - 1) (drop 1 pieces)))
from_first base [] d found some is = absurd (omega arith)
from_first base (p ∷ ps) d found some is = rw (is, take_all (length (p ∷ ps) - 1) ps (omega arith)) refl
