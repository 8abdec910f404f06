-- Texts that begin with the line of a part, and texts that do not go on with an element.
use Rattle.std.proofs.Common.{◌≡◌, ℕ, true, false, List, [], ◌∷◌, ◌++◌, Option, Some, None, IsTrue, is_some, codes, refl, sym, ap, subst, ◌∙◌, inl, inr, append_assoc}
use Rattle.std.proofs.lemmas.Bool.{or_cases}
use Rattle.std.specs.List.{list_any}
use Rattle.base_trait.specs.Lists.{Each}
use Rattle.text_words.specs.Reading.{behind}
use Rattle.text_words.specs.Fronts.{behind_back, behind_tells}
use Rattle.text_words.specs.Texts.{Texts}
use Rattle.state_cell_text.specs.Places.{state_fields}
use Rattle.text_elements.specs.Cells.{cell_lines}
use Rattle.text_elements.specs.Parts.{ElementText}
use Rattle.text_round_trips.specs.Laws.{CellsBegin, PairsBegin, RelationsBegin}
use Rattle.text_round_trips.specs.RoundTrips.{IsBehindElement, other_words}

-- ---- texts that begin so

some_from : {A : Type 0} (o : Option A) (x : A) → o ≡ Some x → is_some o ≡ true
some_from o x e = rw e refl

some_is : {A : Type 0} (o : Option A) → is_some o ≡ true → (x : A) × (o ≡ Some x)
some_is None h = absurd (let bad : false ≡ true = h in cc)
some_is (Some x) h = (x, refl)

-- what a text goes on with, behind its front
pub behind_more : (front text more : List ℕ) → is_some (behind front text) ≡ true → is_some (behind front (text ++ more)) ≡ true
behind_more front text more h =
    let found = some_is (behind front text) h in
    let is : front ++ (found.0 ++ more) ≡ text ++ more = sym (append_assoc front found.0 more) ∙ ap (λ (t : List ℕ). t ++ more) (behind_tells front text found.0 found.1) in
    subst (λ t. is_some (behind front t) ≡ true) is (some_from (behind front (front ++ (found.0 ++ more))) (found.0 ++ more) (behind_back front (found.0 ++ more)))

begins_so : (front rest text : List ℕ) → text ≡ front ++ rest → is_some (behind front text) ≡ true
begins_so front rest text e = some_from (behind front text) rest (rw e (behind_back front rest))

pub cells_begin : {W N : Type 0} (texts : Texts W N) → CellsBegin texts
cells_begin texts name spec x text e = begins_so (codes "part ") ((name ++ codes "\n") ++ cell_lines texts spec (state_fields spec) x) text e

pub relations_begin : RelationsBegin
relations_begin spec x text is = begins_so (codes "part ") (codes "affine\n" ++ is.lines) text is.part

pub pairs_begin : {E F : Type 0} (First : ElementText E) (Second : ElementText F) → PairsBegin First Second
pairs_begin First Second spec begins x text is =
    subst (λ t. is_some (behind (codes "part ") t) ≡ true) (sym is.both) (behind_more (codes "part ") is.left is.right (begins x.0 is.left is.first))

-- ---- texts behind an element

-- the line of a part is behind an element
pub part_behind : (text : List ℕ) → is_some (behind (codes "part ") text) ≡ true → IsBehindElement text
part_behind text h = inr (rw h refl)

-- What a text begins with: a word with a property.
pub record BeginsWith (P : List ℕ → Type 0) (text : List ℕ) : Type 0 where
  pub word : List ℕ
  pub has : P word
  pub rest : List ℕ
  pub is : text ≡ word ++ rest

one_of : (P : List ℕ → Type 0) (text : List ℕ) (words : List (List ℕ)) → Each P words → list_any (λ word. is_some (behind word text)) words ≡ true → BeginsWith P text
one_of P text [] each h = absurd (let bad : false ≡ true = h in cc)
one_of P text (word ∷ words) each h = elim (or_cases (is_some (behind word text)) (list_any (λ w. is_some (behind w text)) words) h) [
  | inl e ↦ let found = some_is (behind word text) e in record { word = word; has = each.0; rest = found.0; is = sym (behind_tells word text found.0 found.1) }
  | inr e ↦ one_of P text words each.1 e
]

-- where a text behind an element is not empty, it begins with one of the words
pub begins_with : (P : List ℕ → Type 0) (text : List ℕ) → Each P other_words → IsTrue (list_any (λ word. is_some (behind word text)) other_words) → BeginsWith P text
begins_with P text each h = one_of P text other_words each h
