-- The words of tracked cells where an element stands.
use Rattle.std.proofs.Common.{◌≡◌, ℕ, zero, suc, ◌+◌, ◌^◌, ◌<◌, ◌≤◌, IsTrue, List, [], ◌∷◌, length, map, get_or, Some, refl, sym, ap, ap₂, ◌∙◌, subst, arith}
use Rattle.std.specs.Prelude.{◌==◌, IfSome}
use Rattle.std.specs.List.{range_with_len}
use Rattle.base_trait.specs.Lists.{Each}
use Rattle.base_trait.proofs.Lists.{number_told}
use Rattle.base_trait.proofs.Tests.{and_parts, at_choice}
use Rattle.semantics_values.specs.declared.entry.KeyAt.{KeyAt}
use Rattle.semantics_values.specs.States.{State}
use Rattle.semantics.specs.Entries.{is_key}
use Rattle.support_modular_rows.specs.Submodule.{IsMember}
use Rattle.domain_affine_base.specs.Words.{Fits, Stands}
use Rattle.domain_affine_base.specs.declared.word.Word.{Word}
use Rattle.domain_affine_element_laws.specs.Elements.{SameMembers}
use Rattle.domain_affine_element_laws.specs.Laws.{StandAll}
use Rattle.domain_affine_element_laws.specs.Opened.{opened_cell}
use Rattle.domain_affine_element_laws.specs.Tracked.{number_at, valuation_of}
use Rattle.domain_affine_element_laws.proofs.Opened.{opens_same, opens_soundly, opens_to_words}
use Rattle.domain_affine_laws.specs.Opened.{is_cell, opened_words, tracked_word}
use Rattle.domain_laws.proofs.Lines.{key_told}

-- ---- the words, one after the other
module _ (k : ℕ) (rows : List (List ℕ)) where
  fit_from : (i n : ℕ) → i + n ≤ k → Each (Fits k 32) (map (opened_cell k rows) (range_with_len i n))
  fit_from i zero le = tt
  fit_from i (suc n) le = (opens_to_words k rows i (omega (arith, le)), fit_from (i + 1) n (omega (arith, le)))

  pub words_fit : Each (Fits k 32) (opened_words k rows)
  words_fit = fit_from 0 k (omega arith)

  same_from : (others : List (List ℕ)) → SameMembers k rows others → (i n : ℕ) → i + n ≤ k
      → map (opened_cell k rows) (range_with_len i n) ≡ map (opened_cell k others) (range_with_len i n)
  same_from others same i zero le = refl
  same_from others same i (suc n) le =
      ap₂ (λ x xs. x ∷ xs) (opens_same k rows others i (omega (arith, le)) same) (same_from others same (i + 1) n (omega (arith, le)))

  pub words_same : (others : List (List ℕ)) → SameMembers k rows others → opened_words k rows ≡ opened_words k others
  words_same others same = same_from others same 0 k (omega arith)

  module _ (valuation : List ℕ) (size : length valuation ≡ k) (member : IsMember k rows (1 ∷ valuation)) where
    stand_from : (i : ℕ) (rest : List ℕ) → ((j : ℕ) → get_or valuation (i + j) 0 ≡ get_or rest j 0) → Each (λ n. n < 2 ^ 32) rest → i + length rest ≤ k
        → StandAll valuation (map (opened_cell k rows) (range_with_len i (length rest))) rest
    stand_from i [] same small le = tt
    stand_from i (n ∷ rest) same small le = (
      subst (λ z. Stands valuation (opened_cell k rows i) z) here (opens_soundly k rows i valuation (omega (arith, le)) (subst (λ z. z < 2 ^ 32) (sym here) small.0) member),
      stand_from (i + 1) rest (λ j. ap (λ m. get_or valuation m 0) (next i j) ∙ same (suc j)) small.1 (omega (arith, le)),
    )
      where
        place : (m : ℕ) → m ≡ m + 0
        place m = omega arith

        next : (m j : ℕ) → m + 1 + j ≡ m + suc j
        next m j = omega arith

        here : get_or valuation i 0 ≡ n
        here = ap (λ m. get_or valuation m 0) (place i) ∙ same 0

    pub words_stand : Each (λ n. n < 2 ^ 32) valuation → StandAll valuation (opened_words k rows) valuation
    words_stand small =
        subst (λ n. StandAll valuation (map (opened_cell k rows) (range_with_len 0 n)) valuation) size
        (stand_from 0 valuation (λ j. ap (λ m. get_or valuation m 0) (start j)) small (omega (arith, size)))
      where
        start : (j : ℕ) → 0 + j ≡ j
        start j = omega arith

-- ---- the word that is found at a cell

pub cell_told : (c : ℕ × KeyAt) (n : ℕ) (key : KeyAt) → IsTrue (is_cell c n key) → ◌≡◌ {A = ℕ × KeyAt} c (n, key)
cell_told c n key h =
    let parts = and_parts (c.0 == n) (is_key c.1 key) h in
    ap (λ m. (m, c.1)) (number_told c.0 n parts.0) ∙ ap (λ x. (n, x)) (key_told c.1 key parts.1)

module _ (Q : ℕ × KeyAt → Word → Type 0) where
  -- of each cell and its word
  abbrev pub EachWord : List (ℕ × KeyAt) → List Word → Type 0
  EachWord [] words = Unit {0}
  EachWord (c ∷ cells) [] = Unit {0}
  EachWord (c ∷ cells) (x ∷ words) = Q c x × EachWord cells words

  pub found : (n : ℕ) (key : KeyAt) (cells : List (ℕ × KeyAt)) (words : List Word) → EachWord cells words → IfSome (tracked_word cells words n key) (Q (n, key))
  found n key [] words h = tt
  found n key (c ∷ cells) [] h = tt
  found n key (c ∷ cells) (x ∷ words) h =
      at_choice (λ o. IfSome o (Q (n, key))) (is_cell c n key) (Some x) (tracked_word cells words n key)
      (λ e. subst (λ d. Q d x) (cell_told c n key e) h.0) (λ e. found n key cells words h.1)

pub both_words : (P : ℕ × KeyAt → Type 0) (Q : Word → Type 0) (cells : List (ℕ × KeyAt)) (words : List Word) → Each P cells → Each Q words → EachWord (λ c x. P c × Q x) cells words
both_words P Q [] words h g = tt
both_words P Q (c ∷ cells) [] h g = tt
both_words P Q (c ∷ cells) (x ∷ words) h g = ((h.0, g.0), both_words P Q cells words h.1 g.1)

pub standing_words : (valuation : List ℕ) (s : State) (cells : List (ℕ × KeyAt)) (words : List Word) → StandAll valuation words (valuation_of cells s)
    → EachWord (λ c x. Stands valuation x (number_at s c)) cells words
standing_words valuation s [] words h = tt
standing_words valuation s (c ∷ cells) [] h = tt
standing_words valuation s (c ∷ cells) (x ∷ words) h = (h.0, standing_words valuation s cells words h.1)
