-- Laws of elements.
use Rattle.std.specs.Prelude.{◌≡◌, ℕ, ◌+◌, ◌^◌, ◌<◌, ◌≤◌, List, [], ◌∷◌, length, map, replicate, IsTrue, ◌↔◌, slice_index, ⊤}
use Rattle.support_modular_rows.specs.Laws.{IsWithin}
use Rattle.support_modular_rows.specs.Multiples.{IsLeastMultiple, IsMultiple}
use Rattle.support_modular_rows.specs.Rank.{IsRank}
use Rattle.support_modular_rows.specs.Submodule.{IsImage, IsMember, Submodule, unit_row}
use Rattle.base_trait.specs.Lists.{Each}
use Rattle.domain_affine_base.specs.Exact.{form_of}
use Rattle.domain_affine_base.specs.Words.{Fits, Stands}
use Rattle.domain_affine_base.specs.declared.word.Word.{Word}
use Rattle.domain_affine_base.specs.declared.word.Word.TheVariants.{Any, Const, Form}
use Rattle.semantics_values.specs.declared.entry.KeyAt.{KeyAt}
use Rattle.semantics_values.specs.States.{State}
use Rattle.fixpoint_theory.specs.Elements.{BoundsHold, ElementLaws, SameElementsHold}
use Rattle.domain_affine_element_laws.specs.Closed.{closed_of}
use Rattle.domain_affine_element_laws.specs.Elements.{SameMembers, submodules}
use Rattle.domain_affine_element_laws.specs.Ranks.{rank_of}
use Rattle.domain_affine_element_laws.specs.Entry.{entry_of}
use Rattle.domain_affine_element_laws.specs.Membership.{are_members, is_member}
use Rattle.domain_affine_element_laws.specs.Opened.{opened_cell}
use Rattle.domain_affine_element_laws.specs.Tracked.{tracked_of, valuation_of}

-- The test tells the members.
abbrev pub MembersAreTold : Type 0
MembersAreTold = (k : ℕ) (rows : List (List ℕ)) (x : List ℕ) → IsTrue (is_member k rows x) ↔ IsMember k rows x

-- What absorbs holds each member of the other, and what does so absorbs.
abbrev pub AbsorbsWithin : Type 0
AbsorbsWithin = (k : ℕ) (rows others : List (List ℕ)) → IsTrue (are_members k rows others) ↔ IsWithin k others rows

-- The rank is one.
abbrev pub HasRank : Type 0
HasRank = (k : ℕ) (rows : List (List ℕ)) → IsRank k rows (rank_of k rows)

module _ {S : Type 0} (valuation : S → List ℕ) where
  -- Submodules over any number of cells keep the laws of elements.
  abbrev pub SubmodulesKeepTheLaws : Type 0
  SubmodulesKeepTheLaws = (k : ℕ) → ElementLaws (submodules k valuation)

  -- What absorbs both sides absorbs their join.
  abbrev pub JoinIsLeast : Type 0
  JoinIsLeast =
      (k : ℕ) (x y z : Submodule)
      → IsTrue ((submodules k valuation).absorbs z x) → IsTrue ((submodules k valuation).absorbs z y) → IsTrue ((submodules k valuation).absorbs z ((submodules k valuation).join x y))

  -- Join and widening hold of what either side holds of, and elements that are the same hold of the same states.
  abbrev pub SubmodulesHold : Type 0
  SubmodulesHold = (k : ℕ) → BoundsHold (submodules k valuation) × SameElementsHold (submodules k valuation)

-- the word is the least constant, or the cell's form where there is none
abbrev pub IsOpened : ℕ → List (List ℕ) → ℕ → Word → Type 0
IsOpened k rows cell (Const c) = IsLeastMultiple k rows cell c
IsOpened k rows cell (Form f) = (f ≡ unit_row (k + 1) (cell + 1)) × ((c : ℕ) → IsMultiple k rows cell c → ⊥)
IsOpened k rows cell Any = ⊥

abbrev pub OpensToLeast : Type 0
OpensToLeast = (k : ℕ) (rows : List (List ℕ)) (cell : ℕ) → cell < k → IsOpened k rows cell (opened_cell k rows cell)

-- No other word is.
abbrev pub OneIsOpened : Type 0
OneIsOpened = (k : ℕ) (rows : List (List ℕ)) (cell : ℕ) (x : Word) → cell < k → IsOpened k rows cell x → x ≡ opened_cell k rows cell

-- A cell's word is one of 32 bits.
abbrev pub OpensToWords : Type 0
OpensToWords = (k : ℕ) (rows : List (List ℕ)) (cell : ℕ) → cell < k → Fits k 32 (opened_cell k rows cell)

-- Where an element holds of a valuation, the word of a cell stands there for the cell's number.
abbrev pub OpensSoundly : Type 0
OpensSoundly =
    (k : ℕ) (rows : List (List ℕ)) (cell : ℕ) (valuation : List ℕ) → cell < k → slice_index valuation cell < 2 ^ 32
    → IsMember k rows (1 ∷ valuation) → Stands valuation (opened_cell k rows cell) (slice_index valuation cell)

-- Elements that are the same open to one word.
abbrev pub OpensSame : Type 0
OpensSame = (k : ℕ) (rows others : List (List ℕ)) (cell : ℕ) → cell < k → SameMembers k rows others → opened_cell k rows cell ≡ opened_cell k others cell

-- The members of the element behind an instruction are the values of the words over the members of the one before it.
abbrev pub ClosesToImage : Type 0
ClosesToImage =
    (k : ℕ) (words : List Word) (rows : List (List ℕ)) → Each (λ x. Fits k 32 x) words → (y : List ℕ)
    → IsMember k (closed_of k words (record { k = k; rows = rows })).rows y ↔ IsImage (record { k = k; rows = rows }) (map form_of words) y

-- in the valuation each word stands for the number at its place
abbrev pub StandAll : List ℕ → List Word → List ℕ → Type 0
StandAll valuation [] [] = ⊤
StandAll valuation (x ∷ words) (n ∷ next) = Stands valuation x n × StandAll valuation words next
StandAll valuation _ _ = ⊥

-- Where an element holds of a valuation, and there the words stand for the numbers of the next, the element behind holds of
-- the next.
abbrev pub ClosesSoundly : Type 0
ClosesSoundly =
    (k : ℕ) (words : List Word) (rows : List (List ℕ)) (valuation next : List ℕ) → Each (λ x. Fits k 32 x) words → length valuation ≡ k
    → IsMember k rows (1 ∷ valuation) → StandAll valuation words next → IsMember k (closed_of k words (record { k = k; rows = rows })).rows (1 ∷ next)

-- Elements that are the same close to elements that are the same.
abbrev pub ClosesSame : Type 0
ClosesSame =
    (k : ℕ) (words : List Word) (rows others : List (List ℕ)) → Each (λ x. Fits k 32 x) words → SameMembers k rows others
    → SameMembers k (closed_of k words (record { k = k; rows = rows })).rows (closed_of k words (record { k = k; rows = others })).rows

-- At most 64 cells are tracked.
abbrev pub FewAreTracked : Type 0
FewAreTracked = (fields : List (List KeyAt)) → length (tracked_of fields) ≤ 64

-- A valuation has a number for each tracked cell.
abbrev pub ValuationsAreWhole : Type 0
ValuationsAreWhole = (cells : List (ℕ × KeyAt)) (s : State) → length (valuation_of cells s) ≡ length cells

-- Where the words stand for the numbers, the entry's element holds of them.
abbrev pub EntersSoundly : Type 0
EntersSoundly =
    (k : ℕ) (words : List Word) (numbers : List ℕ) → Each (λ x. Fits k 32 x) words → StandAll (replicate k 0) words numbers
    → IsMember k (entry_of k words).rows (1 ∷ numbers)
