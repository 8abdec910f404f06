-- What an analysis is of: elements, a code image, an entry, and the transfer of each address.
use Rattle.std.specs.Prelude.{◌≡◌, ℕ, ◌+◌, Bool, false, List, [], ◌∷◌, length, IsTrue}
use Rattle.base_trait.specs.Lists.{AreAmong}
use Rattle.base_trait.specs.declared.uses.Stamp.TheVariants.{Entry, At}
use Rattle.fixpoint_theory.specs.Code.{IsImage, is_code, stamps_of}
use Rattle.fixpoint_theory.specs.Elements.{ElementLaws, Elements}
use Rattle.fixpoint_theory.specs.Outcome.{AreOfStamps, HasTargets, IfPost, IfUses, Outcome, SameOutcome}

-- An analysis over elements E, with words W of the counter and states S.
pub record Analysis (E W S : Type 0) : Type 1 where
  pub elements : Elements E S
  -- how many changes of an element join before later ones widen
  pub joins : ℕ
  -- the addresses of code words
  pub code : List ℕ
  -- the entry's counter and its element
  pub start : ℕ
  pub entry : E
  -- whether uses tell stamps: else there are none
  pub stamped : Bool
  pub transfer : ℕ → E → Outcome E W

module _ {E W S : Type 0} (A : Analysis E W S) where
  -- the element fits, and lists stamps of the code alone
  abbrev pub IsOf : E → Type 0
  IsOf x = A.elements.fits x × AreAmong (A.elements.listed x) (stamps_of A.code)

  -- the height of its elements: the stamps are the entry and each address
  abbrev pub height_of : ℕ
  height_of = A.elements.height (length A.code + 1)

  -- What an analysis rests on.
  pub record AnalysisLaws : Type 0 where
    pub elements : ElementLaws A.elements
    pub code : IsImage A.code
    -- ---- the entry
    pub entry_fits : A.elements.fits A.entry
    pub entry_lists : AreAmong (A.elements.listed A.entry) (Entry ∷ [])
    -- ---- the transfer of an element that fits, at a code address
    pub transfer_fits : (at : ℕ) (x : E) → IsTrue (is_code A.code at) → A.elements.fits x → IfPost A.elements.fits (A.transfer at x)
    pub transfer_lists : (at : ℕ) (x : E) → IsTrue (is_code A.code at) → A.elements.fits x
        → IfPost (λ post. AreAmong (A.elements.listed post) (At at ∷ A.elements.listed x)) (A.transfer at x)
    pub transfer_targets : (at : ℕ) (x : E) → IsTrue (is_code A.code at) → A.elements.fits x → HasTargets (A.transfer at x)
    pub transfer_uses : (at : ℕ) (x : E) → IsTrue (is_code A.code at) → A.elements.fits x
        → IfUses (AreOfStamps (At at ∷ A.elements.listed x)) (A.transfer at x)
    pub transfer_unstamped : (at : ℕ) (x : E) → IsTrue (is_code A.code at) → A.elements.fits x → A.stamped ≡ false
        → IfUses (λ uses. uses ≡ []) (A.transfer at x)
    pub transfer_same : (at : ℕ) (x y : E) → IsTrue (is_code A.code at) → A.elements.fits x → A.elements.fits y → A.elements.same x y
        → SameOutcome A.elements (A.transfer at x) (A.transfer at y)
