-- The laws of elements, of those that list stamps of the code alone.
use Rattle.std.proofs.Common.{◌≡◌, ℕ, ◌+◌, ◌<◌, ◌≤◌, false, List, [], ◌∷◌, ◌++◌, length, None, Some, IsTrue, arith, inl, inr, refl, sym, subst, ◌∙◌}
use Rattle.std.specs.Prelude.{◌⊎◌, ◌==◌}
use Rattle.std.proofs.lemmas.List.{length-map}
use Rattle.base_trait.specs.Lists.{AreAmong, Each, IsAmong}
use Rattle.base_trait.specs.declared.uses.Stamp.{Stamp}
use Rattle.base_trait.specs.declared.uses.Stamp.TheVariants.{Entry, At}
use Rattle.base_trait.proofs.Lists.{among_either, among_map, are_among_at, are_among_from, number_itself, number_told}
use Rattle.base_trait.proofs.Tests.{or_left, or_right, or_sorted}
use Rattle.fixpoint_theory.specs.Analysis.{Analysis, AnalysisLaws, IsOf, height_of}
use Rattle.fixpoint_theory.specs.Code.{is_code, stamps_of}
use Rattle.fixpoint_theory.specs.Elements.{BoundsHold, ElementLaws, Elements, SameElementsHold}
use Rattle.fixpoint_theory.specs.Outcome.{IfPost, Outcome, moves, sends, too_many, undecodable}

-- ---- code addresses
pub code_among : (code : List ℕ) (at : ℕ) → IsTrue (is_code code at) → IsAmong at code
code_among [] at h = cc
code_among (a ∷ rest) at h = sorted (or_sorted (a == at) _ h) (code_among rest at)
  where
    sorted : IsTrue (a == at) ⊎ IsTrue (is_code rest at) → (IsTrue (is_code rest at) → IsAmong at rest) → IsAmong at (a ∷ rest)
    sorted (inl e) f = inl (sym (number_told a at e))
    sorted (inr k) f = inr (f k)

pub among_code : (code : List ℕ) (at : ℕ) → IsAmong at code → IsTrue (is_code code at)
among_code [] at h = absurd h
among_code (a ∷ rest) at (inl e) = or_left (a == at) _ (subst (λ b. IsTrue (a == b)) (sym e) (number_itself a))
among_code (a ∷ rest) at (inr h) = or_right (a == at) _ (among_code rest at h)

pub stamp_of : (code : List ℕ) (at : ℕ) → IsTrue (is_code code at) → IsAmong (At at) (stamps_of code)
stamp_of code at h = inr (among_map (λ a. At a) at code (code_among code at h))

-- what is weaker holds of each item too
pub each_weaker : {X : Type 0} (P Q : X → Type 0) → ((x : X) → P x → Q x) → (xs : List X) → Each P xs → Each Q xs
each_weaker P Q h [] each = tt
each_weaker P Q h (x ∷ xs) each = (h x each.0, each_weaker P Q h xs each.1)

-- ---- stamps of two lists
pub lists_both : (zs xs ys stamps : List Stamp) → AreAmong zs (xs ++ ys) → AreAmong xs stamps → AreAmong ys stamps → AreAmong zs stamps
lists_both zs xs ys stamps h k l = are_among_from zs stamps (λ s m. sorted s (among_either s xs ys (are_among_at zs (xs ++ ys) s h m)))
  where
    sorted : (s : Stamp) → IsAmong s xs ⊎ IsAmong s ys → IsAmong s stamps
    sorted s (inl a) = are_among_at xs stamps s k a
    sorted s (inr b) = are_among_at ys stamps s l b

pub lists_on : (xs ys stamps : List Stamp) → AreAmong xs ys → AreAmong ys stamps → AreAmong xs stamps
lists_on xs ys stamps h k = are_among_from xs stamps (λ s m. are_among_at ys stamps s k (are_among_at xs ys s h m))

module _ {E S : Type 0} (D : Elements E S) (laws : ElementLaws D) where
  pub bounds_hold : BoundsHold D
  bounds_hold x y s fx fy (inl holds) = (
    laws.absorbs_holds (D.join x y) x s (laws.join_fits x y fx fy) fx (laws.join_absorbs x y fx fy).0 holds,
    laws.absorbs_holds (D.widen x y) x s (laws.widen_fits x y fx fy) fx (laws.widen_absorbs x y fx fy).0 holds,
  )
  bounds_hold x y s fx fy (inr holds) = (
    laws.absorbs_holds (D.join x y) y s (laws.join_fits x y fx fy) fy (laws.join_absorbs x y fx fy).1 holds,
    laws.absorbs_holds (D.widen x y) y s (laws.widen_fits x y fx fy) fy (laws.widen_absorbs x y fx fy).1 holds,
  )

  pub same_elements_hold : SameElementsHold D
  same_elements_hold x y s fx fy same holds =
      laws.absorbs_holds y x s fy fx (laws.same_absorbs y y x y fy fy fx fy (laws.same_itself y) same ∙ laws.absorbs_itself y fy) holds

module _ {E W S : Type 0} (A : Analysis E W S) (laws : AnalysisLaws A) where
  pub join_of : (x y : E) → IsOf A x → IsOf A y → IsOf A (A.elements.join x y)
  join_of x y h k = (
    laws.elements.join_fits x y h.0 k.0,
    lists_both (A.elements.listed (A.elements.join x y)) (A.elements.listed x) (A.elements.listed y) (stamps_of A.code) (laws.elements.join_lists x y h.0 k.0) h.1 k.1,
  )

  pub widen_of : (old new : E) → IsOf A old → IsOf A new → IsOf A (A.elements.widen old new)
  widen_of x y h k = (
    laws.elements.widen_fits x y h.0 k.0,
    lists_both (A.elements.listed (A.elements.widen x y)) (A.elements.listed x) (A.elements.listed y) (stamps_of A.code) (laws.elements.widen_lists x y h.0 k.0) h.1 k.1,
  )

  pub join_absorbs : (x y : E) → IsOf A x → IsOf A y → IsTrue (A.elements.absorbs (A.elements.join x y) x) × IsTrue (A.elements.absorbs (A.elements.join x y) y)
  join_absorbs x y h k = laws.elements.join_absorbs x y h.0 k.0

  pub widen_absorbs : (x y : E) → IsOf A x → IsOf A y → IsTrue (A.elements.absorbs (A.elements.widen x y) x) × IsTrue (A.elements.absorbs (A.elements.widen x y) y)
  widen_absorbs x y h k = laws.elements.widen_absorbs x y h.0 k.0

  pub absorbs_itself : (x : E) → IsOf A x → IsTrue (A.elements.absorbs x x)
  absorbs_itself x h = laws.elements.absorbs_itself x h.0

  pub absorbs_on : (x y z : E) → IsOf A x → IsOf A y → IsOf A z → IsTrue (A.elements.absorbs x y) → IsTrue (A.elements.absorbs y z) → IsTrue (A.elements.absorbs x z)
  absorbs_on x y z h k l = laws.elements.absorbs_on x y z h.0 k.0 l.0

  -- the rank of an element among the stamps of the code
  abbrev pub rank_of : E → ℕ
  rank_of x = A.elements.rank (stamps_of A.code) x

  pub widen_falls : (old new : E) → IsOf A old → IsOf A new → A.elements.absorbs old new ≡ false → rank_of (A.elements.widen old new) < rank_of old
  widen_falls old new h k apart = laws.elements.widen_falls (stamps_of A.code) old new h.0 k.0 h.1 k.1 apart

  pub rank_height : (x : E) → IsOf A x → rank_of x ≤ height_of A
  rank_height x h =
      let long : length (stamps_of A.code) ≡ length A.code + 1 = omega (arith, length-map A.code (λ a. At a)) in
      subst (λ n. rank_of x ≤ A.elements.height n) long (laws.elements.rank_height (stamps_of A.code) x h.0)

  pub entry_of : IsOf A A.entry
  entry_of = (laws.entry_fits, lists_on (A.elements.listed A.entry) (Entry ∷ []) (stamps_of A.code) laws.entry_lists (inl refl, tt))

  sent_of : (stamps : List Stamp) (arrivals : List (ℕ × E)) → AreAmong stamps (stamps_of A.code) → Each (λ a. A.elements.fits a.1) arrivals
      → Each (λ a. AreAmong (A.elements.listed a.1) stamps) arrivals → Each (λ a. IsOf A a.1) arrivals
  sent_of stamps [] k fits lists = tt
  sent_of stamps (a ∷ rest) k fits lists = ((fits.0, lists_on (A.elements.listed a.1) stamps (stamps_of A.code) lists.0 k), sent_of stamps rest k fits.1 lists.1)

  post_of : (stamps : List Stamp) (given : Outcome E W) → AreAmong stamps (stamps_of A.code) → IfPost A.elements.fits given
      → IfPost (λ post. AreAmong (A.elements.listed post) stamps) given → IfPost (IsOf A) given
  post_of stamps (undecodable word) k fits lists = tt
  post_of stamps (too_many shown uses) k fits lists = tt
  post_of stamps (moves targets None uses) k fits lists = tt
  post_of stamps (moves targets (Some x) uses) k fits lists = (fits, lists_on (A.elements.listed x) stamps (stamps_of A.code) lists k)
  post_of stamps (sends arrivals uses) k fits lists = sent_of stamps arrivals k fits lists

  -- the stamps of an element, and of the instruction at an address
  pub stamps_at : (at : ℕ) (x : E) → IsTrue (is_code A.code at) → IsOf A x → AreAmong (At at ∷ A.elements.listed x) (stamps_of A.code)
  stamps_at at x code h = (stamp_of A.code at code, h.1)

  pub transfer_of : (at : ℕ) (x : E) → IsTrue (is_code A.code at) → IsOf A x → IfPost (IsOf A) (A.transfer at x)
  transfer_of at x code h =
      post_of (At at ∷ A.elements.listed x) (A.transfer at x) (stamps_at at x code h) (laws.transfer_fits at x code h.0) (laws.transfer_lists at x code h.0)
