-- Which words stand in segments.
use Rattle.std.proofs.Common.{◌≡◌, ℕ, ◌+◌, ◌-◌, ◌%◌, ◌==◌, Bool, true, false, ◌&&◌, Some, List, [], ◌∷◌, drop, refl, ap, ap₂, sym, ◌∙◌, subst, arith, eqb-true, eq-eqb, inl, inr}
use Rattle.std.specs.Prelude.{not, nat_le, min, max, if◌then◌else◌}
use Rattle.std.specs.List.{list_all}
use Rattle.std.proofs.lemmas.Bool.{leb-true, le-leb, lt-ltb, ltb-true, and_parts as both}
use Rattle.code_image.specs.declared.order.Order.{Order}
use Rattle.code_image.specs.Image.{Segment, HasWord, IsWordAt, has_word, word_in, word_of, end_of}
use Rattle.code_image.specs.Faults.{HasByte, ascend, follows, overlaps}
use Rattle.code_image.specs.Laws.{OverlapsAreSharedBytes, WordsAreFound}

pub overlaps_are_shared_bytes : OverlapsAreSharedBytes
overlaps_are_shared_bytes s q = (
  λ e.
      let h = ltb-true (max s.base q.base) (min (end_of s) (end_of q)) e in
      (max s.base q.base, record { from = omega (arith, h); below = omega (arith, h) }, record { from = omega (arith, h); below = omega (arith, h) }),
  λ a x y. lt-ltb (max s.base q.base) (min (end_of s) (end_of q)) (omega (arith, x.from, x.below, y.from, y.below)),
)

-- a test of two halves and a third
pub holds_at : (order : Order) (s : Segment) (a : ℕ) → has_word s a ≡ true → HasWord order s a (word_of order (drop (a - s.base) s.bytes))
holds_at order s a e =
    let one = both (a % 4 == 0) (nat_le s.base a && nat_le (a + 4) (end_of s)) e in
    let two = both (nat_le s.base a) (nat_le (a + 4) (end_of s)) one.1 in
    record { aligned = eqb-true (a % 4) 0 one.0; from = leb-true s.base a two.0; below = leb-true (a + 4) (end_of s) two.1; word = refl }

has_at : (order : Order) (s : Segment) (a w : ℕ) → HasWord order s a w → has_word s a ≡ true
has_at order s a w h = ap₂ (λ x y. x && y) (eq-eqb (a % 4) 0 h.aligned) (ap₂ (λ x y. x && y) (le-leb s.base a h.from) (le-leb (a + 4) (end_of s) h.below))

byte_at : (order : Order) (s : Segment) (a w : ℕ) → HasWord order s a w → HasByte s a
byte_at order s a w h = record { from = h.from; below = omega (arith, h.below) }

found : (order : Order) (a w : ℕ) (segments : List Segment) → word_in order segments a ≡ Some w → IsWordAt order a w segments
found order a w [] e = cc
found order a w (s ∷ segments) e = by (has_word s a) refl e (found order a w segments)
  where
    by : (b : Bool) → has_word s a ≡ b → (if b then Some (word_of order (drop (a - s.base) s.bytes)) else word_in order segments a) ≡ Some w → (word_in order segments a ≡ Some w → IsWordAt order a w segments) → IsWordAt order a w (s ∷ segments)
    by true is k more =
        let same : word_of order (drop (a - s.base) s.bytes) ≡ w = cc in
        inl (subst (HasWord order s a) same (holds_at order s a is))
    by false is k more = inr (more k)

-- no segment that follows another has a byte at an address of it
apart : (order : Order) (s : Segment) (a w : ℕ) (segments : List Segment) → list_all (follows s) segments ≡ true → IsWordAt order a w segments → HasByte s a → ⊥
apart order s a w [] all h x = h
apart order s a w (q ∷ segments) all (inl h) x =
    let follow = (both (follows s q) (list_all (follows s) segments) all).0 in
    let free = (both (nat_le s.base q.base) (not (overlaps s q)) follow).1 in
    let shared = (overlaps_are_shared_bytes s q).1 a x (byte_at order q a w h) in
    let bad : not true ≡ true = ap not (sym shared) ∙ free in
    cc
apart order s a w (q ∷ segments) all (inr h) x = apart order s a w segments (both (follows s q) (list_all (follows s) segments) all).1 h x

stands : (order : Order) (a w : ℕ) (segments : List Segment) → ascend segments ≡ true → IsWordAt order a w segments → word_in order segments a ≡ Some w
stands order a w [] up h = absurd h
stands order a w (s ∷ segments) up (inl h) = ap (λ b. if b then Some (word_of order (drop (a - s.base) s.bytes)) else word_in order segments a) (has_at order s a w h) ∙ ap Some (sym h.word)
stands order a w (s ∷ segments) up (inr h) = by (has_word s a) refl (stands order a w segments ups.1 h)
  where
    ups : (list_all (follows s) segments ≡ true) × (ascend segments ≡ true)
    ups = both (list_all (follows s) segments) (ascend segments) up

    by : (b : Bool) → has_word s a ≡ b → word_in order segments a ≡ Some w → (if b then Some (word_of order (drop (a - s.base) s.bytes)) else word_in order segments a) ≡ Some w
    by true is k = absurd (apart order s a w segments ups.0 h (byte_at order s a (word_of order (drop (a - s.base) s.bytes)) (holds_at order s a is)))
    by false is k = k

pub words_are_found : WordsAreFound
words_are_found image a w ok = (found image.order a w image.segments, stands image.order a w image.segments ok.segments.ascend)
