-- Segments in the order of their bases.
use Rattle.std.proofs.Common.{◌≡◌, ℕ, suc, ◌+◌, ◌≤◌, ◌<◌, Bool, true, false, ◌&&◌, List, [], ◌∷◌, ◌++◌, length, refl, ap, ap₂, sym, ◌∙◌, arith, take, drop, map, get_or, append_assoc}
use Rattle.std.specs.Prelude.{◌||◌, not, nat_le, if◌then◌else◌}
use Rattle.std.specs.List.{list_all, list_any}
use Rattle.std.specs.List.{insert}
use Rattle.std.proofs.lemmas.Bool.{leb-true, leb-false, le-leb, and_parts as both, or_parts as neither}
use Rattle.std.proofs.lemmas.List.{take-map, drop-map, map-append}
use Rattle.code_image.specs.declared.segment.Segment.{Segment as Coded}
use Rattle.code_image.specs.Image.{Segment, placed}
use Rattle.code_image.specs.Views.{segment_of}
use Rattle.code_image.proofs.Steps.{map_drop, take_here}
use Rattle.code_image.specs.Faults.{overlaps, follows, ascend, bytes_sum}

pub swap_or : (a b c : Bool) → (a || (b || c)) ≡ (b || (a || c))
swap_or true true c = refl
swap_or true false c = refl
swap_or false true c = refl
swap_or false false c = refl

swap_and : (a b c : Bool) → (a && (b && c)) ≡ (b && (a && c))
swap_and true true c = refl
swap_and true false c = refl
swap_and false true c = refl
swap_and false false c = refl

module _ (s q : Segment) (segments xs : List Segment) where
  any_by : (p : Segment → Bool) (b : Bool) → list_any p xs ≡ (p s || list_any p segments) → list_any p (if b then q ∷ xs else s ∷ q ∷ segments) ≡ (p s || (p q || list_any p segments))
  any_by p true e = ap (λ r. p q || r) e ∙ swap_or (p q) (p s) (list_any p segments)
  any_by p false e = refl

  all_by : (p : Segment → Bool) (b : Bool) → list_all p xs ≡ (p s && list_all p segments) → list_all p (if b then q ∷ xs else s ∷ q ∷ segments) ≡ (p s && (p q && list_all p segments))
  all_by p true e = ap (λ r. p q && r) e ∙ swap_and (p q) (p s) (list_all p segments)
  all_by p false e = refl

  sum_by : (b : Bool) → bytes_sum xs ≡ length s.bytes + bytes_sum segments → bytes_sum (if b then q ∷ xs else s ∷ q ∷ segments) ≡ length s.bytes + (length q.bytes + bytes_sum segments)
  sum_by true e = omega (arith, e)
  sum_by false e = refl

  length_by : (b : Bool) → length xs ≡ suc (length segments) → length (if b then q ∷ xs else s ∷ q ∷ segments) ≡ suc (suc (length segments))
  length_by true e = ap suc e
  length_by false e = refl

module _ (s : Segment) where
  pub any-placed : (p : Segment → Bool) (segments : List Segment) → list_any p (placed s segments) ≡ (p s || list_any p segments)
  any-placed p [] = refl
  any-placed p (q ∷ segments) = any_by s q segments (placed s segments) p (nat_le q.base s.base) (any-placed p segments)

  pub all-placed : (p : Segment → Bool) (segments : List Segment) → list_all p (placed s segments) ≡ (p s && list_all p segments)
  all-placed p [] = refl
  all-placed p (q ∷ segments) = all_by s q segments (placed s segments) p (nat_le q.base s.base) (all-placed p segments)

  pub sum-placed : (segments : List Segment) → bytes_sum (placed s segments) ≡ length s.bytes + bytes_sum segments
  sum-placed [] = refl
  sum-placed (q ∷ segments) = sum_by s q segments (placed s segments) (nat_le q.base s.base) (sum-placed segments)

  pub length-placed : (segments : List Segment) → length (placed s segments) ≡ suc (length segments)
  length-placed [] = refl
  length-placed (q ∷ segments) = length_by s q segments (placed s segments) (nat_le q.base s.base) (length-placed segments)

-- ---- segments that ascend

overlaps_sym : (s q : Segment) → overlaps s q ≡ overlaps q s
overlaps_sym s q = grind arith

-- segments behind q, none of which overlaps s, follow s where q does
still_follow : (s q : Segment) (segments : List Segment) → s.base ≤ q.base → list_all (follows q) segments ≡ true → list_any (overlaps s) segments ≡ false → list_all (follows s) segments ≡ true
still_follow s q [] h all none = refl
still_follow s q (r ∷ segments) h all none =
    let here = both (follows q r) (list_all (follows q) segments) all in
    let above = leb-true q.base r.base (both (nat_le q.base r.base) (not (overlaps q r)) here.0).0 in
    let free = neither (overlaps s r) (list_any (overlaps s) segments) none in
    let le : nat_le s.base r.base ≡ true = le-leb s.base r.base (omega (arith, h, above)) in
    ap₂ (λ a b. a && b) (ap₂ (λ a b. a && not b) le free.0) (still_follow s q segments h here.1 free.1)

ascend_by : (s q : Segment) (segments xs : List Segment) (b : Bool) → nat_le q.base s.base ≡ b → ascend (q ∷ segments) ≡ true → list_any (overlaps s) (q ∷ segments) ≡ false → ascend xs ≡ true → list_all (follows q) xs ≡ (follows q s && list_all (follows q) segments) → ascend (if b then q ∷ xs else s ∷ q ∷ segments) ≡ true
ascend_by s q segments xs true e was none more all =
    let old = both (list_all (follows q) segments) (ascend segments) was in
    let free = neither (overlaps s q) (list_any (overlaps s) segments) none in
    let first : follows q s ≡ true = ap₂ (λ a b. a && not b) e (overlaps_sym q s ∙ free.0) in
    ap₂ (λ a b. a && b) (all ∙ ap₂ (λ a b. a && b) first old.0) more
ascend_by s q segments xs false e was none more all =
    let old = both (list_all (follows q) segments) (ascend segments) was in
    let free = neither (overlaps s q) (list_any (overlaps s) segments) none in
    let below = leb-false q.base s.base e in
    let le : s.base ≤ q.base = omega (arith, below) in
    let first : follows s q ≡ true = ap₂ (λ a b. a && not b) (le-leb s.base q.base le) free.0 in
    ap₂ (λ a b. a && b) (ap₂ (λ a b. a && b) first (still_follow s q segments le old.0 free.1)) was

pub ascend-placed : (s : Segment) (segments : List Segment) → ascend segments ≡ true → list_any (overlaps s) segments ≡ false → ascend (placed s segments) ≡ true
ascend-placed s [] was none = refl
ascend-placed s (q ∷ segments) was none =
    let old = both (list_all (follows q) segments) (ascend segments) was in
    let free = neither (overlaps s q) (list_any (overlaps s) segments) none in
    ascend_by s q segments (placed s segments) (nat_le q.base s.base) refl was none (ascend-placed s segments old.1 free.1) (all-placed s (follows q) segments)

-- ---- where a segment is placed

place_here : (s q : Segment) (segments : List Segment) → s.base < q.base → placed s (q ∷ segments) ≡ s ∷ q ∷ segments
place_here s q segments h = by (nat_le q.base s.base) refl
  where
    by : (b : Bool) → nat_le q.base s.base ≡ b → (if b then q ∷ placed s segments else s ∷ q ∷ segments) ≡ s ∷ q ∷ segments
    by true e = absurd (omega (arith, leb-true q.base s.base e))
    by false e = refl

place_past : (s q : Segment) (segments : List Segment) → q.base ≤ s.base → placed s (q ∷ segments) ≡ q ∷ placed s segments
place_past s q segments h = by (nat_le q.base s.base) refl
  where
    by : (b : Bool) → nat_le q.base s.base ≡ b → (if b then q ∷ placed s segments else s ∷ q ∷ segments) ≡ q ∷ placed s segments
    by true e = refl
    by false e = absurd (omega (arith, leb-false q.base s.base e))

module _ (segments : List Coded) (i : ℕ) (q : Coded) (e : q ≡ get_or segments i q) (h : i < length segments) (s : Segment) where
  pub found_here : s.base < q.base → placed s (map segment_of segments) ≡ take i (map segment_of segments) ++ placed s (map segment_of (drop i segments)) → placed s (map segment_of segments) ≡ take i (map segment_of segments) ++ s ∷ drop i (map segment_of segments)
  found_here lt was =
      let rest = map_drop segment_of segments i q e h in
      let now = ap (placed s) rest ∙ place_here s (segment_of q) (map segment_of (drop (i + 1) segments)) lt ∙ ap (λ r. s ∷ r) (sym rest ∙ sym (drop-map segment_of i segments)) in
      was ∙ ap (λ r. take i (map segment_of segments) ++ r) now

  pub found_later : q.base ≤ s.base → placed s (map segment_of segments) ≡ take i (map segment_of segments) ++ placed s (map segment_of (drop i segments)) → placed s (map segment_of segments) ≡ take (i + 1) (map segment_of segments) ++ placed s (map segment_of (drop (i + 1) segments))
  found_later le was =
      let now = ap (placed s) (map_drop segment_of segments i q e h) ∙ place_past s (segment_of q) (map segment_of (drop (i + 1) segments)) le in
      let front : take (i + 1) (map segment_of segments) ≡ take i (map segment_of segments) ++ segment_of q ∷ [] = take-map segment_of (i + 1) segments ∙ ap (map segment_of) (take_here segments i q e h) ∙ map-append segment_of (take i segments) (q ∷ []) ∙ ap (λ r. r ++ segment_of q ∷ []) (sym (take-map segment_of i segments)) in
      was ∙ ap (λ r. take i (map segment_of segments) ++ r) now ∙ sym (append_assoc (take i (map segment_of segments)) (segment_of q ∷ []) (placed s (map segment_of (drop (i + 1) segments)))) ∙ ap (λ r. r ++ placed s (map segment_of (drop (i + 1) segments))) (sym front)

-- a segment that is inserted
pub map-insert : (segments : List Coded) (i : ℕ) (s : Coded) → map segment_of (insert segments i s) ≡ take i (map segment_of segments) ++ segment_of s ∷ drop i (map segment_of segments)
map-insert segments i s = map-append segment_of (take i segments) (s ∷ drop i segments) ∙ ap₂ (λ a b. a ++ segment_of s ∷ b) (sym (take-map segment_of i segments)) (sym (drop-map segment_of i segments))
