-- How an image is made of its segments, one after another.
use Rattle.std.proofs.Common.{◌≡◌, ℕ, suc, ◌+◌, ◌%◌, ◌≤◌, ◌<◌, ◌^◌, Bool, true, false, ◌&&◌, ◌==◌, Some, None, List, [], ◌∷◌, ◌++◌, length, refl, ap, ap₂, subst, sym, ◌∙◌, arith, map, take, drop, get_or}
use Rattle.std.specs.Prelude.{◌||◌, not, nat_le}
use Rattle.std.specs.List.{list_any}
use Rattle.std.proofs.lemmas.Bool.Decides.{nat_tests}
use Rattle.code_image.specs.declared.image_error.ImageError.{ImageError}
use Rattle.code_image.specs.declared.image_error.ImageError.TheVariants.{OddLength, TooLong, PastEnd, Misaligned, Overlap}
use Rattle.code_image.specs.Image.{Segment, by_base, placed, placed_all, end_of}
use Rattle.code_image.specs.Faults.{AreSegments, bytes_sum, faults_behind, image_fault, is_segment, overlaps, segment_fault, unless, ◌then◌}
use Rattle.std.proofs.lemmas.List.{map-append, length-map}
use Rattle.code_image.specs.declared.segment.Segment.{Segment as Coded}
use Rattle.code_image.specs.Views.{segment_of}
use Rattle.code_image.proofs.Steps.{map_drop, take_here}
use Rattle.code_image.proofs.Placing.{length-placed, swap_or, any-placed, all-placed, sum-placed, ascend-placed}

-- All segments are the earlier ones, which are placed in `done`, and the rest.
pub record IsMade (all earlier rest done : List Segment) : Type 0 where
  pub arranged : by_base all ≡ placed_all done rest
  pub fault : image_fault all ≡ faults_behind earlier rest
  pub any : (test : Segment → Bool) → list_any test earlier ≡ list_any test done
  pub sum : bytes_sum earlier ≡ bytes_sum done
  pub kept : AreSegments done

pub none_made : (all : List Segment) → IsMade all [] all []
none_made all = record {
  arranged = refl;
  fault = refl;
  any = λ test. refl;
  sum = refl;
  kept = record { each = refl; ascend = refl; size = omega arith };
}

-- what is known of a segment without a fault
record IsFree (done : List Segment) (s : Segment) : Type 0 where
  segment : is_segment s ≡ true
  size : bytes_sum done + length s.bytes ≤ 1048576
  apart : list_any (overlaps s) done ≡ false

free : (done : List Segment) (s : Segment) → segment_fault done s ≡ None → IsFree done s
free done s none = by (length s.bytes % 4 == 0) (nat_le (bytes_sum done + length s.bytes) 1048576) (nat_le (end_of s) (2 ^ 32)) (s.base % 4 == 0) (list_any (overlaps s) done) refl refl refl refl refl none
  where
    by : (a b c d e : Bool) → (length s.bytes % 4 == 0) ≡ a → nat_le (bytes_sum done + length s.bytes) 1048576 ≡ b → nat_le (end_of s) (2 ^ 32) ≡ c → (s.base % 4 == 0) ≡ d → list_any (overlaps s) done ≡ e
        → (unless a OddLength then unless b TooLong then unless c PastEnd then unless d Misaligned then unless (not e) Overlap) ≡ None → IsFree done s
    by true true true true false ea eb ec ed ee h = record { segment = rw (ed, ea, ec) refl; size = grind (arith, nat_tests); apart = ee }
    by true true true true true ea eb ec ed ee h = cc
    by true true true false e ea eb ec ed ee h = cc
    by true true false d e ea eb ec ed ee h = cc
    by true false c d e ea eb ec ed ee h = cc
    by false b c d e ea eb ec ed ee h = cc

-- the same fault behind the placed segments
same_fault : (earlier done : List Segment) (s : Segment) → ((test : Segment → Bool) → list_any test earlier ≡ list_any test done) → bytes_sum earlier ≡ bytes_sum done → segment_fault earlier s ≡ segment_fault done s
same_fault earlier done s any sum =
    ap₂ (λ n b. unless (length s.bytes % 4 == 0) OddLength then unless (nat_le (n + length s.bytes) 1048576) TooLong then unless (nat_le (end_of s) (2 ^ 32)) PastEnd then unless (s.base % 4 == 0) Misaligned then unless (not b) Overlap) sum (any (overlaps s))

any-append : (test : Segment → Bool) (xs : List Segment) (s : Segment) → list_any test (xs ++ s ∷ []) ≡ (test s || list_any test xs)
any-append test [] s = refl
any-append test (x ∷ xs) s = ap (λ b. test x || b) (any-append test xs s) ∙ swap_or (test x) (test s) (list_any test xs)

sum-append : (xs : List Segment) (s : Segment) → bytes_sum (xs ++ s ∷ []) ≡ length s.bytes + bytes_sum xs
sum-append [] s = refl
sum-append (x ∷ xs) s = omega (arith, sum-append xs s)

module _ (all earlier rest done : List Segment) (s : Segment) (made : IsMade all earlier (s ∷ rest) done) where
  here : segment_fault earlier s ≡ segment_fault done s
  here = same_fault earlier done s made.any made.sum

  pub fault_found : (e : ImageError) → segment_fault done s ≡ Some e → image_fault all ≡ Some e
  fault_found e h = made.fault ∙ ap (λ f. f then faults_behind (earlier ++ s ∷ []) rest) (here ∙ h)

  pub one_more : segment_fault done s ≡ None → IsMade all (earlier ++ s ∷ []) rest (placed s done)
  one_more none =
      let known = free done s none in
      record {
        arranged = made.arranged;
        fault = made.fault ∙ ap (λ f. f then faults_behind (earlier ++ s ∷ []) rest) (here ∙ none);
        any = λ test. any-append test earlier s ∙ ap (λ b. test s || b) (made.any test) ∙ sym (any-placed s test done);
        sum = sum-append earlier s ∙ ap (λ n. length s.bytes + n) made.sum ∙ sym (sum-placed s done);
        kept = record {
          each = all-placed s is_segment done ∙ ap₂ (λ a b. a && b) known.segment made.kept.each;
          ascend = ascend-placed s done made.kept.ascend known.apart;
          size = omega (arith, sum-placed s done, known.size);
        };
      }

module _ (all : List Segment) (segments done next : List Coded) (i : ℕ) (x : Coded) (e : x ≡ get_or segments i x) (h : i < length segments) (put : map segment_of next ≡ placed (segment_of x) (map segment_of done)) where
  pub next_made : IsMade all (map segment_of (take i segments)) (map segment_of (drop i segments)) (map segment_of done) → segment_fault (map segment_of done) (segment_of x) ≡ None
      → IsMade all (map segment_of (take (i + 1) segments)) (map segment_of (drop (i + 1) segments)) (map segment_of next)
  next_made made none =
      let earlier = map segment_of (take i segments) in
      let rest = map segment_of (drop (i + 1) segments) in
      let made' = subst (λ r. IsMade all earlier r (map segment_of done)) (map_drop segment_of segments i x e h) made in
      let more = one_more all earlier rest (map segment_of done) (segment_of x) made' none in
      let front = ap (map segment_of) (take_here segments i x e h) ∙ map-append segment_of (take i segments) (x ∷ []) in
      let more' = subst (λ r. IsMade all r rest (placed (segment_of x) (map segment_of done))) (sym front) more in
      subst (λ r. IsMade all (map segment_of (take (i + 1) segments)) rest r) (sym put) more'

  pub next_sum : bytes_sum (map segment_of next) ≡ length x.bytes.items + bytes_sum (map segment_of done)
  next_sum = ap bytes_sum put ∙ sum-placed (segment_of x) (map segment_of done)

  pub next_length : length next ≡ suc (length done)
  next_length = sym (length-map next segment_of) ∙ ap length put ∙ length-placed (segment_of x) (map segment_of done) ∙ ap suc (length-map done segment_of)
