-- What is wrong with the segments of an image, and what an image is in which nothing is.
use Rattle.std.specs.Prelude.{◌≡◌, ◌⊎◌, ℕ, ◌+◌, ◌<◌, ◌%◌, ◌^◌, ◌≤◌, Bool, true, false, not, ◌&&◌, ◌==◌, nat_le, nat_lt, min, max, Option, Some, None, Result, Ok, Err, List, [], ◌∷◌, ◌++◌, length, codes}
use Rattle.std.specs.List.{list_all, list_any}
use Rattle.code_image.specs.declared.image_error.ImageError.{ImageError}
use Rattle.code_image.specs.declared.image_error.ImageError.TheVariants.{OddLength, TooLong, PastEnd, Misaligned, Overlap, NoMemory}
use Rattle.code_image.specs.Image.{Segment, Image, end_of}

-- the first fault of two parts, one after the other
infixl 10 ◌then◌
abbrev pub ◌then◌ : Option ImageError → Option ImageError → Option ImageError
None then later = later
(Some e) then later = Some e

-- a fault where a test fails
abbrev pub unless : Bool → ImageError → Option ImageError
unless true e = None
unless false e = Some e

-- how many bytes segments have
abbrev pub bytes_sum : List Segment → ℕ
bytes_sum [] = 0
bytes_sum (s ∷ segments) = length s.bytes + bytes_sum segments

-- A segment has a byte at an address.
pub record HasByte (s : Segment) (a : ℕ) : Type 0 where
  pub from : s.base ≤ a
  pub below : a < end_of s

-- whether two segments have a byte at one address
abbrev pub overlaps : Segment → Segment → Bool
overlaps s q = nat_lt (max s.base q.base) (min (end_of s) (end_of q))

-- What is wrong with a segment behind earlier ones: its length is no multiple of 4; the bytes up to and with it
-- are more than 2 ^ 20; it passes the end of memory; its base is no multiple of 4; or it has a byte at an address of
-- an earlier one.
abbrev pub segment_fault : List Segment → Segment → Option ImageError
segment_fault earlier s =
    unless (length s.bytes % 4 == 0) OddLength
    then unless (nat_le (bytes_sum earlier + length s.bytes) 1048576) TooLong
    then unless (nat_le (end_of s) (2 ^ 32)) PastEnd
    then unless (s.base % 4 == 0) Misaligned
    then unless (not (list_any (overlaps s) earlier)) Overlap

abbrev pub faults_behind : List Segment → List Segment → Option ImageError
faults_behind earlier [] = None
faults_behind earlier (s ∷ segments) = segment_fault earlier s then faults_behind (earlier ++ s ∷ []) segments

-- The first fault of segments, in the order in which they are given.
abbrev pub image_fault : List Segment → Option ImageError
image_fault segments = faults_behind [] segments

-- Ok exactly where there is no fault, and else the first, or memory ran out.
abbrev pub Agrees : {A : Type 0} → Result A ImageError → Option ImageError → Type 0
Agrees (Ok x) first = first ≡ None
Agrees (Err e) first = (first ≡ Some e) ⊎ (e ≡ NoMemory)

-- The line that names a fault. Want of memory is no fault of the code, and has no line.
abbrev pub fault_line : ImageError → List ℕ
fault_line OddLength = codes "code I1\n"
fault_line TooLong = codes "code I2\n"
fault_line PastEnd = codes "code I3\n"
fault_line Misaligned = codes "code I4\n"
fault_line Overlap = codes "code I5\n"
fault_line NoMemory = []

-- ---- images in which nothing is wrong

-- whether a segment is one of whole words, inside memory
abbrev pub is_segment : Segment → Bool
is_segment s = s.base % 4 == 0 && (length s.bytes % 4 == 0 && nat_le (end_of s) (2 ^ 32))

-- whether a segment may stand behind another: its base is no smaller, and they share no address
abbrev pub follows : Segment → Segment → Bool
follows s q = nat_le s.base q.base && not (overlaps s q)

abbrev pub ascend : List Segment → Bool
ascend [] = true
ascend (s ∷ segments) = list_all (follows s) segments && ascend segments

-- Segments of whole words, ascending by base, of which no two share an address.
pub record AreSegments (segments : List Segment) : Type 0 where
  pub each : list_all is_segment segments ≡ true
  pub ascend : ascend segments ≡ true
  pub size : bytes_sum segments ≤ 1048576

-- An image has at most 16 segments.
pub record IsImage (image : Image) : Type 0 where
  pub segments : AreSegments image.segments
  pub few : length image.segments ≤ 16
