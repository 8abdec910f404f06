-- The code of a machine: segments of bytes, and the words that stand in them.
use Rattle.std.specs.Prelude.{◌⊎◌, ◌≡◌, ℕ, zero, suc, ◌+◌, ◌-◌, ◌/◌, ◌%◌, ◌≤◌, Bool, ◌&&◌, ◌==◌, nat_le, Option, Some, None, List, [], ◌∷◌, ◌++◌, length, drop, if◌then◌else◌}
use Rattle.byteorder.specs.Endian.{big_number, little_number}
use Rattle.code_image.specs.declared.order.Order.{Order}
use Rattle.code_image.specs.declared.order.Order.TheVariants.{Big, Little}

-- bytes, and the address of the first of them
pub record Segment : Type 0 where
  pub base : ℕ
  pub bytes : List ℕ

-- the order of the bytes of a word, and the segments, which ascend by their bases
pub record Image : Type 0 where
  pub order : Order
  pub segments : List Segment

-- the address after the last byte
abbrev pub end_of : Segment → ℕ
end_of s = s.base + length s.bytes

-- the word of the first four bytes
abbrev pub word_of : Order → List ℕ → ℕ
word_of Big bytes = big_number 4 bytes
word_of Little bytes = little_number 4 bytes

-- ---- the word at an address

-- The word of the four bytes of a segment that stand from an address on, which is a multiple of 4.
pub record HasWord (order : Order) (s : Segment) (a w : ℕ) : Type 0 where
  pub aligned : a % 4 ≡ 0
  pub from : s.base ≤ a
  pub below : a + 4 ≤ end_of s
  pub word : w ≡ word_of order (drop (a - s.base) s.bytes)

-- One of the segments has this word at this address.
abbrev pub IsWordAt : Order → ℕ → ℕ → List Segment → Type 0
IsWordAt order a w [] = ⊥
IsWordAt order a w (s ∷ segments) = HasWord order s a w ⊎ IsWordAt order a w segments

-- whether a segment has a word at an address
abbrev pub has_word : Segment → ℕ → Bool
has_word s a = a % 4 == 0 && (nat_le s.base a && nat_le (a + 4) (end_of s))

abbrev pub word_in : Order → List Segment → ℕ → Option ℕ
word_in order [] a = None
word_in order (s ∷ segments) a = if has_word s a then Some (word_of order (drop (a - s.base) s.bytes)) else word_in order segments a

-- the word at an address, where there is one
abbrev pub code_at : Image → ℕ → Option ℕ
code_at image a = word_in image.order image.segments a

-- ---- the addresses of words

-- how many words a segment has
abbrev pub words_of : Segment → ℕ
words_of s = length s.bytes / 4

abbrev pub words_sum : List Segment → ℕ
words_sum [] = 0
words_sum (s ∷ segments) = words_of s + words_sum segments

-- n addresses of words, from one on
abbrev pub addresses_from : ℕ → ℕ → List ℕ
addresses_from a zero = []
addresses_from a (suc n) = a ∷ addresses_from (a + 4) n

-- the addresses of all words of segments, one segment after the other
abbrev pub addresses : List Segment → List ℕ
addresses [] = []
addresses (s ∷ segments) = addresses_from s.base (words_of s) ++ addresses segments

-- ---- segments in the order of their bases

-- a segment behind those whose bases are no greater
abbrev pub placed : Segment → List Segment → List Segment
placed s [] = s ∷ []
placed s (q ∷ segments) = if nat_le q.base s.base then q ∷ placed s segments else s ∷ q ∷ segments

abbrev pub placed_all : List Segment → List Segment → List Segment
placed_all done [] = done
placed_all done (s ∷ segments) = placed_all (placed s done) segments

-- segments ascending by base; of one base, in the order in which they were
abbrev pub by_base : List Segment → List Segment
by_base segments = placed_all [] segments

-- the image of segments that are given in any order
abbrev pub image_of : Order → List Segment → Image
image_of order segments = record { order = order; segments = by_base segments }
