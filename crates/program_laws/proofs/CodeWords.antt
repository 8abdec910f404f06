-- Code words have 32 bits where code is made of bytes.
use Rattle.std.proofs.Common.{◌≡◌, ℕ, ◌<◌, ◌+◌, ◌*◌, ◌-◌, ◌^◌, ◌&&◌, ◌++◌, Bool, List, [], ◌∷◌, Option, None, Some, arith, drop, get_or, get_or-drop, refl, subst, sym, true, false}
use Rattle.std.specs.Prelude.{Contains, Ok, if◌then◌else◌, nat_le, slice_index}
use Rattle.std.proofs.lemmas.List.Elements.{Contains-append_left, Contains-append_right}
use Rattle.base_trait.specs.Lists.{Each}
use Rattle.support_command_line.specs.Code.{Code, CodePart}
use Rattle.code_image.specs.declared.image_error.ImageError.{ImageError}
use Rattle.code_image.specs.declared.order.Order.{Order}
use Rattle.code_image.specs.declared.order.Order.TheVariants.{Big, Little}
use Rattle.code_image.specs.Faults.{image_fault}
use Rattle.code_image.specs.Image.{Image, Segment, code_at, has_word, image_of, placed, placed_all, word_in, word_of}
use Rattle.program_common.specs.Reading.{Capped, Held, Holds, whole}
use Rattle.program_common.specs.Steps.{goes_on}
use Rattle.program_machine.specs.Code.{CodeOf, Joins, SegmentsOf, code_cap, imaged, order_of, part_inputs}
use Rattle.text_round_trips.specs.OpenAnalyses.{HasCodeWords}
use Rattle.program_run.proofs.Others.{only}
use Rattle.program_laws.specs.AgreementLaws.{AreBytes}

-- ---- words of bytes

-- four bytes are a number of 32 bits, the highest first or the lowest first
high_first : (a b c d : ℕ) → a < 256 → b < 256 → c < 256 → d < 256 → a * 16777216 + (b * 65536 + (c * 256 + (d * 1 + 0))) < 4294967296
high_first a b c d p q r s = omega (arith, p, q, r, s)

low_first : (a b c d : ℕ) → a < 256 → b < 256 → c < 256 → d < 256 → a + 256 * (b + 256 * (c + 256 * (d + 256 * 0))) < 4294967296
low_first a b c d p q r s = omega (arith, p, q, r, s)

word_fits : (order : Order) (bytes : List ℕ) → AreBytes bytes → word_of order bytes < 2 ^ 32
word_fits Big bytes are = high_first (slice_index bytes 0) (slice_index bytes 1) (slice_index bytes 2) (slice_index bytes 3) (are 0) (are 1) (are 2) (are 3)
word_fits Little bytes are = low_first (slice_index bytes 0) (slice_index bytes 1) (slice_index bytes 2) (slice_index bytes 3) (are 0) (are 1) (are 2) (are 3)

bytes_behind : (n : ℕ) (bytes : List ℕ) → AreBytes bytes → AreBytes (drop n bytes)
bytes_behind n bytes are i = subst (λ (b : ℕ). b < 256) (sym (get_or-drop n bytes i 0)) (are (n + i))

-- ---- words of segments

abbrev HaveBytes : List Segment → Type 0
HaveBytes segments = Each (λ s. AreBytes s.bytes) segments

words_fit : (order : Order) (segments : List Segment) (a code_word : ℕ) → HaveBytes segments → word_in order segments a ≡ Some code_word → code_word < 2 ^ 32
words_fit order [] a code_word are is = absurd (cc)
words_fit order (s ∷ segments) a code_word are is = by (has_word s a) (λ later. words_fit order segments a code_word are.1 later) is
  where
    by : (b : Bool) → (word_in order segments a ≡ Some code_word → code_word < 2 ^ 32) → (if b then Some (word_of order (drop (a - s.base) s.bytes)) else word_in order segments a) ≡ Some code_word → code_word < 2 ^ 32
    by true further is =
        let same : word_of order (drop (a - s.base) s.bytes) ≡ code_word = cc in
        subst (λ (w : ℕ). w < 2 ^ 32) same (word_fits order (drop (a - s.base) s.bytes) (bytes_behind (a - s.base) s.bytes are.0))
    by false further is = further is

placed_bytes : (s : Segment) (segments : List Segment) → AreBytes s.bytes → HaveBytes segments → HaveBytes (placed s segments)
placed_bytes s [] own are = (own, tt)
placed_bytes s (q ∷ segments) own are = by (nat_le q.base s.base) (placed_bytes s segments own are.1)
  where
    by : (b : Bool) → HaveBytes (placed s segments) → HaveBytes (if b then q ∷ placed s segments else s ∷ q ∷ segments)
    by true further = (are.0, further)
    by false further = (own, are)

all_placed_bytes : (done segments : List Segment) → HaveBytes done → HaveBytes segments → HaveBytes (placed_all done segments)
all_placed_bytes done [] had are = had
all_placed_bytes done (s ∷ segments) had are = all_placed_bytes (placed s done) segments (placed_bytes s done are.0 had) are.1

image_words : (order : Order) (segments : List Segment) → HaveBytes segments → HasCodeWords (image_of order segments)
image_words order segments are a code_word is = words_fit order (placed_all [] segments) a code_word (all_placed_bytes [] segments tt are) is

found_words : (order : Order) (segments : List Segment) (image : Image) (fault : Option ImageError) → HaveBytes segments → Ok image ≡ imaged order segments fault → HasCodeWords image
found_words order segments image None are is =
    let same : image_of order segments ≡ image = cc in
    subst HasCodeWords same (image_words order segments are)
found_words order segments image (Some e) are is = absurd (cc)

-- ---- the code that names hold

-- these inputs hold bytes
abbrev pub BytesIn : List Capped → Held → Type 0
BytesIn inputs held = (cap : ℕ) (name bytes : List ℕ) → Contains inputs (name, cap) → held name ≡ Some bytes → AreBytes bytes

module _ (held : Held) where
  held_bytes : (cap : ℕ) (name bytes : List ℕ) → Holds held cap name (Ok bytes) → held name ≡ Some bytes
  held_bytes cap name bytes (whole is fits) = is

  joined_bytes : (base : ℕ) (bytes : List ℕ) (segments all : List Segment) → AreBytes bytes → HaveBytes segments → Joins base bytes segments (Ok all) → HaveBytes all
  joined_bytes base bytes segments all own are is =
      let same : record { base = base; bytes = bytes } ∷ segments ≡ all = cc in
      subst (λ (xs : List Segment). HaveBytes xs) same (own, are)

  segments_bytes : (parts : List CodePart) (segments : List Segment) → BytesIn (part_inputs parts) held → SegmentsOf (Holds held) parts (Ok segments) → HaveBytes segments
  segments_bytes [] segments are is = let same : [] ≡ segments = cc in subst (λ (xs : List Segment). HaveBytes xs) same tt
  segments_bytes (part ∷ parts) segments are (goes_on {given = bytes} read (goes_on {given = rest} further joins)) =
      joined_bytes part.base bytes rest segments
      (are code_cap part.name bytes (Contains-append_left ((part.name, code_cap) ∷ []) (part_inputs parts) (part.name, code_cap) (only (part.name, code_cap))) (held_bytes code_cap part.name bytes read))
      (segments_bytes parts rest (λ cap name bytes named is. are cap name bytes (Contains-append_right ((part.name, code_cap) ∷ []) (part_inputs parts) (name, cap) named) is) further) joins

  pub code_words : (code : Code) (image : Image) → BytesIn (part_inputs code.parts) held → CodeOf (Holds held) code (Ok image) → HasCodeWords image
  code_words code image are (goes_on {given = segments} read is) = found_words (order_of code.order) segments image (image_fault segments) (segments_bytes code.parts segments are read) is
