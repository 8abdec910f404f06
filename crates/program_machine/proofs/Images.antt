-- The images of code.
use Rattle.std.proofs.Common.{◌≡◌, ℕ, suc, ◌+◌, ◌≤◌, Some, None, List, [], ◌∷◌, ◌++◌, Option, length, refl, ap, subst, sym, ◌∙◌, arith}
use Rattle.std.specs.Prelude.{Ok}
use Rattle.support_command_line.specs.Code.{Code, CodePart}
use Rattle.code_image.specs.declared.image_error.ImageError.{ImageError}
use Rattle.code_image.specs.declared.order.Order.{Order}
use Rattle.code_image.specs.Faults.{AreSegments, IsImage, image_fault, segment_fault}
use Rattle.code_image.specs.Image.{Image, Segment, by_base, image_of, placed, placed_all}
use Rattle.code_image.proofs.Making.{IsMade, fault_found, none_made, one_more}
use Rattle.code_image.proofs.Placing.{length-placed}
use Rattle.program_common.specs.Reading.{Reading}
use Rattle.program_common.specs.Steps.{goes_on}
use Rattle.program_machine.specs.Code.{CodeOf, Joins, SegmentsOf, imaged, order_of}

-- ---- segments without a fault

module _ (all : List Segment) where
  no_fault : (earlier rest done : List Segment) (s : Segment) → IsMade all earlier (s ∷ rest) done → image_fault all ≡ None → (found : Option ImageError) → segment_fault done s ≡ found → segment_fault done s ≡ None
  no_fault earlier rest done s made none None free = free
  no_fault earlier rest done s made none (Some e) faulty = let found = sym none ∙ fault_found all earlier rest done s made e faulty in absurd (cc)

  segments_from : (rest earlier done : List Segment) → IsMade all earlier rest done → image_fault all ≡ None → AreSegments (placed_all done rest)
  segments_from [] earlier done made none = made.kept
  segments_from (s ∷ rest) earlier done made none =
      let free = no_fault earlier rest done s made none (segment_fault done s) refl in
      segments_from rest (earlier ++ s ∷ []) (placed s done) (one_more all earlier rest done s made free) none

  pub are_segments : image_fault all ≡ None → AreSegments (by_base all)
  are_segments none = segments_from all [] [] (none_made all) none

length-placed_all : (done rest : List Segment) → length (placed_all done rest) ≡ length done + length rest
length-placed_all done [] = omega arith
length-placed_all done (s ∷ rest) = omega (arith, length-placed_all (placed s done) rest, length-placed s done)

image_made : (order : Order) (segments : List Segment) → image_fault segments ≡ None → length segments ≤ 16 → IsImage (image_of order segments)
image_made order segments none few = record { segments = are_segments segments none; few = omega (arith, few, length-placed_all [] segments) }

found_image : (order : Order) (segments : List Segment) (image : Image) (fault : Option ImageError) → image_fault segments ≡ fault → length segments ≤ 16 → Ok image ≡ imaged order segments fault → IsImage image
found_image order segments image None none few is =
    let same : image_of order segments ≡ image = cc in
    subst IsImage same (image_made order segments none few)
found_image order segments image (Some e) faulty few is = absurd (cc)

-- ---- as many segments as parts

module _ (reads : Reading) where
  joined : (base : ℕ) (bytes : List ℕ) (segments all : List Segment) → Joins base bytes segments (Ok all) → length all ≡ suc (length segments)
  joined base bytes segments all is =
      let same : all ≡ record { base = base; bytes = bytes } ∷ segments = cc in
      ap (λ (xs : List Segment). length xs) same

  as_many : (parts : List CodePart) (segments : List Segment) → SegmentsOf reads parts (Ok segments) → length segments ≡ length parts
  as_many [] segments is = let same : segments ≡ [] = cc in ap (λ (xs : List Segment). length xs) same
  as_many (part ∷ parts) segments (goes_on {given = bytes} read (goes_on {given = rest} further joins)) = joined part.base bytes rest segments joins ∙ ap suc (as_many parts rest further)

  -- the image of code of few parts
  pub code_image : (code : Code) (image : Image) → length code.parts ≤ 16 → CodeOf reads code (Ok image) → IsImage image
  code_image code image few (goes_on {given = segments} read is) =
      found_image (order_of code.order) segments image (image_fault segments) refl (omega (arith, few, as_many code.parts segments read)) is
