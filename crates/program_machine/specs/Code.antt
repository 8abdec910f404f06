-- The code of a machine: from its parts to its image.
use Rattle.std.specs.Prelude.{◌≡◌, ℕ, List, [], ◌∷◌, map, Option, Some, None, Result, Ok, Err}
use Rattle.support_command_line.specs.declared.orders.Order as words
use Rattle.support_command_line.specs.declared.orders.Order.TheVariants as w
use Rattle.support_command_line.specs.Code.{Code, CodePart}
use Rattle.code_image.specs.declared.image_error.ImageError.{ImageError}
use Rattle.code_image.specs.declared.order.Order.{Order}
use Rattle.code_image.specs.declared.order.Order.TheVariants.{Big, Little}
use Rattle.code_image.specs.Faults.{image_fault}
use Rattle.code_image.specs.Image.{Image, Segment, image_of}
use Rattle.program_common.specs.Outcome.{Refusal, code_refused}
use Rattle.program_common.specs.Reading.{Capped, Reading}
use Rattle.program_common.specs.Steps.{Then}

-- how many bytes a part of the code may have
abbrev pub code_cap : ℕ
code_cap = 1048576

-- the order of the bytes of a word
abbrev pub order_of : words.Order → Order
order_of w.Big = Big
order_of w.Little = Little

-- Bytes and their base stand before the segments of further parts.
abbrev pub Joins : ℕ → List ℕ → List Segment → Result (List Segment) Refusal → Type 0
Joins base bytes segments found = found ≡ Ok (record { base = base; bytes = bytes } ∷ segments)

-- The segments of the parts, which are read in their order.
abbrev pub SegmentsOf : Reading → List CodePart → Result (List Segment) Refusal → Type 0
SegmentsOf reads [] = λ found. found ≡ Ok []
SegmentsOf reads (part ∷ parts) = Then (reads code_cap part.name) (λ bytes. Then (SegmentsOf reads parts) (Joins part.base bytes))

-- their image, or their first fault
abbrev pub imaged : Order → List Segment → Option ImageError → Result Image Refusal
imaged order segments None = Ok (image_of order segments)
imaged order segments (Some fault) = Err (code_refused fault)

abbrev pub Images : Order → List Segment → Result Image Refusal → Type 0
Images order segments found = found ≡ imaged order segments (image_fault segments)

-- The image of code: all parts are read, and imaged together.
abbrev pub CodeOf : Reading → Code → Result Image Refusal → Type 0
CodeOf reads code = Then (SegmentsOf reads code.parts) (Images (order_of code.order))

-- the inputs that are opened for it
abbrev pub part_inputs : List CodePart → List Capped
part_inputs parts = map (λ part. (part.name, code_cap)) parts
