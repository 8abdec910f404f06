-- What contracts see of an image, and what is true of its fields.
use Rattle.std.specs.Prelude.{map}
use Rattle.code_image.specs.declared.image.Image.TheInside.{Inside}
use Rattle.code_image.specs.Faults.{IsImage}
use Rattle.code_image.specs.Image.{Image}
use Rattle.code_image.specs.Views.{segment_of}

abbrev pub image : Inside → Image
image x = record { order = x.order; segments = map segment_of x.segments.items }

abbrev pub IsSound : Inside → Type 0
IsSound x = IsImage (image x)
