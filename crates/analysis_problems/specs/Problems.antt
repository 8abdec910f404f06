-- The problem of a specification, an image and an entry.
use Rattle.std.specs.Prelude.{ℕ}
use Rattle.spec_ir.specs.declared.spec.Machine.{Machine}
use Rattle.spec_ir.specs.Specification.{Spec}
use Rattle.code_image.specs.Image.{Image, addresses, code_at}
use Rattle.state_text.specs.Reading.{Entry}
use Rattle.analysis_transfer_laws.specs.Problem.{Problem}

-- The machine with its specification, the words of the image at their addresses, the entry, how many targets an instruction may have,
-- how many changes of an element join, and how often over an element is split.
abbrev pub problem_of : Spec → Machine → Image → Entry → ℕ → ℕ → ℕ → Problem
problem_of spec m image e limit joins cases =
    record { spec = spec; machine = m; addresses = addresses image.segments; word_at = code_at image; pc = e.pc; lines = e.lines; limit = limit; joins = joins; cases = cases }
