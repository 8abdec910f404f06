-- What a row fixes.
use Rattle.std.specs.Prelude.{◌≡◌, ℕ, Bool, true, List}
use Rattle.spec_ir.specs.declared.row.WordPart.{WordPart}
use Rattle.semantics.specs.Decode.{agrees}
use Rattle.code_image.specs.Tree.{bit}

-- Each word that agrees with the parts has this value at a bit.
abbrev pub Fixes : List WordPart → ℕ → Bool → Type 0
Fixes parts n value = (code : ℕ) → agrees code parts ≡ true → bit code n ≡ value
