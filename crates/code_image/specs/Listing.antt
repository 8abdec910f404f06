-- The listing of code: a line for each word.
use Rattle.std.specs.Prelude.{ℕ, Option, Some, None, List, [], ◌∷◌, ◌++◌, codes}
use Rattle.spec_ir.specs.declared.ty.Ty.{Ty}
use Rattle.spec_ir.specs.declared.ty.Ty.TheVariants.{Data as DataTy}
use Rattle.spec_ir.specs.Environment.{Environment, Case}
pub use Rattle.spec_ir.specs.Hex.{digits_of, hex_digits}
use Rattle.spec_ir.specs.Texts.{case_at}
use Rattle.spec_ir.specs.Specification.{Spec}
use Rattle.semantics_values.specs.Values.{Val, Vals, word, made, val_then}
use Rattle.semantics_values.specs.Types.{environment_of}
use Rattle.code_image.specs.Decoders.{decoding}
use Rattle.code_image.specs.Image.{Image, addresses, code_at}

-- ` NAME=HEX` of a field
abbrev pub field_text : List ℕ → Val → List ℕ
field_text name (word w v) = codes " " ++ (name ++ (codes "=" ++ hex_digits (digits_of w) v))
field_text name _ = []

abbrev pub field_texts : List (List ℕ × Ty) → Vals → List ℕ
field_texts (f ∷ fields) (val_then v vs) = field_text f.0 v ++ field_texts fields vs
field_texts _ _ = []

abbrev pub case_text : Option Case → Vals → List ℕ
case_text None vs = []
case_text (Some c) vs = c.name ++ field_texts c.fields vs

-- a constructor's name and its fields, or `-` where a word has no decoding
abbrev pub instruction_text : Environment → Option Val → List ℕ
instruction_text env None = codes "-"
instruction_text env (Some (made ty case vs)) = case_text (case_at env (DataTy ty) case) vs
instruction_text env (Some _) = []

module _ (spec : Spec) where
  -- `ADDRESS WORD`, and the instruction
  abbrev pub word_line : ℕ → ℕ → List ℕ
  word_line a w = hex_digits 8 a ++ (codes " " ++ (hex_digits 8 w ++ (codes " " ++ (instruction_text (environment_of spec) (decoding spec w) ++ codes "\n"))))

  abbrev pub line_at : ℕ → Option ℕ → List ℕ
  line_at a None = []
  line_at a (Some w) = word_line a w

  abbrev pub lines : (ℕ → Option ℕ) → List ℕ → List ℕ
  lines code [] = []
  lines code (a ∷ as_) = line_at a (code a) ++ lines code as_

  -- The lines of all words of an image, ascending by their addresses.
  abbrev pub listing : Image → List ℕ
  listing image = lines (code_at image) (addresses image.segments)
