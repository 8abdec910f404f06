-- The arguments that texts write.
use Rattle.std.specs.Prelude.{ℕ, ◌^◌, true, false, List, [], ◌∷◌, Option, Some, None, bytes_eq, codes, if◌then◌else◌, map, nat_lt, option_and_then, option_map}
use Rattle.std.specs.Borrow.{Bor}
use Rattle.state_cell_text.specs.Digits.{hex_number}
use Rattle.spec_ir.specs.declared.ty.Ty.{Ty}
use Rattle.spec_ir.specs.declared.ty.Ty.TheVariants.{Bool, Word, Data, Map}
use Rattle.semantics_values.specs.Values.{Val, flag, word}

-- the texts behind references
abbrev pub borrowed : List (Bor (List ℕ)) → List (List ℕ)
borrowed = map (λ text. text.now)

-- a number as a word of a width
abbrev pub word_of : ℕ → ℕ → Option Val
word_of w v = if nat_lt v (2 ^ w) then Some (word w v) else None

-- the value of a type that a text writes: a word as 1 to 16 hex digits, a truth value by its name
abbrev pub argument_in : Ty → List ℕ → Option Val
argument_in (Word w) text = option_and_then (word_of w) (hex_number 16 text)
argument_in Bool text = if bytes_eq text (codes "true") then Some (flag true) else (if bytes_eq text (codes "false") then Some (flag false) else None)
argument_in (Data d) text = None
argument_in (Map m) text = None

-- as many texts as types, each of which writes a value of its type
abbrev pub arguments_in : List Ty → List (List ℕ) → Option (List Val)
arguments_in [] [] = Some []
arguments_in [] (text ∷ texts) = None
arguments_in (ty ∷ types) [] = None
arguments_in (ty ∷ types) (text ∷ texts) = option_and_then (λ v. option_map (λ vs. v ∷ vs) (arguments_in types texts)) (argument_in ty text)
