-- The texts of words.
use Rattle.std.specs.Prelude.{ℕ, ◌-◌, ◌^◌, ◌==◌, ◌&&◌, List, ◌++◌, map, Option, Some, None, codes, if◌then◌else◌}
use Rattle.state_cell_text.specs.Digits.{digits_of, hex_digits}
use Rattle.base_interval.specs.declared.range.Range.{Range}
use Rattle.base_bits.specs.declared.known.Known.{Known}
use Rattle.base_strides.specs.Rows.{range}
use Rattle.base_strides.specs.Words.{Listed, Strided}
use Rattle.base_strides.specs.Words as strided
use Rattle.base_strides.specs.declared.stretch.Stretch.{Stretch}
use Rattle.domain_affine_base.specs.declared.word.Word.{Word}
use Rattle.domain_affine_base.specs.declared.word.Word.TheVariants.{Any, Const, Form}
use Rattle.text_words.specs.Lists.{with_commas}

-- a number of w bits: a hex digit for each 4, rounded up
unfoldable pub number : ℕ → ℕ → List ℕ
number w n = hex_digits (digits_of w) n

-- a set: its numbers, ascending, or `any`
abbrev pub set_text : ℕ → Option (List ℕ) → List ℕ
set_text w None = codes "any"
set_text w (Some numbers) = codes "{" ++ (with_commas (map (number w) numbers) ++ codes "}")

-- an interval: its ends; `any`, where they are those of the width
abbrev pub range_text : ℕ → Range → List ℕ
range_text w x = if x.lo == 0 && x.hi == 2 ^ w - 1 then codes "any" else number w x.lo ++ (codes ".." ++ number w x.hi)

-- known bits: those that are 1, and the unknown ones; `any`, where all are unknown
abbrev pub known_text : ℕ → Known → List ℕ
known_text w x = if x.m == 2 ^ w - 1 then codes "any" else number w x.v ++ (codes "/" ++ number w x.m)

-- a strided interval: an interval where its step is 1, else its ends and its step
abbrev pub stretch_text : ℕ → Stretch → List ℕ
stretch_text w x = if x.step == 1 then range_text w (range x) else (number w x.lo ++ (codes ".." ++ number w x.hi)) ++ (codes "+" ++ number w x.step)

-- a small set, or a strided interval
abbrev pub strided_text : ℕ → strided.Word → List ℕ
strided_text w (Listed numbers) = set_text w (Some numbers)
strided_text w (Strided x) = stretch_text w x

-- an affine word: `any`, its number, or the numbers of its form, the constant first
abbrev pub affine_text : ℕ → Word → List ℕ
affine_text w Any = codes "any"
affine_text w (Const n) = number w n
affine_text w (Form numbers) = with_commas (map (number 32) numbers)

-- a word of a pair: both parts
abbrev pub pair_text : {A B : Type 0} → (ℕ → A → List ℕ) → (ℕ → B → List ℕ) → ℕ → A × B → List ℕ
pair_text first second w x = first w x.0 ++ (codes " " ++ second w x.1)
