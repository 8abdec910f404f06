-- No word agrees with two of the rows that are answered.
use Rattle.std.proofs.Common.{◌≡◌, ◌∙◌, ℕ, zero, suc, ◌+◌, ◌-◌, ◌*◌, ◌/◌, ◌%◌, ◌^◌, ◌<◌, ◌≤◌, Bool, true, false, ◌&&◌, ◌==◌, Option, Some, None, List, [], ◌∷◌, ◌++◌, length, map, slice_get, refl, sym, ap, subst, arith, pow_pos, zero-add}
use Rattle.std.specs.Prelude.{replicate, option_map}
use Rattle.std.proofs.lemmas.Bool.{eqb-true, and_from as both_true}
use Rattle.std.proofs.Math.Nat.{div-div-eq-div-mul}
use Rattle.std.proofs.Math.Pow.{mod-mod-pow}
use Rattle.std.proofs.lemmas.Nat.{mod-pow-add, div-mul-add, mod_below, pow-add}
use Rattle.std.proofs.lemmas.List.{length-replicate}
use Rattle.syntax_parser.specs.declared.tree.PartDecl.{PartDecl}
use Rattle.syntax_parser.specs.declared.tree.PartDecl.TheVariants as tree_part
use Rattle.syntax_parser.specs.Tree as e
use Rattle.spec_ir.specs.declared.row.WordPart.{WordPart}
use Rattle.spec_ir.specs.declared.row.WordPart.TheVariants.{Fixed, Field}
use Rattle.spec_ir.specs.Environment.{Environment}
use Rattle.spec_ir.specs.Rows.{agrees, bits_above, part_width, width_sum}
use Rattle.spec_ir.specs.Specification.{Row}
use Rattle.spec_decode_rows.specs.Bits.{bit, bits_of, bits_agree, all_agree, part_bits, row_bits}
use Rattle.spec_decode_rows.specs.Fits as fits
use Rattle.spec_decode_rows.specs.Decoded.{decoded, part_of}
use Rattle.spec_decode_rows.specs.Laws.{AgreesWith, DecodedRowsAreApart}
use Rattle.spec_decode_rows.specs.Rows.{decode_fault, rows_of}
use Rattle.spec_decode_rows.proofs.Apart.{bits_count, width_at, rows_are_apart}
use Rattle.spec_match_compiler.proofs.Truth.{and_left, and_right}

-- ---- bits of numbers

-- a bit of the w low bits
low : (x w k : ℕ) → k < w → (x % 2 ^ w) / 2 ^ k % 2 ≡ x / 2 ^ k % 2
low x w k h =
    let j = w - 1 - k in
    let e : w ≡ (j + 1) + k = omega arith in
    let cut : (x % 2 ^ ((j + 1) + k)) / 2 ^ k ≡ x / 2 ^ k % 2 ^ (j + 1) =
    ap (λ n. n / 2 ^ k) (mod-pow-add x (j + 1) k) ∙ div-mul-add (x / 2 ^ k % 2 ^ (j + 1)) (2 ^ k) (x % 2 ^ k) (mod_below x (2 ^ k) (pow_pos k)) in
    ap (λ m. (x % 2 ^ m) / 2 ^ k % 2) e ∙ (ap (λ n. n % 2) cut ∙ mod-mod-pow (x / 2 ^ k) j 1)

low_bits : (x w n : ℕ) → n ≤ w → bits_of (x % 2 ^ w) n ≡ bits_of x n
low_bits x w zero h = refl
low_bits x w (suc n) h =
    let here : bit (x % 2 ^ w) n ≡ bit x n = ap (λ m. m == 1) (low x w n (omega (arith, h))) in
    ap (λ b. Some b ∷ bits_of (x % 2 ^ w) n) here ∙ ap (λ rest. Some (bit x n) ∷ rest) (low_bits x w n (omega (arith, h)))

high_bit : (x w m : ℕ) → bit x (w + m) ≡ bit (x / 2 ^ m) w
high_bit x w m =
    let e : w + m ≡ m + w = omega arith in
    let split : x / 2 ^ (w + m) ≡ x / 2 ^ m / 2 ^ w =
    ap (λ k. x / 2 ^ k) e ∙ (ap (λ p. x / p) (pow-add 2 m w) ∙ sym (div-div-eq-div-mul x (2 ^ m) (2 ^ w))) in
    ap (λ n. n % 2 == 1) split

-- the bits of a word are those of its upper part and of its lower part
bits_split : (x w m : ℕ) → bits_of x (w + m) ≡ bits_of (x / 2 ^ m) w ++ bits_of x m
bits_split x zero m = ap (bits_of x) (zero-add m)
bits_split x (suc w) m =
    let e : suc w + m ≡ suc (w + m) = omega arith in
    ap (bits_of x) e ∙ (ap (λ b. Some b ∷ bits_of x (w + m)) (high_bit x w m) ∙ ap (λ rest. Some (bit (x / 2 ^ m) w) ∷ rest) (bits_split x w m))

-- ---- bits that agree

agree_append : (a b c d : List (Option Bool)) → length a ≡ length b → all_agree a b ≡ true → all_agree c d ≡ true → all_agree (a ++ c) (b ++ d) ≡ true
agree_append [] [] c d l h k = k
agree_append [] (y ∷ b) c d l h k = absurd (omega (arith, l))
agree_append (x ∷ a) [] c d l h k = absurd (omega (arith, l))
agree_append (x ∷ a) (y ∷ b) c d l h k =
    both_true (bits_agree x y) (all_agree (a ++ c) (b ++ d)) (and_left (bits_agree x y) (all_agree a b) h)
    (agree_append a b c d (omega (arith, l)) (and_right (bits_agree x y) (all_agree a b) h) k)

itself : (b : Bool) → bits_agree (Some b) (Some b) ≡ true
itself true = refl
itself false = refl

agree_itself : (v w : ℕ) → all_agree (bits_of v w) (bits_of v w) ≡ true
agree_itself v zero = refl
agree_itself v (suc w) = both_true (bits_agree (Some (bit v w)) (Some (bit v w))) (all_agree (bits_of v w) (bits_of v w)) (itself (bit v w)) (agree_itself v w)

free : (b : Option Bool) → bits_agree None b ≡ true
free None = refl
free (Some true) = refl
free (Some false) = refl

agree_free : (w : ℕ) (bits : List (Option Bool)) → all_agree (replicate w None) bits ≡ true
agree_free zero bits = refl
agree_free (suc w) [] = refl
agree_free (suc w) (b ∷ bits) = both_true (bits_agree None b) (all_agree (replicate w None) bits) (free b) (agree_free w bits)

-- ---- parts

-- the bits that parts fix
abbrev fixed_bits : List WordPart → List (Option Bool)
fixed_bits [] = []
fixed_bits (Fixed v w ∷ parts) = bits_of v w ++ fixed_bits parts
fixed_bits (Field w ∷ parts) = replicate w None ++ fixed_bits parts

parts_agree : (parts : List WordPart) (code : ℕ) → agrees code parts ≡ true → all_agree (fixed_bits parts) (bits_of code (width_sum parts)) ≡ true
parts_agree [] code h = refl
parts_agree (Fixed v w ∷ parts) code h =
    let m = width_sum parts in
    let number : bits_above m w code ≡ v = eqb-true (bits_above m w code) v (and_left (bits_above m w code == v) (agrees code parts) h) in
    let bits : bits_of v w ≡ bits_of (code / 2 ^ m) w = ap (λ n. bits_of n w) (sym number) ∙ low_bits (code / 2 ^ m) w w (omega arith) in
    let here : all_agree (bits_of v w) (bits_of (code / 2 ^ m) w) ≡ true = ap (λ b. all_agree b (bits_of (code / 2 ^ m) w)) bits ∙ agree_itself (code / 2 ^ m) w in
    let count : length (bits_of v w) ≡ length (bits_of (code / 2 ^ m) w) = bits_count v w ∙ sym (bits_count (code / 2 ^ m) w) in
    ap (all_agree (bits_of v w ++ fixed_bits parts)) (bits_split code w m)
    ∙ agree_append (bits_of v w) (bits_of (code / 2 ^ m) w) (fixed_bits parts) (bits_of code m) count here
    (parts_agree parts code (and_right (bits_above m w code == v) (agrees code parts) h))
parts_agree (Field w ∷ parts) code h =
    let m = width_sum parts in
    let count : length (replicate w None) ≡ length (bits_of (code / 2 ^ m) w) = length-replicate w None ∙ sym (bits_count (code / 2 ^ m) w) in
    ap (all_agree (replicate w None ++ fixed_bits parts)) (bits_split code w m)
    ∙ agree_append (replicate w None) (bits_of (code / 2 ^ m) w) (fixed_bits parts) (bits_of code m) count (agree_free w (bits_of (code / 2 ^ m) w))
    (parts_agree parts code h)

same_bits : (parts : List PartDecl) → fixed_bits (map part_of parts) ≡ row_bits parts
same_bits [] = refl
same_bits (tree_part.Fixed v w span ∷ parts) = ap (λ rest. bits_of v.v w.v ++ rest) (same_bits parts)
same_bits (tree_part.Named f w span ∷ parts) = ap (λ rest. replicate w.v None ++ rest) (same_bits parts)

same_width : (parts : List PartDecl) → width_sum (map part_of parts) ≡ fits.widths_sum parts
same_width [] = refl
same_width (tree_part.Fixed v w span ∷ parts) = ap (λ n. w.v + n) (same_width parts)
same_width (tree_part.Named f w span ∷ parts) = ap (λ n. w.v + n) (same_width parts)

-- ---- rows

record Found (f : e.Row → Row) (rows : List e.Row) (i : ℕ) (q : Row) : Type 0 where
  row : e.Row
  at : slice_get rows i ≡ Some row
  is : f row ≡ q

found : (f : e.Row → Row) (rows : List e.Row) (i : ℕ) (q : Row) → slice_get (map f rows) i ≡ Some q → Found f rows i q
found f [] i q h = absurd cc
found f (r ∷ rows) zero q h = record { row = r; at = refl; is = cc }
found f (r ∷ rows) (suc i) q h =
    let x = found f rows i q h in
    record { row = x.row; at = x.at; is = x.is }

module _ (env : Environment) (instr : Option ℕ) (tree : e.Tree) (none : decode_fault env instr tree ≡ None) where
  agrees_with : (i : ℕ) (q : Row) (x : Found (decoded env) (rows_of tree.items) i q) (word : ℕ) → agrees word q.parts ≡ true → AgreesWith x.row word
  agrees_with i q x word h =
      let parts = x.row.parts in
      let same : agrees word (map part_of parts) ≡ true = ap (λ (r : Row). agrees word r.parts) x.is ∙ h in
      let width : width_sum (map part_of parts) ≡ 32 = same_width parts ∙ width_at env instr tree i x.row none x.at in
      ap (λ b. all_agree b (bits_of word 32)) (sym (same_bits parts)) ∙ (ap (λ n. all_agree (fixed_bits (map part_of parts)) (bits_of word n)) (sym width) ∙ parts_agree (map part_of parts) word same)

pub decoded_rows_are_apart : DecodedRowsAreApart
decoded_rows_are_apart env instr tree none i j q r word l at_q at_r agrees_q agrees_r =
    let x = found (decoded env) (rows_of tree.items) i q at_q in
    let y = found (decoded env) (rows_of tree.items) j r at_r in
    rows_are_apart env instr tree i j x.row y.row word none l x.at y.at (agrees_with env instr tree none i q x word agrees_q) (agrees_with env instr tree none j r y word agrees_r)
