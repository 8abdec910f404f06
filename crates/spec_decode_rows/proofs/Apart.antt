-- No word agrees with two rows.
use Rattle.std.proofs.Common.{◌≡◌, ◌∙◌, ℕ, zero, suc, ◌+◌, ◌<◌, ◌≤◌, Bool, true, false, ◌==◌, Option, Some, None, List, [], ◌∷◌, ◌++◌, length, map, take, replicate, slice_get, refl, sym, ap, subst, arith, append_assoc, append-nil, if◌then◌else◌}
use Rattle.std.proofs.lemmas.Bool.{eqb-true, false≢true, and_from as both_true}
use Rattle.std.proofs.lemmas.List.{length-append, length-replicate}
use Rattle.syntax_parser.specs.declared.tree.PartDecl.{PartDecl}
use Rattle.syntax_parser.specs.declared.tree.PartDecl.TheVariants.{Fixed, Named}
use Rattle.syntax_parser.specs.Tree.{Row, Tree}
use Rattle.std.specs.List.{list_all}
use Rattle.spec_ir.specs.declared.spec_error.SpecError.{SpecError}
use Rattle.spec_ir.specs.declared.spec_error.SpecError.TheVariants.{BadPattern}
use Rattle.spec_ir.specs.Answers.{◌then◌, unless}
use Rattle.spec_ir.specs.Environment.{Environment}
use Rattle.spec_ir.proofs.Checks.{then_left, then_right, unless_none}
use Rattle.spec_decode_rows.specs.Bits.{bits_of, part_bits, row_bits, bits_agree, all_agree}
use Rattle.spec_decode_rows.specs.Fits.{part_fits, part_width, parts_fit, widths_sum, row_fits}
use Rattle.spec_decode_rows.specs.Rows.{EarlierRow, earlier_of, decode_fault, overlap_fault, row_fault, rows_fault, rows_of}
use Rattle.spec_decode_rows.specs.Laws.{RowsAreApart}
use Rattle.spec_match_compiler.proofs.Truth.{and_left, and_right}

-- ---- bits

pub bits_count : (v w : ℕ) → length (bits_of v w) ≡ w
bits_count v zero = refl
bits_count v (suc w) = ap suc (bits_count v w)

part_count : (p : PartDecl) → length (part_bits p) ≡ part_width p
part_count (Fixed v w span) = bits_count v.v w.v
part_count (Named f w span) = length-replicate w.v None

row_count : (parts : List PartDecl) → length (row_bits parts) ≡ widths_sum parts
row_count [] = refl
row_count (p ∷ parts) =
    let a = part_count p in
    let b = row_count parts in
    length-append (part_bits p) (row_bits parts) ∙ omega (arith, a, b)

-- two bits that agree with a fixed one agree
through : (a b : Option Bool) (c : Bool) → bits_agree a (Some c) ≡ true → bits_agree b (Some c) ≡ true → bits_agree a b ≡ true
through None b c h k = refl
through (Some true) None c h k = refl
through (Some false) None c h k = refl
through (Some true) (Some true) c h k = refl
through (Some false) (Some false) c h k = refl
through (Some true) (Some false) true h k = absurd cc
through (Some true) (Some false) false h k = absurd cc
through (Some false) (Some true) true h k = absurd cc
through (Some false) (Some true) false h k = absurd cc

agree_through : (a b : List (Option Bool)) (v w : ℕ) → length a ≤ w → all_agree a (bits_of v w) ≡ true → all_agree b (bits_of v w) ≡ true → all_agree a b ≡ true
agree_through [] b v w l h k = refl
agree_through (x ∷ a) [] v w l h k = refl
agree_through (x ∷ a) (y ∷ b) v zero l h k = absurd (omega (arith, l))
agree_through (x ∷ a) (y ∷ b) v (suc w) l h k =
    both_true (bits_agree x y) (all_agree a b)
    (through x y _ (and_left (bits_agree x _) (all_agree a (bits_of v w)) h) (and_left (bits_agree y _) (all_agree b (bits_of v w)) k))
    (agree_through a b v w (omega (arith, l)) (and_right (bits_agree x _) (all_agree a (bits_of v w)) h) (and_right (bits_agree y _) (all_agree b (bits_of v w)) k))

-- ---- rows

apart_first : (t : Bool) (e : SpecError) (o : Option SpecError) → (if t then Some e else o) ≡ None → t ≡ false
apart_first true e o h = absurd cc
apart_first false e o h = refl

apart_rest : (t : Bool) (e : SpecError) (o : Option SpecError) → (if t then Some e else o) ≡ None → o ≡ None
apart_rest true e o h = absurd cc
apart_rest false e o h = h

some_same : (x y : EarlierRow) → Some x ≡ Some y → x ≡ y
some_same x y h = cc

overlap_none : (earlier : List EarlierRow) (r : Row) (k : ℕ) (q : EarlierRow) → overlap_fault earlier r ≡ None → slice_get earlier k ≡ Some q → all_agree q.bits (row_bits r.parts) ≡ false
overlap_none [] r k q h at = absurd cc
overlap_none (e ∷ earlier) r zero q h at =
    subst (λ x. all_agree x.bits (row_bits r.parts) ≡ false) (some_same e q at) (apart_first (all_agree e.bits (row_bits r.parts)) _ (overlap_fault earlier r) h)
overlap_none (e ∷ earlier) r (suc k) q h at = overlap_none earlier r k q (apart_rest (all_agree e.bits (row_bits r.parts)) _ (overlap_fault earlier r) h) at

module _ (env : Environment) (instr : Option ℕ) where
  -- a row agrees with none of the rows before it, and fits
  row_none : (earlier : List EarlierRow) (rows : List Row) (k : ℕ) (r : Row) → rows_fault env instr earlier rows ≡ None → slice_get rows k ≡ Some r
      → row_fault env instr (earlier ++ map earlier_of (take k rows)) r ≡ None
  row_none earlier [] k r h at = absurd cc
  row_none earlier (x ∷ rows) zero r h at =
      let is = some_row x r at in
      let none = then_left (row_fault env instr earlier x) (rows_fault env instr (earlier ++ earlier_of x ∷ []) rows) h in
      rw (append-nil earlier) (subst (λ y. row_fault env instr earlier y ≡ None) is none)
    where
      some_row : (x y : Row) → Some x ≡ Some y → x ≡ y
      some_row x y h = cc
  row_none earlier (x ∷ rows) (suc k) r h at =
      let rest = then_right (row_fault env instr earlier x) (rows_fault env instr (earlier ++ earlier_of x ∷ []) rows) h in
      subst (λ e. row_fault env instr e r ≡ None) (append_assoc earlier (earlier_of x ∷ []) (map earlier_of (take k rows))) (row_none (earlier ++ earlier_of x ∷ []) rows k r rest at)

-- an earlier row is among those before
before : (rows : List Row) (i j : ℕ) (q : Row) → i < j → slice_get rows i ≡ Some q → slice_get (map earlier_of (take j rows)) i ≡ Some (earlier_of q)
before [] i j q l at = absurd cc
before (x ∷ rows) i zero q l at = absurd (omega (arith, l))
before (x ∷ rows) zero (suc j) q l at = ap (λ o. option_earlier o) at
  where
    option_earlier : Option Row → Option EarlierRow
    option_earlier None = None
    option_earlier (Some y) = Some (earlier_of y)
before (x ∷ rows) (suc i) (suc j) q l at = before rows i j q (omega (arith, l)) at

-- a row that fits has the bits of a word
width_of_row : (env : Environment) (instr : Option ℕ) (r : Row) → row_fits env instr r ≡ true → widths_sum r.parts ≡ 32
width_of_row env instr r h =
    let fit = and_left (parts_fit r.parts) _ h in
    let sum = and_left (widths_sum r.parts == 32) (list_all part_fits r.parts) fit in
    eqb-true (widths_sum r.parts) 32 sum

-- the width of a row of a tree in which no row is wrong
pub width_at : (env : Environment) (instr : Option ℕ) (tree : Tree) (i : ℕ) (r : Row) → decode_fault env instr tree ≡ None → slice_get (rows_of tree.items) i ≡ Some r → widths_sum r.parts ≡ 32
width_at env instr tree i r h at =
    width_of_row env instr r (unless_none (row_fits env instr r) (BadPattern r.span) (then_left (unless (row_fits env instr r) (BadPattern r.span)) _ (row_none env instr [] (rows_of tree.items) i r h at)))

pub rows_are_apart : RowsAreApart
rows_are_apart env instr tree i j q r word h l at_q at_r agrees_q agrees_r =
    let rows = rows_of tree.items in
    let none_r = row_none env instr [] rows j r h at_r in
    let width : widths_sum q.parts ≡ 32 = width_at env instr tree i q h at_q in
    let short : length (row_bits q.parts) ≤ 32 = omega (arith, width, row_count q.parts) in
    let overlaps = then_right (unless (row_fits env instr r) (BadPattern r.span)) (overlap_fault (map earlier_of (take j rows)) r) none_r in
    let apart = overlap_none (map earlier_of (take j rows)) r i (earlier_of q) overlaps (before rows i j q l at_q) in
    let agree = agree_through (row_bits q.parts) (row_bits r.parts) word 32 short agrees_q agrees_r in
    false≢true (sym apart ∙ agree)
