-- Two tests, one after the other, and bits.
use Rattle.std.proofs.Common.{◌≡◌, ◌≢◌, ℕ, suc, ◌+◌, ◌-◌, ◌<◌, ◌≤◌, Bool, true, false, ◌&&◌, List, [], ◌∷◌, length, drop, get_or, refl, arith, ap, zero, Option, Some}
use Rattle.std.proofs.lemmas.List.{drop_more as drop_from}
use Rattle.std.proofs.lemmas.Bool.{and_right as and_false}
use Rattle.spec_ir.specs.declared.ty.Ty.{Ty}
use Rattle.spec_ir.specs.declared.spec_error.SpecError.{SpecError}
use Rattle.spec_ir.specs.Answers.{unless, ◌then◌}
use Rattle.spec_ir.proofs.Lists.{drop_past}
use Rattle.spec_ir.proofs.Checks.{fits_past, no_bit_past}
use Rattle.syntax_parser.specs.declared.tree.ArgDecl.{ArgDecl}
use Rattle.spec_decode_rows.specs.Fields.{RowField}
use Rattle.spec_decode_rows.specs.Fits.{arg_fits, args_fit}
use Rattle.spec_decode_rows.specs.Bits.{bit, bits_of, bits_agree, all_agree}

-- two tests, one after the other
pub unless_and : (a b : Bool) (e : SpecError) → unless (a && b) e ≡ (unless a e then unless b e)
unless_and true b e = refl
unless_and false b e = refl

-- ---- bits

pub bits_step : (v w : ℕ) → 0 < w → bits_of v w ≡ Some (bit v (w - 1)) ∷ bits_of v (w - 1)
bits_step v zero h = absurd (omega (arith, h))
bits_step v (suc w) h =
    let e : suc w - 1 ≡ w = omega arith in
    rw e refl

pub bits_none : (v w : ℕ) → w ≤ 0 → bits_of v w ≡ []
bits_none v zero h = refl
bits_none v (suc w) h = absurd (omega (arith, h))

pub agree_step : (a b : List (Option Bool)) (i : ℕ) (d f : Option Bool) → i < length a → i < length b
    → all_agree (drop i a) (drop i b) ≡ (bits_agree (get_or a i d) (get_or b i f) && all_agree (drop (i + 1) a) (drop (i + 1) b))
agree_step a b i d f h k = rw (drop_from a i d h, drop_from b i f k) refl

agree_with_none : (a : List (Option Bool)) → all_agree a [] ≡ true
agree_with_none [] = refl
agree_with_none (x ∷ xs) = refl

pub agree_end : (a b : List (Option Bool)) (i : ℕ) → length a ≤ i → all_agree (drop i a) (drop i b) ≡ true
agree_end a b i h = rw (drop_past a i h) refl

pub agree_end_second : (a b : List (Option Bool)) (i : ℕ) → length b ≤ i → all_agree (drop i a) (drop i b) ≡ true
agree_end_second a b i h = rw (drop_past b i h) (agree_with_none (drop i a))

-- ---- arguments

pub arguments_step : (fields : List RowField) (args : List ArgDecl) (types : List Ty) (i : ℕ) (a : ArgDecl) (d : Ty) → i < length args → i < length types → a ≡ get_or args i a
    → args_fit fields (drop i args) (drop i types) ≡ (arg_fits fields a (get_or types i d) && args_fit fields (drop (i + 1) args) (drop (i + 1) types))
arguments_step fields args types i a d h k e = rw (drop_from args i a h, drop_from types i d k, ← e) refl

pub arguments_end : (fields : List RowField) (args : List ArgDecl) (types : List Ty) → length args ≡ length types → args_fit fields (drop (length args) args) (drop (length args) types) ≡ true
arguments_end fields args types h = rw (drop_past args (length args) (omega arith), drop_past types (length args) (omega (arith, h))) refl

pub arguments_count : (fields : List RowField) (args : List ArgDecl) (types : List Ty) → length args ≢ length types → args_fit fields args types ≡ false
arguments_count fields [] [] h = absurd (h refl)
arguments_count fields [] (t ∷ types) h = refl
arguments_count fields (a ∷ args) [] h = refl
arguments_count fields (a ∷ args) (t ∷ types) h = and_false (arg_fits fields a t) (args_fit fields args types) (arguments_count fields args types (λ e. h (ap suc e)))

pub ruleset row_steps = (fits_past, no_bit_past, unless_and, bits_step, bits_none, agree_step, agree_end, agree_end_second, arguments_step, arguments_end, arguments_count)
