-- What the forms of a term give on the values of their parts; nothing where these are of another type.
use Rattle.std.specs.Prelude.{ℕ, Bool, List, [], ◌∷◌, ◌++◌, ◌^◌, Option, Some, None, ◌&&◌, ◌==◌, nat_le, nat_lt, option_map, option_and_then, slice_get, if◌then◌else◌}
use Rattle.word_operations.specs.declared.kinds.UnaryOperation.{UnaryOperation}
use Rattle.word_operations.specs.declared.kinds.BinaryOperation.{BinaryOperation}
use Rattle.word_operations.specs.declared.kinds.WordComparison.{WordComparison}
use Rattle.word_operations.specs.Op1.{op1_of}
use Rattle.word_operations.specs.Op2.{op2_of}
use Rattle.word_operations.specs.Cmp.{cmp_of}
use Rattle.word_operations.specs.Casts.{zext_of, sext_of, trunc_of}
use Rattle.base_trait.specs.declared.uses.Stamp.TheVariants.{At}
use Rattle.base_trait.specs.Uses.{Read}
use Rattle.spec_match_compiler.specs.Patterns.{Pattern, Patterns, bind, case_is, pat_then}
use Rattle.spec_match_compiler.specs.Values as m
use Rattle.spec_match_compiler.specs.Values.{Value, Values}
use Rattle.spec_ir.specs.declared.term.CastKind.{CastKind}
use Rattle.spec_ir.specs.declared.declared.MapType.{MapType}
use Rattle.semantics_values.specs.declared.value.Cell.{Cell}
use Rattle.semantics_values.specs.Values.{Val, Vals, flag, word, made, map, no_val, val_then, cell_at, put_cell}

-- ---- words

-- whether a number is one of w bits, and w a width
abbrev pub is_word : ℕ → ℕ → Bool
is_word w x = (nat_le 1 w && nat_le w 64) && nat_lt x (2 ^ w)

-- the number of a word of w bits
abbrev pub number : ℕ → Val → Option ℕ
number w (word u x) = if u == w && is_word w x then Some x else None
number w _ = None

abbrev pub unary : UnaryOperation → ℕ → Val → Option Val
unary op w p = option_map (λ x. word w (op1_of op w x)) (number w p)

abbrev pub binary : BinaryOperation → ℕ → Val → Val → Option Val
binary op w p q = option_and_then (λ x. option_map (λ y. word w (op2_of op w x y)) (number w q)) (number w p)

abbrev pub compared : WordComparison → ℕ → Val → Val → Option Val
compared c w p q = option_and_then (λ x. option_map (λ y. flag (cmp_of c w x y)) (number w q)) (number w p)

-- whether a word of one width can be cast to another
abbrev pub casts : CastKind → ℕ → ℕ → Bool
casts CastKind.Zero from to = nat_le from to && nat_le to 64
casts CastKind.Sign from to = nat_le from to && nat_le to 64
casts CastKind.Cut from to = nat_le 1 to && nat_le to from

abbrev pub cast_of : CastKind → ℕ → ℕ → ℕ → ℕ
cast_of CastKind.Zero from to x = zext_of from to x
cast_of CastKind.Sign from to x = sext_of from to x
cast_of CastKind.Cut from to x = trunc_of from to x

abbrev pub resized : CastKind → ℕ → ℕ → Val → Option Val
resized kind from to p = if casts kind from to then option_map (λ x. word to (cast_of kind from to x)) (number from p) else None

-- ---- maps

-- the number of a key: a word's own, or that of a constructor without fields
abbrev pub key_of : Val → Option ℕ
key_of (word w k) = Some k
key_of (made t c no_val) = Some c
key_of _ = None

abbrev pub width_of : Option MapType → Option ℕ
width_of d = option_map (λ t. t.width) d

module _ (maps : List MapType) where
  -- the number in the cell of a map at a key, with the read of it
  abbrev pub read_at : ℕ → ℕ → ℕ → Cell → Val × Read
  read_at m w k cell = (word w cell.v, record { of_map = m; key = k; stamp = cell.stamp })

  abbrev pub accessed : ℕ → Val → Val → Option (Val × Read)
  accessed m (map n rest cells) key =
      if n == m then option_and_then (λ w. option_map (λ k. read_at m w k (cell_at rest cells k)) (key_of key)) (width_of (slice_get maps m)) else None
  accessed m _ key = None

  -- a cell with a number, stamped with the address of the instruction that puts it
  abbrev pub stamped : ℕ → ℕ → Cell
  stamped a v = record { v = v; stamp = At a }

  -- the map with a cell changed
  abbrev pub updated : ℕ → ℕ → Val → Val → Val → Option Val
  updated a m (map n rest cells) key p =
      if n == m then option_and_then (λ w. option_and_then (λ k. option_map (λ v. map m rest (put_cell k (stamped a v) cells)) (number w p)) (key_of key)) (width_of (slice_get maps m)) else None
  updated a m _ key p = None

-- ---- matches

abbrev mutual
  -- a value as patterns see it: of a map, nothing
  pub shown : Val → Value
  shown (flag b) = m.flag b
  shown (word w v) = m.word v
  shown (made t c vs) = m.made c (all_shown vs)
  shown (map n rest cells) = m.thing 0

  pub all_shown : Vals → Values
  all_shown no_val = m.no_value
  all_shown (val_then v vs) = m.value_then (shown v) (all_shown vs)

abbrev mutual
  -- what the variables of a pattern name in a value that meets it, from left to right
  pub bound : Pattern → Val → List Val
  bound (bind n) v = v ∷ []
  bound (case_is c ps) (made t d vs) = all_bound ps vs
  bound _ v = []

  pub all_bound : Patterns → Vals → List Val
  all_bound (pat_then p ps) (val_then v vs) = bound p v ++ all_bound ps vs
  all_bound _ _ = []
