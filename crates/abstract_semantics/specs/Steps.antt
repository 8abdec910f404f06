-- What the forms of a term give on the abstract values of their parts; nothing where these are of another type.
use Rattle.std.specs.Prelude.{ℕ, ◌&&◌, ◌==◌, nat_lt, List, ◌++◌, Option, Some, None, if◌then◌else◌}
use Rattle.word_operations.specs.declared.kinds.UnaryOperation.{UnaryOperation}
use Rattle.word_operations.specs.declared.kinds.BinaryOperation.{BinaryOperation}
use Rattle.word_operations.specs.declared.kinds.WordComparison.{WordComparison}
use Rattle.base_trait.specs.Algebra.{Algebra}
use Rattle.base_trait.specs.Uses.{Seen}
use Rattle.abstract_map_laws.specs.declared.cell.AbstractCell.{AbstractCell}
use Rattle.abstract_map_laws.specs.Keys.{Keys}
use Rattle.abstract_map_laws.specs.Maps.{Map}
use Rattle.abstract_map_laws.specs.Calls.{access_of, update_of}
use Rattle.spec_ir.specs.declared.term.CastKind.{CastKind}
use Rattle.spec_ir.specs.Environment.{Environment}
use Rattle.semantics.specs.Steps.{casts}
use Rattle.abstract_value_laws.specs.Abs.{Abs, flag, word, made, map, parts}
use Rattle.abstract_value_laws.specs.OfValues.{case_count, one_case}
use Rattle.support_tail_fixpoint.specs.Answer.{gives}
use Rattle.abstract_semantics.specs.Answers.{Answer}
use Rattle.abstract_semantics.specs.Keys.{is_keyed, keys_of, named_key}

module _ {W N C : Type 0} (B : Algebra W N C) (c : C) where
  abbrev pub unary : UnaryOperation → ℕ → Abs W N → Option (Abs W N)
  unary op w (word u x) = if u == w then Some (word w (B.words.op1 c op w x)) else None
  unary op w _ = None

  abbrev pub binary : BinaryOperation → ℕ → Abs W N → Abs W N → Option (Abs W N)
  binary op w (word u x) (word v y) = if u == w && v == w then Some (word w (B.words.op2 c op w x y)) else None
  binary op w _ _ = None

  abbrev pub compared : WordComparison → ℕ → Abs W N → Abs W N → Option (Abs W N)
  compared k w (word u x) (word v y) = if u == w && v == w then Some (flag (B.words.cmp c k w x y)) else None
  compared k w _ _ = None

  abbrev pub cast_of : CastKind → ℕ → ℕ → W → W
  cast_of CastKind.Zero from to x = B.words.zext c from to x
  cast_of CastKind.Sign from to x = B.words.sext c from to x
  cast_of CastKind.Cut from to x = B.words.trunc c from to x

  abbrev pub resized : CastKind → ℕ → ℕ → Abs W N → Option (Abs W N)
  resized kind from to (word u x) = if u == from && casts kind from to then Some (word to (cast_of kind from to x)) else None
  resized kind from to _ = None

  -- ---- maps

  -- the word of the cell at a key, with the use of it
  abbrev pub read_of : ℕ → Map W N → List Seen → Option Keys → Answer (Abs W N)
  read_of m x l None = gives None l
  read_of m x l (Some ks) = gives (Some (word x.width (access_of B c x ks).word)) (l ++ B.notes.reads m (named_key ks) (access_of B c x ks).note)

  abbrev pub accessed : ℕ → Abs W N → Abs W N → List Seen → Answer (Abs W N)
  accessed m (map n x) key l = if n == m then read_of m x l (keys_of B c x key) else gives None l
  accessed m _ key l = gives None l

  -- a cell with a word that an instruction puts
  abbrev pub put_at : ℕ → W → AbstractCell W N
  put_at a v = record { word = v; note = B.notes.at a }

  -- the map with a cell changed, by the instruction at an address, with room for cap cells; keys are below 2 ^ 32
  abbrev pub put_of : ℕ → ℕ → ℕ → Map W N → W → Option Keys → Option (Abs W N)
  put_of cap a m x v None = None
  put_of cap a m x v (Some ks) = if is_keyed ks then Some (map m (update_of B c cap x ks (put_at a v))) else None

  abbrev pub updated : ℕ → ℕ → ℕ → Abs W N → Abs W N → Abs W N → Option (Abs W N)
  updated cap a m (map n x) key (word w v) = if n == m && w == x.width then put_of cap a m x v (keys_of B c x key) else None
  updated cap a m _ key _ = None

-- ---- constructors: one is present
abbrev pub made_of : {W N : Type 0} → Environment → ℕ → ℕ → List (Abs W N) → Option (Abs W N)
made_of env d k xs = if nat_lt k (case_count env d) then Some (made d (one_case (case_count env d) k (parts xs))) else None
