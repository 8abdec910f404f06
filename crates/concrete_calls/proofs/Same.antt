-- What stands for a concrete value is the same value.
use Rattle.std.proofs.Common.{◌≡◌, ℕ, zero, suc, ◌+◌, ◌<◌, ◌≤◌, Bool, true, false, cond, List, [], ◌∷◌, IsTrue, refl, sym, ap, subst, ◌∙◌, arith}
use Rattle.std.specs.Prelude.{◌==◌, not}
use Rattle.std.proofs.lemmas.Bool.Decides.{nat_tests}
use Rattle.base_trait.specs.Algebra.{can_be}
use Rattle.base_trait.specs.declared.tri.Tri.{Tri}
use Rattle.base_trait.specs.declared.uses.Stamp.{Stamp}
use Rattle.base_concrete.specs.Meaning.{concrete}
use Rattle.abstract_map_laws.specs.declared.cell.AbstractCell.{AbstractCell}
use Rattle.abstract_map_laws.specs.Cells.{CellDescribes}
use Rattle.abstract_map_laws.specs.Maps.{Map, cell, cell_in as listed_in, Describes as MapDescribes}
use Rattle.semantics_values.specs.declared.value.Cell.{Cell as ConcreteCell}
use Rattle.semantics_values.specs.Values as v
use Rattle.semantics_values.specs.Values.{Val, Vals, cell_at}
use Rattle.abstract_value_laws.specs.Abs.{Abs, Cases, Parts, flag, word, made, map, no_case, absent, present, no_part, part}
use Rattle.abstract_value_laws.specs.Describes.{CaseDescribes, Describes, PartsDescribe, held_at}
use Rattle.abstract_semantics.specs.Sound.{AreAbsent, AreSingle, IsSingle, IsSingleCase}
use Rattle.concrete_calls.specs.Same.{AllSame, AreSame}
use Rattle.concrete_calls.specs.Values.{case_in, cell_in, cells_in, value_in, values_in}

flag_same : (t : Tri) (b : Bool) → IsTrue (can_be t b) → t.may_true ≡ not t.may_false → t.may_true ≡ b
flag_same t true h s = h
flag_same t false h s = s ∙ ap not h

-- ---- maps
cell_there : (rest : AbstractCell ℕ Stamp) (cells : List (ℕ × AbstractCell ℕ Stamp)) (k : ℕ) → cell_at (cell_in rest) (cells_in cells) k ≡ cell_in (listed_in rest cells k)
cell_there rest [] k = refl
cell_there rest (e ∷ cells) k = at (e.0 == k) (cell_there rest cells k)
  where
    at : (b : Bool) → cell_at (cell_in rest) (cells_in cells) k ≡ cell_in (listed_in rest cells k) → cond b (cell_in e.1) (cell_at (cell_in rest) (cells_in cells) k) ≡ cell_in (cond b e.1 (listed_in rest cells k))
    at true h = refl
    at false h = h

-- a key past all that are listed
past : {A : Type 0} → List (ℕ × A) → ℕ
past [] = 0
past (e ∷ cells) = suc (e.0 + past cells)

other_key : (k j : ℕ) → k < j → (k == j) ≡ false
other_key k j h = grind (arith, nat_tests)

at_past : (rest : ConcreteCell) (cells : List (ℕ × ConcreteCell)) (k : ℕ) → past cells ≤ k → cell_at rest cells k ≡ rest
unfolding past
at_past rest [] k h = refl
at_past rest (e ∷ cells) k h = ap (λ b. cond b e.1 (cell_at rest cells k)) (other_key e.0 k (omega (arith, h))) ∙ at_past rest cells k (omega (arith, h))

cell_same : (w : ℕ) (x : AbstractCell ℕ Stamp) (y : ConcreteCell) → CellDescribes concrete [] w (record { number = y.v; stamp = y.stamp }) x → cell_in x ≡ y
cell_same w x y h = ap (λ n. record { v = n; stamp = x.note }) (sym h.0.0) ∙ ap (λ s. record { v = y.v; stamp = s }) (sym h.1)

module _ (m : Map ℕ Stamp) (rest : ConcreteCell) (cells : List (ℕ × ConcreteCell)) (h : MapDescribes concrete [] (held_at rest cells) m) where
  cells_same : (k : ℕ) → cell_at (cell_in m.rest) (cells_in m.cells) k ≡ cell_at rest cells k
  cells_same k = cell_there m.rest m.cells k ∙ cell_same m.width (cell m k) (cell_at rest cells k) (h k)

  rest_same : cell_in m.rest ≡ rest
  rest_same =
      let far = past (cells_in m.cells) + past cells in
      sym (at_past (cell_in m.rest) (cells_in m.cells) far (omega arith)) ∙ cells_same far ∙ at_past rest cells far (omega arith)

none : (cs : Cases ℕ Stamp) (k : ℕ) (ps : Vals) → CaseDescribes concrete [] cs k ps → AreAbsent cs → ⊥
none no_case k ps d s = d
none (absent cs) zero ps d s = d
none (absent cs) (suc k) ps d s = none cs k ps d s
none (present xs cs) k ps d s = s

mutual
  pub same : (x : Abs ℕ Stamp) (p : Val) → Describes concrete [] x p → IsSingle x → AreSame (value_in x) p
  same (flag t) (v.flag b) d s = flag_same t b d s
  same (word w x) (v.word u n) d s = (sym d.0, sym d.1.0)
  same (made t cs) (v.made u k ps) d s =
      let none_before : 0 + k ≡ k = omega arith in
      subst (λ z. AreSame (case_in t 0 cs) (v.made z k ps)) (sym d.0) (subst (λ j. AreSame (case_in t 0 cs) (v.made t j ps)) none_before (case_same t 0 cs k ps d.1 s))
  same (map m x) (v.map n rest cells) d s = (sym d.0, rest_same x rest cells d.1, cells_same x rest cells d.1)
  same (flag t) (v.word u n) d s = absurd d
  same (flag t) (v.made u k ps) d s = absurd d
  same (flag t) (v.map n rest cells) d s = absurd d
  same (word w x) (v.flag b) d s = absurd d
  same (word w x) (v.made u k ps) d s = absurd d
  same (word w x) (v.map n rest cells) d s = absurd d
  same (made t cs) (v.flag b) d s = absurd d
  same (made t cs) (v.word u n) d s = absurd d
  same (made t cs) (v.map n rest cells) d s = absurd d
  same (map m x) (v.flag b) d s = absurd d
  same (map m x) (v.word u n) d s = absurd d
  same (map m x) (v.made u k ps) d s = absurd d

  case_same : (t n : ℕ) (cs : Cases ℕ Stamp) (k : ℕ) (ps : Vals) → CaseDescribes concrete [] cs k ps → IsSingleCase cs → AreSame (case_in t n cs) (v.made t (n + k) ps)
  case_same t n no_case k ps d s = absurd d
  case_same t n (absent cs) zero ps d s = absurd d
  case_same t n (absent cs) (suc k) ps d s =
      let next : suc n + k ≡ n + suc k = omega arith in
      subst (λ z. AreSame (case_in t (suc n) cs) (v.made t z ps)) next (case_same t (suc n) cs k ps d s)
  case_same t n (present xs cs) zero ps d s = let here : n ≡ n + 0 = omega arith in (refl, here, all_same xs ps d s.0)
  case_same t n (present xs cs) (suc k) ps d s = absurd (none cs k ps d s.1)

  all_same : (xs : Parts ℕ Stamp) (ps : Vals) → PartsDescribe concrete [] xs ps → AreSingle xs → AllSame (values_in xs) ps
  all_same no_part v.no_val d s = tt
  all_same (part x xs) (v.val_then p ps) d s = (same x p d.0 s.0, all_same xs ps d.1 s.1)
  all_same no_part (v.val_then p ps) d s = absurd d
  all_same (part x xs) v.no_val d s = absurd d
