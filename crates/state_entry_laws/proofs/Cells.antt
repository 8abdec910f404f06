-- Cells of maps with others put among them.
use Rattle.std.proofs.Common.{◌≡◌, ℕ, ◌&&◌, ◌==◌, Bool, true, false, List, [], ◌∷◌, refl, arith}
use Rattle.std.specs.Prelude.{nat_lt, if◌then◌else◌}
use Rattle.std.specs.List.{list_all}
use Rattle.std.proofs.lemmas.Bool.Decides.{nat_tests}
use Rattle.std.proofs.lemmas.Bool.{and_from as and_true, and_parts as both}
use Rattle.semantics_values.specs.declared.value.Cell.{Cell}
use Rattle.semantics_values.specs.Values.{cell_at, put_cell}

module _ (k : ℕ) (cell : Cell) (c : ℕ × Cell) (cells : List (ℕ × Cell)) where
  put_at_by : (rest : Cell) (j : ℕ) → cell_at rest (put_cell k cell cells) j ≡ (if k == j then cell else cell_at rest cells j)
      → (same : Bool) → (c.0 == k) ≡ same → (less : Bool) → nat_lt k c.0 ≡ less → (at_c : Bool) → (c.0 == j) ≡ at_c → (at_k : Bool) → (k == j) ≡ at_k
      → cell_at rest (put_cell k cell (c ∷ cells)) j ≡ (if k == j then cell else cell_at rest (c ∷ cells) j)
  put_at_by rest j ih true s less l at_c e true d = rw (s, d) refl
  put_at_by rest j ih true s less l at_c e false d = let no : (c.0 == j) ≡ false = grind (arith, nat_tests, s, d) in rw (s, d, no) refl
  put_at_by rest j ih false s true l at_c e at_k d = rw (s, l) refl
  put_at_by rest j ih false s false l true e at_k d = let no : (k == j) ≡ false = grind (arith, nat_tests, s, e) in rw (s, l, e, no) refl
  put_at_by rest j ih false s false l false e at_k d = rw (s, l, e) ih

  put_keeps_by : (P : ℕ × Cell → Bool) → P (k, cell) ≡ true → P c ≡ true → list_all P cells ≡ true → list_all P (put_cell k cell cells) ≡ true
      → (same : Bool) → (c.0 == k) ≡ same → (less : Bool) → nat_lt k c.0 ≡ less → list_all P (put_cell k cell (c ∷ cells)) ≡ true
  put_keeps_by P h hc hs ih true s less l = rw s (and_true (P (k, cell)) (list_all P cells) h hs)
  put_keeps_by P h hc hs ih false s true l = rw (s, l) (and_true (P (k, cell)) (P c && list_all P cells) h (and_true (P c) (list_all P cells) hc hs))
  put_keeps_by P h hc hs ih false s false l = rw (s, l) (and_true (P c) (list_all P (put_cell k cell cells)) hc ih)

-- the cell that is put is the one at its key, and the others stay
pub put_at : (rest : Cell) (k : ℕ) (cell : Cell) (cells : List (ℕ × Cell)) (j : ℕ) → cell_at rest (put_cell k cell cells) j ≡ (if k == j then cell else cell_at rest cells j)
put_at rest k cell [] j = refl
put_at rest k cell (c ∷ cells) j = put_at_by k cell c cells rest j (put_at rest k cell cells j) (c.0 == k) refl (nat_lt k c.0) refl (c.0 == j) refl (k == j) refl

-- what each cell has, each still has
pub put_keeps : (P : ℕ × Cell → Bool) (k : ℕ) (cell : Cell) (cells : List (ℕ × Cell)) → P (k, cell) ≡ true → list_all P cells ≡ true → list_all P (put_cell k cell cells) ≡ true
put_keeps P k cell [] h hs = and_true (P (k, cell)) true h refl
put_keeps P k cell (c ∷ cells) h hs =
    let parts = both (P c) (list_all P cells) hs in
    put_keeps_by k cell c cells P h parts.0 parts.1 (put_keeps P k cell cells h parts.1) (c.0 == k) refl (nat_lt k c.0) refl
