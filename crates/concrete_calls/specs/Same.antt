-- Values that are the same, however their maps list their cells.
use Rattle.std.specs.Prelude.{◌≡◌, ℕ, ⊤}
use Rattle.semantics_values.specs.Values.{Val, Vals, flag, word, made, map, no_val, val_then, cell_at}

abbrev mutual
  -- maps have the same cell at each key, and the same rest
  pub AreSame : Val → Val → Type 0
  AreSame (flag b) (flag d) = b ≡ d
  AreSame (word w n) (word u m) = (w ≡ u) × (n ≡ m)
  AreSame (made t k ps) (made u j qs) = (t ≡ u) × (k ≡ j) × AllSame ps qs
  AreSame (map m rest cells) (map n other listed) = (m ≡ n) × (rest ≡ other) × ((k : ℕ) → cell_at rest cells k ≡ cell_at other listed k)
  AreSame _ _ = ⊥

  pub AllSame : Vals → Vals → Type 0
  AllSame no_val no_val = ⊤
  AllSame (val_then p ps) (val_then q qs) = AreSame p q × AllSame ps qs
  AllSame _ _ = ⊥
