-- Sorted cells.
use Rattle.std.proofs.Common.{◌≡◌, ◌<◌, ◌-◌, ◌+◌, ◌==◌, ℕ, suc, true, false, List, [], ◌∷◌, length, drop, get_or, refl, ap, inl, inr, arith, nat_lt}
use Rattle.std.proofs.Math.Seq.{drop-cons}
use Rattle.std.proofs.lemmas.Bool.{cases_Bool}
use Rattle.std.proofs.lemmas.Bool.Decides.{nat_tests}
use Rattle.std.specs.BTreeMap.{insert_entry}
use Rattle.std.specs.Ordering.{nat_cmp}
use Rattle.semantics_values.specs.declared.entry.Line.{Line}
use Rattle.semantics_values.specs.declared.value.Cell.{Cell}
use Rattle.semantics_values.specs.Values.{put_cell}

-- a sorted map's entries are put as cells are
pub insert_is_put : (es : List (ℕ × Cell)) (k : ℕ) (v : Cell) → insert_entry nat_cmp es k v ≡ put_cell k v es
insert_is_put [] k v = refl
insert_is_put (e ∷ es) k v = elim (cases_Bool (nat_lt k e.0)) [
  | inl lt ↦ let ne : (e.0 == k) ≡ false = grind (arith, nat_tests, lt) in rw (lt, ne) refl
  | inr ge ↦ elim (cases_Bool (k == e.0)) [
    | inl eq ↦
        let same : e.0 ≡ k = grind (arith, nat_tests, eq) in
        let here : (e.0 == k) ≡ true = grind (arith, nat_tests, eq) in
        rw (ge, eq, here) (ap (λ (j : ℕ). (j, v) ∷ es) same)
    | inr ne ↦
        let there : (e.0 == k) ≡ false = grind (arith, nat_tests, ne) in
        rw (ge, ne, there, insert_is_put es k v) refl
  ]
]

-- the last lines, with one in front
pub last_lines : (ls : List Line) (i : ℕ) (d : Line) → i < length ls → drop (length ls - (i + 1)) ls ≡ get_or ls (length ls - 1 - i) d ∷ drop (length ls - i) ls
last_lines ls i d below =
    let at : length ls - (i + 1) ≡ length ls - 1 - i = omega arith in
    let next : length ls - i ≡ suc (length ls - 1 - i) = omega arith in
    let within : length ls - 1 - i < length ls = omega arith in
    rw (at, next) (drop-cons ls (length ls - 1 - i) d within)
