-- Runs of cells, and what was given.
use Rattle.std.proofs.Common.{◌≡◌, ◌+◌, ◌<◌, ◌==◌, ◌&&◌, ℕ, suc, Bool, true, false, cond, List, [], ◌∷◌, ◌++◌, length, drop, refl, inl, inr, arith}
use Rattle.std.proofs.Math.Seq.{drop-cons}
use Rattle.std.proofs.lemmas.Bool.{cases_Bool}
use Rattle.std.proofs.lemmas.Bool.Decides.{nat_tests}
use Rattle.std.specs.Ordering.{is_eq}
use Rattle.std.specs.BTreeMap.{is_at}
use Rattle.std.specs.BTreeSet.{BTreeSet, contains}
use Rattle.std.proofs.Math.Bool.{and-false as and_false}
use Rattle.semantics_values.specs.declared.entry.KeyAt.{KeyAt}
use Rattle.semantics_values.specs.declared.entry.KeyAt.TheVariants.{At}
use Rattle.semantics_values.specs.declared.entry.Line.{Line}
use Rattle.semantics.specs.Entries.{is_key}
use Rattle.state_text.specs.Found.{pair_cmp}
use Rattle.state_text.specs.Meaning.{run_cells}
use Rattle.state_text.specs.Reading.{any_given, is_given}

-- whether a cell of a run is given: the first, or one behind it
pub any_at : (ls : List Line) (field first : ℕ) (bytes : List ℕ) (i : ℕ) → i < length bytes
    → any_given ls field (run_cells (first + i) (drop i bytes)) ≡ cond (is_given ls field (At (first + i))) true (any_given ls field (run_cells (first + (i + 1)) (drop (i + 1) bytes)))
any_at ls field first bytes i below =
    let e : i + 1 ≡ suc i = omega arith in
    let f : first + suc i ≡ suc (first + i) = omega arith in
    rw (e, f, drop-cons bytes i 0) refl

-- a test in front of another
pub or_swap : (a b : Bool) → cond a true b ≡ cond b true a
or_swap true true = refl
or_swap true false = refl
or_swap false true = refl
or_swap false false = refl

-- whether a cell is given by one line more
pub given_more : (ls : List Line) (l : Line) (field : ℕ) (key : KeyAt) → is_given (ls ++ l ∷ []) field key ≡ cond (is_given ls field key) true (l.field == field && is_key l.key key)
given_more [] l field key = or_swap (l.field == field && is_key l.key key) false
given_more (x ∷ ls) l field key = elim (cases_Bool (x.field == field && is_key x.key key)) [
  | inl e ↦ rw e refl
  | inr e ↦ rw e (given_more ls l field key)
]

is_at_pair : (f k g j : ℕ) → is_eq (pair_cmp (f, k) (g, j)) ≡ (f == g && k == j)
is_at_pair f k g j = grind (arith, nat_tests)

-- the keys with that of one line more
pub indexed_at : (old new : BTreeSet (ℕ × ℕ)) (ls : List Line) (l : Line) (k : ℕ) → l.key ≡ At k
    → ((q : ℕ × ℕ) → contains pair_cmp new q ≡ cond (is_at (pair_cmp (l.field, k)) q) true (contains pair_cmp old q))
    → ((f j : ℕ) → contains pair_cmp old (f, j) ≡ is_given ls f (At j))
    → (f j : ℕ) → contains pair_cmp new (f, j) ≡ is_given (ls ++ l ∷ []) f (At j)
indexed_at old new ls l k is updates indexed f j =
    rw (updates (f, j), indexed f j, given_more ls l f (At j), is, is_at_pair l.field k f j) (or_swap (l.field == f && k == j) (is_given ls f (At j)))

-- a line of no key
pub indexed_other : (keys : BTreeSet (ℕ × ℕ)) (ls : List Line) (l : Line) → ((j : ℕ) → is_key l.key (At j) ≡ false)
    → ((f j : ℕ) → contains pair_cmp keys (f, j) ≡ is_given ls f (At j))
    → (f j : ℕ) → contains pair_cmp keys (f, j) ≡ is_given (ls ++ l ∷ []) f (At j)
indexed_other keys ls l none indexed f j =
    rw (indexed f j, given_more ls l f (At j), none j, and_false (l.field == f)) (or_swap false (is_given ls f (At j)))
