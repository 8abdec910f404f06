-- Keys of maps, the words of cells, and the values of fields, one by one.
use Rattle.std.proofs.Common.{◌≡◌, ℕ, suc, ◌+◌, ◌-◌, ◌<◌, ◌≤◌, Bool, true, List, [], ◌∷◌, ◌++◌, false, length, map, drop, min, length-drop, get_or, Option, Some, None, refl, sym, ap, ap₂, ◌∙◌, arith, cond, append_assoc}
use Rattle.std.specs.Prelude.{◌==◌, ◌&&◌, nat_le}
use Rattle.std.specs.List.{range_with_len}
use Rattle.std.proofs.lemmas.Bool.{le-leb}
use Rattle.std.proofs.lemmas.List.{map-append, map-id, length-map, drop_more as drop_at}
use Rattle.std.proofs.lemmas.List.FromFn.{length-range_with_len, map-range_with_len_more}
use Rattle.semantics_values.specs.declared.entry.KeyAt.{KeyAt}
use Rattle.semantics_values.specs.declared.entry.KeyAt.TheVariants.{At}
use Rattle.domain_laws.specs.declared.field.Field.TheVariants as field
use Rattle.domain_laws.specs.declared.field.Field.{Field}
use Rattle.abstract_value_laws.specs.Abs.{Abs, Parts, part, parts_onto}
use Rattle.domain_affine_base.specs.declared.word.Word.{Word}
use Rattle.domain_affine_base.specs.declared.word.Word.TheVariants.{Any}
use Rattle.abstract_value.proofs.Merging.{parts_onto_more}
use Rattle.domain_affine_laws.specs.Opened.{is_cell, listed_cell, opened_cells, opened_value, opened_values, tracked_word}
use Rattle.abstract_map_laws.specs.declared.cell.AbstractCell.{AbstractCell}
use Rattle.domain_affine_laws.specs.Tracked as calls

-- ---- the keys of a map
pub range_split : (i n : ℕ) → i < n → range_with_len i (n - i) ≡ i ∷ range_with_len (i + 1) (n - (i + 1))
range_split i n lt = ap (range_with_len i) count
  where
    count : n - i ≡ suc (n - (i + 1))
    count = omega (arith, lt)

pub range_more : (n : ℕ) → range_with_len 0 (n + 1) ≡ range_with_len 0 n ++ n ∷ []
range_more n = simp map-id at (map-range_with_len_more (λ (x : ℕ). x) 0 n n same)
  where
    same : 0 + n ≡ n
    same = omega arith

pub keys_more : (m k : ℕ) (start cells cells' : List (ℕ × KeyAt)) → cells' ≡ cells ++ (m, At k) ∷ [] → cells ≡ start ++ map (λ key. (m, key)) (map (λ j. At j) (range_with_len 0 k))
    → cells' ≡ start ++ map (λ key. (m, key)) (map (λ j. At j) (range_with_len 0 (k + 1)))
keys_more m k start cells cells' push h = rw (push, h, range_more, map-append, map-append) (append_assoc start _ _)

pub count_is : (m keys width default : ℕ) → width ≡ 32 → keys ≤ 64 → keys ≡ length (calls.field_cells (field.Map m keys width default))
count_is m keys width default e le = sorted (width == 32 && nat_le keys 64) tests
  where
    tests : (width == 32 && nat_le keys 64) ≡ true
    tests = rw e (le-leb keys 64 le)

    sorted : (b : Bool) → b ≡ true → keys ≡ length (cond b (map (λ j. At j) (range_with_len 0 keys)) [])
    sorted false h = cc
    sorted true h = rw (length-map, length-range_with_len) refl

-- ---- the word of a cell
module _ (cells : List (ℕ × KeyAt)) (words : List Word) (n : ℕ) (key : KeyAt) (i : ℕ) where
  pub word_later : (d : ℕ × KeyAt) → i < length cells → i < length words → tracked_word cells words n key ≡ tracked_word (drop i cells) (drop i words) n key
      → is_cell (get_or cells i d) n key ≡ false → tracked_word cells words n key ≡ tracked_word (drop (i + 1) cells) (drop (i + 1) words) n key
  word_later d lc lx h e =
      h ∙ ap₂ (λ cs xs. tracked_word cs xs n key) (drop_at cells i d lc) (drop_at words i Any lx)
      ∙ ap (λ b. cond b (Some (get_or words i Any)) (tracked_word (drop (i + 1) cells) (drop (i + 1) words) n key)) e

  pub no_word : min (length cells) (length words) ≤ i → tracked_word (drop i cells) (drop i words) n key ≡ None
  no_word past = ends (drop i cells) (drop i words) (simp length-drop (omega (arith, past)))
    where
      ends : (cs : List (ℕ × KeyAt)) (xs : List Word) → min (length cs) (length xs) ≡ 0 → tracked_word cs xs n key ≡ None
      ends [] xs h = refl
      ends (c ∷ cs) [] h = refl
      ends (c ∷ cs) (x ∷ xs) h = absurd (omega (arith, h))

-- ---- the cells of a map
module _ (cells : List (ℕ × KeyAt)) (words : List Word) (n k keys : ℕ) (lt : k < keys) (out : List (ℕ × AbstractCell Word (Unit {0}))) (whole : List (ℕ × AbstractCell Word (Unit {0})))
    (h : out ++ opened_cells cells words n (map (λ j. At j) (range_with_len k (keys - k))) ≡ whole) where
  abbrev left : List (ℕ × AbstractCell Word (Unit {0}))
  left = opened_cells cells words n (map (λ j. At j) (range_with_len (k + 1) (keys - (k + 1))))

  one_listed : (o : Option Word) → listed_cell (At k) o [] ++ left ≡ listed_cell (At k) o left
  one_listed None = refl
  one_listed (Some x) = refl

  pub key_more : (out' : List (ℕ × AbstractCell Word (Unit {0}))) → out' ≡ out ++ listed_cell (At k) (tracked_word cells words n (At k)) [] → out' ++ left ≡ whole
  key_more out' push =
      ap (λ l. l ++ left) push ∙ append_assoc out (listed_cell (At k) (tracked_word cells words n (At k)) []) left
      ∙ ap (λ l. out ++ l) (one_listed (tracked_word cells words n (At k)))
      ∙ ap (λ ks. out ++ opened_cells cells words n (map (λ j. At j) ks)) (sym (range_split k keys lt)) ∙ h

-- ---- the values of fields
module _ (cells : List (ℕ × KeyAt)) (words : List Word) (fields : List Field) (i : ℕ) (d : Field) (lt : i < length fields) where
  next : (m : ℕ) → suc m ≡ m + 1
  next m = omega arith

  pub values_here : opened_values cells words (i + 1) (drop i fields) ≡ part (opened_value cells words (i + 1) (get_or fields i d)) (opened_values cells words (i + 1 + 1) (drop (i + 1) fields))
  values_here =
      ap (opened_values cells words (i + 1)) (drop_at fields i d lt)
      ∙ ap (λ m. part (opened_value cells words (i + 1) (get_or fields i d)) (opened_values cells words m (drop (i + 1) fields))) (next (i + 1))

  pub values_more : (out out' : List (Abs Word (Unit {0}))) (z : Abs Word (Unit {0})) (whole : Parts Word (Unit {0})) → out' ≡ out ++ z ∷ [] → z ≡ opened_value cells words (i + 1) (get_or fields i d)
      → parts_onto out (opened_values cells words (i + 1) (drop i fields)) ≡ whole → parts_onto out' (opened_values cells words (i + 1 + 1) (drop (i + 1) fields)) ≡ whole
  values_more out out' z whole push e h =
      ap (λ l. parts_onto l (opened_values cells words (i + 1 + 1) (drop (i + 1) fields))) push
      ∙ parts_onto_more out z (opened_values cells words (i + 1 + 1) (drop (i + 1) fields))
      ∙ ap (λ v. parts_onto out (part v (opened_values cells words (i + 1 + 1) (drop (i + 1) fields)))) e
      ∙ ap (λ xs. parts_onto out xs) (sym values_here)
      ∙ h
